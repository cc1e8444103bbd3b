-- Bytes moved from a text into the front of a buffer, and those left.
use Rattle.std.proofs.Common.{◌≡◌, ℕ, ◌+◌, ◌-◌, ◌<◌, ◌≤◌, [], ◌++◌, length, take, drop, min, sym, ap, ◌∙◌, append_assoc, arith, length-append, length-drop, take-add, take-append-drop}
use Rattle.std.proofs.lemmas.List.{drop_all, drop_at, length-take-le, take-append-le, take_at}
use borrow.Rule.Slice.PartMut.{put_mid, post_of, take_put}
use Rattle.ilk_lines.specs.Lines.{Bytes}

pub token_taken : (whole into piece token new rest : Bytes) (count k : ℕ) → count ≤ length into →
    length piece ≡ length into - count → whole ≡ take count into ++ (token ++ rest) →
    k ≡ min (length piece) (length token) → take k piece ≡ take k token → new ≡ drop k token
    → (whole ≡ take (count + k) (put_mid count (length into - count) into piece) ++ (new ++ rest)) ×
    (count + k ≤ length (put_mid count (length into - count) into piece)) ×
    (count + k < length (put_mid count (length into - count) into piece) → new ≡ [])
token_taken whole into piece token new rest count k within long is few same left =
    let next : Bytes = put_mid count (length into - count) into piece in
    let front : length (take count into) ≡ count = length-take-le count into within in
    let size : length next ≡ count + (length piece + length (post_of count (length into - count) into)) =
    length-append (take count into) (piece ++ post_of count (length into - count) into)
    ∙ (λ i. front i + length-append piece (post_of count (length into - count) into) i) in
    let below : k ≤ length piece = omega (arith, few) in
    let rest_of : length (post_of count (length into - count) into) ≡ 0 = length-drop (length into - count) (drop count into) ∙ omega (arith, length-drop count into) in
    let split : take (count + k) next ≡ take count into ++ take k token = take-add count k next
    ∙ (λ i. take_put count (length into - count) into piece within i ++ take k (drop_at (take count into) (piece ++ post_of count (length into - count) into) count front i))
    ∙ ap (λ (t : Bytes). take count into ++ t) (take-append-le k piece (post_of count (length into - count) into) below ∙ same) in (
      is
          ∙ ap (λ (t : Bytes). take count into ++ (t ++ rest)) (sym (take-append-drop k token))
          ∙ ap (λ (t : Bytes). take count into ++ t) (append_assoc (take k token) (drop k token) rest)
          ∙ sym (append_assoc (take count into) (take k token) (drop k token ++ rest))
          ∙ (λ i. sym split i ++ (sym left i ++ rest)),
      omega (arith, size, below),
      λ more. left ∙ drop_all k token (omega (arith, more, size, rest_of, few)),
    )

pub taken-bytes : (whole left into : Bytes) (n : ℕ) → n ≤ length into → whole ≡ take n into ++ left → take n into ≡ take n whole
taken-bytes whole left into n within so = sym (ap (take n) so ∙ take_at (take n into) left n (length-take-le n into within))

pub taken-rest : (whole left into : Bytes) (n : ℕ) → n ≤ length into → whole ≡ take n into ++ left → left ≡ drop n whole
taken-rest whole left into n within so = sym (ap (drop n) so ∙ drop_at (take n into) left n (length-take-le n into within))
