-- Texts that lack a byte.
use Rattle.std.proofs.Common.{◌≡◌, ℕ, Bool, true, false, ◌==◌, ◌||◌, [], ◌∷◌, ◌++◌, ap, refl, ◌∙◌}
use Rattle.std.specs.List.{list_all, list_any, onto_first}
use Rattle.std.proofs.lemmas.Bool.{and_parts, or_from, or_parts}
use Rattle.std.proofs.lemmas.Bool.Decides.{Decides-eqb}
use Rattle.std.proofs.lemmas.List.Folds.{list_any-append}
use Rattle.ilk_lines.specs.Lines.{Bytes, parts_at}
use Rattle.ilk_lines.specs.Written.{LacksByte, join_word_and_rest}

lacks_more : (test : ℕ → Bool) (b : Bool) (c d : ℕ) (rest : Bool) → (d == c) ≡ b → test c ≡ false → test d ≡ true → rest ≡ false → (b || rest) ≡ false
lacks_more test true c d rest same other passes lacks = let equal : d ≡ c = (Decides-eqb d c).0 same in let wrong : test d ≡ false = ap test equal ∙ other in cc
lacks_more test false c d rest same other passes lacks = lacks

pub lacks_failing : (test : ℕ → Bool) (c : ℕ) (text : Bytes) → test c ≡ false → list_all test text ≡ true → LacksByte c text
lacks_failing test c [] other passes = refl
lacks_failing test c (d ∷ text) other passes =
    let parts = and_parts (test d) (list_all test text) passes in
    lacks_more test (d == c) c d (list_any (λ e. e == c) text) refl other parts.0 (lacks_failing test c text other parts.1)

pub lacks_append : (c : ℕ) (xs ys : Bytes) → LacksByte c xs → LacksByte c ys → LacksByte c (xs ++ ys)
lacks_append c xs ys first second = list_any-append (λ b. b == c) xs ys ∙ or_from _ _ first second

pub lacks_spaced : (word rest : Bytes) → LacksByte 10 word → LacksByte 10 rest → LacksByte 10 (join_word_and_rest word rest)
lacks_spaced word rest first second = lacks_append 10 word (32 ∷ rest) first second

pub part_alone : (c : ℕ) (text : Bytes) → LacksByte c text → parts_at c text ≡ text ∷ []
part_alone c [] lacks = refl
part_alone c (x ∷ text) lacks =
    let parts = or_parts (x == c) (list_any (λ b. b == c) text) lacks in
    rw (parts.0) (ap (onto_first x) (part_alone c text parts.1))

same_byte : (c : ℕ) → (c == c) ≡ true
same_byte c = (Decides-eqb c c).1 refl

pub part_first : (c : ℕ) (line rest : Bytes) → LacksByte c line → parts_at c (line ++ c ∷ rest) ≡ line ∷ parts_at c rest
part_first c [] rest lacks = rw (same_byte c) refl
part_first c (x ∷ line) rest lacks =
    let parts = or_parts (x == c) (list_any (λ b. b == c) line) lacks in
    rw (parts.0) (ap (onto_first x) (part_first c line rest parts.1))
