-- Adding bytes to the unfinished line of a text, or to its end.
use Rattle.std.proofs.Common.{◌≡◌, ℕ, zero, suc, ◌+◌, ◌-◌, ◌<◌, ◌≤◌, Bool, true, false, ◌==◌, All, List, [], ◌∷◌, ◌++◌, cond, drop, get_or, length, take, refl, sym, ap, ◌∙◌, subst, arith, append_assoc, Some, None}
use Rattle.std.specs.Prelude.{position}
use Rattle.std.specs.List.{onto_first}
use Rattle.std.proofs.lemmas.Bool.{eqb-true, or_from}
use Rattle.std.proofs.lemmas.List.{append-nil, drop_more, take-append-drop}
use Rattle.std.proofs.lemmas.List.Elements.{All-nil, All-cons, All-append}
use Rattle.std.proofs.lemmas.List.Quantifiers.{position-Some}
use Rattle.ilk_lines.specs.Lines.{unterminated_tail, Bytes, last_part_or_empty, lines_of, parts_at, parts_but_last}
use Rattle.ilk_lines.specs.Written.{has_byte, LacksByte, text_of}
use Rattle.ilk_lines.proofs.Cuts.{parts-none, parts-some, parts_follow}
use Rattle.ilk_lines.proofs.Lacking.{lacks_append}
use Rattle.ilk_lines.proofs.TextLines.{lines_then, text-lines, text_of-append}

parts-lack : (c : ℕ) (text : Bytes) → All (LacksByte c) (parts_at c text)
parts-lack c [] = All-cons (LacksByte c) [] [] refl (All-nil (LacksByte c))
parts-lack c (x ∷ text) = by_byte (x == c) refl (parts_follow c text) (parts-lack c text)
  where
    by_byte : (b : Bool) → (x == c) ≡ b → ((part : Bytes) × (parts : List Bytes) × (parts_at c text ≡ part ∷ parts)) → All (LacksByte c) (parts_at c text) → All (LacksByte c) (cond b ([] ∷ parts_at c text) (onto_first x (parts_at c text)))
    by_byte true e f rest = All-cons (LacksByte c) [] (parts_at c text) refl rest
    by_byte false e (part, parts, same) rest =
        let P : List Bytes → Type 0 = λ ps. All (LacksByte c) ps in
        let Q : List Bytes → Type 0 = λ ps. All (LacksByte c) (onto_first x ps) in
        let all = subst P same rest in
        subst Q (sym same) (All-cons (LacksByte c) (x ∷ part) parts (or_from (x == c) (has_byte c part) e (all zero part (omega arith))) (λ k d within. all (suc k) d (omega arith)))

but-last-lack : (c : ℕ) (parts : List Bytes) → All (LacksByte c) parts → All (LacksByte c) (parts_but_last parts)
but-last-lack c [] all = All-nil (LacksByte c)
but-last-lack c (part ∷ []) all = All-nil (LacksByte c)
but-last-lack c (part ∷ (next ∷ more)) all = All-cons (LacksByte c) part (parts_but_last (next ∷ more)) (all zero part (omega arith)) (but-last-lack c (next ∷ more) (λ k d within. all (suc k) d (omega arith)))

last-lacks : (c : ℕ) (parts : List Bytes) → All (LacksByte c) parts → LacksByte c (last_part_or_empty parts)
last-lacks c [] all = refl
last-lacks c (part ∷ []) all = all zero part (omega arith)
last-lacks c (part ∷ (next ∷ more)) all = last-lacks c (next ∷ more) (λ k d within. all (suc k) d (omega arith))

pub bytes-added : (bytes more : Bytes) → LacksByte 10 more → (lines_of (bytes ++ more) ≡ lines_of bytes) × (unterminated_tail (bytes ++ more) ≡ unterminated_tail bytes ++ more)
bytes-added bytes more lacks =
    let whole : bytes ++ more ≡ text_of (lines_of bytes) ++ (unterminated_tail bytes ++ more) = ap (λ (t : Bytes). t ++ more) (text-lines bytes) ∙ append_assoc (text_of (lines_of bytes)) (unterminated_tail bytes) more in
    let back = lines_then (lines_of bytes) (unterminated_tail bytes ++ more) (but-last-lack 10 (parts_at 10 bytes) (parts-lack 10 bytes))
    (lacks_append 10 (unterminated_tail bytes) more (last-lacks 10 (parts_at 10 bytes) (parts-lack 10 bytes)) lacks) in
    (ap lines_of whole ∙ back.0, ap unterminated_tail whole ∙ back.1)

pub line-added : (bytes more : Bytes) → LacksByte 10 more → (lines_of (bytes ++ (more ++ 10 ∷ [])) ≡ lines_of bytes ++ (unterminated_tail bytes ++ more) ∷ []) × (unterminated_tail (bytes ++ (more ++ 10 ∷ [])) ≡ [])
line-added bytes more lacks =
    let ls = lines_of bytes in
    let line = unterminated_tail bytes ++ more in
    let text : text_of (ls ++ line ∷ []) ≡ text_of ls ++ (line ++ 10 ∷ []) = text_of-append ls (line ∷ []) ∙ ap (λ (t : Bytes). text_of ls ++ t) (append-nil (line ++ 10 ∷ [])) in
    let whole : bytes ++ (more ++ 10 ∷ []) ≡ text_of (ls ++ line ∷ []) ++ [] = ap (λ (t : Bytes). t ++ (more ++ 10 ∷ [])) (text-lines bytes)
    ∙ append_assoc (text_of ls) (unterminated_tail bytes) (more ++ 10 ∷ [])
    ∙ ap (λ (t : Bytes). text_of ls ++ t) (sym (append_assoc (unterminated_tail bytes) more (10 ∷ [])))
    ∙ sym text
    ∙ sym (append-nil (text_of (ls ++ line ∷ []))) in
    let plain = All-append (LacksByte 10) ls (line ∷ [])
    (but-last-lack 10 (parts_at 10 bytes) (parts-lack 10 bytes))
    (All-cons (LacksByte 10) line []
    (lacks_append 10 (unterminated_tail bytes) more
    (last-lacks 10 (parts_at 10 bytes) (parts-lack 10 bytes)) lacks)
    (All-nil (LacksByte 10))) in
    let back = lines_then (ls ++ line ∷ []) [] plain refl in
    (ap lines_of whole ∙ back.0, ap unterminated_tail whole ∙ back.1)

pub lines-more : (bytes more : Bytes) → (others : List Bytes) × (lines_of (bytes ++ more) ≡ lines_of bytes ++ others)
lines-more bytes more =
    let ls = lines_of bytes in
    let rest = unterminated_tail bytes ++ more in
    let whole : bytes ++ more ≡ text_of (ls ++ lines_of rest) ++ unterminated_tail rest = ap (λ (t : Bytes). t ++ more) (text-lines bytes)
    ∙ append_assoc (text_of ls) (unterminated_tail bytes) more
    ∙ ap (λ (t : Bytes). text_of ls ++ t) (text-lines rest)
    ∙ sym (append_assoc (text_of ls) (text_of (lines_of rest)) (unterminated_tail rest))
    ∙ ap (λ (t : Bytes). t ++ unterminated_tail rest) (sym (text_of-append ls (lines_of rest))) in
    let plain = All-append (LacksByte 10) ls (lines_of rest) (but-last-lack 10 (parts_at 10 bytes) (parts-lack 10 bytes)) (but-last-lack 10 (parts_at 10 rest) (parts-lack 10 rest)) in
    let back = lines_then (ls ++ lines_of rest) (unterminated_tail rest) plain (last-lacks 10 (parts_at 10 rest) (parts-lack 10 rest)) in
    (lines_of rest, ap lines_of whole ∙ back.0)

pub feed_lacks : (text : Bytes) (i : ℕ) → position (λ b. b == 10) text ≡ Some i → LacksByte 10 (take i text)
feed_lacks text i e =
    let P : List Bytes → Type 0 = λ ps. All (LacksByte 10) ps in
    (subst P (parts-some 10 text i e) (parts-lack 10 text)) zero (take i text) (omega arith)

pub no-feed_lacks : (text : Bytes) → position (λ b. b == 10) text ≡ None → LacksByte 10 text
no-feed_lacks text e =
    let P : List Bytes → Type 0 = λ ps. All (LacksByte 10) ps in
    (subst P (parts-none 10 text e) (parts-lack 10 text)) zero text (omega arith)

pub feed_cut : (text : Bytes) (i : ℕ) → position (λ b. b == 10) text ≡ Some i → (i < length text) × (text ≡ (take i text ++ 10 ∷ []) ++ drop (i + 1) text)
feed_cut text i e =
    let p = position-Some (λ b. b == 10) text i 0 e in
    let byte : get_or text i 0 ≡ 10 = eqb-true (get_or text i 0) 10 p.1 in
    (p.0, sym (take-append-drop i text) ∙ ap (λ (t : Bytes). take i text ++ t) (drop_more text i 0 p.0 ∙ ap (λ x. x ∷ drop (i + 1) text) byte) ∙ sym (append_assoc (take i text) (10 ∷ []) (drop (i + 1) text)))

parts-few : (c : ℕ) (text : Bytes) → length (parts_at c text) ≤ length text + 1
parts-few c [] = omega arith
parts-few c (x ∷ text) = by_byte (x == c) (parts_follow c text) (parts-few c text)
  where
    by_byte : (b : Bool) → ((part : Bytes) × (parts : List Bytes) × (parts_at c text ≡ part ∷ parts)) → length (parts_at c text) ≤ length text + 1 → length (cond b ([] ∷ parts_at c text) (onto_first x (parts_at c text))) ≤ length (x ∷ text) + 1
    by_byte true f rest = omega (arith, rest)
    by_byte false (part, parts, same) rest =
        let e : length (onto_first x (parts_at c text)) ≡ length (parts_at c text) = ap (λ (ps : List Bytes). length (onto_first x ps)) same ∙ ap (λ (ps : List Bytes). length ps) (sym same) in
        omega (arith, rest, e)

but-last-few : (parts : List Bytes) → length (parts_but_last parts) ≤ length parts - 1
but-last-few [] = omega arith
but-last-few (part ∷ []) = omega arith
but-last-few (part ∷ (next ∷ more)) = (let r = but-last-few (next ∷ more) in omega (arith, r))

pub lines-few : (bytes : Bytes) → length (lines_of bytes) ≤ length bytes
lines-few bytes = (let a = but-last-few (parts_at 10 bytes) in let b = parts-few 10 bytes in omega (arith, a, b))
