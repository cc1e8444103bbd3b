-- A text is its lines, and written lines are read back.
use Rattle.std.proofs.Common.{◌≡◌, Bool, true, false, ◌==◌, All, List, [], ◌∷◌, ◌++◌, cond, refl, sym, ap, ◌∙◌, arith, append_assoc, append-nil, suc, zero}
use Rattle.std.specs.List.{onto_first}
use Rattle.std.proofs.lemmas.Bool.Decides.{Decides-eqb}
use Rattle.std.proofs.lemmas.List.Concat.{flat_map-append}
use Rattle.ilk_lines.specs.Lines.{Bytes, unterminated_tail, last_part_or_empty, lines_of, parts_at, parts_but_last}
use Rattle.ilk_lines.specs.Written.{LacksByte, text_of}
use Rattle.ilk_lines.proofs.Cuts.{lines_cut, parts_follow}
use Rattle.ilk_lines.proofs.Lacking.{part_alone, part_first}

pub lines_then : (ls : List Bytes) (after : Bytes) → All (LacksByte 10) ls → LacksByte 10 after → (lines_of (text_of ls ++ after) ≡ ls) × (unterminated_tail (text_of ls ++ after) ≡ after)
lines_then [] after plain rest = (ap parts_but_last (part_alone 10 after rest), ap last_part_or_empty (part_alone 10 after rest))
lines_then (line ∷ ls) after plain lacks =
    let rest : Bytes = text_of ls ++ after in
    let tail = lines_then ls after (λ k d within. plain (suc k) d (omega arith)) lacks in
    let text : text_of (line ∷ ls) ++ after ≡ line ++ 10 ∷ rest = append_assoc (line ++ 10 ∷ []) (text_of ls) after ∙ append_assoc line (10 ∷ []) rest in
    let cut = lines_cut (line ++ 10 ∷ rest) line rest (part_first 10 line rest (plain zero [] (omega arith))) in
    (ap lines_of text ∙ cut.0 ∙ ap (λ more. line ∷ more) tail.0, ap unterminated_tail text ∙ cut.1 ∙ tail.1)

pub lines_back : (ls : List Bytes) → All (LacksByte 10) ls → (lines_of (text_of ls) ≡ ls) × (unterminated_tail (text_of ls) ≡ [])
lines_back ls plain =
    let whole : text_of ls ++ [] ≡ text_of ls = append-nil (text_of ls) in
    let back = lines_then ls [] plain refl in
    (ap lines_of (sym whole) ∙ back.0, ap unterminated_tail (sym whole) ∙ back.1)

pub text-lines : (text : Bytes) → text ≡ text_of (lines_of text) ++ unterminated_tail text
text-lines [] = refl
text-lines (x ∷ text) = join (x == 10) refl (parts_follow 10 text) (text-lines text)
  where
    whole : List Bytes → Bytes
    whole parts = text_of (parts_but_last parts) ++ last_part_or_empty parts

    join : (b : Bool) → (x == 10) ≡ b → ((part : Bytes) × (parts : List Bytes) × (parts_at 10 text ≡ part ∷ parts)) → text ≡ whole (parts_at 10 text) → x ∷ text ≡ whole (cond b ([] ∷ parts_at 10 text) (onto_first x (parts_at 10 text)))
    join true same (part, parts, follows) rest = ap (λ y. y ∷ text) ((Decides-eqb x 10).0 same) ∙ ap (λ ys. 10 ∷ ys) (rest ∙ ap whole follows) ∙ sym (ap (λ ps. whole ([] ∷ ps)) follows)
    join false differs (part, [], follows) rest = ap (λ ys. x ∷ ys) (rest ∙ ap whole follows) ∙ sym (ap (λ ps. whole (onto_first x ps)) follows)
    join false differs (part, next ∷ parts, follows) rest = ap (λ ys. x ∷ ys) (rest ∙ ap whole follows) ∙ sym (ap (λ ps. whole (onto_first x ps)) follows)

pub text_of-append : (xs ys : List Bytes) → text_of (xs ++ ys) ≡ text_of xs ++ text_of ys
text_of-append xs ys = flat_map-append (λ (line : Bytes). line ++ 10 ∷ []) xs ys
