-- The values of the first lines, up to the first line without one.
use Rattle.std.proofs.Common.{◌≡◌, ℕ, ◌+◌, ◌≤◌, All, Option, Some, None, List, [], ◌∷◌, ◌++◌, length, drop, map, refl, sym, ap, ◌∙◌, append_assoc, arith, suc, zero}
use Rattle.std.proofs.lemmas.List.{drop-drop, length-append, length-drop}
use Rattle.std.proofs.lemmas.List.Elements.{All-nil, All-cons}
use Rattle.ilk_lines.specs.Lines.{Bytes}
use Rattle.ilk_lines.specs.LinesLeft.{TookFirstLines, RemainingLinesAndTail}
use Rattle.ilk_lines.specs.Reading.{leading_values, prepend_or_empty}

pub taken_one : {A : Type 0} (whole taken left rest new : List A) (x : A) → whole ≡ taken ++ left → left ≡ x ∷ rest → new ≡ taken ++ x ∷ [] → whole ≡ new ++ rest
taken_one whole taken left rest new x e f g = e ∙ ap (λ xs. taken ++ xs) f ∙ sym (append_assoc taken (x ∷ []) rest) ∙ ap (λ xs. xs ++ rest) (sym g)

onto_all : {A : Type 0} (value : Bytes → Option A) (P : A → Type 0) (line : Bytes) (o : Option A) → value line ≡ o → (rest : List A) → ((l : Bytes) (v : A) → value l ≡ Some v → P v) → All P rest → All P (prepend_or_empty o rest)
onto_all value P line None this rest holds later = All-nil P
onto_all value P line (Some v) this rest holds later = All-cons P v rest (holds line v this) later

pub leading_all : {A : Type 0} (value : Bytes → Option A) (P : A → Type 0) → ((line : Bytes) (v : A) → value line ≡ Some v → P v) → (lines : List Bytes) → All P (leading_values value lines)
leading_all value P holds [] = All-nil P
leading_all value P holds (line ∷ lines) = onto_all value P line (value line) refl (leading_values value lines) holds (leading_all value P holds lines)

-- If each value's line is the written one, so are the lines.
pub leading_lines : {A : Type 0} (value : Bytes → Option A) (line_of : A → Bytes) →
    ((line : Bytes) (v : A) → value line ≡ Some v → line ≡ line_of v) → (lines : List Bytes) →
    lines ≡ map line_of (leading_values value lines) ++ drop (length (leading_values value lines)) lines
leading_lines value line_of holds [] = refl
leading_lines {A = A} value line_of holds (line ∷ lines) = by_value (value line) refl (leading_lines value line_of holds lines)
  where
    by_value : (o : Option A) → value line ≡ o → lines ≡ map line_of (leading_values value lines) ++ drop (length (leading_values value lines)) lines
        → line ∷ lines ≡ map line_of (prepend_or_empty o (leading_values value lines)) ++ drop (length (prepend_or_empty o (leading_values value lines))) (line ∷ lines)
    by_value None this rest = refl
    by_value (Some v) this rest = ap (λ l. l ∷ lines) (holds line v this) ∙ ap (λ ls. line_of v ∷ ls) rest

pub leading_back :
    {A : Type 0} (value : Bytes → Option A) (line_of : A → Bytes) (values : List A) (last : Bytes)
    (rest : List Bytes) →
    All (λ v. value (line_of v) ≡ Some v) values → value last ≡ None →
    leading_values value (map line_of values ++ last ∷ rest) ≡ values
leading_back value line_of [] last rest told none = ap (λ o. prepend_or_empty o (leading_values value rest)) none
leading_back value line_of (v ∷ values) last rest told none =
    ap (λ o. prepend_or_empty o (leading_values value (map line_of values ++ last ∷ rest))) (told zero v (omega arith))
    ∙ ap (λ vs. v ∷ vs) (leading_back value line_of values last rest (λ k d within. told (suc k) d (omega arith)) none)

pub takes_one : (n : ℕ) (old left rest : RemainingLinesAndTail) (line : Bytes) → TookFirstLines n old left → left.lines ≡ line ∷ rest.lines → rest.number ≡ left.number + 1 → rest.after ≡ left.after → TookFirstLines (n + 1) old rest
takes_one n old left rest line taken e f g =
    let long : length (line ∷ rest.lines) ≡ length (drop n old.lines) = ap length (sym e ∙ taken.lines) in
    record {
      enough = omega (arith, long, length-drop n old.lines);
      number = let h = taken.number in omega arith;
      lines = ap (drop 1) (sym e ∙ taken.lines) ∙ drop-drop 1 n old.lines;
      after = g ∙ taken.after;
    }

pub enough_values : {A : Type 0} (whole taken left : List A) → whole ≡ taken ++ left → length taken ≤ length whole
enough_values whole taken left e = omega (arith, ap length e, length-append taken left)
