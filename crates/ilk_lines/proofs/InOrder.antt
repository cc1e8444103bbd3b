-- Lines read in order, one for each item.
use Rattle.std.proofs.Common.{◌≡◌, ℕ, ◌+◌, ◌<◌, false, ◌==◌, Option, Some, None, option_map, Result, Ok, Err, List, [], ◌∷◌, ◌++◌, length, drop, get_or, zip, refl, sym, ap, ◌∙◌, arith, append_assoc, if◌then◌else◌, append-nil}
use Rattle.std.proofs.lemmas.Bool.Decides.{nat_tests}
use Rattle.std.proofs.lemmas.Grind.{common_steps}
use Rattle.std.proofs.lemmas.List.{drop-drop, drop_more, length_push}
use Rattle.std.proofs.lemmas.Option.{same_Some}
use Rattle.ilk_lines.specs.Lines.{Bytes}
use Rattle.ilk_lines.specs.Reading.{ParsedPrefix, item_values_from_lines, leading_values, prepend_or_empty}

abbrev pub one_told : {A : Type 0} → (ℕ → Bytes → Option A) → ℕ → List Bytes → Option (A × List Bytes)
one_told value x [] = None
one_told value x (line ∷ more) = option_map (λ v. (v, more)) (value x line)

abbrev pub values_left : {A : Type 0} → (ℕ → Bytes → Option A) → List ℕ → List Bytes → List A
values_left value items lines = leading_values (λ pair. value pair.0 pair.1) (zip items lines)

-- Holds at one moment of reading, with these values taken, and these items and lines left.
pub record IsAt {A : Type 0} (value : ℕ → Bytes → Option A) (items : List ℕ) (n : ℕ) (lines : List Bytes) (taken : List A) (left : List ℕ) (number : ℕ) (rest : List Bytes) : Type 0 where
  pub values_are : values_left value items lines ≡ taken ++ values_left value left rest
  pub counts_are : length taken + length left ≡ length items
  pub lines_are : rest ≡ drop (length taken) lines
  pub number_is : number ≡ n + length taken

pub at_next :
    {A : Type 0} (value : ℕ → Bytes → Option A) (items : List ℕ) (n : ℕ) (lines : List Bytes)
    (taken new : List A) (x : ℕ) (left following : List ℕ) (number next : ℕ) (rest more : List Bytes)
    (v : A) →
    IsAt value items n lines taken left number rest → left ≡ x ∷ following →
    one_told value x rest ≡ Some (v, more) → new ≡ taken ++ v ∷ [] → next ≡ number + 1 →
    IsAt value items n lines new following next more
at_next value items n lines taken new x left following number next [] more v at e told f g = cc
at_next {A = A} value items n lines taken new x left following number next (line ∷ after) more v at e told f g = by_value (value x line) refl told
  where
    by_value : (o : Option A) → value x line ≡ o → option_map {U = A × List Bytes} (λ w. (w, after)) o ≡ Some (v, more) → IsAt value items n lines new following next more
    by_value None this that = cc
    by_value (Some w) this that =
        let pair : ◌≡◌ {A = A × List Bytes} (w, after) (v, more) = same_Some (w, after) (v, more) that in
        let same : w ≡ v = ap (λ q. q.0) pair in
        let rests : after ≡ more = ap (λ q. q.1) pair in
        let long : length new ≡ length taken + 1 = ap length f ∙ length_push taken v in
        record {
          values_are = at.values_are ∙ ap (λ xs. taken ++ values_left value xs (line ∷ after)) e ∙ ap (λ o. taken ++ prepend_or_empty o (values_left value following after)) this
              ∙ ap (λ u. taken ++ u ∷ values_left value following after) same ∙ ap (λ ls. taken ++ v ∷ values_left value following ls) rests
              ∙ sym (append_assoc taken (v ∷ []) (values_left value following more)) ∙ ap (λ xs. xs ++ values_left value following more) (sym f);
          counts_are = let c = at.counts_are in let d : length left ≡ length following + 1 = ap length e ∙ omega arith in omega arith;
          lines_are = sym rests ∙ ap (drop 1) at.lines_are ∙ drop-drop 1 (length taken) lines ∙ ap (λ k. drop k lines) (sym long);
          number_is = let c = at.number_is in omega arith;
        }

abbrev pub told_with : {A : Type 0} → List ℕ → ℕ → List Bytes → List A → Result (ParsedPrefix A) ℕ
told_with items n lines values = if length values == length items then Ok (record { values = values; number = n + length items; lines = drop (length items) lines }) else Err (n + length values)

nothing_left : {A : Type 0} (value : ℕ → Bytes → Option A) (x : ℕ) (following : List ℕ) (rest : List Bytes) → one_told value x rest ≡ None → values_left value (x ∷ following) rest ≡ []
nothing_left value x following [] none = refl
nothing_left {A = A} value x following (line ∷ after) none = by_value (value x line) none
  where
    by_value : (o : Option A) → option_map {U = A × List Bytes} (λ w. (w, after)) o ≡ None → prepend_or_empty o (values_left value following after) ≡ []
    by_value None that = refl
    by_value (Some w) that = cc

pub at_bad :
    {A : Type 0} (value : ℕ → Bytes → Option A) (items : List ℕ) (n : ℕ) (lines : List Bytes) (taken : List A)
    (x : ℕ) (left following : List ℕ) (number : ℕ) (rest : List Bytes) →
    IsAt value items n lines taken left number rest → left ≡ x ∷ following → one_told value x rest ≡ None →
    item_values_from_lines value items n lines ≡ Err number
at_bad value items n lines taken x left following number rest at e refused =
    let none : values_left value left rest ≡ [] = ap (λ xs. values_left value xs rest) e ∙ nothing_left value x following rest refused in
    let d : length left ≡ length following + 1 = ap length e ∙ omega arith in
    let values : values_left value items lines ≡ taken = at.values_are ∙ ap (λ vs. taken ++ vs) none ∙ append-nil taken in
    let c = at.counts_are in
    let fewer : (length taken == length items) ≡ false = grind (arith, nat_tests, common_steps) in
    ap (told_with items n lines) values ∙ rw fewer (ap Err (sym at.number_is))

pub item_more :
    {A : Type 0} (value : ℕ → Bytes → Option A) (items : List ℕ) (n : ℕ) (lines : List Bytes)
    (taken new : List A) (i number next : ℕ) (line : Bytes) (rest more : List Bytes) (v : A) →
    IsAt value items n lines taken (drop i items) number rest → i < length items → rest ≡ line ∷ more →
    Some v ≡ value (get_or items i 0) line → new ≡ taken ++ v ∷ [] → next ≡ number + 1 →
    IsAt value items n lines new (drop (i + 1) items) next more
item_more value items n lines taken new i number next line rest more v at below first told f g =
    at_next value items n lines taken new (get_or items i 0) (drop i items) (drop (i + 1) items) number next rest more v at (drop_more items i 0 below)
    (ap (one_told value (get_or items i 0)) first ∙ ap (option_map (λ w. (w, more))) (sym told)) f g

pub item_missing :
    {A : Type 0} (value : ℕ → Bytes → Option A) (items : List ℕ) (n : ℕ) (lines : List Bytes) (taken : List A)
    (i number : ℕ) (rest : List Bytes) →
    IsAt value items n lines taken (drop i items) number rest → i < length items → rest ≡ [] →
    item_values_from_lines value items n lines ≡ Err number
item_missing value items n lines taken i number rest at below none =
    at_bad value items n lines taken (get_or items i 0) (drop i items) (drop (i + 1) items) number rest at (drop_more items i 0 below) (ap (one_told value (get_or items i 0)) none)
