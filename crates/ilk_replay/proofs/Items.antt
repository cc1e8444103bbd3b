-- The numbers of the items that have a line in a state.
use Rattle.std.proofs.Common.{◌≡◌, ℕ, ◌+◌, ◌≤◌, Bool, true, false, Option, None, List, [], ◌∷◌, ◌++◌, filter, length, slice_get, Result, subst, sym, ap, ◌∙◌, append-nil}
use Rattle.std.specs.List.{range_with_len}
use Rattle.std.proofs.lemmas.List.Elements.{filter-append}
use Rattle.std.proofs.lemmas.Option.{slice_get_past}
use Rattle.ilk_base.proofs.Ranges.{filter_one, range-more}
use Rattle.ilk_base.specs.Option.{◌>>=◌}
use Rattle.ilk_lines.specs.Answers.{PrefixMatchesUnlessOutOfMemory}
use Rattle.ilk_lines.specs.Lines.{Bytes}
use Rattle.ilk_lines.specs.LinesLeft.{RemainingLinesAndTail}
use Rattle.ilk_lines.specs.Reading.{item_values_from_lines}
use Rattle.ilk_lines.specs.declared.fault.LineFault.{LineFault}

pub numbered_more : (numbers new : List ℕ) (n : ℕ) → numbers ≡ range_with_len 0 n → new ≡ numbers ++ n ∷ [] → new ≡ range_with_len 0 (n + 1)
numbered_more numbers new n e f = f ∙ ap (λ ns. ns ++ n ∷ []) e ∙ sym (range-more n)

listed : (test : ℕ → Bool) (numbers : List ℕ) (n : ℕ) → numbers ≡ filter test (range_with_len 0 n) → filter test (range_with_len 0 (n + 1)) ≡ numbers ++ filter test (n ∷ [])
listed test numbers n e = ap (filter test) (range-more n) ∙ filter-append test (range_with_len 0 n) (n ∷ []) ∙ ap (λ ns. ns ++ filter test (n ∷ [])) (sym e)

pub listed_more : (test : ℕ → Bool) (numbers new : List ℕ) (n : ℕ) → numbers ≡ filter test (range_with_len 0 n) → test n ≡ true → new ≡ numbers ++ n ∷ [] → new ≡ filter test (range_with_len 0 (n + 1))
listed_more test numbers new n e passes f = f ∙ ap (λ ns. numbers ++ ns) (sym (filter_one test n true passes)) ∙ sym (listed test numbers n e)

pub listed_same : (test : ℕ → Bool) (numbers : List ℕ) (n : ℕ) → numbers ≡ filter test (range_with_len 0 n) → test n ≡ false → numbers ≡ filter test (range_with_len 0 (n + 1))
listed_same test numbers n e fails = sym (append-nil numbers) ∙ ap (λ ns. numbers ++ ns) (sym (filter_one test n false fails)) ∙ sym (listed test numbers n e)

pub unnamed : {A : Type 0} (names : List Bytes) (x : ℕ) (told : Bytes → Option A) → length names ≤ x → None ≡ (slice_get names x >>= told)
unnamed {A = A} names x told past = sym (ap (λ (o : Option Bytes). o >>= told) (slice_get_past names x past))

pub same_items :
    {A : Type 0} (value : ℕ → Bytes → Option A) (items others : List ℕ) (n : ℕ) (lines : List Bytes)
    (left : RemainingLinesAndTail) (answer : Result (List A) LineFault) → items ≡ others →
    PrefixMatchesUnlessOutOfMemory (item_values_from_lines value items n lines) left answer →
    PrefixMatchesUnlessOutOfMemory (item_values_from_lines value others n lines) left answer
same_items value items others n lines left answer same told = subst (λ (xs : List ℕ). PrefixMatchesUnlessOutOfMemory (item_values_from_lines value xs n lines) left answer) same told
