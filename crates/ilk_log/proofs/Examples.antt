-- Two steps refute the four clauses over two variables; each definition worked through.
use Rattle.std.proofs.Common.{◌≡◌, [], ◌∷◌, true, false, refl, Some, None}
use Rattle.std.specs.Prelude.{codes}
use Rattle.ilk_cnf.specs.Literal.{positive_lit, negative_lit}
use Rattle.ilk_cnf.specs.Formula.{Formula}
use Rattle.ilk_log.specs.declared.step.Step.{Step}
use Rattle.ilk_log.specs.Propagation.{after_hint}
use Rattle.ilk_log.specs.Derived.{is_derived, is_derived_log, is_refutation}
use Rattle.ilk_lines.specs.Words.{words_of}
use Rattle.ilk_log.specs.StepText.{step_text}
use Rattle.ilk_log.specs.StepReading.{step_from_words}
use Rattle.ilk_log.specs.Packed.{decoded_numbers, step_from_numbers}
use Rattle.ilk_log.proofs.Words.{step_exactly}

abbrev four : Formula
four = record { vars = 2; clauses = (positive_lit 1 ∷ (positive_lit 2 ∷ [])) ∷ ((positive_lit 1 ∷ (negative_lit 2 ∷ [])) ∷ ((negative_lit 1 ∷ (positive_lit 2 ∷ [])) ∷ ((negative_lit 1 ∷ (negative_lit 2 ∷ [])) ∷ []))) }

abbrev first : Step
first = record { clause = positive_lit 1 ∷ []; hints = 1 ∷ (2 ∷ []) }

abbrev last : Step
last = record { clause = []; hints = 5 ∷ (3 ∷ (4 ∷ [])) }

refuted : is_refutation four (first ∷ (last ∷ [])) ≡ true
refuted = refl

cut : is_derived_log four (last ∷ []) ≡ false
cut = refl

-- Hints in the wrong order, a hint left out, a hint too many.
turned : is_derived 2 four.clauses (record { clause = positive_lit 1 ∷ []; hints = 2 ∷ (1 ∷ []) }) ≡ true
turned = refl

wrong-order : is_derived 2 (four.clauses) (record { clause = positive_lit 1 ∷ []; hints = 3 ∷ (1 ∷ []) }) ≡ false
wrong-order = refl

left-out : is_derived 2 four.clauses (record { clause = positive_lit 1 ∷ []; hints = 2 ∷ [] }) ≡ false
left-out = refl

too-many : is_derived 2 four.clauses (record { clause = positive_lit 1 ∷ []; hints = 1 ∷ (2 ∷ (3 ∷ [])) }) ≡ false
too-many = refl

two-unset : after_hint four.clauses [] 1 ≡ None
two-unset = refl

true-clause : after_hint four.clauses (positive_lit 1 ∷ []) 1 ≡ None
true-clause = refl

one-unset : after_hint four.clauses (negative_lit 1 ∷ []) 1 ≡ Some (positive_lit 2 ∷ (negative_lit 1 ∷ []))
one-unset = refl

no-clause-0 : after_hint four.clauses (negative_lit 1 ∷ []) 0 ≡ None
no-clause-0 = refl

abbrev signed : Step
signed = record { clause = negative_lit 12 ∷ (positive_lit 3 ∷ []); hints = 10 ∷ [] }

line-of-first : codes "step 1 0 1 2 0" ≡ step_text first
line-of-first = ((step_exactly (codes "step 1 0 1 2 0") first).0 refl).0

line-of-last : codes "step 0 5 3 4 0" ≡ step_text last
line-of-last = ((step_exactly (codes "step 0 5 3 4 0") last).0 refl).0

line-with-negative_lit : codes "step -12 3 0 10 0" ≡ step_text signed
line-with-negative_lit = ((step_exactly (codes "step -12 3 0 10 0") signed).0 refl).0

-- Lines of no step.
negative_lit-0 : step_from_words (words_of (codes "step -0 0 1 0")) ≡ None
negative_lit-0 = refl

leading-0 : step_from_words (words_of (codes "step 01 0 1 0")) ≡ None
leading-0 = refl

positive_lit-sign : step_from_words (words_of (codes "step +1 0 1 0")) ≡ None
positive_lit-sign = refl

two-spaces : step_from_words (words_of (codes "step 1  0 1 0")) ≡ None
two-spaces = refl

without-end : step_from_words (words_of (codes "step 1 0 1")) ≡ None
without-end = refl

space-at-end : step_from_words (words_of (codes "step 1 0 1 0 ")) ≡ None
space-at-end = refl

great-variable : step_from_words (words_of (codes "step 4611686018427387905 0 1 0")) ≡ None
great-variable = refl

-- The differences are 44 (22 up), 33 (17 down), 2^33 + 10 (2^32 + 5 up, in five bytes) and 11 (6
-- down).
packed-bytes : step_from_numbers 2 (decoded_numbers 0 0 (44 ∷ (33 ∷ (160 ∷ (128 ∷ (128 ∷ (128 ∷ (10 ∷ (11 ∷ []))))))))) ≡ record { clause = negative_lit 12 ∷ (positive_lit 3 ∷ []); hints = 4294967306 ∷ (4294967300 ∷ []) }
packed-bytes = refl

around-0 : decoded_numbers 0 0 (2 ∷ (1 ∷ (1 ∷ []))) ≡ 1 ∷ (0 ∷ (18446744073709551615 ∷ []))
around-0 = refl

-- A number without its last byte does not count.
cut-number : decoded_numbers 0 0 (2 ∷ (160 ∷ [])) ≡ 1 ∷ []
cut-number = refl
