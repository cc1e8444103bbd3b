use Rattle.std.proofs.Common.{◌≡◌, List, [], ◌∷◌, true, false, refl, Some, None}
use Rattle.ilk_cnf.specs.Literal.{Literal, positive_lit, negative_lit}
use Rattle.ilk_log.specs.Derived.{is_derived}
use Rattle.ilk_trail.specs.declared.entry.Entry.{Entry}
use Rattle.ilk_learn.specs.Learning.{learned_step}
use Rattle.ilk_learn.specs.Asserting.{back_level, is_false_in_asserting_order}

-- 1 is decided at level 1 and 2 at level 2; 3 and 4 follow from 2, and clause 2 is false.
abbrev clauses : List (List Literal)
clauses = (negative_lit 2 ∷ (positive_lit 3 ∷ [])) ∷ ((negative_lit 3 ∷ (positive_lit 4 ∷ (negative_lit 1 ∷ []))) ∷ ((negative_lit 3 ∷ (negative_lit 4 ∷ [])) ∷ []))

abbrev entries : List Entry
entries =
    record { lit = positive_lit 1; level = 1; reason = None }
    ∷ (record { lit = positive_lit 2; level = 2; reason = None }
    ∷ (record { lit = positive_lit 3; level = 2; reason = Some 0 } ∷ (record { lit = positive_lit 4; level = 2; reason = Some 1 } ∷ [])))

-- 3 is the first unique implication point.
taught : learned_step clauses entries 2 ≡ record { clause = negative_lit 3 ∷ (negative_lit 1 ∷ []); hints = 2 ∷ (3 ∷ []) }
taught = refl

shown : is_derived 4 clauses (learned_step clauses entries 2) ≡ true
shown = refl

asserts : is_false_in_asserting_order entries (learned_step clauses entries 2).clause ≡ true
asserts = refl

back : back_level entries (learned_step clauses entries 2).clause ≡ 1
back = refl

-- With one hint less it isn't derived.
short : is_derived 4 clauses (record { clause = negative_lit 3 ∷ (negative_lit 1 ∷ []); hints = 3 ∷ [] }) ≡ false
short = refl

-- At level 0 the clause ends empty.
abbrev plain : List (List Literal)
plain = (positive_lit 1 ∷ []) ∷ ((negative_lit 1 ∷ (positive_lit 2 ∷ [])) ∷ ((negative_lit 1 ∷ (negative_lit 2 ∷ [])) ∷ []))

abbrev set : List Entry
set = record { lit = positive_lit 1; level = 0; reason = Some 0 } ∷ (record { lit = positive_lit 2; level = 0; reason = Some 1 } ∷ [])

refuted : learned_step plain set 2 ≡ record { clause = []; hints = 1 ∷ (2 ∷ (3 ∷ [])) }
refuted = refl

refuted-shown : is_derived 2 plain (learned_step plain set 2) ≡ true
refuted-shown = refl
