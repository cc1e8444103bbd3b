-- Texts that refute a formula, and the first bad item of other texts.
use Rattle.std.specs.Prelude.{ℕ, zero, suc, ◌≡◌, ◌++◌, List, [], ◌∷◌, Some, IsTrue, unwrap_or}
use Rattle.ilk_cnf.specs.Literal.{Literal}
use Rattle.ilk_cnf.specs.Formula.{Formula}
use Rattle.ilk_lines.specs.Lines.{Bytes}
use Rattle.ilk_log.specs.Derived.{is_derived, is_refutation}
use Rattle.ilk_rup.specs.RefutationText.{clause_added_by_item, split_words_into_items, text_words}
use Rattle.ilk_rup.specs.declared.rup.Rup.{Rup}
use Rattle.ilk_rup.specs.declared.rup.Rup.TheVariants.{Refuted, Bad}

-- Holds if some list of hints derives clause `c` from `clauses`, over the variables 1 to `n`.
abbrev pub FollowsBySomeHints : ℕ → List (List Literal) → List Literal → Type 0
FollowsBySomeHints n clauses c = (hints : List ℕ) × IsTrue (is_derived n clauses (record { clause = c; hints = hints }))

-- Holds if each of the clauses follows from `clauses` by some hints.
abbrev pub EachClauseFollowsBySomeHints : ℕ → List (List Literal) → List (List Literal) → Type 0
EachClauseFollowsBySomeHints n clauses [] = Unit {0}
EachClauseFollowsBySomeHints n clauses (c ∷ cs) = FollowsBySomeHints n clauses c × EachClauseFollowsBySomeHints n clauses cs

-- Holds if the item is well-formed, and the clause that it adds, if any, follows from `clauses`
-- over the variables 1 to `n`.
abbrev pub IsRightItem : ℕ → List (List Literal) → List Bytes → Type 0
IsRightItem n clauses item = (cs : List (List Literal)) × (clause_added_by_item n item ≡ Some cs) × EachClauseFollowsBySomeHints n clauses cs

-- Returns `clauses` with the clause that the item adds, if any, at the end.
abbrev pub with_clause_added_by_item : ℕ → List (List Literal) → List Bytes → List (List Literal)
with_clause_added_by_item n clauses item = clauses ++ unwrap_or (clause_added_by_item n item) []

-- Holds if each item is right after those before it, and the empty clause follows at the end.
abbrev pub ItemsAreRightAndRefute : ℕ → List (List Literal) → List (List Bytes) → Type 0
ItemsAreRightAndRefute n clauses [] = FollowsBySomeHints n clauses []
ItemsAreRightAndRefute n clauses (item ∷ items) = IsRightItem n clauses item × ItemsAreRightAndRefute n (with_clause_added_by_item n clauses item) items

-- Holds if item `k`, from 1, is the first that isn't right. If all are right but the empty clause
-- doesn't follow from them, holds if `k` is the number of items plus 1.
abbrev pub IsFirstBadAmong : ℕ → List (List Literal) → List (List Bytes) → ℕ → Type 0
IsFirstBadAmong n clauses items zero = ⊥
IsFirstBadAmong n clauses [] (suc zero) = FollowsBySomeHints n clauses [] → ⊥
IsFirstBadAmong n clauses [] (suc (suc k)) = ⊥
IsFirstBadAmong n clauses (item ∷ items) (suc zero) = IsRightItem n clauses item → ⊥
IsFirstBadAmong n clauses (item ∷ items) (suc (suc k)) = IsRightItem n clauses item × IsFirstBadAmong n (with_clause_added_by_item n clauses item) items (suc k)

abbrev pub text_items : Bytes → List (List Bytes)
text_items text = split_words_into_items (text_words text)

-- Holds if the items of a text refute the formula: each is right, and at the end the empty clause
-- follows.
abbrev pub IsAccepted : Formula → Bytes → Type 0
IsAccepted f text = ItemsAreRightAndRefute f.vars f.clauses (text_items text)

-- Holds if item `k` is the first bad one of a text (`IsFirstBadAmong`).
abbrev pub IsFirstBadItem : Formula → Bytes → ℕ → Type 0
IsFirstBadItem f text k = IsFirstBadAmong f.vars f.clauses (text_items text) k

-- Holds if the verdict on a text is right. `Refuted`: the text is accepted, and the log refutes the
-- formula. `Bad`: it names the first bad item.
abbrev pub IsRupVerdictFor : Formula → Bytes → Rup → Type 0
IsRupVerdictFor f text (Refuted log) = IsAccepted f text × IsTrue (is_refutation f log)
IsRupVerdictFor f text (Bad item) = IsFirstBadItem f text item
