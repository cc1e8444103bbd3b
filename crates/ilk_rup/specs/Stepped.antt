-- Used only in private contracts and proofs: the result of an item, and its meaning for the text.
use Rattle.std.specs.Prelude.{ℕ, suc, ◌≡◌, ◌<◌, ◌+◌, List, [], ◌∷◌, IsTrue, length}
use Rattle.ilk_cnf.specs.Formula.{Formula}
use Rattle.ilk_cnf.specs.Literal.{Literal}
use Rattle.ilk_lines.specs.Lines.{Bytes}
use Rattle.ilk_log.specs.Derived.{is_refutation}
use Rattle.ilk_rup.specs.Accepted.{ItemsAreRightAndRefute, IsFirstBadAmong, FollowsBySomeHints, IsRightItem, with_clause_added_by_item, text_items}
use Rattle.ilk_rup.specs.Alike.{AreEquivalent}
use Rattle.ilk_rup.specs.Checker.{FormulaAndStoredClauses}
use Rattle.ilk_rup.specs.RefutationText.{split_words_into_items}
use Rattle.ilk_rup.specs.declared.next.Next.{Next}
use Rattle.ilk_rup.specs.declared.next.Next.TheVariants.{Right, Bad, Refuted}

-- Holds if the first item of the words `old` is right, `left` are the words after it, and `new` has
-- the consequences of `k` with its clause.
pub record HasAcceptedItem (k : FormulaAndStoredClauses) (old left : List Bytes) (new : FormulaAndStoredClauses) : Type 0 where
  pub item : List Bytes
  pub is : split_words_into_items old ≡ item ∷ split_words_into_items left
  pub right : IsRightItem k.formula.vars k.clauses item
  pub formula : new.formula ≡ k.formula
  pub alike : AreEquivalent (with_clause_added_by_item k.formula.vars k.clauses item) new.clauses
  pub shorter : length left < length old

-- Holds if the result for the next item is right. `Right`: the item is right. `Bad`: it is bad, or
-- none is left and the empty clause doesn't follow. `Refuted`: none is left, and the log refutes
-- the formula.
abbrev pub IsItemCheckResult : FormulaAndStoredClauses → List Bytes → List Bytes → Next → Type 0
IsItemCheckResult k old left (Right new) = HasAcceptedItem k old left new
IsItemCheckResult k old left Bad = IsFirstBadAmong k.formula.vars k.clauses (split_words_into_items old) 1
IsItemCheckResult k old left (Refuted log) = (old ≡ []) × FollowsBySomeHints k.formula.vars k.clauses [] × IsTrue (is_refutation k.formula log)

-- Holds if the verdict on the words `left`, which begin with item `k`, decides that on the whole
-- text. `given` are the clauses before item `k`.
pub record RestDecidesWhole (f : Formula) (text : Bytes) (given : List (List Literal)) (left : List Bytes) (k : ℕ) : Type 0 where
  pub accepted : ItemsAreRightAndRefute f.vars given (split_words_into_items left) → ItemsAreRightAndRefute f.vars f.clauses (text_items text)
  pub bad : (j : ℕ) → IsFirstBadAmong f.vars given (split_words_into_items left) (suc j) → IsFirstBadAmong f.vars f.clauses (text_items text) (k + j)
