-- The invariant of propagation by two watched literals between calls.
use Rattle.std.specs.Prelude.{ℕ, ◌≡◌, ◌≢◌, ◌<◌, ◌≤◌, ◌⊎◌, false, [], ◌∷◌, Bool, List, Some, IsTrue, length, slice_get}
use Rattle.std.specs.List.{list_any}
use Rattle.ilk_cnf.specs.Literal.{Literal, has_lit, negated_lit}
use Rattle.ilk_log.specs.Fresh.{other_lits}
use Rattle.ilk_log.specs.Propagation.{is_falsified}
use Rattle.ilk_trail.specs.declared.entry.Entry.{Entry}
use Rattle.ilk_trail.specs.Trail.{level_of, entries_up_to}
use Rattle.ilk_trail.specs.Laws.{is_set, lits_of}
use Rattle.ilk_arena.specs.Arena.{ArenaContent, chain_of, literals_of, number_of_clause, contains_reference}

-- Returns whether an entry of a level up to `k` makes literal `l` true.
abbrev pub is_true_by_level : List Entry → ℕ → Literal → Bool
is_true_by_level es k l = has_lit l (lits_of (entries_up_to k es))

-- Returns whether some literal of clause `ls` is true.
abbrev pub is_satisfied : List Entry → List Literal → Bool
is_satisfied es ls = list_any (λ l. has_lit l (lits_of es)) ls

-- Holds if clause `c` is done for the first `n` entries. If one of them makes a watch of `c` false,
-- the other watch is true at the entry's level or a lower one.
abbrev pub IsCovered : ArenaContent → List Entry → ℕ → ℕ → Type 0
IsCovered a es n c = (i : ℕ) (e : Entry) (l : Literal) → i < n → slice_get es i ≡ Some e → IsTrue (contains_reference c (chain_of a (negated_lit e.lit))) → IsTrue (contains_reference c (chain_of a l)) → l ≢ negated_lit e.lit →
    IsTrue (is_true_by_level es e.level l)

-- Holds if each clause is covered for the first `n` entries.
abbrev pub AllCovered : ArenaContent → List Entry → ℕ → Type 0
AllCovered a es n = (c : ℕ) → IsTrue (contains_reference c a.references) → IsCovered a es n c

-- Holds if `l` isn't false, or was made false at the current level.
abbrev pub NotFalseBelowCurrentLevel : List Entry → Literal → Type 0
NotFalseBelowCurrentLevel es l = (i : ℕ) (e : Entry) → slice_get es i ≡ Some e → e.lit ≡ negated_lit l → e.level ≡ level_of es

-- Holds if clause `c` may force `x`. Its other literals are false, `y` since the current level. It
-- watches at most `x` and `y`, and none of the first `n` entries makes `x` false.
pub record ClauseMayForceLit (a : ArenaContent) (es : List Entry) (n c : ℕ) (x y : Literal) : Type 0 where
  pub watches : (l : Literal) → IsTrue (contains_reference c (chain_of a l)) → (l ≡ x) ⊎ (l ≡ y)
  pub others_false : IsTrue (is_falsified (lits_of es) (other_lits x (literals_of a c)))
  pub recent : NotFalseBelowCurrentLevel es y
  pub possible : (i : ℕ) (e : Entry) → i < n → slice_get es i ≡ Some e → e.lit ≢ negated_lit x

-- Holds if the entries before `head` are propagated and the clauses before `settled` examined. The
-- other entries are at the current level. Each clause is covered, or is still to be examined and
-- may force a literal. Each examined clause of fewer than two literals is satisfied.
pub record IsPropagationInvariant (a : ArenaContent) (es : List Entry) (head settled : ℕ) : Type 0 where
  pub head_in : head ≤ length es
  pub settled_in : settled ≤ length a.clauses
  pub queued : (i : ℕ) (e : Entry) → head ≤ i → slice_get es i ≡ Some e → e.level ≡ level_of es
  pub watched : (c : ℕ) → IsTrue (contains_reference c a.references) → IsCovered a es head c ⊎ ((settled < number_of_clause a c) × ((x y : Literal) × ClauseMayForceLit a es head c x y))
  pub short : (c : ℕ) → IsTrue (contains_reference c a.references) → number_of_clause a c ≤ settled → length (literals_of a c) < 2 → IsTrue (is_satisfied es (literals_of a c))

-- Holds if a clause may be added: it has fewer than two literals, its first two are unset, or only
-- its first is unset. In the last case the others are false, the second since the current level.
abbrev pub FirstTwoAreWatchable : List Entry → List Literal → Type 0
FirstTwoAreWatchable es [] = Unit {0}
FirstTwoAreWatchable es (l ∷ []) = Unit {0}
FirstTwoAreWatchable es (l ∷ (m ∷ ls)) = (is_set es l.var ≡ false) × ((is_set es m.var ≡ false) ⊎ (IsTrue (is_falsified (lits_of es) (m ∷ ls)) × NotFalseBelowCurrentLevel es m))
