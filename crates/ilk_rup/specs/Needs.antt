-- Used only in private contracts and proofs: the true literals that explain why a clause is false
-- (needed literals), and those known at level 0.
use Rattle.std.specs.Prelude.{ℕ, suc, ◌+◌, ◌<◌, ◌≤◌, ◌≡◌, ◌==◌, ◌⊎◌, false, true, not, List, [], ◌∷◌, ◌++◌, Some, IsSomeAnd, IsTrue, length, map, slice_get, slice_index_or, take}
use Rattle.std.specs.List.{filter}
use Rattle.ilk_cnf.specs.Formula.{is_clause_over}
use Rattle.ilk_cnf.specs.Literal.{Literal, negated_lit, has_lit, has_var, has_distinct_vars}
use Rattle.ilk_watches.specs.Reasons.{nth_clause_or_empty, clause_forces_lit}
use Rattle.ilk_log.specs.Derived.{hints_end_in_conflict, negated_clause}
use Rattle.ilk_trail.specs.declared.entry.Entry.{Entry}
use Rattle.ilk_trail.specs.Trail.{level_of}
use Rattle.ilk_trail.specs.Laws.{is_set, lits_of}

-- Holds if `new` are the needed literals after literal `l` of a false clause was examined. The
-- opposite of `l` is added to `old`, unless `set` has `l` or `old` has its variable.
pub data AreNeededLitsAfterLitExamined (set : List Literal) (l : Literal) (old new : List Literal) : Type 0 where
  stays : new ≡ old → (has_lit l set ≡ true) ⊎ (has_var l.var old ≡ true) → AreNeededLitsAfterLitExamined set l old new
  grows : new ≡ old ++ negated_lit l ∷ [] → has_lit l set ≡ false → has_var l.var old ≡ false → AreNeededLitsAfterLitExamined set l old new

-- Holds if `new` are the needed literals after each literal of the false clause `d` was examined,
-- starting from `old`.
pub record AreNeededLitsAfterClauseExamined (set d old new : List Literal) : Type 0 where
  pub kept : (x : Literal) → has_lit x old ≡ true → has_lit x new ≡ true
  pub covered : (m : Literal) → has_lit m d ≡ true → (has_lit m set ≡ true) ⊎ (has_var m.var new ≡ true)
  pub made : (x : Literal) → has_lit x new ≡ true → (has_lit x old ≡ true) ⊎ ((has_lit (negated_lit x) d ≡ true) × (has_lit (negated_lit x) set ≡ false) × (has_var x.var old ≡ false))

-- Holds if the hints end at a false clause, from any true literals that make those of `set` false
-- and include the needed ones of `before`. Other true literals are in `before` or opposites of
-- `set`.
pub record HintsFalsifyGivenNeededLits (cs : List (List Literal)) (all before set needed : List Literal) (hints : List ℕ) : Type 0 where
  pub apart : (x : Literal) → has_lit x needed ≡ true → has_lit (negated_lit x) set ≡ false
  pub within : (x : Literal) → has_lit x needed ≡ true → has_lit x all ≡ true
  pub ends : (now : List Literal) →
      ((m : Literal) → has_lit m now ≡ true → (has_lit m before ≡ true) ⊎ (has_lit (negated_lit m) set ≡ true)) →
      ((m : Literal) → has_lit m set ≡ true → has_lit (negated_lit m) now ≡ true) →
      ((x : Literal) → has_lit x needed ≡ true → has_lit x before ≡ true → has_lit x now ≡ true) →
      hints_end_in_conflict cs now hints ≡ true

-- Holds if the walk back may pass entry `i`. If `needed` and `hints` falsify a clause with this
-- entry, `next` and `more` do so without it.
abbrev pub HintsWorkWithoutEntry : List (List Literal) → List Entry → List Literal → ℕ → List Literal → List ℕ → List Literal → List ℕ → Type 0
HintsWorkWithoutEntry cs es set i needed hints next more = (top : ℕ) → i < top → top ≤ length es → HintsFalsifyGivenNeededLits cs (lits_of (take top es)) (lits_of (take (i + 1) es)) set needed hints
    → HintsFalsifyGivenNeededLits cs (lits_of (take top es)) (lits_of (take i es)) set next more

-- Holds if entry `i`, if there is one, has a reason that forces its literal under the entries
-- before it.
abbrev pub EntryHasReason : List (List Literal) → List Entry → ℕ → Type 0
EntryHasReason cs es i = (e : Entry) → slice_get es i ≡ Some e → IsSomeAnd e.reason (λ c. IsTrue (clause_forces_lit cs (lits_of (take i es)) e.lit c))

-- Holds if clause `r` forces the literal of entry `i` under the entries before it.
abbrev pub IsReasonAt : List (List Literal) → List Entry → ℕ → ℕ → Type 0
IsReasonAt cs es i r = (e : Entry) → slice_get es i ≡ Some e → IsTrue (clause_forces_lit cs (lits_of (take i es)) e.lit r)

-- Holds if each entry from index `from` on and before `top` has a valid reason, and `set` has no
-- literal of its variable.
abbrev pub EntriesForcedWithVarsNotInSet : List (List Literal) → List Entry → List Literal → ℕ → ℕ → Type 0
EntriesForcedWithVarsNotInSet cs es set from top = (i : ℕ) (e : Entry) → from ≤ i → i < top → slice_get es i ≡ Some e → IsSomeAnd e.reason (λ c. IsTrue (clause_forces_lit cs (lits_of (take i es)) e.lit c)) × (has_var e.lit.var set ≡ false)

-- Holds if `units` has, by variable, the hint of the unit clause of each of the first `known`
-- entries. It has 0 for all other variables.
pub record AreUnitHintsByVar (units : List ℕ) (cs : List (List Literal)) (es : List Entry) (n known : ℕ) : Type 0 where
  pub sized : length units ≡ n + 1
  pub within : known ≤ length es
  pub told : (i : ℕ) (e : Entry) → i < known → slice_get es i ≡ Some e → (k : ℕ) × (slice_index_or units e.lit.var 0 ≡ suc k) × (slice_get cs k ≡ Some (e.lit ∷ []))
  pub only : (v k : ℕ) → slice_index_or units v 0 ≡ suc k → (i : ℕ) × (e : Entry) × (i < known) × (slice_get es i ≡ Some e) × (e.lit.var ≡ v)

-- Returns the hints of the unit clauses of the literals `ls`, as far as `units` has them.
abbrev pub unit_hints_of_needed : List ℕ → List Literal → List ℕ
unit_hints_of_needed units ls = filter (λ u. not (u == 0)) (map (λ (l : Literal). slice_index_or units l.var 0) ls)

-- Holds if the first `top` entries make clause `c` false, apart from literals that `set` has.
-- Entries from `known` on and before `from` assume opposites of literals of `set`; those from
-- `from` on have reasons. The first `known` entries make no literal of `set` true.
pub record IsClauseFalseApartFromSet (cs : List (List Literal)) (es : List Entry) (set : List Literal) (c from top known : ℕ) : Type 0 where
  pub clause : c < length cs
  pub known_in : known ≤ from
  pub from_in : from ≤ top
  pub top_in : top ≤ length es
  pub denied : (m : Literal) → has_lit m (nth_clause_or_empty cs c) ≡ true → (has_lit m set ≡ true) ⊎ (has_lit (negated_lit m) (lits_of (take top es)) ≡ true)
  pub walk : EntriesForcedWithVarsNotInSet cs es set from top
  pub assumed : (i : ℕ) (e : Entry) → known ≤ i → i < from → slice_get es i ≡ Some e → has_lit (negated_lit e.lit) set ≡ true
  pub untrue : (m : Literal) → has_lit m set ≡ true → has_lit m (lits_of (take known es)) ≡ false

-- Holds if clause `c` has exactly the literals of `set`, over different variables of 1 to `n`.
pub record IsClauseOfExactlyLiterals (n : ℕ) (set c : List Literal) : Type 0 where
  pub within : is_clause_over n c ≡ true
  pub differ : has_distinct_vars c ≡ true
  pub fewer : (m : Literal) → has_lit m c ≡ true → has_lit m set ≡ true
  pub more : (m : Literal) → has_lit m set ≡ true → has_lit m c ≡ true

-- Holds if the hints derive each clause that has exactly the literals of `set`.
abbrev pub HintsDeriveClauseOfLiterals : List (List Literal) → List Literal → List ℕ → Type 0
HintsDeriveClauseOfLiterals cs set hints = (c : List Literal) → has_distinct_vars c ≡ true → ((m : Literal) → has_lit m c ≡ true → has_lit m set ≡ true) → ((m : Literal) → has_lit m set ≡ true → has_lit m c ≡ true) →
    hints_end_in_conflict cs (negated_clause c) hints ≡ true

-- Holds if `new` is the trail `old` with the opposite of `l` added at level 1, unless the variable
-- of `l` is already set.
pub data TrailAssumesNegatedLit (l : Literal) (old new : List Entry) : Type 0 where
  known : new ≡ old → is_set old l.var ≡ true → TrailAssumesNegatedLit l old new
  new_one : (e : Entry) → new ≡ old ++ e ∷ [] → e.lit ≡ negated_lit l → e.level ≡ 1 → TrailAssumesNegatedLit l old new

-- Holds if each literal of `set` has a set variable in `new`, which is `old` with opposites of such
-- literals added at level 1.
pub record TrailAssumesNegatedLits (set : List Literal) (old new : List Entry) : Type 0 where
  pub kept : take (length old) new ≡ old
  pub levels : (i : ℕ) (e : Entry) → length old ≤ i → slice_get new i ≡ Some e → (e.level ≡ level_of new) × (e.level ≡ 1) × (has_lit (negated_lit e.lit) set ≡ true)
  pub low : level_of new ≤ 1
  pub covered : (m : Literal) → has_lit m set ≡ true → is_set new m.var ≡ true

-- Returns the literals `ls`, those of unset variables first.
abbrev pub unset_literals_first : List Entry → List Literal → List Literal
unset_literals_first es ls = filter (λ l. not (is_set es l.var)) ls ++ filter (λ l. is_set es l.var) ls
