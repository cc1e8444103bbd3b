-- Used only in private contracts and proofs: the invariant between the items of a text.
use Rattle.std.specs.Prelude.{ℕ, ◌≡◌, Bool, true, false, not, List, [], ◌∷◌, ◌++◌, length}
use Rattle.std.specs.List.{list_all}
use Rattle.ilk_arena.specs.Arena.{ArenaContent}
use Rattle.ilk_watches.specs.Chained.{IsClauseAdded}
use Rattle.ilk_watches.specs.Reasons.{is_conflict}
use Rattle.ilk_cnf.specs.Formula.{Formula}
use Rattle.ilk_cnf.specs.Literal.{Literal, has_lit}
use Rattle.ilk_log.specs.declared.step.Step.{Step}
use Rattle.ilk_log.specs.Derived.{is_derived_log, is_empty_clause, is_refutation, step_clauses}
use Rattle.ilk_log.specs.Propagation.{is_saturated}
use Rattle.ilk_trail.specs.Laws.{is_set, lits_of}
use Rattle.ilk_trail.specs.Trail.{TrailList, level_of}
use Rattle.ilk_watches.specs.Watched.{IsPropagationInvariant}
use Rattle.ilk_watches.specs.declared.queue.PropagationProgress.{PropagationProgress}
use Rattle.ilk_rup.specs.Accepted.{FollowsBySomeHints}
use Rattle.ilk_rup.specs.Alike.{AreEquivalent}
use Rattle.ilk_rup.specs.Needs.{HintsDeriveClauseOfLiterals, IsClauseOfExactlyLiterals, EntryHasReason, AreUnitHintsByVar, unset_literals_first}
use Rattle.ilk_rup.specs.declared.base.DerivationState.{DerivationState}

-- Holds if the clauses are those of the formula and then those of the log, each step is derived,
-- and no step has the empty clause.
pub record AreFormulaAndDerivedClauses (f : Formula) (clauses : List (List Literal)) (log : List Step) : Type 0 where
  pub clauses_are : clauses ≡ f.clauses ++ step_clauses log
  pub derived : is_derived_log f log ≡ true
  pub unended : list_all (λ (s : Step). not (is_empty_clause s.clause)) log ≡ true

-- Holds for the fields of a base. All entries of the trail are at level 0 and forced. The queue is
-- right, `units` has hints for the first `named` entries, and the clauses are logged.
pub record IsBaseInvariant (f : Formula) (clauses : ArenaContent) (trail : TrailList) (queue : PropagationProgress) (units : List ℕ) (named : ℕ) (log : List Step) : Type 0 where
  pub vars : clauses.vars ≡ f.vars
  pub trail_vars : trail.vars ≡ f.vars
  pub level : level_of trail.entries ≡ 0
  pub queued : IsPropagationInvariant clauses trail.entries queue.head queue.settled
  pub forced : (i : ℕ) → EntryHasReason clauses.clauses trail.entries i
  pub known : AreUnitHintsByVar units clauses.clauses trail.entries f.vars named
  pub logged : AreFormulaAndDerivedClauses f clauses.clauses log

-- Holds if the base is valid, also if propagation hasn't ended (`IsBaseInvariant`).
pub record IsValidMaybeUnpropagated (k : DerivationState) : Type 0 where
  pub held : IsBaseInvariant k.formula.now k.clauses k.trail k.queue k.explainer.units.items k.explainer.named k.log
  pub needed_vars : k.explainer.needed.vars ≡ k.formula.now.vars
  pub set_vars : k.set.vars ≡ k.formula.now.vars

-- Holds if the base is valid, propagation has ended without a conflict, and each entry has a unit
-- clause.
pub record IsPropagatedWithoutConflict (k : DerivationState) : Type 0 where
  pub loose : IsValidMaybeUnpropagated k
  pub closed : is_saturated k.clauses.clauses (lits_of k.trail.entries) ≡ true
  pub head : k.queue.head ≡ length k.trail.entries
  pub settled : k.queue.settled ≡ length k.clauses.clauses
  pub named : k.explainer.named ≡ length k.trail.entries

-- Holds if the log of base `k` refutes its formula, and the empty clause follows from its clauses.
pub record LogRefutesFormula (k : DerivationState) : Type 0 where
  pub log : is_refutation k.formula.now k.log ≡ true
  pub follows : FollowsBySomeHints k.formula.now.vars k.clauses.clauses []

-- Holds if base `k` may take an item: propagation has ended, or the log refutes the formula.
pub record IsClosedOrRefuted (k : DerivationState) : Type 0 where
  pub set_vars : k.set.vars ≡ k.formula.now.vars
  pub going : k.refuted ≡ false → IsPropagatedWithoutConflict k
  pub ended : k.refuted ≡ true → LogRefutesFormula k

-- Holds if the formula is the same, and the clauses of `new` have the same consequences as those of
-- `old`.
pub record HasSameFormulaAndConsequences (old new : DerivationState) : Type 0 where
  pub formula : new.formula ≡ old.formula
  pub alike : AreEquivalent old.clauses.clauses new.clauses.clauses

-- Holds if the clauses have the same consequences as before, the trail is the same, and each false
-- clause stays false.
pub record KeepsConsequencesTrailAndConflicts (old new : DerivationState) : Type 0 where
  pub same : HasSameFormulaAndConsequences old new
  pub refuted : new.refuted ≡ old.refuted
  pub trail : new.trail ≡ old.trail
  pub conflicts : (c : ℕ) → is_conflict old.clauses.clauses (lits_of old.trail.entries) c ≡ true → is_conflict new.clauses.clauses (lits_of new.trail.entries) c ≡ true

-- Holds if `new` is `old` with step `s` in its log and the clause of `s` among its clauses.
pub record IsClauseAddedWithStep (old : DerivationState) (s : Step) (new : DerivationState) : Type 0 where
  pub clauses : IsClauseAdded old.clauses s.clause new.clauses
  pub log : new.log ≡ old.log ++ s ∷ []
  pub rest : new ≡ record old { clauses = new.clauses; log = new.log }

-- Holds if no list of hints derives a clause of the literals in `k.set`.
abbrev pub NoHintsDeriveClause : DerivationState → Type 0
NoHintsDeriveClause k = (c : List Literal) → IsClauseOfExactlyLiterals k.formula.now.vars k.set.lits c → FollowsBySomeHints k.formula.now.vars k.clauses.clauses c → ⊥

-- Holds if step `s` derives the clause of the literals in `k.set`, the unset ones first. None of
-- them is true, and at least one is unset.
pub record IsStepForCurrentLiterals (k : DerivationState) (s : Step) : Type 0 where
  pub loose : IsValidMaybeUnpropagated k
  pub clause : s.clause ≡ unset_literals_first k.trail.entries k.set.lits
  pub hints : HintsDeriveClauseOfLiterals k.clauses.clauses k.set.lits s.hints
  pub untrue : (m : Literal) → has_lit m k.set.lits ≡ true → has_lit m (lits_of k.trail.entries) ≡ false
  pub unset : Literal
  pub has : has_lit unset k.set.lits ≡ true
  pub open_ : is_set k.trail.entries unset.var ≡ false

-- Holds if the clause of the literals in `old.set` follows, and the clauses of `new` have the
-- consequences of those of `old` and this clause.
pub record CurrentClauseFollowsAndIsAdded (old new : DerivationState) : Type 0 where
  pub stands : IsClosedOrRefuted new
  pub formula : new.formula ≡ old.formula
  pub follows : (c : List Literal) → IsClauseOfExactlyLiterals old.formula.now.vars old.set.lits c → FollowsBySomeHints old.formula.now.vars old.clauses.clauses c
  pub alike : (c : List Literal) → IsClauseOfExactlyLiterals old.formula.now.vars old.set.lits c → AreEquivalent (old.clauses.clauses ++ c ∷ []) new.clauses.clauses

-- Holds if the result for the clause of `old.set` is right. After `true` it follows and was added;
-- after `false` no hints derive it.
abbrev pub IsTryAddResult : DerivationState → Bool → DerivationState → Type 0
IsTryAddResult old true new = CurrentClauseFollowsAndIsAdded old new
IsTryAddResult old false new = NoHintsDeriveClause old
