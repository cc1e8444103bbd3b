-- Used only in private contracts and proofs: the result of a scan of all clauses.
use Rattle.std.specs.Prelude.{◌&&◌, List, IsTrue, not}
use Rattle.ilk_cnf.specs.Literal.{Literal, positive_lit}
use Rattle.ilk_cnf.specs.Formula.{is_lit_over}
use Rattle.ilk_log.specs.Propagation.{is_saturated}
use Rattle.ilk_trail.specs.Trail.{TrailList}
use Rattle.ilk_trail.specs.Laws.{is_set, lits_of}
use Rattle.ilk_watches.specs.Reasons.{is_conflict, clause_forces_lit}
use Rattle.ilk_watches.specs.declared.scan.Found.{Found}
use Rattle.ilk_watches.specs.declared.scan.Found.TheVariants.{Falsified, Forced, Closed}

-- Holds if the result of a scan of all clauses is right under the trail. Clause `c` is false,
-- clause `c` forces the unset literal `l`, or no clause does either.
abbrev pub IsScanResult : List (List Literal) → TrailList → Found → Type 0
IsScanResult clauses trail (Falsified c) = IsTrue (is_conflict clauses (lits_of trail.entries) c)
IsScanResult clauses trail (Forced c l) = IsTrue (clause_forces_lit clauses (lits_of trail.entries) l c) × IsTrue (is_lit_over trail.vars (positive_lit l.var) && not (is_set trail.entries l.var))
IsScanResult clauses trail Closed = IsTrue (is_saturated clauses (lits_of trail.entries))
