use Rattle.std.proofs.Common.{◌≡◌, ◌++◌, true, drop, map}
use Rattle.ilk_cnf.specs.Part.{clauses_from_lists}
use Rattle.ilk_ir.specs.System.{plain_rule}
use Rattle.ilk_forms.specs.Leaf.{has_lits_within_vars}
use Rattle.ilk_step.specs.Frame.{frame_axioms}
use Rattle.ilk_step.proofs.frame.add_frame_axioms.Given as goal

abbrev pub invariant-loop-v : goal.invariant-loop-v
invariant-loop-v l =
    record {
      vars : l.cnf.vars ≡ l.fn.cnf.vars;
      now : has_lits_within_vars l.cnf.vars (drop l.v l.now) ≡ true;
      next : has_lits_within_vars l.cnf.vars (drop l.v l.next) ≡ true;
      rest : l.cnf.clauses ++ clauses_from_lists (frame_axioms (map plain_rule l.rules) l.first l.v (drop l.v l.now) (drop l.v l.next)) ≡ l.fn.cnf.clauses ++ clauses_from_lists (frame_axioms (map plain_rule l.rules) l.first 0 l.now l.next);
    }
