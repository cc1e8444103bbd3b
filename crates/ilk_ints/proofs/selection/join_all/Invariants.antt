use Rattle.std.proofs.Common.{◌≡◌, ◌≤◌, ◌-◌, true, drop, length}
use Rattle.ilk_cnf.specs.Formula.{is_clause_over}
use Rattle.ilk_cnf.specs.Part.{with_part}
use Rattle.ilk_ints.specs.OneOf.{exactly_one_part}
use Rattle.ilk_ints.proofs.selection.join_all.Given as goal

abbrev pub invariant-loop-first : goal.invariant-loop-first
invariant-loop-first l =
    record {
      started : l.first ≤ length l.queue.items;
      within : is_clause_over l.cnf.vars (drop l.first l.queue.items) ≡ true;
      rest : with_part l.cnf (exactly_one_part (drop l.first l.queue.items) l.cnf.vars) ≡ with_part l.fn.cnf (exactly_one_part l.fn.queue.items l.fn.cnf.vars);
    }

abbrev pub decreases-loop-first : goal.decreases-loop-first
decreases-loop-first l = length l.queue.items - l.first
