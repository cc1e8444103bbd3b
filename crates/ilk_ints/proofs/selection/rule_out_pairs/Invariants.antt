use Rattle.std.proofs.Common.{◌≡◌, ◌++◌, [], take, drop}
use Rattle.ilk_cnf.specs.Part.{clauses_from_lists}
use Rattle.ilk_ints.specs.OneOf.{at_most_one_clauses}
use Rattle.ilk_ints.proofs.selection.rule_out_pairs.Given as goal

abbrev pub invariant-loop-i : goal.invariant-loop-i
invariant-loop-i l =
    record {
      vars : l.cnf.vars ≡ l.fn.cnf.vars;
      rest : l.cnf.clauses ++ clauses_from_lists (at_most_one_clauses (take l.i l.lits) (drop l.i l.lits)) ≡ l.fn.cnf.clauses ++ clauses_from_lists (at_most_one_clauses [] l.lits);
    }
