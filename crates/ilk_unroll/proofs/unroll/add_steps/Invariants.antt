use Rattle.std.proofs.Common.{◌≡◌, ◌-◌, ◌++◌, true, drop, map}
use Rattle.ilk_cnf.specs.Part.{with_part}
use Rattle.ilk_ir.specs.System.{plain_rule}
use Rattle.ilk_unroll.specs.Query.{steps_part}
use Rattle.ilk_unroll.specs.Tables.{are_copies_within_vars, choice_variables_per_step}
use Rattle.ilk_unroll.proofs.unroll.add_steps.Given as goal

abbrev pub invariant-loop-i : goal.invariant-loop-i
invariant-loop-i l =
    record {
      within : are_copies_within_vars l.cnf.vars l.tables ≡ true;
      choices : l.choices ++ choice_variables_per_step (map plain_rule l.system.rules) (drop (l.i - 1) l.tables) l.cnf.vars ≡ choice_variables_per_step (map plain_rule l.system.rules) l.tables l.fn.cnf.vars;
      made : with_part l.cnf (steps_part (map plain_rule l.system.rules) (drop (l.i - 1) l.tables) l.cnf.vars) ≡ with_part l.fn.cnf (steps_part (map plain_rule l.system.rules) l.tables l.fn.cnf.vars);
    }
