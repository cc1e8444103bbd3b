use Rattle.std.proofs.Common.{◌≡◌, ◌+◌, ◌-◌, ◌≤◌, ◌++◌}
use Rattle.ilk_cnf.specs.Formula.{with_var_count}
use Rattle.ilk_cnf.specs.Part.{with_part}
use Rattle.ilk_ints.specs.Bits.{bit_count}
use Rattle.ilk_ints.specs.Named.{value_lits_part_from}
use Rattle.ilk_ints.proofs.table.add_values.Given as goal

abbrev pub invariant-loop-value : goal.invariant-loop-value
invariant-loop-value l =
    record {
      vars : l.cnf.vars ≡ l.fn.cnf.vars;
      within : l.n.first + bit_count l.n.range ≤ l.used + 1;
      there : l.used + (l.n.range - l.value) ≤ l.fn.cnf.vars;
      lits : l.lits ++ (value_lits_part_from l.n.first l.n.range l.value (l.n.range - l.value) l.used).lits ≡ (value_lits_part_from l.n.first l.n.range 0 l.n.range l.fn.used).lits;
      made : with_part (with_var_count l.cnf l.used) (value_lits_part_from l.n.first l.n.range l.value (l.n.range - l.value) l.used).part
          ≡ with_part (with_var_count l.fn.cnf l.fn.used) (value_lits_part_from l.n.first l.n.range 0 l.n.range l.fn.used).part;
    }
