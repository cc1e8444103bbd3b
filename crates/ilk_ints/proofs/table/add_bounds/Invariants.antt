use Rattle.std.proofs.Common.{◌≡◌, ◌+◌, ◌≤◌, ◌++◌, ◌∷◌, true, drop}
use Rattle.ilk_cnf.specs.Formula.{is_clause_over, with_var_count}
use Rattle.ilk_cnf.specs.Part.{with_part}
use Rattle.ilk_ints.specs.Bits.{bit_count}
use Rattle.ilk_ints.specs.Named.{bound_lits_part_from}
use Rattle.ilk_ints.proofs.table.add_bounds.Given as goal

abbrev pub invariant-loop-equal : goal.invariant-loop-equal
invariant-loop-equal l =
    record {
      vars : l.cnf.vars ≡ l.fn.cnf.vars;
      place : l.k ≡ 1 + l.equal-index;
      within : l.n.first + bit_count l.n.range ≤ l.used + 1;
      inside : is_clause_over l.used (l.below ∷ drop l.equal-index l.equals) ≡ true;
      lits : l.lits ++ (bound_lits_part_from l.n.first l.n.range l.below l.k (drop l.equal-index l.equals) l.used).lits ≡ (bound_lits_part_from l.n.first l.n.range l.fn.below 1 l.equals l.fn.used).lits;
      made : with_part (with_var_count l.cnf l.used) (bound_lits_part_from l.n.first l.n.range l.below l.k (drop l.equal-index l.equals) l.used).part
          ≡ with_part (with_var_count l.fn.cnf l.fn.used) (bound_lits_part_from l.n.first l.n.range l.fn.below 1 l.equals l.fn.used).part;
    }
