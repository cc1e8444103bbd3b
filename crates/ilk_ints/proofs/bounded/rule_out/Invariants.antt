use Rattle.std.proofs.Common.{◌≡◌, ◌-◌, ◌^◌, ◌++◌, map}
use Rattle.std.specs.List.{range_with_len}
use Rattle.ilk_cnf.specs.Literal.{negated_lit}
use Rattle.ilk_cnf.specs.Part.{clauses_from_lists}
use Rattle.ilk_ints.specs.Bits.{lowest_bits_of, bit_pattern_lits}
use Rattle.ilk_ints.specs.Number.{non_value_clauses}
use Rattle.ilk_ints.proofs.bounded.rule_out.Given as goal

abbrev pub invariant-loop-value : goal.invariant-loop-value
invariant-loop-value l =
    record {
      vars : l.cnf.vars ≡ l.fn.cnf.vars;
      rest : l.cnf.clauses ++ clauses_from_lists (map (λ u. map negated_lit (bit_pattern_lits l.first (lowest_bits_of l.count u))) (range_with_len l.value (2 ^ l.count - l.value)))
          ≡ l.fn.cnf.clauses ++ clauses_from_lists (non_value_clauses l.first l.fn.range);
    }
