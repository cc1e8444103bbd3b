use Rattle.std.proofs.Common.{◌∙◌, map, ap}
use Rattle.ilk_cnf.specs.Literal.{negated_lit}
use Rattle.ilk_cnf.proofs.Gates.{opposites-in}
use Rattle.ilk_ints.specs.Bits.{lowest_bits_of, bit_pattern_lits}
use Rattle.ilk_ints.proofs.BitsLaw.{bit_pattern_lits-in, length-bits}
use Rattle.ilk_ints.proofs.bounded.rule_out_value.Goals as goal

pub add_clause_unless_tautology-requires : goal.add_clause_unless_tautology-requires
add_clause_unless_tautology-requires c =
    let n = c.args.cnf.now.vars in
    let first = c.args.first in
    let qs = lowest_bits_of c.args.count c.args.value in
    let lits = c.as_slice.ensures ∙ c.in_ok-lits.ensures in
    let others = c.as_slice-2.ensures ∙ c.in_ok-others.ensures ∙ ap (map negated_lit) lits in
    rw others (opposites-in n (bit_pattern_lits first qs) (bit_pattern_lits-in n qs first c.requires.from_1 (rw (length-bits c.args.count c.args.value) c.requires.within)))
