use Rattle.std.proofs.Common.{◌++◌, ◌+◌, ◌-◌, ◌/◌, List, ap, ◌∙◌}
use Rattle.ilk_cnf.specs.Literal.{Literal}
use Rattle.ilk_ints.specs.Bits.{lowest_bits_of, bit_pattern_lits}
use Rattle.ilk_ints.proofs.BitsLaw.{lits_step}
use Rattle.ilk_ints.proofs.bounded.lits_of.Goals as goal

pub loop-i-preserved : goal.loop-i-preserved
loop-i-preserved c =
    let first = c.args.first in
    let count = c.args.count in
    let i = c.loop-i.i in
    let rest = c.loop-i.rest in
    let later = bit_pattern_lits (first + (i + 1)) (lowest_bits_of (count - (i + 1)) (rest / 2)) in
    ap (λ (ls : List Literal). ls ++ later) c.in_ok-push.ensures.ok
    ∙ lits_step first count i rest c.loop-i.lits (bit_pattern_lits first (lowest_bits_of count c.args.value)) c.new.result c.loop-i-test.true c.new.ensures c.loop-i.invariant
