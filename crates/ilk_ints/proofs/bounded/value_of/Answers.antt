use Rattle.std.proofs.Common.{◌≡◌, ◌^◌, ◌≤◌, ℕ, Bool, cond, rules, sym, ap, ◌∙◌, subst}
use Rattle.ilk_ints.specs.Bits.{bit_count}
use Rattle.ilk_ints.proofs.NumberLaw.{value_step, value_end, value_read, byte_of}
use Rattle.ilk_ints.proofs.bounded.value_of.Goals as goal

pub loop-k-preserved : goal.loop-k-preserved
loop-k-preserved c =
    let a = c.args.a.now in
    let byte = c.from.ensures ∙ byte_of c.value-bit.result ∙ ap (λ (b : Bool). cond b 1 0) c.value-bit.ensures in
    let next = value_step a c.args.n.first c.bit_count-count.result c.loop-k.k c.loop-k.value c.from.result c.loop-k-test.true c.bit_count-count.ensures.few byte c.loop-k.invariant.bits c.loop-k.invariant.less in
    record { bits = next.0; less = next.1; small = next.2 }

pub returns-clause-bits : goal.returns-clause-bits
returns-clause-bits c =
    let end : c.loop-k.k ≡ c.bit_count-count.result = search rules in
    let read = value_end c.args.a.now c.args.n.first (bit_count c.args.n.range) c.bit_count-count.result c.loop-k.k c.loop-k.value end c.bit_count-count.ensures.count c.loop-k.invariant.bits c.loop-k.invariant.less in
    sym read.0

pub returns-clause-below : goal.returns-clause-below
returns-clause-below c =
    let range = c.args.n.range in
    let end : c.loop-k.k ≡ c.bit_count-count.result = search rules in
    let read = value_end c.args.a.now c.args.n.first (bit_count range) c.bit_count-count.result c.loop-k.k c.loop-k.value end c.bit_count-count.ensures.count c.loop-k.invariant.bits c.loop-k.invariant.less in
    let enough : range ≤ 2 ^ bit_count range = subst (λ (b : ℕ). range ≤ 2 ^ b) c.bit_count-count.ensures.count c.bit_count-count.ensures.enough in
    value_read c.args.a.now c.args.n.first range c.loop-k.value enough c.requires.satisfied read.0 read.1
