use Rattle.std.proofs.Common.{arith, map}
use Rattle.ilk_ir.specs.Form.{tree_of}
use Rattle.ilk_props.proofs.Made.{each_has, value_made, values_made}
use Rattle.ilk_props.proofs.start.each_is.Goals as goal

pub loop-v-preserved : goal.loop-v-preserved
loop-v-preserved c =
    value_made c.args.values.now c.loop-v.v c.at.result.now c.loop-v.each.items c.push.new.self.items c.value_is.result (each_has 0 c.args.values.now) c.at.ensures c.loop-v.invariant c.in_ok-push.ensures.items c.value_is.ensures

pub returns : goal.returns
returns c =
    values_made c.args.values.now c.loop-v.v (map tree_of c.loop-v.each.items) (each_has 0 c.args.values.now) (omega arith) c.loop-v.invariant
