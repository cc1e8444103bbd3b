use Rattle.std.proofs.Common.{◌≡◌, ◌+◌, ◌-◌, suc, true, false, rules, arith}
use Rattle.ilk_ints.specs.AtMost.{highest_bit_decides}
use Rattle.ilk_ints.specs.Named.{bound_count}
use Rattle.ilk_ints.proofs.TableParts.{bound_var_count-one}
use Rattle.ilk_ints.proofs.table.bounds_vars.Goals as goal
use Rattle.ilk_ints.proofs.table.bounds_vars.Goals.{then-not-highest_bit_decides, else-not-highest_bit_decides}

pub loop-preserved : goal.loop-preserved
loop-preserved c =
    let range = c.args.range in
    let k = c.loop.k in
    let all = bound_count range in
    let i = c.loop.counter in
    let more : suc (all - (i + 1)) ≡ all - i = omega (arith, c.loop-test.true, c.bound_count-end.ensures.count) in
    elim c.if-not-highest_bit_decides.branch [
      | then-not-highest_bit_decides w ↦
          (let is : highest_bit_decides range k ≡ false = search rules in
          let one = bound_var_count-one range k (all - (i + 1)) (all - i) false is more in
          record {
            place = omega (arith, c.loop.invariant.place);
            few = omega (arith, c.loop.invariant.few, w.count-is);
            rest = omega (arith, c.loop.invariant.rest, one, w.count-is);
          })
      | else-not-highest_bit_decides w ↦
          (let is : highest_bit_decides range k ≡ true = search rules in
          let one = bound_var_count-one range k (all - (i + 1)) (all - i) true is more in
          record {
            place = omega (arith, c.loop.invariant.place);
            few = omega (arith, c.loop.invariant.few, w.count-is);
            rest = omega (arith, c.loop.invariant.rest, one, w.count-is);
          })
    ]
