use Rattle.std.proofs.Common.{◌==◌, ◌||◌, ◌∙◌, ap, ◌≤◌, arith}
use Rattle.std.specs.Int.{bit_at}
use Rattle.ilk_model.proofs.SharedSections.{bit, bit-own, bit_kept, bit_set}
use Rattle.ilk_model.proofs.shared.with_section.Goals as goal

pub returns-then-place-lt128 : goal.returns-then-place-lt128
returns-then-place-lt128 c x below =
    let bits = c.args.bits in
    bit_set bits c.place_of-place.result x (bit_at bits x == 1) c.if-place-lt128.true (bit-own bits x)
    ∙ ap (λ b. bit ((bit_at bits x == 1) || b)) (c.place_of-place.ensures x below)

pub returns-else-place-lt128 : goal.returns-else-place-lt128
returns-else-place-lt128 c x below =
    let bits = c.args.bits in
    let past : 128 ≤ c.place_of-place.result = omega (arith, c.if-place-lt128.false) in
    bit_kept bits c.place_of-place.result x (bit_at bits x == 1) past below (bit-own bits x)
    ∙ ap (λ b. bit ((bit_at bits x == 1) || b)) (c.place_of-place.ensures x below)
