use Rattle.std.proofs.Common.{◌==◌, ◌||◌, ◌∙◌, get_or, sym, ap}
use Rattle.std.proofs.lemmas.List.Folds.{list_any_more}
use Rattle.ilk_base.proofs.bit_set.BitSet256.from_numbers.Goals as goal

pub loop-y-preserved : goal.loop-y-preserved
loop-y-preserved c x small =
    c.with-set.ensures x small
    ∙ ap (λ b. b || (get_or c.args.numbers.now c.loop-y.y-index 0 == x)) (c.loop-y.invariant x small)
    ∙ sym (list_any_more (λ m. m == x) c.args.numbers.now c.loop-y.y-index 0 c.loop-y-test.true)
