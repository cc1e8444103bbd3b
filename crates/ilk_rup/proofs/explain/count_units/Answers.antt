use Rattle.std.proofs.Common.{◌∙◌, sym, ap, ℕ, ◌+◌, arith}
use Rattle.ilk_rup.proofs.Passing.{counted-more, counted-same}
use Rattle.ilk_rup.proofs.explain.count_units.Goals as goal
use Rattle.ilk_rup.proofs.explain.count_units.Goals.{then-unit_of-ne0, else-unit_of-ne0}

pub loop-i-preserved : goal.loop-i-preserved
loop-i-preserved c = elim c.if-unit_of-ne0.branch [
  | then-unit_of-ne0 w ↦ record {
    counted = w.count-is ∙ ap (λ (n : ℕ). n + 1) c.loop-i.invariant.counted
        ∙ sym (counted-more c.args.units.now c.args.needed.now.lits c.loop-i.i c.at.result c.at.ensures (λ e. w.if-unit_of-ne0.true (c.unit_of.ensures ∙ e)));
    few = omega (arith, w.count-is, c.loop-i.invariant.few);
  }
  | else-unit_of-ne0 w ↦ record {
    counted = w.count-is ∙ c.loop-i.invariant.counted
        ∙ sym (counted-same c.args.units.now c.args.needed.now.lits c.loop-i.i c.at.result c.at.ensures (sym c.unit_of.ensures ∙ w.if-unit_of-ne0.false));
    few = omega (arith, w.count-is, c.loop-i.invariant.few);
  }
]
