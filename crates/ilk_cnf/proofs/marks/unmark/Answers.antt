use Rattle.std.proofs.Common.{◌∙◌, ap}
use Rattle.ilk_cnf.specs.Literal.{Literal}
use Rattle.ilk_cnf.specs.Marks.{is_marked}
use Rattle.ilk_cnf.proofs.MarkedVars.{unmarked-more}
use Rattle.ilk_cnf.proofs.marks.unmark.Goals as goal

pub loop-lit-preserved : goal.loop-lit-preserved
loop-lit-preserved c = record {
  count = c.set_mark.ensures.count ∙ c.loop-lit.invariant.count;
  marks =
      λ v from_1 met. unmarked-more c.args.lits.now c.loop-lit.lit-index c.lit-item.result v c.var.result
      (is_marked c.loop-lit.marks v) _ c.loop-lit-test.true
      (c.var.ensures ∙ ap (λ (l : Literal). l.var) c.lit-item.is) (c.set_mark.ensures.marks v from_1)
      (c.loop-lit.invariant.marks v from_1) met;
}
