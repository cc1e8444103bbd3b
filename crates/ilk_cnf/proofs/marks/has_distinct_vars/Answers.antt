use Rattle.std.proofs.Common.{◌≡◌, ◌∙◌, ap, sym, false, true, take, get_or, length}
use Rattle.ilk_cnf.specs.Literal.{Literal, has_var}
use Rattle.ilk_cnf.specs.Marks.{is_marked}
use Rattle.ilk_cnf.proofs.MarkedVars.{marked-more, var-among, var-from_1, differ-more, differ-not}
use Rattle.ilk_cnf.proofs.marks.has_distinct_vars.Goals as goal

pub loop-lit-preserved : goal.loop-lit-preserved
loop-lit-preserved c =
    let is : c.var.result ≡ (get_or c.args.lits.now c.loop-lit.lit-index c.lit-item.result).var = c.var.ensures ∙ ap (λ (l : Literal). l.var) c.lit-item.is in
    let same = c.var-in-loop-lit.ensures ∙ ap (λ (l : Literal). l.var) c.lit-item.is in
    let low = var-from_1 (length c.args.marks.now) c.args.lits.now c.loop-lit.lit-index c.lit-item.result c.var.result c.requires c.loop-lit-test.true is in
    let among = var-among c.args.lits.now c.loop-lit.lit-index c.lit-item.result c.var.result c.loop-lit-test.true is in
    let away : has_var c.var.result (take c.loop-lit.lit-index c.args.lits.now) ≡ false =
    sym (c.loop-lit.invariant.marks c.var.result low among) ∙ sym c.is_marked.ensures ∙ c.if-is_marked.false in
    record {
      count = c.set_mark.ensures.count ∙ c.loop-lit.invariant.count;
      marks =
          λ v from_1 met. marked-more c.args.lits.now c.loop-lit.lit-index c.lit-item.result v
          c.var-in-loop-lit.result (is_marked c.loop-lit.marks v) _ c.loop-lit-test.true same
          (c.set_mark.ensures.marks v from_1) (c.loop-lit.invariant.marks v from_1 met);
      differ = differ-more c.args.lits.now c.loop-lit.lit-index c.lit-item.result c.var.result c.loop-lit-test.true is c.loop-lit.invariant.differ away;
    }

pub returns-then-is_marked-clause-differ : goal.returns-then-is_marked-clause-differ
returns-then-is_marked-clause-differ c =
    let is : c.var.result ≡ (get_or c.args.lits.now c.loop-lit.lit-index c.lit-item.result).var = c.var.ensures ∙ ap (λ (l : Literal). l.var) c.lit-item.is in
    let low = var-from_1 (length c.args.marks.now) c.args.lits.now c.loop-lit.lit-index c.lit-item.result c.var.result c.requires c.loop-lit-test.true is in
    let among = var-among c.args.lits.now c.loop-lit.lit-index c.lit-item.result c.var.result c.loop-lit-test.true is in
    let met : has_var c.var.result (take c.loop-lit.lit-index c.args.lits.now) ≡ true =
    sym (c.loop-lit.invariant.marks c.var.result low among) ∙ sym c.is_marked.ensures ∙ c.if-is_marked.true in
    sym (differ-not c.args.lits.now c.loop-lit.lit-index c.lit-item.result c.var.result c.loop-lit-test.true is met)
