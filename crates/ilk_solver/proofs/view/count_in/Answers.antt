use Rattle.std.proofs.Common.{◌≡◌, ◌+◌, ◌-◌, ◌<◌, ◌∷◌, true, cond, List, Some, length, drop, get_or, arith, ap, sym, ◌∙◌}
use Rattle.std.specs.List.{slice_get}
use Rattle.std.proofs.lemmas.Option.{slice_get-get_or}
use Rattle.ilk_base.proofs.Lists.{drop_at}
use Rattle.ilk_base.proofs.Tested.{list_all-slice_get}
use Rattle.ilk_cnf.specs.Literal.{Literal, has_var, has_distinct_vars}
use Rattle.ilk_cnf.specs.Formula.{is_lit_over}
use Rattle.ilk_cnf.proofs.Literals.{is_lit_over-parts}
use Rattle.ilk_solver.proofs.Trees.{keeps-on}
use Rattle.ilk_solver.proofs.Weights.{counted-step, differ-drop}
use Rattle.ilk_solver.proofs.view.count_in.Goals as goal

pub loop-lit-preserved : goal.loop-lit-preserved
loop-lit-preserved c = record {
  weights = λ v from_1.
      (let w = c.loop-lit.weights in
      let clause = c.args.clause.now in
      let i = c.loop-lit.lit-index in
      let l = c.lit-item.result in
      let within : i < length clause = omega (arith, c.loop-lit-test.true) in
      let rest = drop (i + 1) clause in
      let next : drop i clause ≡ l ∷ rest = drop_at clause i l within c.lit-item.is in
      let differ : has_distinct_vars (l ∷ rest) ≡ true = ap has_distinct_vars (sym next) ∙ differ-drop clause i c.requires.differ in
      let stands : slice_get clause i ≡ Some l = slice_get-get_or clause i l within ∙ ap Some (sym c.lit-item.is) in
      let var = is_lit_over-parts (length c.args.weights.now) l (list_all-slice_get (is_lit_over (length c.args.weights.now)) clause i l c.requires.within stands) in
      let room : l.var - 1 < length w = omega (arith, var.0, var.1, c.loop-lit.auto.weights) in
      let step = counted-step w v l rest differ from_1 var.0 room in
      let kept = ap (λ (ls : List Literal). get_or w (v - 1) 0 + cond (has_var v ls) 1 0) (sym next) ∙ c.loop-lit.invariant.weights v from_1 in
      rw (c.add_one_weight.ensures.weights, c.var.ensures) (step ∙ kept));
  tree = c.add_one_weight.ensures.tree;
  leaves = keeps-on _ _ _ _ _ _ c.loop-lit.invariant.leaves c.add_one_weight.ensures.leaves;
}
