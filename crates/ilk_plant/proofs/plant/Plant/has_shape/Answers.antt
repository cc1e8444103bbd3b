use Rattle.std.proofs.Common.{◌≡◌, true, rules, sym, ◌∙◌}
use Rattle.ilk_plant.proofs.Shapes.{shape-tests, shape-true}
use Rattle.ilk_plant.proofs.plant.Plant.has_shape.Goals as goal

pub returns-then-not-counts_fit : goal.returns-then-not-counts_fit
returns-then-not-counts_fit c =
    (λ h. cc, λ shape. let counts = (shape-tests c.args.self.now c.args.s.now shape).1 in cc)

pub returns : goal.returns
returns c =
    let lengths : c.has_lengths.result ≡ true = search rules in
    let counts : c.counts_fit.result ≡ true = search rules in (
      λ h. shape-true c.args.self.now c.args.s.now (c.has_lengths.ensures.0 lengths) (sym c.counts_fit.ensures ∙ counts) (sym c.has_bodies.ensures ∙ h),
      λ shape. c.has_bodies.ensures ∙ (shape-tests c.args.self.now c.args.s.now shape).2,
    )
