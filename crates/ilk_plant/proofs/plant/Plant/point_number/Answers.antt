use Rattle.std.proofs.Common.{ap, arith, length, sym, subst, ◌<◌, ◌≡◌, ◌∙◌, IfSome, ℕ, Option}
use Rattle.ilk_plant.specs.Plant.{point_count, point_number}
use Rattle.ilk_plant.specs.Kept.{point_number_per_section}
use Rattle.ilk_plant.proofs.PointNumbers.{indexed-number, length-point_number_per_section, point_number-below}
use Rattle.ilk_plant.proofs.plant.Plant.point_number.Goals as goal

pub returns-clause-number : goal.returns-clause-number
returns-clause-number c =
    indexed-number c.args.self.now c.self.inside.point_number_per_section c.args.x c.at.result.now (c.self.invariant.points ∙ ap point_number_per_section c.self.view_is) c.requires c.at.ensures

pub returns-clause-known : goal.returns-clause-known
returns-clause-known c =
    let number : c.at.result.now ≡ point_number c.args.self.now c.args.x = indexed-number c.args.self.now c.self.inside.point_number_per_section c.args.x c.at.result.now
    (c.self.invariant.points ∙ ap point_number_per_section c.self.view_is) c.requires c.at.ensures in
    let P : Option ℕ → Type 0 = λ o. IfSome o (λ n. n < point_count c.args.self.now) in
    subst P (sym number) (point_number-below c.args.self.now c.args.x)

pub at-requires : goal.at-requires
at-requires c =
    let index : length c.self.inside.point_number_per_section ≡ length (point_number_per_section c.args.self.now) = ap length (c.self.invariant.points ∙ ap point_number_per_section c.self.view_is) in
    omega (arith, index, length-point_number_per_section c.args.self.now, c.requires)
