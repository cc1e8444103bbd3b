use Rattle.std.proofs.Common.{◌+◌, ◌∙◌, ap, sym, drop, arith}
use Rattle.std.proofs.lemmas.Grind.{common_steps}
use Rattle.std.proofs.lemmas.List.{drop_all}
use Rattle.ilk_routes.specs.Lies.{with_commands}
use Rattle.ilk_routes.proofs.Commands.{with_commands-after, with_commands-none}
use Rattle.ilk_routes.proofs.changes.command_points.Goals as goal
use Rattle.std.proofs.lemmas.List.{drop_more}

pub loop-listed-preserved : goal.loop-listed-preserved
loop-listed-preserved c =
    let i = c.loop-listed.listed-index in
    let xs = c.as_slice-listed-items.result.now in
    let p = c.args.plant.now in
    let points = c.loop-listed.points in
    let split = drop_more xs i _ (grind (arith, common_steps)) in
    record {
      long = c.command_point.ensures.long ∙ c.loop-listed.invariant.long;
      rest = rw c.command_point.ensures.points (with_commands-after p points _ (drop (i + 1) xs) ∙ ap (with_commands p points) (sym split) ∙ c.loop-listed.invariant.rest);
    }

pub returns-clause-points : goal.returns-clause-points
returns-clause-points c =
    let none = drop_all c.loop-listed.listed-index c.as_slice-listed-items.result.now (grind (arith, common_steps)) in
    sym (with_commands-none c.args.plant.now c.loop-listed.points) ∙ ap (with_commands c.args.plant.now c.loop-listed.points) (sym none) ∙ c.loop-listed.invariant.rest
