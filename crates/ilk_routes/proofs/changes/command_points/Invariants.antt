use Rattle.std.proofs.Common.{◌≡◌, length, drop}
use Rattle.ilk_routes.specs.Lies.{with_commands}
use Rattle.ilk_routes.proofs.changes.command_points.Given as goal

abbrev pub invariant-loop-listed : goal.invariant-loop-listed
invariant-loop-listed l =
    record {
      long : length l.points ≡ length l.fn.points;
      rest : with_commands l.plant l.points (drop l.listed-index l.listed-items) ≡ with_commands l.plant l.fn.points l.fn.listed_points;
    }
