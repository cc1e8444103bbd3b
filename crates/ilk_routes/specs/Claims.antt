-- The sections and points that a route locks and commands.
use Rattle.std.specs.Prelude.{ℕ, List, ◌++◌}
use Rattle.ilk_plant.specs.TableRules.{protecting_points_of}
use Rattle.ilk_plant.specs.declared.table.Listed.{Listed}
use Rattle.ilk_plant.specs.declared.table.Route.{Route}

-- The sections of a route's overlap and protecting points.
abbrev pub sections_outside_path : Route → List ℕ
sections_outside_path route = route.overlap ++ protecting_points_of route

-- The listed points and the protecting points of a route, with the positions that it requires.
abbrev pub required_points : Route → List Listed
required_points route = route.points ++ route.protecting_points
