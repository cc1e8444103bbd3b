use Rattle.std.proofs.Common.{◌≡◌, drop}
use Rattle.ilk_plant.specs.Shape.{is_connected_chain}
use Rattle.ilk_plant.proofs.plant.Plant.is_connected_chain.Given as goal

abbrev pub invariant-loop-y : goal.invariant-loop-y
invariant-loop-y l = is_connected_chain l.self l.d l.x (drop l.y-index l.rest) ≡ is_connected_chain l.self l.d l.fn.first l.fn.rest
