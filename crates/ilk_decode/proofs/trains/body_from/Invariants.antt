use Rattle.std.proofs.Common.{◌≡◌, ◌-◌, ◌∷◌, ◌++◌, length}
use Rattle.ilk_layout.specs.Decoded.{iterates_until_none}
use Rattle.ilk_decode.specs.Read.{next_in_body}
use Rattle.ilk_decode.proofs.trains.body_from.Given as goal

abbrev pub invariant-loop-step : goal.invariant-loop-step
invariant-loop-step l =
    l.body ++ iterates_until_none (length l.plant.sections - l.step) (next_in_body l.plant l.s l.occupancies) l.x ≡ l.tail ∷ iterates_until_none (length l.plant.sections) (next_in_body l.plant l.s l.occupancies) l.tail
