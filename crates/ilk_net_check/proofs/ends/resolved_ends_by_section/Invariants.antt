use Rattle.std.proofs.Common.{◌≡◌, map, take}
use Rattle.ilk_plant.specs.Plant.{first_number_named}
use Rattle.ilk_net_check.specs.Numbers.{resolved_ends_of_section}
use Rattle.ilk_net_check.proofs.ends.resolved_ends_by_section.Given as goal

abbrev pub invariant-loop-section : goal.invariant-loop-section
invariant-loop-section l =
    l.made ≡ map (λ section. resolved_ends_of_section (first_number_named l.names) section.kind) (take l.section-index l.sections)
