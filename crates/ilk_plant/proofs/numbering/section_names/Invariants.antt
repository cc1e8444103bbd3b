use Rattle.std.proofs.Common.{◌≡◌, take}
use Rattle.ilk_plant.specs.Draft.{names_of_sections}
use Rattle.ilk_plant.proofs.numbering.section_names.Given as goal

abbrev pub invariant-loop-section : goal.invariant-loop-section
invariant-loop-section l = l.names ≡ names_of_sections (take l.section-index l.section-items)
