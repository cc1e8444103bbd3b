-- The draft of a plant's network: its sections and boards in order, with names in place of numbers.
use Rattle.std.specs.Prelude.{ℕ, map, option_map}
use Rattle.std.specs.List.{enumerate_from}
use Rattle.ilk_plant.specs.Plant.{PlantLists}
use Rattle.ilk_plant.specs.declared.draft.KindDraft.{KindDraft}
use Rattle.ilk_plant.specs.declared.draft.KindDraft.TheVariants.{Linear as LinearDraft, Point as PointDraft}
use Rattle.ilk_plant.specs.declared.draft.NetDraft.{NetDraft}
use Rattle.ilk_plant.specs.declared.draft.SectionDraft.{SectionDraft}
use Rattle.ilk_plant.specs.declared.network.Section.{Section}
use Rattle.ilk_plant.specs.declared.network.Section.TheVariants.{Linear, Point}
use Rattle.ilk_tablegen.specs.Table.{nth_name_or_empty}

-- The draft of a section's kind: linear or point, with the names of its neighbours and boards.
abbrev pub kind_draft : PlantLists → Section → KindDraft
kind_draft p (Linear down up board_down board_up) =
    LinearDraft (option_map (nth_name_or_empty p.section_names) down) (option_map (nth_name_or_empty p.section_names) up) (option_map (nth_name_or_empty p.board_names) board_down) (option_map (nth_name_or_empty p.board_names) board_up)
kind_draft p (Point stem plus minus faces) =
    PointDraft (nth_name_or_empty p.section_names stem) (nth_name_or_empty p.section_names plus) (nth_name_or_empty p.section_names minus) faces

-- The draft of section number `x`, with its name.
abbrev pub section_draft : PlantLists → ℕ → Section → SectionDraft
section_draft p x section = record { name = nth_name_or_empty p.section_names x; kind = kind_draft p section }

-- The draft of a plant's network, independent of its routes.
abbrev pub network_draft : PlantLists → NetDraft
network_draft p = record { sections = map (λ numbered. section_draft p numbered.0 numbered.1) (enumerate_from 0 p.sections) }
