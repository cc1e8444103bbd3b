use Rattle.std.proofs.Common.{◌≡◌, ◌++◌, ◌∷◌, flat_map, take}
use Rattle.std.specs.Prelude.{string_bytes}
use Rattle.ilk_replay.proofs.state_writing.push_names.Given as goal
use Rattle.ilk_replay.specs.RunText.{name_at_index_or_empty}

abbrev pub invariant-loop-x : goal.invariant-loop-x
invariant-loop-x l =
    string_bytes l.text ≡ string_bytes l.initial.text ++ flat_map (λ x. 32 ∷ name_at_index_or_empty l.plant.section_names x) (take l.x-index l.body)
