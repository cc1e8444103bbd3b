use Rattle.std.proofs.Common.{◌≡◌, [], ◌∷◌, drop, map}
use Rattle.std.specs.Prelude.{if◌then◌else◌}
use Rattle.std.specs.List.{flat_map, range_with_len}
use Rattle.ilk_ir.specs.Form.{tree_of}
use Rattle.ilk_plant.specs.Network.{contains_section}
use Rattle.ilk_layout.specs.Conditions.{is_released_count}
use Rattle.ilk_invs.proofs.held.section_on_unreleased_path.Given as goal

abbrev pub invariant-loop-count : goal.invariant-loop-count
invariant-loop-count l =
    map tree_of l.forms.items ≡ flat_map (λ c. if contains_section l.x (drop c l.path) then is_released_count l.r c ∷ [] else []) (range_with_len 0 l.count)
