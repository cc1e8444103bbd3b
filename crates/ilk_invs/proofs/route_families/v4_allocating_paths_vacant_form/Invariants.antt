use Rattle.std.proofs.Common.{◌≡◌, ◌∷◌, [], map, slice_get}
use Rattle.std.specs.List.{flat_map, range_with_len}
use Rattle.ilk_ir.specs.Form.{tree_of}
use Rattle.ilk_plant.specs.declared.state.Mode.TheVariants.{Allocating}
use Rattle.ilk_layout.specs.Conditions.{mode_is}
use Rattle.ilk_invs.specs.Parts.{each_of, implication, conditions_for_optional_value}
use Rattle.ilk_invs.specs.RouteFamilies.{path_vacant}
use Rattle.ilk_invs.proofs.route_families.v4_allocating_paths_vacant_form.Given as goal

abbrev pub invariant-loop-r : goal.invariant-loop-r
invariant-loop-r l =
    map tree_of l.forms.items ≡ flat_map (λ q. conditions_for_optional_value (slice_get l.plant.routes q) (λ route. implication (mode_is q Allocating) (each_of (path_vacant l.plant route)) ∷ [])) (range_with_len 0 l.r)
