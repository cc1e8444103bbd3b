use Rattle.std.proofs.Common.{◌≡◌, ◌∷◌, [], map, slice_get}
use Rattle.std.specs.List.{flat_map, range_with_len}
use Rattle.ilk_ir.specs.Form.{tree_of}
use Rattle.ilk_invs.specs.Parts.{conditions_for_optional_value}
use Rattle.ilk_invs.specs.RouteFamilies.{counts_are_consistent}
use Rattle.ilk_invs.proofs.route_families.v1_consistent_counts_form.Given as goal

abbrev pub invariant-loop-r : goal.invariant-loop-r
invariant-loop-r l =
    map tree_of l.forms.items ≡ flat_map (λ q. conditions_for_optional_value (slice_get l.plant.routes q) (λ route. counts_are_consistent q route ∷ [])) (range_with_len 0 l.r)
