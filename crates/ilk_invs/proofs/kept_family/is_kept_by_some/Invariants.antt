use Rattle.std.proofs.Common.{◌≡◌, ◌∷◌, map, slice_get}
use Rattle.std.specs.List.{flat_map, range_with_len}
use Rattle.ilk_ir.specs.Form.{tree_of}
use Rattle.ilk_ir.specs.Tree.{negation}
use Rattle.ilk_invs.specs.Parts.{conditions_for_optional_value}
use Rattle.ilk_invs.specs.TrainFamilies.{route_retains_in_direction, body_at}
use Rattle.ilk_invs.proofs.kept_family.is_kept_by_some.Given as goal

abbrev pub invariant-loop-r : goal.invariant-loop-r
invariant-loop-r l =
    map tree_of l.forms.items ≡ negation (body_at l.plant l.d l.x) ∷ flat_map (λ q. conditions_for_optional_value (slice_get l.plant.routes q) (route_retains_in_direction l.plant l.d l.x q)) (range_with_len 0 l.r)
