use Rattle.std.proofs.Common.{◌≡◌, map, slice_get}
use Rattle.std.specs.List.{flat_map, range_with_len}
use Rattle.ilk_ir.specs.Form.{tree_of}
use Rattle.ilk_invs.specs.HoldFamilies.{held_sections_have_locks}
use Rattle.ilk_invs.specs.Parts.{conditions_for_optional_value}
use Rattle.ilk_invs.proofs.lock_family.v3_locks_match_routes_form.Given as goal

abbrev pub invariant-loop-r : goal.invariant-loop-r
invariant-loop-r l =
    map tree_of l.forms.items ≡ flat_map (λ q. conditions_for_optional_value (slice_get l.plant.routes q) (held_sections_have_locks l.plant q)) (range_with_len 0 l.r)
