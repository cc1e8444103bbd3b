use Rattle.std.proofs.Common.{◌≡◌, map}
use Rattle.std.specs.List.{range_with_len}
use Rattle.ilk_ir.specs.Form.{tree_of}
use Rattle.ilk_invs.specs.RouteFamilies.{open_only_for_route}
use Rattle.ilk_invs.proofs.route_families.v5_open_needs_locked_form.Given as goal

abbrev pub invariant-loop-m : goal.invariant-loop-m
invariant-loop-m l =
    map tree_of l.forms.items ≡ map (open_only_for_route l.plant) (range_with_len 0 l.m)
