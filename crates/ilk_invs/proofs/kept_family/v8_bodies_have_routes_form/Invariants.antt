use Rattle.std.proofs.Common.{◌≡◌, ◌++◌, map}
use Rattle.std.specs.List.{flat_map, range_with_len}
use Rattle.ilk_ir.specs.Form.{tree_of}
use Rattle.ilk_plant.specs.declared.network.Dir.TheVariants.{Up, Down}
use Rattle.ilk_invs.specs.TrainFamilies.{body_has_route_set_at}
use Rattle.ilk_invs.proofs.kept_family.v8_bodies_have_routes_form.Given as goal

abbrev pub invariant-loop-x : goal.invariant-loop-x
invariant-loop-x l =
    map tree_of l.forms.items ≡ flat_map (λ x. body_has_route_set_at l.plant Up x ++ body_has_route_set_at l.plant Down x) (range_with_len 0 l.x)
