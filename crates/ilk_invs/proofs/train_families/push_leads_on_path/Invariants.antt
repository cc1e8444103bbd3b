use Rattle.std.proofs.Common.{◌≡◌, ◌==◌, ◌++◌, ◌∷◌, [], drop, map}
use Rattle.std.specs.Prelude.{if◌then◌else◌}
use Rattle.std.specs.List.{enumerate_from, flat_map}
use Rattle.ilk_ir.specs.Form.{tree_of}
use Rattle.ilk_invs.specs.TrainFamilies.{route_set_and_clear_past}
use Rattle.ilk_invs.proofs.train_families.push_leads_on_path.Given as goal

abbrev pub invariant-loop-i : goal.invariant-loop-i
invariant-loop-i l =
    map tree_of l.forms.items ++ flat_map (λ place. if place.1 == l.x then route_set_and_clear_past l.plant l.r l.route place.0 ∷ [] else []) (enumerate_from l.i (drop l.i l.path))
    ≡ map tree_of l.initial.forms.items ++ flat_map (λ place. if place.1 == l.x then route_set_and_clear_past l.plant l.r l.route place.0 ∷ [] else []) (enumerate_from 0 l.path)
