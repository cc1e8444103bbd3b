use Rattle.std.proofs.Common.{◌≡◌, ℕ, true, ◌==◌, ◌&&◌, nat_le}
use Rattle.std.specs.List.{enumerate_from}
use Rattle.std.proofs.lemmas.Bool.{and_parts}
use Rattle.ilk_base.proofs.Numbered.{enumerated}
use Rattle.ilk_base.proofs.Tested.{list_any-at, list_any-from}
use Rattle.ilk_plant.specs.Network.{contains_section}
use Rattle.ilk_plant.specs.declared.state.RouteState.{RouteState}
use Rattle.ilk_plant.specs.declared.table.Route.{Route}
use Rattle.ilk_model.specs.Holding.{is_unreleased_on_path}

pub kept-on_path : (route : Route) (now : RouteState) (x : ℕ) → is_unreleased_on_path route now x ≡ true → contains_section x route.path ≡ true
kept-on_path route now x h =
    let found = list_any-at (λ (place : ℕ × ℕ). nat_le now.rel place.0 && (place.1 == x)) (enumerate_from 0 route.path) h in
    let it = enumerated 0 route.path found.0 found.1 found.2 in
    list_any-from (λ y. y == x) route.path found.0 found.1.1 it.1 (and_parts (nat_le now.rel found.1.0) (found.1.1 == x) found.3).1
