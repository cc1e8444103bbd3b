use Rattle.std.proofs.Common.{◌≡◌, ◌+◌, ◌==◌, ◌&&◌, ◌||◌, drop, nat_le, ℕ, Bool}
use Rattle.std.specs.List.{enumerate_from, list_all, list_any}
use Rattle.ilk_plant.specs.declared.state.Aspect.TheVariants.{Closed}
use Rattle.ilk_plant.specs.declared.state.Mode.TheVariants.{Locked, Occupied}
use Rattle.ilk_routes.specs.Boards.{has_aspect}
use Rattle.ilk_routes.specs.Modes.{same_mode}
use Rattle.ilk_model.specs.Holding.{is_vacant, route_runs_in_direction, any_path_index_passes_test}
use Rattle.ilk_model.proofs.train_families.leads.Given as goal

abbrev pub invariant-loop-i : goal.invariant-loop-i
invariant-loop-i l =
    list_any (λ place. leads_at place.0 place.1) (enumerate_from l.i (drop l.i l.path)) ≡ any_path_index_passes_test l.route leads_at
  where
    leads_at : ℕ → ℕ → Bool
    leads_at i y =
        (y == l.x)
        && route_runs_in_direction l.plant l.d l.route
        && (same_mode l.now.mode Occupied || (same_mode l.now.mode Locked && has_aspect l.s l.route.source Closed))
        && nat_le l.now.seen (i + 1)
        && list_all (is_vacant l.s) (drop (i + 1) l.route.path)
