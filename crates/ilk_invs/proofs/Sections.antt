use Rattle.std.proofs.Common.{◌≡◌, ℕ, ◌==◌, Bool, true, false, ◌||◌, List, ◌++◌, map, refl, sym, ◌∙◌, ap}
use Rattle.std.specs.List.{list_any}
use Rattle.std.proofs.lemmas.List.Folds.{list_any-append}
use Rattle.ilk_base.proofs.Tested.{list_any-map}
use Rattle.ilk_plant.specs.Network.{contains_section}
use Rattle.ilk_plant.specs.TableRules.{protecting_points_of, sections_locked_for}
use Rattle.ilk_plant.specs.declared.table.Listed.{Listed}
use Rattle.ilk_plant.specs.declared.table.Route.{Route}
use Rattle.ilk_routes.specs.Claims.{sections_outside_path}

pub of_points : (x : ℕ) (points : List Listed) → contains_section x (map (λ listed. listed.point) points) ≡ list_any (λ (listed : Listed). listed.point == x) points
of_points x points = list_any-map (λ y. y == x) (λ (listed : Listed). listed.point) points

pub of_both : (x : ℕ) (xs ys : List ℕ) → contains_section x (xs ++ ys) ≡ (contains_section x xs || contains_section x ys)
of_both x xs ys = list_any-append (λ y. y == x) xs ys

pub beside_route : (x : ℕ) (route : Route) → contains_section x (sections_outside_path route) ≡ (contains_section x route.overlap || list_any (λ (listed : Listed). listed.point == x) route.protecting_points)
beside_route x route =
    of_both x route.overlap (protecting_points_of route) ∙ ap (λ v. contains_section x route.overlap || v) (of_points x route.protecting_points)

pub sections_of_route : (x : ℕ) (route : Route) → contains_section x (sections_locked_for route) ≡ (contains_section x route.path || contains_section x (sections_outside_path route))
sections_of_route x route =
    of_both x (route.path ++ route.overlap) (protecting_points_of route)
    ∙ ap (λ v. v || contains_section x (protecting_points_of route)) (of_both x route.path route.overlap)
    ∙ grouped (contains_section x route.path) (contains_section x route.overlap) (contains_section x (protecting_points_of route))
    ∙ ap (λ v. contains_section x route.path || v) (sym (of_both x route.overlap (protecting_points_of route)))
  where
    grouped : (a b c : Bool) → ((a || b) || c) ≡ (a || (b || c))
    grouped true b c = refl
    grouped false b c = refl
