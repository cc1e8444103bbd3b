-- The numbers of rules of the events of routes.
use Rattle.std.proofs.Common.{◌≡◌, ℕ, ◌-◌, ◌<◌, Some, None, List, length, map, slice_get, take, refl, ◌∙◌, arith}
use Rattle.std.specs.List.{enumerate_from, last_or}
use Rattle.std.proofs.lemmas.List.{length-map, length-take-le}
use Rattle.std.proofs.lemmas.List.FromFn.{length-enumerate_from}
use Rattle.ilk_base.proofs.Lists.{item_at, last_or-at}
use Rattle.ilk_plant.specs.ColumnRules.{all_but_last}
use Rattle.ilk_plant.specs.Plant.{PlantLists}
use Rattle.ilk_plant.specs.declared.table.Route.{Route}
use Rattle.ilk_behave.specs.RouteRules.{release_rule_at_index, rules_of_cancel, rules_of_finish, rules_of_release, rules_of_sense, sense_rule_at_index}

placed : {X R : Type 0} (f : ℕ → X → R) (xs : List X) → length (map (λ place. f place.0 place.1) (enumerate_from 0 xs)) ≡ length xs
placed f xs = length-map (enumerate_from 0 xs) (λ place. f place.0 place.1) ∙ length-enumerate_from 0 xs

pub sense-count : (p : PlantLists) (r : ℕ) (route : Route) → slice_get p.routes r ≡ Some route → length (rules_of_sense p r) ≡ length route.path
sense-count p r route known = rw known (placed (sense_rule_at_index p r route) route.path)

taken : {X : Type 0} (xs : List X) → length (take (length xs - 1) xs) ≡ length xs - 1
taken xs = length-take-le (length xs - 1) xs (omega arith)

pub release-count : (p : PlantLists) (r : ℕ) (route : Route) → slice_get p.routes r ≡ Some route → length (rules_of_release p r) ≡ length route.path - 1
release-count p r route known = rw known (placed (release_rule_at_index p r route) (all_but_last route.path) ∙ taken route.path)

pub finish-count : (p : PlantLists) (r : ℕ) (route : Route) → slice_get p.routes r ≡ Some route → 0 < length route.path → length (rules_of_finish p r) ≡ 1
finish-count p r route known some =
    let last = item_at route.path (length route.path - 1) (omega arith) in
    let is : last_or None route.path ≡ Some last.0 = last_or-at None route.path (length route.path - 1) last.0 (omega arith) last.1 in
    rw (known, is) refl

pub cancel-count : (p : PlantLists) (r : ℕ) (route : Route) → slice_get p.routes r ≡ Some route → length (rules_of_cancel p r) ≡ 2
cancel-count p r route known = rw known refl
