-- The meaning of the combinators for a state, by its image.
use Rattle.std.proofs.Common.{◌≡◌, ℕ, ◌<◌, Bool, true, false, not, ◌&&◌, ◌||◌, Some, None, List, [], ◌∷◌, length, map, slice_get, refl, ◌∙◌, ap, arith}
use Rattle.std.proofs.Math.Bool.{or-false}
use Rattle.std.specs.Prelude.{if◌then◌else◌}
use Rattle.std.specs.List.{enumerate_from, list_all, list_any, range_with_len}
use Rattle.std.proofs.lemmas.List.Folds.{list_all-map}
use Rattle.std.proofs.lemmas.Option.{slice_get_within}
use Rattle.ilk_base.proofs.Lists.{item_at}
use Rattle.ilk_base.proofs.ListTests.{list_all-alike, list_all-flat_map, list_any-alike}
use Rattle.ilk_base.proofs.Ranges.{range_within}
use Rattle.ilk_base.proofs.Numbered.{enumerated}
use Rattle.ilk_ir.specs.Tree.{Tree, tree_holds}
use Rattle.ilk_ir.proofs.Trees.{all_of-holds, any_of-holds}
use Rattle.ilk_plant.specs.Plant.{PlantLists}
use Rattle.ilk_plant.specs.Shape.{HasShape}
use Rattle.ilk_plant.specs.declared.state.RouteState.{RouteState}
use Rattle.ilk_plant.specs.declared.state.State.{State}
use Rattle.ilk_plant.specs.declared.table.Route.{Route}
use Rattle.ilk_model.specs.Hazard.{hazard}
use Rattle.ilk_model.specs.Holding.{all_path_indices_pass_test, all_routes_pass_test, is_vacant, route_passes_test, any_path_index_passes_test, any_route_passes_test}
use Rattle.ilk_layout.specs.Image.{image_of}
use Rattle.ilk_layout.specs.Conditions.{no_train_at}
use Rattle.ilk_layout.proofs.ConditionValues.{vacant-holds}
use Rattle.ilk_invs.specs.Parts.{with_one_literal_mark, conditions_for_optional_value, each_of, conditions_of_each_path_index, conditions_of_each_route, some_of, implication}
use Rattle.ilk_invs.proofs.Tests.{list_any-flat_map}

pub then-this : (a b : Bool) → (not a || (b || false)) ≡ (if a then b else true)
then-this true true = refl
then-this true false = refl
then-this false b = refl

pub each_of-holds : (values : List ℕ) (ts : List Tree) → tree_holds values (each_of ts) ≡ list_all (tree_holds values) ts
each_of-holds values ts = all_of-holds values ts

pub some_of-holds : (values : List ℕ) (ts : List Tree) → tree_holds values (some_of ts) ≡ list_any (tree_holds values) ts
some_of-holds values ts = any_of-holds values ts

pub where-holds : (values : List ℕ) (t u : Tree) (a b : Bool) → tree_holds values t ≡ a → tree_holds values u ≡ b → tree_holds values (implication t u) ≡ (if a then b else true)
where-holds values t u a b one two = rw (one, two) (then-this a b)

pub marked_pair-holds : (values : List ℕ) (t u : Tree) (a b : Bool) → tree_holds values t ≡ a → tree_holds values u ≡ b → tree_holds values (with_one_literal_mark (each_of (t ∷ u ∷ []))) ≡ (a && b)
marked_pair-holds values t u a b one two = rw (one, two) (both a b)
  where
    both : (a b : Bool) → not (not (a && (b && true))) ≡ (a && b)
    both true true = refl
    both true false = refl
    both false b = refl

pub any-if : (values : List ℕ) (t : Tree) (b : Bool) → list_any (tree_holds values) (if b then t ∷ [] else []) ≡ (b && tree_holds values t)
any-if values t true = or-false (tree_holds values t)
any-if values t false = refl

pub each-place : (values : List ℕ) (route : Route) (f : ℕ → ℕ → List Tree) (test : ℕ → ℕ → Bool) →
    ((i x : ℕ) → slice_get route.path i ≡ Some x → list_all (tree_holds values) (f i x) ≡ test i x) →
    list_all (tree_holds values) (conditions_of_each_path_index route f) ≡ all_path_indices_pass_test route test
each-place values route f test same =
    list_all-flat_map (tree_holds values) (λ place. f place.0 place.1) (enumerate_from 0 route.path)
    ∙ list_all-alike (λ place. list_all (tree_holds values) (f place.0 place.1)) (λ place. test place.0 place.1) (enumerate_from 0 route.path) (λ i place at.
    let it = enumerated 0 route.path i place at in
    let number : place.0 ≡ i = it.0 ∙ omega arith in
    same place.0 place.1 (ap (slice_get route.path) number ∙ it.1))

pub some-place : (values : List ℕ) (route : Route) (f : ℕ → ℕ → List Tree) (test : ℕ → ℕ → Bool) →
    ((i x : ℕ) → slice_get route.path i ≡ Some x → list_any (tree_holds values) (f i x) ≡ test i x) →
    list_any (tree_holds values) (conditions_of_each_path_index route f) ≡ any_path_index_passes_test route test
some-place values route f test same =
    list_any-flat_map (tree_holds values) (λ place. f place.0 place.1) (enumerate_from 0 route.path)
    ∙ list_any-alike (λ place. list_any (tree_holds values) (f place.0 place.1)) (λ place. test place.0 place.1) (enumerate_from 0 route.path) (λ i place at.
    let it = enumerated 0 route.path i place at in
    let number : place.0 ≡ i = it.0 ∙ omega arith in
    same place.0 place.1 (ap (slice_get route.path) number ∙ it.1))

module _ (p : PlantLists) (s : State) (shape : HasShape p s) where
  pub state_of_route : (r : ℕ) (route : Route) → slice_get p.routes r ≡ Some route → (now : RouteState) × (slice_get s.routes r ≡ Some now)
  state_of_route r route known =
      let within = slice_get_within p.routes r route known in
      let count = shape.routes in
      item_at s.routes r (omega arith)

  pub each-route : (values : List ℕ) (f : ℕ → Route → List Tree) (test : Route → RouteState → Bool) →
      ((r : ℕ) (route : Route) (now : RouteState) → slice_get p.routes r ≡ Some route →
      slice_get s.routes r ≡ Some now → list_all (tree_holds values) (f r route) ≡ test route now) →
      list_all (tree_holds values) (conditions_of_each_route p f) ≡ all_routes_pass_test p s test
  each-route values f test same =
      list_all-flat_map (tree_holds values) (λ r. conditions_for_optional_value (slice_get p.routes r) (f r)) (range_with_len 0 (length p.routes))
      ∙ list_all-alike (λ r. list_all (tree_holds values) (conditions_for_optional_value (slice_get p.routes r) (f r))) (λ r. route_passes_test p s r test) (range_with_len 0 (length p.routes)) (λ i r at. of_number r (range_within
      (length p.routes) i r at).1)
    where
      of_number : (r : ℕ) → r < length p.routes → list_all (tree_holds values) (conditions_for_optional_value (slice_get p.routes r) (f r)) ≡ route_passes_test p s r test
      of_number r within =
          let route = item_at p.routes r within in
          let now = state_of_route r route.0 route.1 in
          rw (route.1, now.1) (same r route.0 now.0 route.1 now.1)

  pub some-route : (values : List ℕ) (f : ℕ → Route → List Tree) (test : Route → RouteState → Bool) →
      ((r : ℕ) (route : Route) (now : RouteState) → slice_get p.routes r ≡ Some route →
      slice_get s.routes r ≡ Some now → list_any (tree_holds values) (f r route) ≡ test route now) →
      list_any (tree_holds values) (conditions_of_each_route p f) ≡ any_route_passes_test p s test
  some-route values f test same =
      list_any-flat_map (tree_holds values) (λ r. conditions_for_optional_value (slice_get p.routes r) (f r)) (range_with_len 0 (length p.routes))
      ∙ list_any-alike (λ r. list_any (tree_holds values) (conditions_for_optional_value (slice_get p.routes r) (f r))) (λ r. route_passes_test p s r test) (range_with_len 0 (length p.routes)) (λ i r at. of_number r (range_within
      (length p.routes) i r at).1)
    where
      of_number : (r : ℕ) → r < length p.routes → list_any (tree_holds values) (conditions_for_optional_value (slice_get p.routes r) (f r)) ≡ route_passes_test p s r test
      of_number r within =
          let route = item_at p.routes r within in
          let now = state_of_route r route.0 route.1 in
          rw (route.1, now.1) (same r route.0 now.0 route.1 now.1)

  pub vacant-all : hazard p s ≡ None → (xs : List ℕ) → ((i x : ℕ) → slice_get xs i ≡ Some x → x < length p.sections) → list_all (tree_holds (image_of p s)) (map (no_train_at p) xs) ≡ list_all (is_vacant s) xs
  vacant-all calm xs known =
      list_all-map (tree_holds (image_of p s)) (no_train_at p) xs
      ∙ list_all-alike (λ x. tree_holds (image_of p s) (no_train_at p x)) (is_vacant s) xs (λ i x at. vacant-holds p s shape calm x (known i x at))
