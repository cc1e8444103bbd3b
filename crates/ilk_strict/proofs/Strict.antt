-- A table is strict if it keeps C1, C7 and the used parts of C2 and C3, and so if it breaks no
-- column rule.
use Rattle.std.proofs.Common.{◌≡◌, ℕ, zero, suc, ◌+◌, Bool, true, false, not, ◌==◌, ◌&&◌, ◌||◌, Option, Some, None, List, [], ◌∷◌, drop, length, nat_lt, slice_get, take, refl, sym, ap, ◌∙◌, subst, arith}
use Rattle.std.proofs.lemmas.Bool.{and_parts, eqb-true}
use Rattle.std.proofs.lemmas.Option.{same_Some, slice_get_within}
use Rattle.ilk_base.specs.Option.{is_some_and}
use Rattle.ilk_base.proofs.FlatMaps.{flat_map-none}
use Rattle.ilk_base.proofs.Lists.{last_or-at}
use Rattle.ilk_base.proofs.Options.{some-and}
use Rattle.ilk_plant.specs.ColumnRules.{breaks_column_rule_at, broken_for_column_rule, all_column_rules, column_rules_broken, ends_at_destination_or_border, has_no_board, destination_is_first_board, is_border_without_board, is_listed_towards_any_section, path_destination_is_first_board, is_path_connected_from_source, path_and_overlap_points_listed, points_listed_along_sections, source_satisfies}
use Rattle.ilk_plant.specs.Network.{contains_section, last_of}
use Rattle.ilk_plant.specs.Plant.{PlantLists, inward_direction_if_border, board_of, is_point_section, next_to}
use Rattle.ilk_plant.specs.Shape.{is_connected_chain}
use Rattle.ilk_plant.specs.TableRules.{route_fails}
use Rattle.ilk_plant.specs.declared.broken.Rule.{Rule}
use Rattle.ilk_plant.specs.declared.broken.Rule.TheVariants.{C1, C2, C3, C7}
use Rattle.ilk_plant.specs.declared.network.Board.{Board}
use Rattle.ilk_plant.specs.declared.network.Dir.{Dir}
use Rattle.ilk_plant.specs.declared.table.Listed.{Listed}
use Rattle.ilk_plant.specs.declared.table.Route.{Route}
use Rattle.ilk_plant.proofs.RoutesOf.{route-passes}
use Rattle.ilk_plant.proofs.Rules.{rule-kept}
use Rattle.ilk_motion.proofs.Shape.{inward_direction_if_border-known}
use Rattle.ilk_model.specs.Holding.{continues_without_board}
use Rattle.ilk_strict.specs.IsStrict.{IsRouteWithSource, IsStrict, KeepsPathRules, does_not_end_between_boards, path_points_listed_along_path}

source-passes : (p : PlantLists) (r : ℕ) (route : Route) (source : Board) (test : Board → Bool) → IsRouteWithSource p r route source → source_satisfies p route test ≡ true → test source ≡ true
source-passes p r route source test it h = rw it.begins at h

leads-at : (p : PlantLists) (d : Dir) (x : ℕ) (rest : List ℕ) → is_connected_chain p d x rest ≡ true → (k y z : ℕ) → slice_get (x ∷ rest) k ≡ Some y → slice_get rest k ≡ Some z → contains_section z (next_to p y d) ≡ true
leads-at p d x [] h k y z at also = cc
leads-at p d x (w ∷ rest) h zero y z at also =
    let here : x ≡ y = same_Some x y at in
    let there : w ≡ z = same_Some w z also in
    rw (here, there) at (and_parts (contains_section w (next_to p x d)) (is_connected_chain p d w rest) h).0
leads-at p d x (w ∷ rest) h (suc k) y z at also =
    leads-at p d w rest (and_parts (contains_section w (next_to p x d)) (is_connected_chain p d w rest) h).1 k y z at also

listed_if : (a b : Bool) → a ≡ true → (not a || b) ≡ true → b ≡ true
listed_if a b e h = rw e at h

points-at : (p : PlantLists) (points : List Listed) (before : ℕ) (path : List ℕ) →
    points_listed_along_sections p points before path ≡ true → (k b x : ℕ) → slice_get (before ∷ path) k ≡ Some b →
    slice_get path k ≡ Some x → is_point_section p x ≡ true →
    is_listed_towards_any_section p points (b ∷ take 1 (drop (suc k) path)) x ≡ true
points-at p points before [] h k b x at also is_point = cc
points-at p points before (y ∷ path) h zero b x at also is_point =
    let here : before ≡ b = same_Some before b at in
    let there : y ≡ x = same_Some y x also in
    let first : (not (is_point_section p y) || is_listed_towards_any_section p points (before ∷ take 1 path) y) ≡ true = (and_parts (not (is_point_section p y) || is_listed_towards_any_section p points (before ∷ take 1 path) y)
    (points_listed_along_sections p points y path) h).0 in
    let Before : ℕ → Type 0 = λ a. (not (is_point_section p y) || is_listed_towards_any_section p points (a ∷ take 1 path) y) ≡ true in
    let Here : ℕ → Type 0 = λ z. (not (is_point_section p z) || is_listed_towards_any_section p points (b ∷ take 1 path) z) ≡ true in
    listed_if (is_point_section p x) (is_listed_towards_any_section p points (b ∷ take 1 path) x) is_point (subst Here there (subst Before here first))
points-at p points before (y ∷ path) h (suc k) b x at also is_point =
    points-at p points y path (and_parts (not (is_point_section p y) || is_listed_towards_any_section p points (before ∷ take 1 path) y) (points_listed_along_sections p points y path) h).1 k b x at also is_point

end-not_plain : (p : PlantLists) (d : Dir) (destination : Option ℕ) (x : ℕ) → ends_at_destination_or_border p d destination x ≡ true → continues_without_board p d x ≡ false
end-not_plain p d (Some m) x h =
    let board = some-and (board_of p x d) (λ n. n == m) h in rw board.1 refl
end-not_plain p d None x h =
    let none : length (next_to p x d) ≡ 0 = eqb-true (length (next_to p x d)) 0 h in
    nothing (has_no_board p d x) (length (next_to p x d)) none
  where
    nothing : (b : Bool) (n : ℕ) → n ≡ 0 → (b && nat_lt 0 n) ≡ false
    nothing true n e = rw e refl
    nothing false n e = refl

last-not_plain : (p : PlantLists) (d : Dir) (path : List ℕ) → is_some_and (last_of path) (λ y. not (continues_without_board p d y)) ≡ true → (k x : ℕ) → slice_get path k ≡ Some x → k + 1 ≡ length path → continues_without_board p d x ≡ false
last-not_plain p d path h k x at last =
    let ending = some-and (last_of path) (λ y. not (continues_without_board p d y)) h in
    let same : ending.0 ≡ x = same_Some ending.0 x (sym ending.1 ∙ last_or-at None path k x last at) in
    isnt (continues_without_board p d x) (rw same at ending.2)
  where
    isnt : (b : Bool) → not b ≡ true → b ≡ false
    isnt true h = sym h
    isnt false h = refl

inward_direction_if_border-has_board : (p : PlantLists) (x : ℕ) (d : Dir) → is_border_without_board p x ≡ false → inward_direction_if_border p x ≡ Some d → has_no_board p d x ≡ false
inward_direction_if_border-has_board p x d h at = rw at at h

pub strict_from_rules : (p : PlantLists) → KeepsPathRules p → IsStrict p
strict_from_rules p rules = record {
  leads = λ r route source it k x y at also.
      leads-at p source.dir source.section route.path
      (source-passes p r route source (λ b. is_connected_chain p b.dir b.section route.path) it
      (route-passes p (is_path_connected_from_source p) r route
      (rules.c1 r (slice_get_within p.routes r route it.known)) it.known)) k x y at also;
  ends = λ r route source it k x at last.
      last-not_plain p source.dir route.path
      (source-passes p r route source
      (λ b. is_some_and (last_of route.path) (λ y. not (continues_without_board p b.dir y))) it
      (route-passes p (does_not_end_between_boards p) r route
      (rules.c2 r (slice_get_within p.routes r route it.known)) it.known)) k x at last;
  points = λ r route source it k before x at also is_point.
      let Next : ℕ → Type 0 = λ n. is_listed_towards_any_section p route.points (before ∷ take 1 (drop n route.path)) x ≡ true in
      let next : suc k ≡ k + 1 = omega arith in
      subst Next next
      (points-at p route.points source.section route.path
      (source-passes p r route source (λ b. points_listed_along_sections p route.points b.section route.path)
      it
      (route-passes p (path_points_listed_along_path p) r route
      (rules.c3 r (slice_get_within p.routes r route it.known)) it.known)) k before x at
      also is_point);
  borders = λ x d at. inward_direction_if_border-has_board p x d (rules.c7 x (inward_direction_if_border-known p x d at)) at;
}

part-fails : (p : PlantLists) (i : ℕ) → route_fails p (path_and_overlap_points_listed p) i ≡ false → route_fails p (path_points_listed_along_path p) i ≡ false
part-fails p i h = of_route (slice_get p.routes i) h
  where
    first : (a b : Bool) → not (a && b) ≡ false → not a ≡ false
    first true b h = refl
    first false b h = h

    of_route : (o : Option Route) → is_some_and o (λ route. not (path_and_overlap_points_listed p route)) ≡ false → is_some_and o (λ route. not (path_points_listed_along_path p route)) ≡ false
    of_route None h = refl
    of_route (Some route) h = first (path_points_listed_along_path p route) _ h

end-fails : (p : PlantLists) (i : ℕ) → route_fails p (path_destination_is_first_board p) i ≡ false → route_fails p (does_not_end_between_boards p) i ≡ false
end-fails p i h = of_route (slice_get p.routes i) h
  where
    of_last : (d : Dir) (destination : Option ℕ) (o : Option ℕ) → is_some_and o (ends_at_destination_or_border p d destination) ≡ true → is_some_and o (λ y. not (continues_without_board p d y)) ≡ true
    of_last d destination None h = h
    of_last d destination (Some x) h = ap not (end-not_plain p d destination x h)

    of_source : (destination : Option ℕ) (path : List ℕ) (o : Option Board) → is_some_and o (λ b. destination_is_first_board p b.dir destination path) ≡ true
        → is_some_and o (λ b. is_some_and (last_of path) (λ y. not (continues_without_board p b.dir y))) ≡ true
    of_source destination path None h = h
    of_source destination path (Some b) h = of_last b.dir destination (last_of path) (and_parts _ (is_some_and (last_of path) (ends_at_destination_or_border p b.dir destination)) h).1

    passes : (a b : Bool) → (a ≡ true → b ≡ true) → not a ≡ false → not b ≡ false
    passes true b leads h = ap not (leads refl)
    passes false b leads h = cc

    of_route : (o : Option Route) → is_some_and o (λ route. not (path_destination_is_first_board p route)) ≡ false → is_some_and o (λ route. not (does_not_end_between_boards p route)) ≡ false
    of_route None h = refl
    of_route (Some route) h = passes (path_destination_is_first_board p route) (does_not_end_between_boards p route) (of_source route.destination route.path (slice_get p.boards route.source)) h

pub rules-from_list : (p : PlantLists) → column_rules_broken p ≡ [] → KeepsPathRules p
rules-from_list p e = record {
  c1 = rule-kept C1 (length p.routes) (breaks_column_rule_at p C1) (of_rule 0 C1 refl);
  c2 = λ i less. end-fails p i (rule-kept C2 (length p.routes) (breaks_column_rule_at p C2) (of_rule 1 C2 refl) i less);
  c3 = λ i less. part-fails p i (rule-kept C3 (length p.routes) (breaks_column_rule_at p C3) (of_rule 2 C3 refl) i less);
  c7 = rule-kept C7 (length p.sections) (breaks_column_rule_at p C7) (of_rule 6 C7 refl);
}
  where
    of_rule : (k : ℕ) (rule : Rule) → slice_get all_column_rules k ≡ Some rule → broken_for_column_rule p rule ≡ []
    of_rule k rule at = flat_map-none (broken_for_column_rule p) all_column_rules k rule e at

pub strict_from_list : (p : PlantLists) → column_rules_broken p ≡ [] → IsStrict p
strict_from_list p e = strict_from_rules p (rules-from_list p e)
