-- The rules of sense, release and finish are valid over the ranges of the plant.
use Rattle.std.proofs.Common.{◌≡◌, ℕ, zero, suc, ◌+◌, ◌-◌, ◌<◌, ◌==◌, Bool, true, false, Option, Some, None, List, [], ◌∷◌, ◌++◌, length, map, slice_get, refl, sym, ◌∙◌, ap, arith, cond, inl, inr}
use Rattle.std.specs.List.{enumerate_from, last_or, list_all, range_with_len}
use Rattle.std.proofs.lemmas.List.FromFn.{length-range_with_len}
use Rattle.std.proofs.lemmas.Option.{slice_get_within}
use Rattle.ilk_base.proofs.ListTests.{all-at, last-at, made-at}
use Rattle.ilk_base.proofs.Lists.{map-at, taken-before}
use Rattle.ilk_base.proofs.Ranges.{range_get}
use Rattle.ilk_base.proofs.Tested.{all-pass}
use Rattle.ilk_ir.specs.System.{PlainRule}
use Rattle.ilk_ir.specs.Tree.{Tree, any_of, trees_from_list}
use Rattle.ilk_ir.specs.declared.system.Setting.{Setting}
use Rattle.ilk_ir.proofs.Trees.{any_of-valid}
use Rattle.ilk_plant.specs.ColumnRules.{all_but_last}
use Rattle.ilk_plant.specs.Plant.{IsPlant, IsValidRouteOf, PlantLists}
use Rattle.ilk_plant.specs.declared.state.Aspect.TheVariants.{Closed}
use Rattle.ilk_plant.specs.declared.state.Hold.TheVariants.{Free as FreeLock, Locked as LockedLock, Used as UsedLock}
use Rattle.ilk_plant.specs.declared.state.Mode.TheVariants.{Free, Locked, Occupied}
use Rattle.ilk_plant.specs.declared.table.Route.{Route}
use Rattle.ilk_routes.specs.Claims.{sections_outside_path}
use Rattle.ilk_layout.specs.Variables.{lock_var, ranges_of_plant}
use Rattle.ilk_layout.specs.Conditions.{lock_is, mode_is, no_train_at, is_released_count, is_seen_count, train_at}
use Rattle.ilk_layout.proofs.Valid.{is_board_aspect-valid, lock_is-valid, mode_is-valid, no_train_at-valid, is_released_count-valid, is_seen_count-valid, train_at-valid}
use Rattle.ilk_behave.specs.RouteRules.{finish_rule, release_rule_at_index, rules_of_finish, rules_of_release, rules_of_sense, seen_at_least, sense_rule_at_index}
use Rattle.ilk_behave.specs.Settings.{set_board_aspect, set_section_lock, set_lock_of_each_section, set_mode, set_released_count, map_or_no_rules, set_seen_count}
use Rattle.ilk_behave.proofs.LocksOnce.{last_locks-once, locks-fit}
use Rattle.ilk_behave.proofs.RulesValid.{all-append, all-cons, all-map, fits, is_valid, is_valid_rule, one_rule-valid, rule-valid}
use Rattle.ilk_behave.proofs.SetOnce.{SetOnce, once-append}
use Rattle.ilk_routes.proofs.Shape.{beside-known}

module _ (p : PlantLists) (plant : IsPlant p) where
  places-valid : (f : ℕ → ℕ → PlainRule) (path : List ℕ) → ((i x : ℕ) → slice_get path i ≡ Some x → is_valid_rule p (f i x) ≡ true) → list_all (is_valid_rule p) (map (λ place. f place.0 place.1) (enumerate_from 0 path)) ≡ true
  places-valid f path each =
      all-pass (is_valid_rule p) (map (λ place. f place.0 place.1) (enumerate_from 0 path)) (λ i rule at. (
      let made = made-at f 0 path i rule at in
      let there : 0 + i ≡ i = omega arith in
      ap (is_valid_rule p) (sym made.2 ∙ ap (λ k. f k made.0) there) ∙ each i made.0 made.1))

  sense_rule_at_index-valid : (r : ℕ) (route : Route) (k x : ℕ) → slice_get p.routes r ≡ Some route → slice_get route.path k ≡ Some x → is_valid_rule p (sense_rule_at_index p r route k x) ≡ true
  sense_rule_at_index-valid r route k x known there =
      let within = slice_get_within p.routes r route known in
      let of = plant.routes_known r route known in
      let inside = all-at (λ x. x < length p.sections) route.path k x of.path there in
      let few = slice_get_within route.path k x there in
      let either : List Tree = mode_is r Locked ∷ mode_is r Occupied ∷ [] in
      let conditions : List Tree = any_of (trees_from_list either) ∷ is_seen_count r k ∷ train_at p x ∷ lock_is p x LockedLock ∷ [] in
      rule-valid p conditions (sets (k == 0))
      (all-cons (is_valid p) (any_of (trees_from_list either))
      (is_seen_count r k ∷ train_at p x ∷ lock_is p x LockedLock ∷ [])
      (any_of-valid (ranges_of_plant p) either
      ∙ all-cons (is_valid p) (mode_is r Locked) (mode_is r Occupied ∷ [])
      (mode_is-valid p r Locked within)
      (all-cons (is_valid p) (mode_is r Occupied) [] (mode_is-valid p r Occupied within) refl))
      (all-cons (is_valid p) (is_seen_count r k) (train_at p x ∷ lock_is p x LockedLock ∷ []) (is_seen_count-valid p r k route known (omega (arith, few)))
      (all-cons (is_valid p) (train_at p x) (lock_is p x LockedLock ∷ []) (train_at-valid p x inside)
      (all-cons (is_valid p) (lock_is p x LockedLock) [] (lock_is-valid p x LockedLock inside) refl))))
      (all-cons (fits p) (set_section_lock p x UsedLock) (set_seen_count r (k + 1) ∷ set_mode r Occupied ∷ closes (k == 0)) (lock_is-valid p x UsedLock inside)
      (all-cons (fits p) (set_seen_count r (k + 1)) (set_mode r Occupied ∷ closes (k == 0)) (is_seen_count-valid p r (k + 1) route known (omega (arith, few)))
      (all-cons (fits p) (set_mode r Occupied) (closes (k == 0)) (mode_is-valid p r Occupied within) (closes-fit of (k == 0)))))
      (once within of (k == 0))
    where
      closes : Bool → List Setting
      closes first = cond first (set_board_aspect p route.source Closed ∷ []) []

      sets : Bool → List Setting
      sets first = set_section_lock p x UsedLock ∷ set_seen_count r (k + 1) ∷ set_mode r Occupied ∷ closes first

      closes-fit : IsValidRouteOf p route → (first : Bool) → list_all (fits p) (closes first) ≡ true
      closes-fit of true = all-cons (fits p) (set_board_aspect p route.source Closed) [] (is_board_aspect-valid p route.source Closed of.source) refl
      closes-fit of false = refl

      once : r < length p.routes → IsValidRouteOf p route → (first : Bool) → SetOnce (sets first)
      once within of true = (
        (
          (λ same. omega (arith, within, same)),
          (
            (λ same. omega (arith, within, same)),
            ((λ same. (let known = of.source in omega (arith, known, within, same))), tt),
          ),
        ),
        (
          (
            (λ same. omega (arith, same)),
            ((λ same. (let known = of.source in omega (arith, known, within, same))), tt),
          ),
          (((λ same. (let known = of.source in omega (arith, known, within, same))), tt), (tt, tt)),
        ),
      )
      once within of false =
          (((λ same. omega (arith, within, same)), ((λ same. omega (arith, within, same)), tt)), (((λ same. omega (arith, same)), tt), (tt, tt)))

  pub sense-valid : (r : ℕ) → list_all (is_valid_rule p) (rules_of_sense p r) ≡ true
  sense-valid r = by_route (slice_get p.routes r) refl
    where
      by_route : (o : Option Route) → slice_get p.routes r ≡ o → list_all (is_valid_rule p) (rules_of_sense p r) ≡ true
      by_route None e = rw e refl
      by_route (Some route) e = rw e (places-valid (sense_rule_at_index p r route) route.path (λ k x at. sense_rule_at_index-valid r route k x e at))

  seen_at_least-valid : (r : ℕ) (route : Route) (k : ℕ) → slice_get p.routes r ≡ Some route → is_valid p (seen_at_least r k (length route.path)) ≡ true
  seen_at_least-valid r route k known =
      any_of-valid (ranges_of_plant p) (map (is_seen_count r) (range_with_len k (length route.path + 1 - k)))
      ∙ all-map (is_valid p) (is_seen_count r) (range_with_len k (length route.path + 1 - k)) (λ i c at. (
      let number = range_get k (length route.path + 1 - k) i c at in
      let less = slice_get_within (range_with_len k (length route.path + 1 - k)) i c at in
      let long = length-range_with_len k (length route.path + 1 - k) in
      is_seen_count-valid p r c route known (omega (arith, number, less, long))))

  release_rule_at_index-valid : (r : ℕ) (route : Route) (k x : ℕ) → slice_get p.routes r ≡ Some route → slice_get route.path k ≡ Some x → is_valid_rule p (release_rule_at_index p r route k x) ≡ true
  release_rule_at_index-valid r route k x known there =
      let within = slice_get_within p.routes r route known in
      let of = plant.routes_known r route known in
      let inside = all-at (λ x. x < length p.sections) route.path k x of.path there in
      let few = slice_get_within route.path k x there in
      let seen : Tree = seen_at_least r (k + 2) (length route.path) in
      let conditions : List Tree = mode_is r Occupied ∷ is_released_count r k ∷ seen ∷ no_train_at p x ∷ lock_is p x UsedLock ∷ [] in
      let sets : List Setting = set_section_lock p x FreeLock ∷ set_released_count r (k + 1) ∷ [] in
      rule-valid p conditions sets
      (all-cons (is_valid p) (mode_is r Occupied) (is_released_count r k ∷ seen ∷ no_train_at p x ∷ lock_is p x UsedLock ∷ []) (mode_is-valid p r Occupied within)
      (all-cons (is_valid p) (is_released_count r k) (seen ∷ no_train_at p x ∷ lock_is p x UsedLock ∷ []) (is_released_count-valid p r k route known (omega (arith, few)))
      (all-cons (is_valid p) seen (no_train_at p x ∷ lock_is p x UsedLock ∷ []) (seen_at_least-valid r route (k + 2) known)
      (all-cons (is_valid p) (no_train_at p x) (lock_is p x UsedLock ∷ []) (no_train_at-valid p x inside)
      (all-cons (is_valid p) (lock_is p x UsedLock) [] (lock_is-valid p x UsedLock inside) refl)))))
      (all-cons (fits p) (set_section_lock p x FreeLock) (set_released_count r (k + 1) ∷ []) (lock_is-valid p x FreeLock inside)
      (all-cons (fits p) (set_released_count r (k + 1)) [] (is_released_count-valid p r (k + 1) route known (omega (arith, few))) refl))
      (((λ same. omega (arith, within, same)), tt), (tt, tt))

  pub release-valid : (r : ℕ) → list_all (is_valid_rule p) (rules_of_release p r) ≡ true
  release-valid r = by_route (slice_get p.routes r) refl
    where
      by_route : (o : Option Route) → slice_get p.routes r ≡ o → list_all (is_valid_rule p) (rules_of_release p r) ≡ true
      by_route None e = rw e refl
      by_route (Some route) e =
          rw e (places-valid (release_rule_at_index p r route) (all_but_last route.path) (λ k x at. release_rule_at_index-valid r route k x e (taken-before (length route.path - 1) route.path k x at).1))

  finish_rule-valid : (r : ℕ) (route : Route) (k x : ℕ) → slice_get p.routes r ≡ Some route → slice_get route.path k ≡ Some x → is_valid_rule p (finish_rule p r route x) ≡ true
  finish_rule-valid r route k x known there =
      let within = slice_get_within p.routes r route known in
      let of = plant.routes_known r route known in
      let locks : List Setting = set_lock_of_each_section p (x ∷ sections_outside_path route) FreeLock in
      let counts : List Setting = set_mode r Free ∷ set_seen_count r 0 ∷ set_released_count r 0 ∷ [] in
      let conditions : List Tree = mode_is r Occupied ∷ is_seen_count r (length route.path) ∷ is_released_count r (length route.path - 1) ∷ [] in
      rule-valid p conditions (locks ++ counts)
      (all-cons (is_valid p) (mode_is r Occupied) (is_seen_count r (length route.path) ∷ is_released_count r (length route.path - 1) ∷ []) (mode_is-valid p r Occupied within)
      (all-cons (is_valid p) (is_seen_count r (length route.path)) (is_released_count r (length route.path - 1) ∷ []) (is_seen_count-valid p r (length route.path) route known (omega arith))
      (all-cons (is_valid p) (is_released_count r (length route.path - 1)) [] (is_released_count-valid p r (length route.path - 1) route known (omega arith)) refl)))
      (all-append (fits p) locks counts (locks-fit p (x ∷ sections_outside_path route) FreeLock (inside of))
      (all-cons (fits p) (set_mode r Free) (set_seen_count r 0 ∷ set_released_count r 0 ∷ []) (mode_is-valid p r Free within)
      (all-cons (fits p) (set_seen_count r 0) (set_released_count r 0 ∷ []) (is_seen_count-valid p r 0 route known (omega arith))
      (all-cons (fits p) (set_released_count r 0) [] (is_released_count-valid p r 0 route known (omega arith)) refl))))
      (once-append locks counts (last_locks-once p route of FreeLock k x there) (((λ same. omega (arith, same)), ((λ same. omega (arith, same)), tt)), (((λ same. omega (arith, same)), tt), (tt, tt))) (λ i s at. (
      let made = map-at (λ y. set_section_lock p y FreeLock) (x ∷ sections_outside_path route) i s at in
      let var : lock_var p made.0 ≡ s.var = ap (λ (z : Setting). z.var) made.2 in
      ((λ same. omega (arith, within, var, same)), ((λ same. omega (arith, within, var, same)), ((λ same. omega (arith, within, var, same)), tt))))))
    where
      inside : IsValidRouteOf p route → (i y : ℕ) → slice_get (x ∷ sections_outside_path route) i ≡ Some y → y < length p.sections
      inside of zero y at = all-at (λ x. x < length p.sections) route.path k y of.path (there ∙ at)
      inside of (suc i) y at = beside-known p route of i y at

  pub finish-valid : (r : ℕ) → list_all (is_valid_rule p) (rules_of_finish p r) ≡ true
  finish-valid r = by_route (slice_get p.routes r) refl
    where
      by_last : (route : Route) → slice_get p.routes r ≡ Some route → (o : Option ℕ) → last_or None route.path ≡ o → list_all (is_valid_rule p) (map_or_no_rules o (λ x. finish_rule p r route x ∷ [])) ≡ true
      by_last route e None f = refl
      by_last route e (Some x) f =
          one_rule-valid p (finish_rule p r route x) (elim (last-at None route.path x f) [
            | inl none ↦ cc
            | inr found ↦ finish_rule-valid r route found.0 x e found.1
          ])

      by_route : (o : Option Route) → slice_get p.routes r ≡ o → list_all (is_valid_rule p) (rules_of_finish p r) ≡ true
      by_route None e = rw e refl
      by_route (Some route) e = rw e (by_last route e (last_or None route.path) refl)
