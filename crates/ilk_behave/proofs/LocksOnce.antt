-- The settings of a route's locks and commands fit, and set no variable twice.
use Rattle.std.proofs.Common.{◌≡◌, ℕ, zero, suc, ◌+◌, ◌<◌, true, false, Option, Some, None, option_map, List, [], ◌∷◌, ◌++◌, length, map, slice_get, refl, sym, ◌∙◌, ap, subst, arith, inl, inr, IsTrue}
use Rattle.std.specs.List.{flat_map, list_all}
use Rattle.std.proofs.lemmas.Bool.{false≢true}
use Rattle.std.proofs.lemmas.Grind.{flat_map-append}
use Rattle.std.proofs.lemmas.List.{map-append}
use Rattle.std.proofs.lemmas.Option.{same_Some, slice_get-map, slice_get_within}
use Rattle.ilk_base.proofs.ListTests.{all-at}
use Rattle.ilk_base.proofs.Lists.{at-before, at-either, at-past, map-at}
use Rattle.ilk_base.proofs.Once.{EachOnce}
use Rattle.ilk_ir.specs.declared.system.Setting.{Setting}
use Rattle.ilk_plant.specs.Network.{contains_section}
use Rattle.ilk_plant.specs.Plant.{IsValidRouteOf, PlantLists, point_count, point_number}
use Rattle.ilk_plant.specs.TableRules.{sections_locked_for}
use Rattle.ilk_plant.specs.declared.state.Hold.{Hold}
use Rattle.ilk_plant.specs.declared.table.Listed.{Listed}
use Rattle.ilk_plant.specs.declared.table.Route.{Route}
use Rattle.ilk_plant.proofs.Once.{numbers_differ-places}
use Rattle.ilk_plant.proofs.PointNumbers.{point_number-below}
use Rattle.ilk_plant.proofs.Rows.{contains_section-at}
use Rattle.ilk_routes.specs.Claims.{sections_outside_path, required_points}
use Rattle.ilk_layout.specs.Variables.{lock_var, commanded_var}
use Rattle.ilk_layout.proofs.Valid.{lock_is-valid, is_point_commanded-valid}
use Rattle.ilk_behave.specs.Settings.{command_listed_point, set_section_lock, set_lock_of_each_section, set_commanded}
use Rattle.ilk_plant.proofs.PointNumbers.{number-once}
use Rattle.ilk_behave.proofs.RulesValid.{all-flat_map, all-map, fits}
use Rattle.ilk_behave.proofs.SetOnce.{SetElsewhere, SetOnce, elsewhere-flat_map, elsewhere-map, once-append, once-flat_map, once-map}
use Rattle.ilk_behave.proofs.Fired.{in-one}

module _ (p : PlantLists) where
  abbrev locks : List ℕ → Hold → List Setting
  locks xs hold = set_lock_of_each_section p xs hold

  abbrev commands : List Listed → List Setting
  commands entries = flat_map (command_listed_point p) entries

  pub locks-fit : (xs : List ℕ) (hold : Hold) → ((i x : ℕ) → slice_get xs i ≡ Some x → x < length p.sections) → list_all (fits p) (set_lock_of_each_section p xs hold) ≡ true
  locks-fit xs hold within =
      all-map (fits p) (λ x. set_section_lock p x hold) xs (λ i x at. lock_is-valid p x hold (within i x at))

  pub locks-elsewhere : (v : ℕ) (xs : List ℕ) (hold : Hold) → ((i x : ℕ) → slice_get xs i ≡ Some x → lock_var p x ≡ v → ⊥) → SetElsewhere v (set_lock_of_each_section p xs hold)
  locks-elsewhere v xs hold other = elsewhere-map v (λ x. set_section_lock p x hold) xs other

  pub locks-once : (xs : List ℕ) (hold : Hold) → EachOnce xs → SetOnce (set_lock_of_each_section p xs hold)
  locks-once xs hold once =
      once-map (λ x. set_section_lock p x hold) xs (λ i j x y at also same. (let one : x ≡ y = omega (arith, same) in once i j y (at ∙ ap Some one) also))

  pub two_locks-once : (xs ys : List ℕ) (hold : Hold) → EachOnce xs → EachOnce ys → ((i j x : ℕ) → slice_get xs i ≡ Some x → slice_get ys j ≡ Some x → ⊥) → SetOnce (set_lock_of_each_section p (xs ++ ys) hold)
  two_locks-once xs ys hold once also apart =
      subst SetOnce (sym (map-append (λ x. set_section_lock p x hold) xs ys))
      (once-append (locks xs hold) (locks ys hold) (locks-once xs hold once) (locks-once ys hold also)
      (λ i s at. locks-elsewhere s.var ys hold (λ j y there same. cross i s at j y there same)))
    where
      cross : (i : ℕ) (s : Setting) → slice_get (set_lock_of_each_section p xs hold) i ≡ Some s → (j y : ℕ) → slice_get ys j ≡ Some y → lock_var p y ≡ s.var → ⊥
      cross i s at j y there same =
          let made = map-at (λ x. set_section_lock p x hold) xs i s at in
          let var : lock_var p made.0 ≡ s.var = ap (λ (z : Setting). z.var) made.2 in
          let one : made.0 ≡ y = omega (arith, var, same) in
          apart i j y (made.1 ∙ ap Some one) there

  pub commands-fit : (entries : List Listed) → list_all (fits p) (flat_map (command_listed_point p) entries) ≡ true
  commands-fit entries =
      all-flat_map (fits p) (command_listed_point p) entries (λ i listed at. one listed (point_number p listed.point) refl)
    where
      one : (listed : Listed) (o : Option ℕ) → point_number p listed.point ≡ o → list_all (fits p) (command_listed_point p listed) ≡ true
      one listed None e = rw e refl
      one listed (Some n) e =
          let known = point_number-below p listed.point in
          let less = rw e at known in
          rw e (all-map (fits p) (λ m. set_commanded p m listed.at) (n ∷ []) (λ i m at. is_point_commanded-valid p m listed.at (let same : n ≡ m = only i m at in omega (arith, same, less))))
        where
          only : (i m : ℕ) → slice_get (n ∷ []) i ≡ Some m → n ≡ m
          only zero m at = same_Some n m at
          only (suc i) m at = cc

  command_listed_point-elsewhere : (v : ℕ) (listed : Listed) → ((n : ℕ) → point_number p listed.point ≡ Some n → commanded_var p n ≡ v → ⊥) → SetElsewhere v (command_listed_point p listed)
  command_listed_point-elsewhere v listed other = by_number (point_number p listed.point) refl
    where
      by_number : (o : Option ℕ) → point_number p listed.point ≡ o → SetElsewhere v (command_listed_point p listed)
      by_number None e = rw e tt
      by_number (Some n) e = rw e (other n e, tt)

  command_listed_point-once : (listed : Listed) → SetOnce (command_listed_point p listed)
  command_listed_point-once listed = by_number (point_number p listed.point) refl
    where
      by_number : (o : Option ℕ) → point_number p listed.point ≡ o → SetOnce (command_listed_point p listed)
      by_number None e = rw e tt
      by_number (Some n) e = rw e (tt, tt)

  command_listed_point-sets : (listed : Listed) (k : ℕ) (s : Setting) → slice_get (command_listed_point p listed) k ≡ Some s → (n : ℕ) × (point_number p listed.point ≡ Some n) × (s.var ≡ commanded_var p n)
  command_listed_point-sets listed k s at = by_number (point_number p listed.point) refl k at
    where
      by_number : (o : Option ℕ) → point_number p listed.point ≡ o → (k : ℕ) → slice_get (command_listed_point p listed) k ≡ Some s → (n : ℕ) × (point_number p listed.point ≡ Some n) × (s.var ≡ commanded_var p n)
      by_number None e k at = let none = rw e at at in cc
      by_number (Some n) e zero at =
          let first : slice_get (set_commanded p n listed.at ∷ []) 0 ≡ Some s = rw e at at in
          (n, e, ap (λ (z : Setting). z.var) (sym (same_Some (set_commanded p n listed.at) s first)))
      by_number (Some n) e (suc k) at = let none = rw e at at in cc

  pub commands-elsewhere : (v : ℕ) (entries : List Listed) → ((n : ℕ) → n < point_count p → commanded_var p n ≡ v → ⊥) → SetElsewhere v (flat_map (command_listed_point p) entries)
  commands-elsewhere v entries other =
      elsewhere-flat_map v (command_listed_point p) entries (λ i listed at. command_listed_point-elsewhere v listed (λ n e same. other n (let known = point_number-below p listed.point in rw e at known) same))

  commands-once : (entries : List Listed) → EachOnce (map (λ (listed : Listed). listed.point) entries) → SetOnce (flat_map (command_listed_point p) entries)
  commands-once entries once =
      once-flat_map (command_listed_point p) entries (λ i listed at. command_listed_point-once listed) (λ i j x y k s apart at also set. command_listed_point-elsewhere s.var y (λ n e same. (
      let first = command_listed_point-sets x k s set in
      let number : first.0 ≡ n = (let var = first.2 in omega (arith, var, same)) in
      let section : x.point ≡ y.point = number-once p x.point y.point n (first.1 ∙ ap Some number) e in
      apart (once i j y.point (pointed entries i x at ∙ ap Some section) (pointed entries j y also)))))
    where
      pointed : (entries : List Listed) (i : ℕ) (listed : Listed) → slice_get entries i ≡ Some listed → slice_get (map (λ (listed : Listed). listed.point) entries) i ≡ Some listed.point
      pointed entries i listed at = slice_get-map (λ (listed : Listed). listed.point) entries i ∙ ap (option_map (λ (listed : Listed). listed.point)) at

  module _ (route : Route) (of : IsValidRouteOf p route) where
    pub protecting-apart : (i j x : ℕ) → slice_get (route.path ++ route.overlap) i ≡ Some x → slice_get (map (λ (listed : Listed). listed.point) route.protecting_points) j ≡ Some x → ⊥
    protecting-apart i j x at also =
        let listed = map-at (λ (listed : Listed). listed.point) route.protecting_points j x also in
        let away = all-at (λ (listed : Listed). contains_section listed.point (route.path ++ route.overlap) ≡ false) route.protecting_points j listed.0 of.protecting_points_apart listed.1 in
        let there : contains_section x (route.path ++ route.overlap) ≡ true = contains_section-at (route.path ++ route.overlap) i x at in
        false≢true (sym away ∙ ap (λ y. contains_section y (route.path ++ route.overlap)) listed.2 ∙ there)

    pub all_locks-once : (hold : Hold) → SetOnce (set_lock_of_each_section p (sections_locked_for route) hold)
    all_locks-once hold =
        two_locks-once (route.path ++ route.overlap)
        (map (λ (listed : Listed). listed.point) route.protecting_points) hold
        (numbers_differ-places (route.path ++ route.overlap) of.sections_once)
        (numbers_differ-places (map (λ (listed : Listed). listed.point) route.protecting_points)
        of.protecting_points_once) protecting-apart

    pub last_locks-once : (hold : Hold) (k x : ℕ) → slice_get route.path k ≡ Some x → SetOnce (set_lock_of_each_section p (x ∷ sections_outside_path route) hold)
    last_locks-once hold k x there = (
      other,
      two_locks-once route.overlap (map (λ (listed : Listed). listed.point) route.protecting_points)
          hold overlap-once
          (numbers_differ-places (map (λ (listed : Listed). listed.point) route.protecting_points)
          of.protecting_points_once)
          (λ i j y at also. protecting-apart (length route.path + i) j y
          (at-past route.path route.overlap i y at) also),
    )
      where
        overlap-once : EachOnce route.overlap
        overlap-once i j y at also =
            let places = numbers_differ-places (route.path ++ route.overlap) of.sections_once (length route.path + i) (length route.path + j) y (at-past route.path route.overlap i y at) (at-past route.path route.overlap j y also) in
            omega (arith, places)

        other : SetElsewhere (lock_var p x) (set_lock_of_each_section p (sections_outside_path route) hold)
        other =
            locks-elsewhere (lock_var p x) (sections_outside_path route) hold (λ i y at same. (
            let one : y ≡ x = omega (arith, same) in
            let here : slice_get (route.path ++ route.overlap) k ≡ Some x = at-before route.path route.overlap k x there in
            elim (at-either route.overlap (map (λ (listed : Listed). listed.point) route.protecting_points) i y at) [
              | inl h ↦ (let places = numbers_differ-places (route.path ++ route.overlap) of.sections_once k (length route.path + h.0) x here (at-past route.path route.overlap h.0 x (h.1 ∙ ap Some one)) in
                  let within = slice_get_within route.path k x there in
                  omega (arith, places, within))
              | inr h ↦ protecting-apart k h.0 x here (h.1 ∙ ap Some one)
            ]))

    pub wanted-once : SetOnce (flat_map (command_listed_point p) (required_points route))
    wanted-once =
        subst SetOnce (sym (flat_map-append (command_listed_point p) route.points route.protecting_points))
        (once-append (commands route.points) (commands route.protecting_points)
        (commands-once route.points
        (numbers_differ-places (map (λ (listed : Listed). listed.point) route.points)
        of.points_once))
        (commands-once route.protecting_points
        (numbers_differ-places (map (λ (listed : Listed). listed.point) route.protecting_points)
        of.protecting_points_once)) cross)
      where
        cross : (i : ℕ) (s : Setting) → slice_get (flat_map (command_listed_point p) route.points) i ≡ Some s → SetElsewhere s.var (flat_map (command_listed_point p) route.protecting_points)
        cross i s at =
            let found = in-one (command_listed_point p) route.points i s at in
            elsewhere-flat_map s.var (command_listed_point p) route.protecting_points (λ j y there. command_listed_point-elsewhere s.var y (λ n e same. (
            let first = command_listed_point-sets found.1 found.2 s found.4 in
            let number : first.0 ≡ n = (let var = first.2 in omega (arith, var, same)) in
            let section : found.1.point ≡ y.point = number-once p found.1.point y.point n (first.1 ∙ ap Some number) e in
            let passed = all-at (λ (listed : Listed). IsTrue (contains_section listed.point (route.path ++ route.overlap))) route.points found.0 found.1 of.points_passed found.3 in
            let away = all-at (λ (listed : Listed). contains_section listed.point (route.path ++ route.overlap) ≡ false) route.protecting_points j y of.protecting_points_apart there in
            false≢true (sym away ∙ ap (λ z. contains_section z (route.path ++ route.overlap)) (sym section) ∙ passed))))
