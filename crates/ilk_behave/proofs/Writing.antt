-- The effect of several settings on the image of a state.
use Rattle.std.proofs.Common.{◌≡◌, ℕ, suc, ◌<◌, true, Option, Some, None, option_map, unwrap_or, List, [], ◌∷◌, ◌++◌, length, set, slice_get, refl, sym, ◌∙◌, ap, arith, length-set, inl, inr}
use Rattle.std.specs.List.{flat_map}
use Rattle.std.proofs.lemmas.Option.{same_Some}
use Rattle.ilk_base.specs.Option.{◌>>=◌}
use Rattle.ilk_base.proofs.Lists.{item_at, slice_get_set}
use Rattle.ilk_base.proofs.Ranges.{map-range-congr}
use Rattle.ilk_ir.specs.System.{after_settings}
use Rattle.ilk_ir.specs.declared.system.Setting.{Setting}
use Rattle.ilk_plant.specs.Plant.{PlantLists, point_number}
use Rattle.ilk_plant.specs.Shape.{HasShape, seen_and_released_fit_path}
use Rattle.ilk_plant.specs.State.{detected_position_in_state}
use Rattle.ilk_plant.specs.declared.state.Aspect.{Aspect}
use Rattle.ilk_plant.specs.declared.state.Hold.{Hold}
use Rattle.ilk_plant.specs.declared.state.PointState.{PointState}
use Rattle.ilk_plant.specs.declared.state.RouteState.{RouteState}
use Rattle.ilk_plant.specs.declared.state.State.{State}
use Rattle.ilk_plant.specs.declared.table.Listed.{Listed}
use Rattle.ilk_plant.specs.declared.table.Route.{Route}
use Rattle.ilk_plant.proofs.PointNumbers.{point_number-below}
use Rattle.ilk_routes.specs.Lies.{listed_position, with_commands}
use Rattle.ilk_routes.specs.Locks.{with_locks}
use Rattle.ilk_routes.proofs.Commands.{with_commands-first, with_commands-no_point, with_commands-none}
use Rattle.ilk_routes.proofs.Locks.{with_locks-first, with_locks-none}
use Rattle.ilk_base.proofs.Numbered.{slice_get-map_numbered}
use Rattle.ilk_layout.specs.Image.{image_of, occupancy_values}
use Rattle.ilk_layout.specs.Occupancy.{occupancy_or_crash}
use Rattle.ilk_layout.specs.Values.{occupancy_value}
use Rattle.ilk_layout.proofs.Changes.{occupancy-kept}
use Rattle.ilk_layout.proofs.Writes.{image_with, lock-written, to-written}
use Rattle.ilk_layout.proofs.ConditionValues.{image-is}
use Rattle.ilk_behave.specs.Settings.{command_listed_point, set_lock_of_each_section, set_commanded}

pub by_image : (p : PlantLists) (s t : State) (sets : List Setting) → after_settings (image_with s (occupancy_values p s)) sets ≡ image_with t (occupancy_values p t) → after_settings (image_of p s) sets ≡ image_of p t
by_image p s t sets h = ap (λ values. after_settings values sets) (image-is p s) ∙ h ∙ sym (image-is p t)

pub after_settings-append : (values : List ℕ) (xs ys : List Setting) → after_settings values (xs ++ ys) ≡ after_settings (after_settings values xs) ys
after_settings-append values [] ys = refl
after_settings-append values (x ∷ xs) ys = after_settings-append (set values x.var x.value) xs ys

pub with_lists :
    (p : PlantLists) (s : State) (points : List PointState) (boards : List Aspect) (locks : List Hold) →
    HasShape p s → length points ≡ length s.points → length boards ≡ length s.boards →
    length locks ≡ length s.locks → HasShape p (record s { points = points; boards = boards; locks = locks })
with_lists p s points boards locks shape n b l = record {
  routes = shape.routes;
  points = n ∙ shape.points;
  boards = b ∙ shape.boards;
  locks = l ∙ shape.locks;
  counts = shape.counts;
  bodies = shape.bodies;
}

pub with_route : (p : PlantLists) (s : State) (r : ℕ) (mine : Route) (now : RouteState) → HasShape p s → slice_get p.routes r ≡ Some mine → seen_and_released_fit_path mine now ≡ true → HasShape p (record s { routes = set s.routes r now })
with_route p s r mine now shape known within = record {
  routes = length-set s.routes r now ∙ shape.routes;
  points = shape.points;
  boards = shape.boards;
  locks = shape.locks;
  counts = λ k route at e f. elim (slice_get_set s.routes r k now at f) [
    | inl h ↦ (let same : route ≡ mine = same_Some route mine (sym e ∙ ap (slice_get p.routes) (sym h.0) ∙ known) in rw (same, ← h.1) within)
    | inr g ↦ shape.counts k route at e g
  ];
  bodies = shape.bodies;
}

pub locks-written : (p : PlantLists) (s : State) (occupancies : List ℕ) (xs : List ℕ) (hold : Hold) →
    HasShape p s → ((i x : ℕ) → slice_get xs i ≡ Some x → x < length p.sections) →
    after_settings (image_with s occupancies) (set_lock_of_each_section p xs hold)
    ≡ image_with (record s { locks = with_locks s.locks xs hold }) occupancies
locks-written p s occupancies [] hold shape within =
    ap (λ locks. image_with (record s { locks = locks }) occupancies) (sym (with_locks-none s.locks hold))
locks-written p s occupancies (x ∷ xs) hold shape within =
    let inside : x < length p.sections = within 0 x refl in
    let count = shape.locks in
    let lock = item_at s.locks x (omega arith) in
    ap (λ values. after_settings values (set_lock_of_each_section p xs hold)) (lock-written p s occupancies shape x hold inside)
    ∙ locks-written p (record s { locks = set s.locks x hold }) occupancies xs hold (with_lists p s s.points s.boards (set s.locks x hold) shape refl refl (length-set s.locks x hold)) (λ i y at. within (suc i) y at)
    ∙ ap (λ locks. image_with (record s { locks = locks }) occupancies) (with_locks-first s.locks x xs hold lock.0 lock.1)

pub commands-written : (p : PlantLists) (s : State) (occupancies : List ℕ) (entries : List Listed) →
    HasShape p s →
    after_settings (image_with s occupancies) (flat_map (command_listed_point p) entries)
    ≡ image_with (record s { points = with_commands p s.points entries }) occupancies
commands-written p s occupancies [] shape =
    ap (λ points. image_with (record s { points = points }) occupancies) (sym (with_commands-none p s.points))
commands-written p s occupancies (listed ∷ rest) shape =
    by_number (λ points shaped. commands-written p (record s { points = points }) occupancies rest shaped) (point_number p listed.point) refl
  where
    by_number :
        ((points : List PointState) → HasShape p (record s { points = points }) →
        after_settings (image_with (record s { points = points }) occupancies) (flat_map (command_listed_point p) rest)
        ≡ image_with (record s { points = with_commands p points rest }) occupancies) →
        (o : Option ℕ) → point_number p listed.point ≡ o →
        after_settings (image_with s occupancies) (flat_map (command_listed_point p) (listed ∷ rest))
        ≡ image_with (record s { points = with_commands p s.points (listed ∷ rest) }) occupancies
    by_number later None e =
        let nothing : command_listed_point p listed ≡ [] = rw e refl in
        ap (λ ss. after_settings (image_with s occupancies) (ss ++ flat_map (command_listed_point p) rest)) nothing
        ∙ later s.points shape ∙ ap (λ points. image_with (record s { points = points }) occupancies) (with_commands-no_point p s.points listed rest e)
    by_number later (Some n) e =
        let one : command_listed_point p listed ≡ set_commanded p n listed.at ∷ [] = rw e refl in
        let below : n < length s.points = (let known = point_number-below p listed.point in let less = rw e at known in let count = shape.points in omega (arith, less)) in
        let point = item_at s.points n below in
        let next = set s.points n (record point.0 { to = listed.at }) in
        ap (λ ss. after_settings (image_with s occupancies) (ss ++ flat_map (command_listed_point p) rest)) one
        ∙ ap (λ values. after_settings values (flat_map (command_listed_point p) rest)) (to-written p s occupancies shape n point.0 listed.at point.1)
        ∙ later next (with_lists p s next s.boards s.locks shape (length-set s.points n (record point.0 { to = listed.at })) refl refl)
        ∙ ap (λ points. image_with (record s { points = points }) occupancies) (with_commands-first p s.points listed rest n point.0 e point.1)

pub same-occupancies :
    (p : PlantLists) (s : State) (routes : List RouteState) (points : List PointState) (boards : List Aspect)
    (locks : List Hold) →
    ((x : ℕ) → detected_position_in_state p (record s { points = points }) x ≡ detected_position_in_state p s x) →
    occupancy_values p (record s { routes = routes; points = points; boards = boards; locks = locks })
    ≡ occupancy_values p s
same-occupancies p s routes points boards locks same =
    map-range-congr (λ x. occupancy_value (occupancy_or_crash p t x)) (λ x. occupancy_value (occupancy_or_crash p s x)) 0 (length p.sections) (λ x above below. ap occupancy_value (occupancy-kept p s t x refl (same x)))
  where
    t : State
    t = record s { routes = routes; points = points; boards = boards; locks = locks }

pub command_listed_point-lies : (p : PlantLists) (s : State) (entries : List Listed) (x : ℕ) → detected_position_in_state p (record s { points = with_commands p s.points entries }) x ≡ detected_position_in_state p s x
command_listed_point-lies p s entries x = by_number (point_number p x) refl
  where
    kept : (n : ℕ) (o : Option PointState) → (option_map (λ (point : PointState). record point { to = unwrap_or (listed_position p n entries) point.to }) o >>= (λ (point : PointState). Some point.at)) ≡ (o >>= (λ (point : PointState). Some point.at))
    kept n None = refl
    kept n (Some point) = refl

    by_number : (o : Option ℕ) → point_number p x ≡ o → detected_position_in_state p (record s { points = with_commands p s.points entries }) x ≡ detected_position_in_state p s x
    by_number None e = rw e refl
    by_number (Some n) e =
        let f : ℕ → PointState → PointState = λ k point. record point { to = unwrap_or (listed_position p k entries) point.to } in
        let there : slice_get (with_commands p s.points entries) n ≡ option_map (f n) (slice_get s.points n) = slice_get-map_numbered f s.points n in
        rw (e, there) (kept n (slice_get s.points n))
