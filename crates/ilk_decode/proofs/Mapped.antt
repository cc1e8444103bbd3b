-- The lists read from an image are those of its state.
use Rattle.std.proofs.Common.{◌≡◌, ℕ, true, false, Option, Some, None, option_map, List, get_or, length, map, slice_get, inl, inr, refl, sym, ◌∙◌, ap, arith}
use Rattle.std.specs.List.{range_with_len}
use Rattle.std.proofs.lemmas.List.FromFn.{length-map-range_with_len, length-range_with_len}
use Rattle.std.proofs.lemmas.Option.{get_or_from_slice_get, slice_get-map, slice_get_past}
use Rattle.ilk_base.proofs.Lists.{item_at, same_by_slice_get}
use Rattle.ilk_base.proofs.Ranges.{below_or_past, range-at}
use Rattle.ilk_plant.specs.Plant.{PlantLists, point_count}
use Rattle.ilk_plant.specs.Shape.{HasShape}
use Rattle.ilk_plant.specs.declared.network.Dir.TheVariants.{Up, Down}
use Rattle.ilk_plant.specs.declared.network.Position.{Position}
use Rattle.ilk_plant.specs.declared.network.Position.TheVariants.{Plus, Minus}
use Rattle.ilk_plant.specs.declared.state.Aspect.{Aspect}
use Rattle.ilk_plant.specs.declared.state.Aspect.TheVariants.{Open, Closed}
use Rattle.ilk_plant.specs.declared.state.Hold.{Hold}
use Rattle.ilk_plant.specs.declared.state.Hold.TheVariants.{Free as FreeLock, Locked as LockedLock, Used as UsedLock}
use Rattle.ilk_plant.specs.declared.state.Lie.{Lie}
use Rattle.ilk_plant.specs.declared.state.Lie.TheVariants.{Plus as LiesPlus, Minus as LiesMinus, Moving}
use Rattle.ilk_plant.specs.declared.state.Mode.{Mode}
use Rattle.ilk_plant.specs.declared.state.Mode.TheVariants.{Free, Marked, Allocating, Locked, Occupied}
use Rattle.ilk_plant.specs.declared.state.State.{State}
use Rattle.ilk_layout.specs.Image.{image_of, occupancy_values}
use Rattle.ilk_layout.specs.Occupancy.{occupancy_or_crash}
use Rattle.ilk_layout.specs.Values.{aspect_value, lock_value, detected_value, mode_value, occupancy_value, commanded_value}
use Rattle.ilk_layout.specs.Variables.{detected_var, board_var, boards_begin, lock_var, locks_begin, mode_var, occupancies_begin, occupancy_var, points_begin, released_count_var, seen_count_var, commanded_var}
use Rattle.ilk_layout.specs.declared.values.Occupancy.{Occupancy}
use Rattle.ilk_layout.specs.declared.values.Occupancy.TheVariants.{Vacant, Taken, Crash}
use Rattle.ilk_layout.proofs.Writes.{at-at, board-at, lock-at, mode-at, occupancy-at, rel-at, seen-at, to-at}
use Rattle.ilk_decode.specs.Numbered.{aspect_from_number, lock_state_from_number, lie_from_number, mode_from_number, occupancy_from_number, position_from_number}
use Rattle.ilk_decode.specs.Read.{decoded_board, decoded_lock_state, decoded_occupancy, decoded_point, decoded_route}

mode-numbered : (m : Mode) → mode_from_number (mode_value m) ≡ m
mode-numbered Free = refl
mode-numbered Marked = refl
mode-numbered Allocating = refl
mode-numbered Locked = refl
mode-numbered Occupied = refl

lie-numbered : (l : Lie) → lie_from_number (detected_value l) ≡ l
lie-numbered LiesPlus = refl
lie-numbered LiesMinus = refl
lie-numbered Moving = refl

position-numbered : (d : Position) → position_from_number (commanded_value d) ≡ d
position-numbered Plus = refl
position-numbered Minus = refl

aspect-numbered : (a : Aspect) → aspect_from_number (aspect_value a) ≡ a
aspect-numbered Open = refl
aspect-numbered Closed = refl

hold-numbered : (h : Hold) → lock_state_from_number (lock_value h) ≡ h
hold-numbered FreeLock = refl
hold-numbered LockedLock = refl
hold-numbered UsedLock = refl

occupancy-numbered : (o : Occupancy) → occupancy_from_number (occupancy_value o) ≡ o
occupancy-numbered Vacant = refl
occupancy-numbered (Taken Up false false) = refl
occupancy-numbered (Taken Up false true) = refl
occupancy-numbered (Taken Up true false) = refl
occupancy-numbered (Taken Up true true) = refl
occupancy-numbered (Taken Down false false) = refl
occupancy-numbered (Taken Down false true) = refl
occupancy-numbered (Taken Down true false) = refl
occupancy-numbered (Taken Down true true) = refl
occupancy-numbered Crash = refl

mapped-range : {X : Type 0} (f : ℕ → X) (n : ℕ) (xs : List X) → length xs ≡ n → ((i : ℕ) (x : X) → slice_get xs i ≡ Some x → f i ≡ x) → map f (range_with_len 0 n) ≡ xs
mapped-range {X} f n xs long each = same_by_slice_get (map f (range_with_len 0 n)) xs (λ i. slice_get-map f (range_with_len 0 n) i ∙ at i)
  where
    at : (i : ℕ) → option_map f (slice_get (range_with_len 0 n) i) ≡ slice_get xs i
    at i =
        elim (below_or_past i n) [
          | inl within ↦
              (let there : (x : X) × (slice_get xs i ≡ Some x) = item_at xs i (omega arith) in
              ap (option_map f) (range-at n i within) ∙ ap Some (each i there.0 there.1) ∙ sym there.1)
          | inr past ↦
              (let none : slice_get (range_with_len 0 n) i ≡ None = slice_get_past (range_with_len 0 n) i (let count = length-range_with_len 0 n in omega arith) in
              ap (option_map f) none ∙ sym (slice_get_past xs i (omega arith)))
        ]

module _ (p : PlantLists) (s : State) (shape : HasShape p s) where
  value-is : (v n : ℕ) → slice_get (image_of p s) v ≡ Some n → get_or (image_of p s) v 0 ≡ n
  value-is v n at = get_or_from_slice_get (image_of p s) v n 0 at

  pub routes-back : map (decoded_route (image_of p s)) (range_with_len 0 (length p.routes)) ≡ s.routes
  routes-back =
      mapped-range (decoded_route (image_of p s)) (length p.routes) s.routes shape.routes (λ r now at. (
      let mode : mode_from_number (get_or (image_of p s) (mode_var r) 0) ≡ now.mode = ap mode_from_number (value-is (mode_var r) (mode_value now.mode) (mode-at p s (occupancy_values p s) shape r now at)) ∙ mode-numbered now.mode in
      let seen : get_or (image_of p s) (seen_count_var r) 0 ≡ now.seen = value-is (seen_count_var r) now.seen (seen-at p s (occupancy_values p s) shape r now at) in
      let rel : get_or (image_of p s) (released_count_var r) 0 ≡ now.rel = value-is (released_count_var r) now.rel (rel-at p s (occupancy_values p s) shape r now at) in
      λ i. record { mode = mode i; seen = seen i; rel = rel i }))

  pub points-back : map (decoded_point (image_of p s) (points_begin p)) (range_with_len 0 (point_count p)) ≡ s.points
  points-back =
      mapped-range (decoded_point (image_of p s) (points_begin p)) (point_count p) s.points shape.points (λ n point at. (
      let lies : lie_from_number (get_or (image_of p s) (detected_var p n) 0) ≡ point.at = ap lie_from_number (value-is (detected_var p n) (detected_value point.at) (at-at p s (occupancy_values p s) shape n point at)) ∙ lie-numbered point.at in
      let to : position_from_number (get_or (image_of p s) (commanded_var p n) 0) ≡ point.to =
      ap position_from_number (value-is (commanded_var p n) (commanded_value point.to) (to-at p s (occupancy_values p s) shape n point at)) ∙ position-numbered point.to in
      λ i. record { at = lies i; to = to i }))

  pub boards-back : map (decoded_board (image_of p s) (boards_begin p)) (range_with_len 0 (length p.boards)) ≡ s.boards
  boards-back =
      mapped-range (decoded_board (image_of p s) (boards_begin p)) (length p.boards) s.boards shape.boards (λ m aspect at.
      ap aspect_from_number (value-is (board_var p m) (aspect_value aspect) (board-at p s (occupancy_values p s) shape m aspect at)) ∙ aspect-numbered aspect)

  pub locks-back : map (decoded_lock_state (image_of p s) (locks_begin p)) (range_with_len 0 (length p.sections)) ≡ s.locks
  locks-back =
      mapped-range (decoded_lock_state (image_of p s) (locks_begin p)) (length p.sections) s.locks shape.locks (λ x hold at.
      ap lock_state_from_number (value-is (lock_var p x) (lock_value hold) (lock-at p s (occupancy_values p s) shape x hold at)) ∙ hold-numbered hold)

  pub occupancies-back : map (decoded_occupancy (image_of p s) (occupancies_begin p)) (range_with_len 0 (length p.sections)) ≡ map (occupancy_or_crash p s) (range_with_len 0 (length p.sections))
  occupancies-back =
      mapped-range (decoded_occupancy (image_of p s) (occupancies_begin p)) (length p.sections) (map (occupancy_or_crash p s) (range_with_len 0 (length p.sections))) (length-map-range_with_len (occupancy_or_crash p s) 0 (length p.sections)) each
    where
      each : (x : ℕ) (o : Occupancy) → slice_get (map (occupancy_or_crash p s) (range_with_len 0 (length p.sections))) x ≡ Some o → decoded_occupancy (image_of p s) (occupancies_begin p) x ≡ o
      each x o at =
          let there : slice_get (occupancy_values p s) x ≡ Some (occupancy_value o) =
          slice_get-map (λ y. occupancy_value (occupancy_or_crash p s y)) (range_with_len 0 (length p.sections))
          x
          ∙ in_steps (slice_get (range_with_len 0 (length p.sections)) x)
          ∙ ap (option_map occupancy_value)
          (sym (slice_get-map (occupancy_or_crash p s) (range_with_len 0 (length p.sections)) x) ∙ at) in
          ap occupancy_from_number (value-is (occupancy_var p x) (occupancy_value o) (occupancy-at p s (occupancy_values p s) shape x ∙ there)) ∙ occupancy-numbered o
        where
          in_steps : (found : Option ℕ) → option_map (λ y. occupancy_value (occupancy_or_crash p s y)) found ≡ option_map occupancy_value (option_map (occupancy_or_crash p s) found)
          in_steps None = refl
          in_steps (Some y) = refl
