-- The rules of the events of points and trains are valid over the ranges of the plant.
use Rattle.std.proofs.Common.{◌≡◌, ℕ, ◌<◌, Bool, true, false, not, Option, Some, None, List, [], ◌∷◌, ◌++◌, length, map, filter, slice_get, refl, sym, ◌∙◌, ap, arith, cond}
use Rattle.std.specs.List.{flat_map, list_all}
use Rattle.std.proofs.lemmas.Bool.{false≢true}
use Rattle.std.proofs.lemmas.List.Folds.{list_all-map}
use Rattle.std.proofs.lemmas.Option.{slice_get_within}
use Rattle.ilk_ir.specs.Tree.{Tree, any_of, negation, trees_from_list}
use Rattle.ilk_ir.specs.declared.system.Setting.{Setting}
use Rattle.ilk_ir.proofs.Trees.{any_of-valid}
use Rattle.ilk_plant.specs.Network.{contains_section, same_direction}
use Rattle.ilk_plant.specs.Plant.{IsPlant, PlantLists, board_of, inward_direction_if_border, next_to, point_count, point_number}
use Rattle.ilk_plant.specs.declared.network.Dir.{Dir}
use Rattle.ilk_plant.specs.declared.network.Position.{Position}
use Rattle.ilk_plant.specs.declared.network.Position.TheVariants.{Plus, Minus}
use Rattle.ilk_plant.specs.declared.network.Section.{Section}
use Rattle.ilk_plant.specs.declared.network.Section.TheVariants.{Linear, Point}
use Rattle.ilk_plant.specs.declared.state.Aspect.TheVariants.{Closed, Open}
use Rattle.ilk_plant.specs.declared.state.Hold.TheVariants.{Free as FreeLock}
use Rattle.ilk_plant.specs.declared.state.Lie.TheVariants.{Plus as LiesPlus, Minus as LiesMinus, Moving}
use Rattle.ilk_plant.proofs.PointNumbers.{point_number-below}
use Rattle.ilk_plant.proofs.Rows.{contains_section-at}
use Rattle.ilk_motion.specs.Trains.{has_neighbour}
use Rattle.ilk_routes.specs.Lies.{lie_from_position}
use Rattle.ilk_layout.specs.Variables.{occupancy_var, ranges_of_plant}
use Rattle.ilk_layout.specs.declared.values.Occupancy.{Occupancy}
use Rattle.ilk_layout.specs.declared.values.Occupancy.TheVariants.{Vacant, Taken, Crash}
use Rattle.ilk_layout.specs.Conditions.{is_point_detected, is_board_aspect, section_point_is_detected, lock_is, no_train_at, occupancy_is, is_point_commanded, train_at}
use Rattle.ilk_layout.proofs.Valid.{is_point_detected-valid, is_board_aspect-valid, section_point_is_detected-valid, lock_is-valid, no_train_at-valid, occupancy_is-valid, is_point_commanded-valid, train_at-valid}
use Rattle.ilk_behave.specs.Guards.{leg_set_if_facing, leg_position, board_open_if_any, not_wrong_on_point, not_wrong_from}
use Rattle.ilk_behave.specs.PointRules.{rests_out_of_position, rules_of_settle, rules_of_throw}
use Rattle.ilk_behave.specs.Settings.{set_detected, set_board_aspect, close_section_board_if_any, set_occupancy, rule}
use Rattle.ilk_behave.specs.TrainRules.{all_directions, no_hazard_for_train, head_move_settings, head_rules_to_neighbour, leave_rule_in_direction, head_move_conditions, rules_of_enter, rules_of_head, rules_of_leave, rules_of_tail, tail_rule_to_neighbour}
use Rattle.ilk_plant.proofs.PointNumbers.{numbered-section}
use Rattle.ilk_behave.proofs.RulesValid.{all-append, all-cons, all-flat_map, all-map, fits, is_valid, is_valid_rule, one_rule-valid, rule-valid, two_rules-valid}
use Rattle.ilk_behave.proofs.SetOnce.{SetElsewhere, SetOnce}

module _ (p : PlantLists) (plant : IsPlant p) where
  abbrev ranges : List ℕ
  ranges = ranges_of_plant p

  number-less : (x n : ℕ) → point_number p x ≡ Some n → n < point_count p
  number-less x n e = let known = point_number-below p x in rw e at known

  number-known : (x n : ℕ) → point_number p x ≡ Some n → x < length p.sections
  number-known x n e =
      let section = numbered-section p x n e in slice_get_within p.sections x section.0 section.1

  rests_out_of_position-valid : (n : ℕ) → n < point_count p → list_all (is_valid p) (rests_out_of_position p n) ≡ true
  rests_out_of_position-valid n less =
      let plus : List Tree = negation (is_point_detected p n LiesPlus) ∷ negation (is_point_commanded p n Plus) ∷ [] in
      let minus : List Tree = negation (is_point_detected p n LiesMinus) ∷ negation (is_point_commanded p n Minus) ∷ [] in
      all-cons (is_valid p) (negation (is_point_detected p n Moving)) (any_of (trees_from_list plus) ∷ any_of (trees_from_list minus) ∷ []) (is_point_detected-valid p n Moving less)
      (all-cons (is_valid p) (any_of (trees_from_list plus)) (any_of (trees_from_list minus) ∷ [])
      (any_of-valid ranges plus
      ∙ all-cons (is_valid p) (negation (is_point_detected p n LiesPlus)) (negation (is_point_commanded p n Plus) ∷ [])
      (is_point_detected-valid p n LiesPlus less)
      (all-cons (is_valid p) (negation (is_point_commanded p n Plus)) [] (is_point_commanded-valid p n Plus less) refl))
      (all-cons (is_valid p) (any_of (trees_from_list minus)) []
      (any_of-valid ranges minus
      ∙ all-cons (is_valid p) (negation (is_point_detected p n LiesMinus)) (negation (is_point_commanded p n Minus) ∷ [])
      (is_point_detected-valid p n LiesMinus less)
      (all-cons (is_valid p) (negation (is_point_commanded p n Minus)) [] (is_point_commanded-valid p n Minus less) refl))
      refl))

  pub throw-valid : (x : ℕ) → list_all (is_valid_rule p) (rules_of_throw p x) ≡ true
  throw-valid x = by_number (point_number p x) refl
    where
      by_number : (o : Option ℕ) → point_number p x ≡ o → list_all (is_valid_rule p) (rules_of_throw p x) ≡ true
      by_number None e = rw e refl
      by_number (Some n) e =
          let less = number-less x n e in
          let inside = number-known x n e in
          let elsewhere : List Tree = rests_out_of_position p n in
          let moves : List Setting = set_detected p n Moving ∷ [] in
          let crashes : List Setting = set_detected p n Moving ∷ set_occupancy p x Crash ∷ [] in
          rw e (two_rules-valid p (rule (elsewhere ++ no_train_at p x ∷ []) moves) (rule (elsewhere ++ train_at p x ∷ []) crashes)
          (rule-valid p (elsewhere ++ no_train_at p x ∷ []) moves
          (all-append (is_valid p) elsewhere (no_train_at p x ∷ []) (rests_out_of_position-valid n less) (all-cons (is_valid p) (no_train_at p x) [] (no_train_at-valid p x inside) refl))
          (all-cons (fits p) (set_detected p n Moving) [] (is_point_detected-valid p n Moving less) refl)
          (tt, tt))
          (rule-valid p (elsewhere ++ train_at p x ∷ []) crashes
          (all-append (is_valid p) elsewhere (train_at p x ∷ []) (rests_out_of_position-valid n less) (all-cons (is_valid p) (train_at p x) [] (train_at-valid p x inside) refl))
          (all-cons (fits p) (set_detected p n Moving) (set_occupancy p x Crash ∷ []) (is_point_detected-valid p n Moving less) (all-cons (fits p) (set_occupancy p x Crash) [] (occupancy_is-valid p x Crash inside) refl))
          (((λ same. omega (arith, less, same)), tt), (tt, tt))))

  pub settle-valid : (x : ℕ) → list_all (is_valid_rule p) (rules_of_settle p x) ≡ true
  settle-valid x = by_number (point_number p x) refl
    where
      one : (n : ℕ) → n < point_count p → (to : Position) → is_valid_rule p (rule (is_point_detected p n Moving ∷ is_point_commanded p n to ∷ []) (set_detected p n (lie_from_position to) ∷ [])) ≡ true
      one n less to =
          rule-valid p (is_point_detected p n Moving ∷ is_point_commanded p n to ∷ []) (set_detected p n (lie_from_position to) ∷ [])
          (all-cons (is_valid p) (is_point_detected p n Moving) (is_point_commanded p n to ∷ []) (is_point_detected-valid p n Moving less) (all-cons (is_valid p) (is_point_commanded p n to) [] (is_point_commanded-valid p n to less) refl))
          (all-cons (fits p) (set_detected p n (lie_from_position to)) [] (is_point_detected-valid p n (lie_from_position to) less) refl)
          (tt, tt)

      by_number : (o : Option ℕ) → point_number p x ≡ o → list_all (is_valid_rule p) (rules_of_settle p x) ≡ true
      by_number None e = rw e refl
      by_number (Some n) e =
          rw e (all-map (is_valid_rule p) (λ to. rule (is_point_detected p n Moving ∷ is_point_commanded p n to ∷ []) (set_detected p n (lie_from_position to) ∷ [])) (Plus ∷ Minus ∷ []) (λ i to at. one n (number-less x n e) to))

  pub enter-valid : (x : ℕ) → list_all (is_valid_rule p) (rules_of_enter p x) ≡ true
  enter-valid x = by_section (slice_get p.sections x) refl
    where
      by_inward : x < length p.sections → (o : Option Dir) → inward_direction_if_border p x ≡ o → list_all (is_valid_rule p) (rules_of_enter p x) ≡ true
      by_inward inside None e = rw e refl
      by_inward inside (Some d) e =
          let conditions : List Tree = no_train_at p x ∷ lock_is p x FreeLock ∷ [] in
          let sets : List Setting = set_occupancy p x (Taken d true true) ∷ [] in
          rw e (one_rule-valid p (rule conditions sets) (rule-valid p conditions sets
          (all-cons (is_valid p) (no_train_at p x) (lock_is p x FreeLock ∷ []) (no_train_at-valid p x inside) (all-cons (is_valid p) (lock_is p x FreeLock) [] (lock_is-valid p x FreeLock inside) refl))
          (all-cons (fits p) (set_occupancy p x (Taken d true true)) [] (occupancy_is-valid p x (Taken d true true) inside) refl)
          (tt, tt)))

      by_section : (o : Option Section) → slice_get p.sections x ≡ o → list_all (is_valid_rule p) (rules_of_enter p x) ≡ true
      by_section None e = let none : inward_direction_if_border p x ≡ None = rw e refl in rw none refl
      by_section (Some section) e = by_inward (slice_get_within p.sections x section e) (inward_direction_if_border p x) refl

  board_open_if_any-valid : (x : ℕ) (d : Dir) → list_all (is_valid p) (board_open_if_any p x d) ≡ true
  board_open_if_any-valid x d = by_board (board_of p x d) refl
    where
      by_board : (o : Option ℕ) → board_of p x d ≡ o → list_all (is_valid p) (board_open_if_any p x d) ≡ true
      by_board None e = rw e refl
      by_board (Some m) e = rw e (all-cons (is_valid p) (is_board_aspect p m Open) [] (is_board_aspect-valid p m Open (plant.boards_known x m d e)) refl)

  closes-fit : (x : ℕ) (d : Dir) → list_all (fits p) (close_section_board_if_any p x d) ≡ true
  closes-fit x d = by_board (board_of p x d) refl
    where
      by_board : (o : Option ℕ) → board_of p x d ≡ o → list_all (fits p) (close_section_board_if_any p x d) ≡ true
      by_board None e = rw e refl
      by_board (Some m) e = rw e (all-cons (fits p) (set_board_aspect p m Closed) [] (is_board_aspect-valid p m Closed (plant.boards_known x m d e)) refl)

  closes-elsewhere : (x y : ℕ) (d : Dir) → SetElsewhere (occupancy_var p y) (close_section_board_if_any p x d)
  closes-elsewhere x y d = by_board (board_of p x d) refl
    where
      by_board : (o : Option ℕ) → board_of p x d ≡ o → SetElsewhere (occupancy_var p y) (close_section_board_if_any p x d)
      by_board None e = rw e tt
      by_board (Some m) e = let known = plant.boards_known x m d e in rw e ((λ same. omega (arith, known, same)), tt)

  closes-once : (x : ℕ) (d : Dir) → SetOnce (close_section_board_if_any p x d)
  closes-once x d = by_board (board_of p x d) refl
    where
      by_board : (o : Option ℕ) → board_of p x d ≡ o → SetOnce (close_section_board_if_any p x d)
      by_board None e = rw e tt
      by_board (Some m) e = rw e (tt, tt)

  leg_set_if_facing-valid : (x : ℕ) (d : Dir) (y : ℕ) → list_all (is_valid p) (leg_set_if_facing p x d y) ≡ true
  leg_set_if_facing-valid x d y = by_section (slice_get p.sections x) refl
    where
      by_facing : (b : Bool) (tree : Tree) → is_valid p tree ≡ true → list_all (is_valid p) (cond b (tree ∷ []) []) ≡ true
      by_facing true tree h = all-cons (is_valid p) tree [] h refl
      by_facing false tree h = refl

      by_section : (o : Option Section) → slice_get p.sections x ≡ o → list_all (is_valid p) (leg_set_if_facing p x d y) ≡ true
      by_section None e = rw e refl
      by_section (Some (Linear down up board_down board_up)) e = rw e refl
      by_section (Some (Point stem plus minus faces)) e =
          rw e (by_facing (same_direction faces d) (section_point_is_detected p x (lie_from_position (leg_position plus y))) (section_point_is_detected-valid p x (lie_from_position (leg_position plus y))))

  not_wrong_from-valid : (x : ℕ) (d : Dir) (y : ℕ) → list_all (is_valid p) (not_wrong_from p x d y) ≡ true
  not_wrong_from-valid x d y = by_section (slice_get p.sections y) refl
    where
      by_facing : (plus : ℕ) (b : Bool) → is_valid p (cond b (negation (section_point_is_detected p y Moving)) (section_point_is_detected p y (lie_from_position (leg_position plus x)))) ≡ true
      by_facing plus true = section_point_is_detected-valid p y Moving
      by_facing plus false = section_point_is_detected-valid p y (lie_from_position (leg_position plus x))

      by_section : (o : Option Section) → slice_get p.sections y ≡ o → list_all (is_valid p) (not_wrong_from p x d y) ≡ true
      by_section None e = rw e refl
      by_section (Some (Linear down up board_down board_up)) e = rw e refl
      by_section (Some (Point stem plus minus faces)) e =
          rw e (all-cons (is_valid p) (not_wrong_on_point p x d y plus faces) [] (by_facing plus (same_direction faces d)) refl)

  abbrev AreNext : ℕ → ℕ → Type 0
  AreNext x y = (x < length p.sections) × (y < length p.sections) × (y ≡ x → ⊥)

  are-next : (x i y : ℕ) (d : Dir) → slice_get (next_to p x d) i ≡ Some y → AreNext x y
  are-next x i y d at =
      let there : contains_section y (next_to p x d) ≡ true = contains_section-at (next_to p x d) i y at in
      (by_section (slice_get p.sections x) refl, plant.neighbours x y d there, λ same. false≢true (sym (plant.neighbours_other x d) ∙ ap (λ z. contains_section z (next_to p x d)) (sym same) ∙ there))
    where
      by_section : (o : Option Section) → slice_get p.sections x ≡ o → x < length p.sections
      by_section None e = let none : next_to p x d ≡ [] = rw e refl in let bad = rw none at at in cc
      by_section (Some section) e = slice_get_within p.sections x section e

  head_move_conditions-valid : (x : ℕ) (d : Dir) (y : ℕ) (tail : Bool) → x < length p.sections → list_all (is_valid p) (head_move_conditions p x d y tail) ≡ true
  head_move_conditions-valid x d y tail inside =
      all-append (is_valid p) (occupancy_is p x (Taken d tail true) ∷ board_open_if_any p x d) (leg_set_if_facing p x d y)
      (all-cons (is_valid p) (occupancy_is p x (Taken d tail true)) (board_open_if_any p x d) (occupancy_is-valid p x (Taken d tail true) inside) (board_open_if_any-valid x d))
      (leg_set_if_facing-valid x d y)

  no_hazard_for_train-valid : (x : ℕ) (d : Dir) (y : ℕ) → y < length p.sections → list_all (is_valid p) (no_hazard_for_train p x d y) ≡ true
  no_hazard_for_train-valid x d y inside =
      all-cons (is_valid p) (no_train_at p y) (not_wrong_from p x d y) (no_train_at-valid p y inside) (not_wrong_from-valid x d y)

  head_move_settings-fits : (x : ℕ) (d : Dir) (y : ℕ) (tail : Bool) (there : Occupancy) → AreNext x y → list_all (fits p) (head_move_settings p x d y tail there) ≡ true
  head_move_settings-fits x d y tail there next =
      all-cons (fits p) (set_occupancy p x (Taken d tail false)) (set_occupancy p y there ∷ close_section_board_if_any p x d) (occupancy_is-valid p x (Taken d tail false) next.0)
      (all-cons (fits p) (set_occupancy p y there) (close_section_board_if_any p x d) (occupancy_is-valid p y there next.1) (closes-fit x d))

  head_move_settings-once : (x : ℕ) (d : Dir) (y : ℕ) (tail : Bool) (there : Occupancy) → AreNext x y → SetOnce (head_move_settings p x d y tail there)
  head_move_settings-once x d y tail there next =
      (((λ same. next.2 (omega (arith, same))), closes-elsewhere x x d), (closes-elsewhere x y d, closes-once x d))

  head_rules_to_neighbour-valid : (x : ℕ) (d : Dir) (y : ℕ) (tail : Bool) → AreNext x y → list_all (is_valid_rule p) (head_rules_to_neighbour p x d y tail) ≡ true
  head_rules_to_neighbour-valid x d y tail next =
      let may : List Tree = head_move_conditions p x d y tail in
      let free : List Tree = no_hazard_for_train p x d y in
      let not_free : Tree = any_of (trees_from_list (map negation free)) in
      two_rules-valid p (rule (may ++ free) (head_move_settings p x d y tail (Taken d false true))) (rule (may ++ not_free ∷ []) (head_move_settings p x d y tail Crash))
      (rule-valid p (may ++ free) (head_move_settings p x d y tail (Taken d false true))
      (all-append (is_valid p) may free (head_move_conditions-valid x d y tail next.0) (no_hazard_for_train-valid x d y next.1))
      (head_move_settings-fits x d y tail (Taken d false true) next)
      (head_move_settings-once x d y tail (Taken d false true) next))
      (rule-valid p (may ++ not_free ∷ []) (head_move_settings p x d y tail Crash)
      (all-append (is_valid p) may (not_free ∷ []) (head_move_conditions-valid x d y tail next.0)
      (all-cons (is_valid p) not_free [] (any_of-valid ranges (map negation free) ∙ list_all-map (is_valid p) negation free ∙ no_hazard_for_train-valid x d y next.1) refl))
      (head_move_settings-fits x d y tail Crash next)
      (head_move_settings-once x d y tail Crash next))

  pub head-valid : (x : ℕ) → list_all (is_valid_rule p) (rules_of_head p x) ≡ true
  head-valid x =
      all-flat_map (is_valid_rule p) (λ d. flat_map (λ y. flat_map (head_rules_to_neighbour p x d y) (true ∷ false ∷ [])) (next_to p x d)) all_directions (λ j d there.
      all-flat_map (is_valid_rule p) (λ y. flat_map (head_rules_to_neighbour p x d y) (true ∷ false ∷ [])) (next_to p x d) (λ i y at.
      all-flat_map (is_valid_rule p) (head_rules_to_neighbour p x d y) (true ∷ false ∷ []) (λ k tail which. head_rules_to_neighbour-valid x d y tail (are-next x i y d at))))

  tail_rule_to_neighbour-valid : (x : ℕ) (d : Dir) (y : ℕ) (head : Bool) → AreNext x y → is_valid_rule p (tail_rule_to_neighbour p x d y head) ≡ true
  tail_rule_to_neighbour-valid x d y head next =
      let before : Tree = occupancy_is p x (Taken d true false) in
      let after : Tree = occupancy_is p y (Taken d false head) in
      let sets : List Setting = set_occupancy p x Vacant ∷ set_occupancy p y (Taken d true head) ∷ [] in
      rule-valid p ((before ∷ leg_set_if_facing p x d y) ++ after ∷ []) sets
      (all-append (is_valid p) (before ∷ leg_set_if_facing p x d y) (after ∷ [])
      (all-cons (is_valid p) before (leg_set_if_facing p x d y) (occupancy_is-valid p x (Taken d true false) next.0) (leg_set_if_facing-valid x d y))
      (all-cons (is_valid p) after [] (occupancy_is-valid p y (Taken d false head) next.1) refl))
      (all-cons (fits p) (set_occupancy p x Vacant) (set_occupancy p y (Taken d true head) ∷ []) (occupancy_is-valid p x Vacant next.0)
      (all-cons (fits p) (set_occupancy p y (Taken d true head)) [] (occupancy_is-valid p y (Taken d true head) next.1) refl))
      (((λ same. next.2 (omega (arith, same))), tt), (tt, tt))

  pub tail-valid : (x : ℕ) → list_all (is_valid_rule p) (rules_of_tail p x) ≡ true
  tail-valid x =
      all-flat_map (is_valid_rule p) (λ d. flat_map (λ y. map (tail_rule_to_neighbour p x d y) (true ∷ false ∷ [])) (next_to p x d)) all_directions (λ j d there.
      all-flat_map (is_valid_rule p) (λ y. map (tail_rule_to_neighbour p x d y) (true ∷ false ∷ [])) (next_to p x d) (λ i y at.
      all-map (is_valid_rule p) (tail_rule_to_neighbour p x d y) (true ∷ false ∷ []) (λ k head which. tail_rule_to_neighbour-valid x d y head (are-next x i y d at))))

  leave_rule_in_direction-valid : (x : ℕ) (d : Dir) → x < length p.sections → is_valid_rule p (leave_rule_in_direction p x d) ≡ true
  leave_rule_in_direction-valid x d inside =
      rule-valid p (occupancy_is p x (Taken d true true) ∷ []) (set_occupancy p x Vacant ∷ [])
      (all-cons (is_valid p) (occupancy_is p x (Taken d true true)) [] (occupancy_is-valid p x (Taken d true true) inside) refl)
      (all-cons (fits p) (set_occupancy p x Vacant) [] (occupancy_is-valid p x Vacant inside) refl)
      (tt, tt)

  pub leave-valid : (x : ℕ) → list_all (is_valid_rule p) (rules_of_leave p x) ≡ true
  leave-valid x = by_section (slice_get p.sections x) refl
    where
      by_section : (o : Option Section) → slice_get p.sections x ≡ o → list_all (is_valid_rule p) (rules_of_leave p x) ≡ true
      by_section None e = rw e refl
      by_section (Some section) e =
          rw e (all-map (is_valid_rule p) (leave_rule_in_direction p x) (filter (λ d. not (has_neighbour section d)) all_directions) (λ i d at. leave_rule_in_direction-valid x d (slice_get_within p.sections x section e)))
