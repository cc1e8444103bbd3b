-- The steps of throw and settle.
use Rattle.std.proofs.Common.{◌≡◌, ℕ, ◌==◌, Bool, true, false, not, ◌&&◌, ◌||◌, Option, Some, None, List, [], ◌∷◌, ◌++◌, set, slice_get, refl, sym, ◌∙◌, ap, length-set}
use Rattle.std.proofs.lemmas.Bool.{and_parts, or_parts}
use Rattle.std.proofs.lemmas.Option.{same_Some, slice_get_within}
use Rattle.ilk_base.proofs.Lists.{slice_get-set_same}
use Rattle.ilk_base.proofs.Truth.{or-true}
use Rattle.ilk_ir.specs.Tree.{Tree, tree_holds}
use Rattle.ilk_ir.specs.System.{after_settings}
use Rattle.ilk_ir.specs.declared.system.Setting.{Setting}
use Rattle.ilk_plant.specs.Network.{is_point}
use Rattle.ilk_plant.specs.Plant.{IsPlant, PlantLists, point_number}
use Rattle.ilk_plant.specs.Shape.{HasShape}
use Rattle.ilk_plant.specs.State.{is_occupied, detected_position_in_state}
use Rattle.ilk_plant.specs.declared.network.Position.{Position}
use Rattle.ilk_plant.specs.declared.network.Position.TheVariants.{Plus, Minus}
use Rattle.ilk_plant.specs.declared.network.Section.{Section}
use Rattle.ilk_plant.specs.declared.network.Section.TheVariants.{Linear, Point}
use Rattle.ilk_plant.specs.declared.state.Lie.{Lie}
use Rattle.ilk_plant.specs.declared.state.Lie.TheVariants.{Plus as LiesPlus, Minus as LiesMinus, Moving}
use Rattle.ilk_plant.specs.declared.state.PointState.{PointState}
use Rattle.ilk_plant.specs.declared.state.State.{State}
use Rattle.ilk_model.specs.Hazard.{hazard, is_section_hazardous, has_two_trains, is_wrong_under_train}
use Rattle.ilk_routes.specs.Lies.{is_lie_moving, lie_from_position, is_lie_at_position}
use Rattle.ilk_routes.specs.Points.{after_settle, after_throw}
use Rattle.ilk_layout.specs.Image.{image_of, occupancy_values}
use Rattle.ilk_layout.specs.Occupancy.{occupancy_or_crash}
use Rattle.ilk_layout.specs.Values.{detected_value, occupancy_value, commanded_value}
use Rattle.ilk_layout.specs.Variables.{occupancy_var}
use Rattle.ilk_layout.specs.declared.values.Occupancy.TheVariants.{Crash}
use Rattle.ilk_layout.proofs.Writes.{at-written, image_with, occupancy-written}
use Rattle.ilk_layout.specs.Conditions.{is_point_detected, no_train_at, is_point_commanded, train_at}
use Rattle.ilk_behave.specs.PointRules.{rests_out_of_position, rules_of_settle, rules_of_throw}
use Rattle.ilk_behave.specs.Settings.{set_detected, set_occupancy, rule}
use Rattle.ilk_behave.specs.Steps.{RulesMatchEvent, guard_holds_in_image}
use Rattle.ilk_layout.proofs.Calm.{calm-at}
use Rattle.ilk_plant.proofs.PointNumbers.{numbered-section}
use Rattle.ilk_behave.proofs.Occupancies.{occupancies-alone, occupancies-set, point-of, with_point}
use Rattle.ilk_behave.proofs.Tools.{no_rules, two_rules_step}
use Rattle.ilk_layout.proofs.ConditionValues.{at-holds, to-holds, vacant-holds}
use Rattle.ilk_behave.proofs.Writing.{by_image, with_lists}

module _ (p : PlantLists) (plant : IsPlant p) (s : State) (shape : HasShape p s) (calm : hazard p s ≡ None) where
  moving-alone : (x n : ℕ) → point_number p x ≡ Some n → detected_position_in_state p s x ≡ Some Moving → is_occupied s x ≡ false
  moving-alone x n number moves =
      let section = numbered-section p x n number in
      let within = slice_get_within p.sections x section.0 section.1 in
      by_section section.0 section.1 section.2 (or_parts (has_two_trains s x) (is_wrong_under_train p s x) (calm-at p s x calm within)).1
    where
      by_section : (section : Section) → slice_get p.sections x ≡ Some section → is_point section ≡ true → is_wrong_under_train p s x ≡ false → is_occupied s x ≡ false
      by_section (Linear a b c d) e is right = cc
      by_section (Point stem plus minus faces) e is right = rw (e, moves) at right

  settle-sets : (x n : ℕ) (point : PointState) (to : Position) → point_number p x ≡ Some n →
      slice_get s.points n ≡ Some point → is_occupied s x ≡ false → point.to ≡ to →
      after_settings (image_with s (occupancy_values p s)) (set_detected p n (lie_from_position to) ∷ [])
      ≡ image_with (with_point s n (record point { at = lie_from_position point.to }))
      (occupancy_values p (with_point s n (record point { at = lie_from_position point.to })))
  settle-sets x n point to number at none is =
      let goes : record point { at = lie_from_position to } ≡ record point { at = lie_from_position point.to } = ap (λ t. record point { at = lie_from_position t }) (sym is) in
      at-written p s (occupancy_values p s) shape n point (lie_from_position to) at
      ∙ ap (λ q. image_with (with_point s n q) (occupancy_values p s)) goes
      ∙ ap (image_with (with_point s n (record point { at = lie_from_position point.to }))) (sym (occupancies-alone p s x n (record point { at = lie_from_position point.to }) number none))

  pub settle-steps : (x : ℕ) → RulesMatchEvent p s (after_settle p s x) (rules_of_settle p x)
  settle-steps x = by_number (point_number p x) refl
    where
      guard : (n : ℕ) (point : PointState) (to : Position) → slice_get s.points n ≡ Some point →
          guard_holds_in_image p s (rule (is_point_detected p n Moving ∷ is_point_commanded p n to ∷ []) (set_detected p n (lie_from_position to) ∷ []))
          ≡ ((detected_value point.at == 2) && ((commanded_value point.to == commanded_value to) && true))
      guard n point to at =
          let one = at-holds p s shape n point Moving at in
          let two = to-holds p s shape n point to at in
          rw (one, two) refl

      moves : (at : Lie) (to : Position) → (((detected_value at == 2) && ((commanded_value to == 0) && true)) || ((detected_value at == 2) && ((commanded_value to == 1) && true))) ≡ is_lie_moving at
      moves LiesPlus Plus = refl
      moves LiesPlus Minus = refl
      moves LiesMinus Plus = refl
      moves LiesMinus Minus = refl
      moves Moving Plus = refl
      moves Moving Minus = refl

      is-moving : (at : Lie) (b : Bool) → ((detected_value at == 2) && b) ≡ true → at ≡ Moving
      is-moving LiesPlus b h = cc
      is-moving LiesMinus b h = cc
      is-moving Moving b h = refl

      is-to : (a : Bool) (to at : Position) → (a && ((commanded_value to == commanded_value at) && true)) ≡ true → to ≡ at
      is-to true Plus Plus h = refl
      is-to true Minus Minus h = refl
      is-to true Plus Minus h = cc
      is-to true Minus Plus h = cc
      is-to false to at h = cc

      by_number : (o : Option ℕ) → point_number p x ≡ o → RulesMatchEvent p s (after_settle p s x) (rules_of_settle p x)
      by_number None e = rw e (no_rules p s)
      by_number (Some n) e =
          let point = point-of p s shape x n e in
          let alone : (b : Bool) → ((detected_value point.0.at == 2) && b) ≡ true → is_occupied s x ≡ false = λ b h. moving-alone x n e (point.2 ∙ ap Some (is-moving point.0.at b h)) in
          let t = with_point s n (record point.0 { at = lie_from_position point.0.to }) in
          let at_plus = rule (is_point_detected p n Moving ∷ is_point_commanded p n Plus ∷ []) (set_detected p n (lie_from_position Plus) ∷ []) in
          let at_minus = rule (is_point_detected p n Moving ∷ is_point_commanded p n Minus ∷ []) (set_detected p n (lie_from_position Minus) ∷ []) in
          rw (e, point.1) (two_rules_step p s t ((detected_value point.0.at == 2) && ((commanded_value point.0.to == 0) && true)) ((detected_value point.0.at == 2) && ((commanded_value point.0.to == 1) && true))
          (is_lie_moving point.0.at) at_plus at_minus
          (guard n point.0 Plus point.1) (guard n point.0 Minus point.1) (moves point.0.at point.0.to)
          (λ h. by_image p s t (set_detected p n (lie_from_position Plus) ∷ []) (settle-sets x n point.0 Plus e point.1 (alone ((commanded_value point.0.to == 0) && true) h) (is-to (detected_value point.0.at == 2) point.0.to Plus h)))
          (λ h. by_image p s t (set_detected p n (lie_from_position Minus) ∷ []) (settle-sets x n point.0 Minus e point.1 (alone ((commanded_value point.0.to == 1) && true) h) (is-to (detected_value point.0.at == 2) point.0.to Minus h))))

  crashes : (x n : ℕ) (point : PointState) → point_number p x ≡ Some n → slice_get s.points n ≡ Some point → is_occupied s x ≡ true → occupancy_or_crash p (with_point s n (record point { at = Moving })) x ≡ Crash
  crashes x n point number at some =
      let t = with_point s n (record point { at = Moving }) in
      let shaped : HasShape p t = with_lists p s (set s.points n (record point { at = Moving })) s.boards s.locks shape (length-set s.points n (record point { at = Moving })) refl refl in
      let there = point-of p t shaped x n number in
      let stays : slice_get t.points n ≡ Some (record point { at = Moving }) = slice_get-set_same s.points n (record point { at = Moving }) (slice_get_within s.points n point at) in
      let is : there.0 ≡ record point { at = Moving } = same_Some there.0 (record point { at = Moving }) (sym there.1 ∙ stays) in
      let moves : detected_position_in_state p t x ≡ Some Moving = there.2 ∙ ap (λ (q : PointState). Some q.at) is in
      let section = numbered-section p x n number in
      let wrong : is_wrong_under_train p t x ≡ true = by_section section.0 section.1 section.2 moves in
      let hazard : is_section_hazardous p t x ≡ true = ap (λ b. has_two_trains t x || b) wrong ∙ or-true (has_two_trains t x) in
      rw hazard refl
    where
      by_section : (section : Section) → slice_get p.sections x ≡ Some section → is_point section ≡ true → detected_position_in_state p (with_point s n (record point { at = Moving })) x ≡ Some Moving
          → is_wrong_under_train p (with_point s n (record point { at = Moving })) x ≡ true
      by_section (Linear a b c d) e is moves = cc
      by_section (Point stem plus minus faces) e is moves = rw (e, moves) some

  pub throw-steps : (x : ℕ) → RulesMatchEvent p s (after_throw p s x) (rules_of_throw p x)
  throw-steps x = by_number (point_number p x) refl
    where
      elsewhere : (at : Lie) (to : Position) (v : Bool) →
          (not (detected_value at == 2)
          &&
          ((not (detected_value at == 0) || (not (commanded_value to == 0) || false))
          &&
          ((not (detected_value at == 1) || (not (commanded_value to == 1) || false))
          && (v && true))))
          ≡ ((not (is_lie_moving at) && not (is_lie_at_position at to)) && v)
      elsewhere LiesPlus Plus v = refl
      elsewhere LiesPlus Minus true = refl
      elsewhere LiesPlus Minus false = refl
      elsewhere LiesMinus Plus true = refl
      elsewhere LiesMinus Plus false = refl
      elsewhere LiesMinus Minus v = refl
      elsewhere Moving to v = refl

      either : (a v : Bool) → ((a && v) || (a && not v)) ≡ a
      either true true = refl
      either true false = refl
      either false v = refl

      parts : (n : ℕ) (point : PointState) → slice_get s.points n ≡ Some point → (v : Bool) (last : Tree) →
          tree_holds (image_of p s) last ≡ v →
          guard_holds_in_image p s (rule (rests_out_of_position p n ++ last ∷ []) [])
          ≡ ((not (is_lie_moving point.at) && not (is_lie_at_position point.at point.to)) && v)
      parts n point at v last is =
          let moving = at-holds p s shape n point Moving at in
          let plus = at-holds p s shape n point LiesPlus at in
          let minus = at-holds p s shape n point LiesMinus at in
          let to_plus = to-holds p s shape n point Plus at in
          let to_minus = to-holds p s shape n point Minus at in
          rw (moving, plus, minus, to_plus, to_minus, is) (elsewhere point.at point.to v)

      by_number : (o : Option ℕ) → point_number p x ≡ o → RulesMatchEvent p s (after_throw p s x) (rules_of_throw p x)
      by_number None e = rw e (no_rules p s)
      by_number (Some n) e =
          let point = point-of p s shape x n e in
          let section = numbered-section p x n e in
          let within = slice_get_within p.sections x section.0 section.1 in
          let vacant = vacant-holds p s shape calm x within in
          let thrown = record point.0 { at = Moving } in
          let t = with_point s n thrown in
          let written = at-written p s (occupancy_values p s) shape n point.0 Moving point.1 in
          let shaped : HasShape p t = with_lists p s (set s.points n thrown) s.boards s.locks shape (length-set s.points n thrown) refl refl in
          let off = not (is_lie_moving point.0.at) && not (is_lie_at_position point.0.at point.0.to) in
          let clear_sets : List Setting = set_detected p n Moving ∷ [] in
          let crash_sets : List Setting = set_detected p n Moving ∷ set_occupancy p x Crash ∷ [] in
          rw (e, point.1) (two_rules_step p s t (off && not (is_occupied s x)) (off && not (not (is_occupied s x))) off (rule (rests_out_of_position p n ++ no_train_at p x ∷ []) clear_sets)
          (rule (rests_out_of_position p n ++ train_at p x ∷ []) crash_sets)
          (parts n point.0 point.1 (not (is_occupied s x)) (no_train_at p x) vacant)
          (parts n point.0 point.1 (not (not (is_occupied s x))) (train_at p x) (ap not vacant))
          (either off (not (is_occupied s x)))
          (λ h. by_image p s t clear_sets (written ∙ ap (image_with t) (sym (occupancies-alone p s x n thrown e (free (is_occupied s x) (and_parts off (not (is_occupied s x)) h).1)))))
          (λ h. by_image p s t crash_sets (ap (λ values. set values (occupancy_var p x) 9) written
          ∙ occupancy-written p t (occupancy_values p s) shaped x 9
          ∙ ap (λ v. image_with t (set (occupancy_values p s) x v)) (sym (ap occupancy_value (crashes x n point.0 e point.1 (taken (is_occupied s x) (and_parts off (not (not (is_occupied s x))) h).1))))
          ∙ ap (image_with t) (occupancies-set p s x n thrown e within))))
        where
          free : (b : Bool) → not b ≡ true → b ≡ false
          free true h = cc
          free false h = refl

          taken : (b : Bool) → not (not b) ≡ true → b ≡ true
          taken true h = refl
          taken false h = cc
