-- The steps of enter and leave.
use Rattle.std.proofs.Common.{◌≡◌, ℕ, zero, suc, ◌+◌, ◌<◌, ◌≤◌, ◌==◌, Bool, true, false, not, ◌&&◌, ◌||◌, cond, count_by, filter, position, Option, Some, None, List, [], ◌∷◌, ◌++◌, length, map, nat_lt, remove, set, slice_get, inl, inr, refl, sym, ◌∙◌, ap, arith, is_some}
use Rattle.std.specs.List.{list_any}
use Rattle.std.proofs.lemmas.Bool.{cases_Bool, eq-eqb, false≢true, ltb-false, ne_eqb, or_parts}
use Rattle.std.proofs.lemmas.Bool.Decides.{nat_tests}
use Rattle.std.proofs.lemmas.Option.{none-some, same_Some, slice_get_within}
use Rattle.ilk_base.specs.Option.{◌>>=◌, then_some}
use Rattle.ilk_base.proofs.Positions.{is_some-position, position-at}
use Rattle.ilk_base.proofs.Tested.{list_any-from}
use Rattle.ilk_ir.specs.Tree.{tree_holds}
use Rattle.ilk_ir.specs.System.{PlainRule, after_settings}
use Rattle.ilk_plant.specs.Network.{contains_section}
use Rattle.ilk_plant.specs.Plant.{IsPlant, PlantLists, inward_direction_if_border}
use Rattle.ilk_plant.specs.Shape.{HasShape}
use Rattle.ilk_plant.specs.Sound.{IsAcyclic}
use Rattle.ilk_plant.specs.State.{has_lock_state, is_unlocked_and_vacant, is_occupied, detected_position_in_state}
use Rattle.ilk_plant.specs.declared.network.Dir.{Dir}
use Rattle.ilk_plant.specs.declared.network.Dir.TheVariants.{Up, Down}
use Rattle.ilk_plant.specs.declared.network.Section.{Section}
use Rattle.ilk_plant.specs.declared.network.Section.TheVariants.{Linear, Point}
use Rattle.ilk_plant.specs.declared.state.Hold.TheVariants.{Free as FreeLock}
use Rattle.ilk_plant.specs.declared.state.State.{State}
use Rattle.ilk_plant.specs.declared.state.Train.{Train}
use Rattle.ilk_motion.specs.Body.{occupies_only, new_train_on}
use Rattle.ilk_motion.specs.Trains.{after_enter, after_leave, has_neighbour}
use Rattle.ilk_model.specs.Hazard.{hazard, has_two_trains, is_wrong_under_train, is_wrong_under_body}
use Rattle.ilk_layout.specs.Image.{image_of, occupancy_values}
use Rattle.ilk_layout.specs.Occupancy.{occupancy_or_crash}
use Rattle.ilk_layout.specs.Standing.{is_point_wrong_under}
use Rattle.ilk_layout.specs.Values.{occupancy_value}
use Rattle.ilk_layout.specs.Variables.{occupancy_var}
use Rattle.ilk_layout.specs.declared.values.Occupancy.{Occupancy}
use Rattle.ilk_layout.specs.declared.values.Occupancy.TheVariants.{Vacant, Taken, Crash}
use Rattle.ilk_model.proofs.Straying.{is_wrong_under_body-has}
use Rattle.ilk_layout.proofs.Trains.{has_x, occupancy-more, with_trains}
use Rattle.ilk_layout.proofs.Writes.{image_with}
use Rattle.ilk_layout.specs.Conditions.{lock_is, no_train_at, occupancy_is}
use Rattle.ilk_behave.specs.Settings.{set_occupancy, rule}
use Rattle.ilk_behave.specs.Steps.{RulesMatchEvent, guard_holds_in_image}
use Rattle.ilk_behave.specs.TrainRules.{leave_rule_in_direction, rules_of_enter, rules_of_leave}
use Rattle.ilk_layout.proofs.Calm.{calm-at, occupancy-in, taken-in}
use Rattle.ilk_behave.proofs.Tools.{no_rules, none_step, rule_step, rules_step}
use Rattle.ilk_layout.proofs.ConditionValues.{lock-holds, occupancy-holds, vacant-holds}
use Rattle.ilk_behave.proofs.Writing.{by_image}
use Rattle.ilk_behave.proofs.OneSection.{none-counted, one-written, only-body, only-of, position-some, removed-any, removed-count, removed-find, taken-parts, vacant-as}

module _ (p : PlantLists) (plant : IsPlant p) (never : IsAcyclic p) (s : State) (shape : HasShape p s) (calm : hazard p s ≡ None) where
  entered-other : (x y : ℕ) (d : Dir) → (y ≡ x → ⊥) → occupancy_or_crash p (with_trains s (s.trains ++ new_train_on x d ∷ [])) y ≡ occupancy_or_crash p s y
  entered-other x y d apart =
      let nay : (x == y) ≡ false = ne_eqb x y (λ e. apart (sym e)) in
      occupancy-more p s s.trains (new_train_on x d) y ∙ rw nay refl

  entered-here : (x : ℕ) (d : Dir) → inward_direction_if_border p x ≡ Some d → is_occupied s x ≡ false → occupancy_or_crash p (with_trains s (s.trains ++ new_train_on x d ∷ [])) x ≡ Taken d true true
  entered-here x d edge none =
      let own : (x == x) ≡ true = eq-eqb x x refl in
      let vacant = vacant-as p s x none in
      let right : is_point_wrong_under p s x (x ∷ []) ≡ false = by_section (slice_get p.sections x) refl in
      occupancy-more p s s.trains (new_train_on x d) x ∙ rw (own, vacant, right) refl
    where
      by_section : (o : Option Section) → slice_get p.sections x ≡ o → is_point_wrong_under p s x (x ∷ []) ≡ false
      by_section None e = rw e refl
      by_section (Some (Linear a b c f)) e = rw e refl
      by_section (Some (Point stem plus minus faces)) e = (let bad : None ≡ Some d = rw e at edge in cc)

  pub enter-steps : (x : ℕ) → RulesMatchEvent p s (after_enter p s x) (rules_of_enter p x)
  enter-steps x = by_border (inward_direction_if_border p x) refl
    where
      shuffle : (v l : Bool) → (v && (l && true)) ≡ (l && v)
      shuffle true true = refl
      shuffle true false = refl
      shuffle false true = refl
      shuffle false false = refl

      known : (d : Dir) → inward_direction_if_border p x ≡ Some d → x < length p.sections
      known d e = by_section (slice_get p.sections x) refl
        where
          by_section : (o : Option Section) → slice_get p.sections x ≡ o → x < length p.sections
          by_section None f = (let bad : None ≡ Some d = rw f at e in cc)
          by_section (Some section) f = slice_get_within p.sections x section f

      free : (a b : Bool) → (a && not b) ≡ true → b ≡ false
      free true true h = cc
      free true false h = refl
      free false b h = cc

      by_border : (o : Option Dir) → inward_direction_if_border p x ≡ o → RulesMatchEvent p s (after_enter p s x) (rules_of_enter p x)
      by_border None e = rw e (no_rules p s)
      by_border (Some d) e =
          let within = known d e in
          let vacant = vacant-holds p s shape calm x within in
          let lock = lock-holds p s shape x FreeLock within in
          rw e (rule_step p s (with_trains s (s.trains ++ new_train_on x d ∷ [])) (is_unlocked_and_vacant s x) (rule (no_train_at p x ∷ lock_is p x FreeLock ∷ []) (set_occupancy p x (Taken d true true) ∷ []))
          (ap (λ b. b && (tree_holds (image_of p s) (lock_is p x FreeLock) && true)) vacant ∙ ap (λ b. not (is_occupied s x) && (b && true)) lock ∙ shuffle (not (is_occupied s x)) (has_lock_state s x FreeLock))
          (λ h. by_image p s (with_trains s (s.trains ++ new_train_on x d ∷ []))
          (set_occupancy p x (Taken d true true) ∷ []) (ap
          (λ o. set (image_with s (occupancy_values p s)) (occupancy_var p x) (occupancy_value o))
          (sym (entered-here x d e (free (has_lock_state s x FreeLock) (is_occupied s x) h)))
          ∙ one-written p s (s.trains ++ new_train_on x d ∷ []) x shape within (λ y apart. entered-other x y d apart))))

  left-other : (i x y : ℕ) (t : Train) → slice_get s.trains i ≡ Some t → contains_section y t.body ≡ false → occupancy_or_crash p (with_trains s (remove s.trains i)) y ≡ occupancy_or_crash p s y
  left-other i x y t at away =
      let none : ◌≡◌ {A = ℕ} (cond (contains_section y t.body) 1 0) 0 = ap (λ b. cond b 1 0) away in
      let counted = removed-count (has_x y) s.trains i t 0 at none in
      let count : count_by (has_x y) (remove s.trains i) ≡ count_by (has_x y) s.trains = omega (arith, counted) in
      let two : has_two_trains (with_trains s (remove s.trains i)) y ≡ has_two_trains s y = ap (λ n. nat_lt 1 n) count in
      let wrong : is_wrong_under_train p (with_trains s (remove s.trains i)) y ≡ is_wrong_under_train p s y = by_section (slice_get p.sections y) refl in
      let found = removed-find (has_x y) s.trains i t at away in
      rw (two, wrong, found) refl
    where
      right : (plus minus : ℕ) → is_wrong_under_body y plus minus (detected_position_in_state p s y) t.body ≡ false
      right plus minus = elim (cases_Bool (is_wrong_under_body y plus minus (detected_position_in_state p s y) t.body)) [
        | inl aye ↦ absurd (false≢true (sym away ∙ is_wrong_under_body-has y plus minus (detected_position_in_state p s y) t.body aye))
        | inr nay ↦ nay
      ]

      by_section : (o : Option Section) → slice_get p.sections y ≡ o → is_wrong_under_train p (with_trains s (remove s.trains i)) y ≡ is_wrong_under_train p s y
      by_section None e = rw e refl
      by_section (Some (Linear a b c f)) e = rw e refl
      by_section (Some (Point stem plus minus faces)) e =
          rw e (removed-any (λ (train : Train). is_wrong_under_body y plus minus (detected_position_in_state p s y) train.body) s.trains i t at (right plus minus))

  left-here : (i x : ℕ) (t : Train) → slice_get s.trains i ≡ Some t → contains_section x t.body ≡ true → x < length p.sections → occupancy_or_crash p (with_trains s (remove s.trains i)) x ≡ Vacant
  left-here i x t at has within =
      let one : ◌≡◌ {A = ℕ} (cond (contains_section x t.body) 1 0) 1 = ap (λ b. cond b 1 0) has in
      let counted = removed-count (has_x x) s.trains i t 1 at one in
      let few : count_by (has_x x) s.trains ≤ 1 = ltb-false 1 (count_by (has_x x) s.trains) (or_parts (has_two_trains s x) (is_wrong_under_train p s x) (calm-at p s x calm within)).0 in
      let none : count_by (has_x x) (remove s.trains i) ≡ 0 = omega (arith, counted, few) in
      vacant-as p (with_trains s (remove s.trains i)) x (none-counted (has_x x) (remove s.trains i) none)

  leave-sets : (i x : ℕ) (t : Train) → slice_get s.trains i ≡ Some t → t.body ≡ x ∷ [] →
      x < length p.sections →
      set (image_with s (occupancy_values p s)) (occupancy_var p x) 0
      ≡ image_with (with_trains s (remove s.trains i))
      (occupancy_values p (with_trains s (remove s.trains i)))
  leave-sets i x t at body within =
      let own : (x == x) ≡ true = eq-eqb x x refl in
      let has : contains_section x t.body ≡ true = ap (contains_section x) body ∙ rw own refl in
      let here = left-here i x t at has within in
      ap (λ o. set (image_with s (occupancy_values p s)) (occupancy_var p x) (occupancy_value o)) (sym here)
      ∙ one-written p s (remove s.trains i) x shape within (λ y apart. left-other i x y t at (ap (contains_section y) body ∙ (let nay : (x == y) ≡ false = ne_eqb x y (λ e. apart (sym e)) in rw nay refl)))

  pub leave-steps : (x : ℕ) → RulesMatchEvent p s (after_leave p s x) (rules_of_leave p x)
  leave-steps x = by_section (slice_get p.sections x) refl
    where
      nay-other : (d : Dir) → position (occupies_only x) s.trains ≡ None → (occupancy_value (occupancy_or_crash p s x) == occupancy_value (Taken d true true)) ≡ false
      nay-other d none = by_value (occupancy_or_crash p s x) refl
        where
          stands : (e : Dir) → occupancy_or_crash p s x ≡ Taken e true true → ⊥
          stands e is =
              let found = taken-in p plant never s shape calm x e true true is in
              let same = sym (occupancy-in p plant never s shape calm found.0 found.2 x found.1 found.3 found.4) ∙ is in
              let ends = taken-parts found.1.dir e (found.2 == 0) (found.2 + 1 == length found.1.body) same in
              let alone = only-of x found.2 found.1.body found.4 ends.0 ends.1 in
              let some = list_any-from (occupies_only x) s.trains found.0 found.1 found.3 alone in
              let is_it : is_some (position (occupies_only x) s.trains) ≡ true = is_some-position (occupies_only x) s.trains ∙ some in
              (let bad : false ≡ true = rw none at is_it in false≢true bad)

          by_value : (o : Occupancy) → occupancy_or_crash p s x ≡ o → (occupancy_value o == occupancy_value (Taken d true true)) ≡ false
          by_value (Taken Up true true) e = absurd (stands Up e)
          by_value (Taken Down true true) e = absurd (stands Down e)
          by_value Vacant e = by_dir d
            where
              by_dir : (d : Dir) → (occupancy_value Vacant == occupancy_value (Taken d true true)) ≡ false
              by_dir Up = refl
              by_dir Down = refl
          by_value Crash e = by_dir d
            where
              by_dir : (d : Dir) → (occupancy_value Crash == occupancy_value (Taken d true true)) ≡ false
              by_dir Up = refl
              by_dir Down = refl
          by_value (Taken f true false) e = by_dir f d
            where
              by_dir : (f d : Dir) → (occupancy_value (Taken f true false) == occupancy_value (Taken d true true)) ≡ false
              by_dir Up Up = refl
              by_dir Up Down = refl
              by_dir Down Up = refl
              by_dir Down Down = refl
          by_value (Taken f false true) e = by_dir f d
            where
              by_dir : (f d : Dir) → (occupancy_value (Taken f false true) == occupancy_value (Taken d true true)) ≡ false
              by_dir Up Up = refl
              by_dir Up Down = refl
              by_dir Down Up = refl
              by_dir Down Down = refl
          by_value (Taken f false false) e = by_dir f d
            where
              by_dir : (f d : Dir) → (occupancy_value (Taken f false false) == occupancy_value (Taken d true true)) ≡ false
              by_dir Up Up = refl
              by_dir Up Down = refl
              by_dir Down Up = refl
              by_dir Down Down = refl

      and-true : (b : Bool) → (b && true) ≡ b
      and-true true = refl
      and-true false = refl

      guard : (d : Dir) → x < length p.sections → guard_holds_in_image p s (leave_rule_in_direction p x d) ≡ (occupancy_value (occupancy_or_crash p s x) == occupancy_value (Taken d true true))
      guard d within = and-true (tree_holds (image_of p s) (occupancy_is p x (Taken d true true))) ∙ occupancy-holds p s shape x (Taken d true true) within

      passing : (f : Dir → Bool) (e : Dir) → list_any (λ d. occupancy_value (Taken e true true) == occupancy_value (Taken d true true)) (filter f (Up ∷ Down ∷ [])) ≡ f e
      passing f e = by_tests (f Up) (f Down) refl refl e
        where
          by_tests : (a b : Bool) → f Up ≡ a → f Down ≡ b → (e : Dir) → list_any (λ d. occupancy_value (Taken e true true) == occupancy_value (Taken d true true)) (filter f (Up ∷ Down ∷ [])) ≡ f e
          by_tests true true u v Up = rw u refl
          by_tests true true u v Down = rw (u, v) refl
          by_tests true false u v Up = rw u refl
          by_tests true false u v Down = rw (u, v) refl
          by_tests false true u v Up = rw (u, v) refl
          by_tests false true u v Down = rw (u, v) refl
          by_tests false false u v Up = rw (u, v) refl
          by_tests false false u v Down = rw (u, v) refl

      any-rule : x < length p.sections → (ds : List Dir) → list_any (guard_holds_in_image p s) (map (leave_rule_in_direction p x) ds) ≡ list_any (λ d. occupancy_value (occupancy_or_crash p s x) == occupancy_value (Taken d true true)) ds
      any-rule within [] = refl
      any-rule within (d ∷ ds) =
          ap (λ b. b || list_any (guard_holds_in_image p s) (map (leave_rule_in_direction p x) ds)) (guard d within) ∙ ap (λ b. (occupancy_value (occupancy_or_crash p s x) == occupancy_value (Taken d true true)) || b) (any-rule within ds)

      none-fires : x < length p.sections → position (occupies_only x) s.trains ≡ None → (ds : List Dir) → list_any (λ d. occupancy_value (occupancy_or_crash p s x) == occupancy_value (Taken d true true)) ds ≡ false
      none-fires within none [] = refl
      none-fires within none (d ∷ ds) = (let nay = nay-other d none in rw nay (none-fires within none ds))

      rule-sets : (ds : List Dir) (i : ℕ) (r : PlainRule) → slice_get (map (leave_rule_in_direction p x) ds) i ≡ Some r → r.sets ≡ set_occupancy p x Vacant ∷ []
      rule-sets [] i r at = cc
      rule-sets (d ∷ ds) zero r at = (let same : leave_rule_in_direction p x d ≡ r = same_Some (leave_rule_in_direction p x d) r at in ap (λ (q : PlainRule). q.sets) (sym same))
      rule-sets (d ∷ ds) (suc i) r at = rule-sets ds i r at

      by_train : (section : Section) (i : ℕ) (t : Train) → x < length p.sections →
          position (occupies_only x) s.trains ≡ Some i → slice_get s.trains i ≡ Some t →
          RulesMatchEvent p s (then_some (not (has_neighbour section t.dir)) (with_trains s (remove s.trains i)))
          (map (leave_rule_in_direction p x) (filter (λ d. not (has_neighbour section d)) (Up ∷ Down ∷ [])))
      by_train section i t within first at =
          let body = only-body x t.body (position-at (occupies_only x) s.trains i t first at) in
          let place : slice_get t.body 0 ≡ Some x = ap (λ b. slice_get b 0) body in
          let long : length t.body ≡ 1 = ap length body in
          let ends : (0 + 1 == length t.body) ≡ true = grind (arith, nat_tests) in
          let is : occupancy_or_crash p s x ≡ Taken t.dir true true = occupancy-in p plant never s shape calm i 0 x t at place ∙ ap (Taken t.dir true) ends in
          rules_step p s (with_trains s (remove s.trains i)) (not (has_neighbour section t.dir)) (map (leave_rule_in_direction p x) (filter (λ d. not (has_neighbour section d)) (Up ∷ Down ∷ [])))
          (any-rule within (filter (λ d. not (has_neighbour section d)) (Up ∷ Down ∷ []))
          ∙ ap
          (λ o. list_any (λ d. occupancy_value o == occupancy_value (Taken d true true))
          (filter (λ d. not (has_neighbour section d)) (Up ∷ Down ∷ []))) is
          ∙ passing (λ d. not (has_neighbour section d)) t.dir)
          (λ k r there h.
          ap (after_settings (image_of p s))
          (rule-sets (filter (λ d. not (has_neighbour section d)) (Up ∷ Down ∷ [])) k r there)
          ∙ by_image p s (with_trains s (remove s.trains i)) (set_occupancy p x Vacant ∷ [])
          (leave-sets i x t at body within))

      by_place : (section : Section) (o : Option ℕ) → x < length p.sections →
          position (occupies_only x) s.trains ≡ o →
          RulesMatchEvent p s
          (o >>=
          (λ i. slice_get s.trains i >>=
          (λ t. then_some (not (has_neighbour section t.dir)) (with_trains s (remove s.trains i)))))
          (map (leave_rule_in_direction p x) (filter (λ d. not (has_neighbour section d)) (Up ∷ Down ∷ [])))
      by_place section None within none =
          none_step p s (map (leave_rule_in_direction p x) (filter (λ d. not (has_neighbour section d)) (Up ∷ Down ∷ [])))
          (any-rule within (filter (λ d. not (has_neighbour section d)) (Up ∷ Down ∷ []))
          ∙ none-fires within none (filter (λ d. not (has_neighbour section d)) (Up ∷ Down ∷ [])))
      by_place section (Some i) within first = by_item (slice_get s.trains i) refl
        where
          by_item : (o : Option Train) → slice_get s.trains i ≡ o →
              RulesMatchEvent p s
              (o >>=
              (λ t. then_some (not (has_neighbour section t.dir)) (with_trains s (remove s.trains i))))
              (map (leave_rule_in_direction p x) (filter (λ d. not (has_neighbour section d)) (Up ∷ Down ∷ [])))
          by_item None e = absurd (none-some ((position-some (occupies_only x) s.trains i first).0) (sym e ∙ (position-some (occupies_only x) s.trains i first).1))
          by_item (Some t) e = by_train section i t within first e

      by_section : (o : Option Section) → slice_get p.sections x ≡ o → RulesMatchEvent p s (after_leave p s x) (rules_of_leave p x)
      by_section None e = rw e (no_rules p s)
      by_section (Some section) e = rw e (by_place section (position (occupies_only x) s.trains) (slice_get_within p.sections x section e) refl)
