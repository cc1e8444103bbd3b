-- The steps of head.
use Rattle.std.proofs.Common.{◌≡◌, ℕ, zero, suc, ◌+◌, ◌==◌, Bool, true, false, ◌&&◌, ◌||◌, not, map, position, set, Some, None, List, [], ◌∷◌, ◌++◌, length, slice_get, subst, refl, sym, ◌∙◌, ap}
use Rattle.std.specs.List.{flat_map, list_all, list_any}
use Rattle.std.proofs.lemmas.Bool.{and_from, and_parts, eq-eqb}
use Rattle.std.proofs.lemmas.List.Folds.{list_all-append}
use Rattle.std.proofs.lemmas.Option.{cond_some, same_Some}
use Rattle.ilk_base.specs.Option.{is_some_and}
use Rattle.ilk_base.proofs.Options.{bind_some}
use Rattle.ilk_base.proofs.Positions.{position-at}
use Rattle.ilk_ir.specs.Tree.{Tree, any_of, negation, tree_holds, trees_from_list}
use Rattle.ilk_ir.specs.System.{PlainRule, after_settings}
use Rattle.ilk_ir.proofs.Trees.{all_of-holds}
use Rattle.ilk_plant.specs.Network.{contains_section}
use Rattle.ilk_plant.specs.Plant.{IsPlant, PlantLists, board_of, next_to}
use Rattle.ilk_plant.specs.Shape.{HasShape}
use Rattle.ilk_plant.specs.Sound.{IsAcyclic}
use Rattle.ilk_plant.specs.State.{is_occupied}
use Rattle.ilk_plant.specs.declared.network.Dir.{Dir}
use Rattle.ilk_plant.specs.declared.state.State.{State}
use Rattle.ilk_plant.specs.declared.state.Train.{Train}
use Rattle.ilk_plant.proofs.InLists.{section-at}
use Rattle.ilk_motion.specs.Ahead.{ahead}
use Rattle.ilk_motion.specs.Body.{has_head_at, is_last_section, with_new_head}
use Rattle.ilk_motion.specs.Trains.{after_head, may_pass_board, with_board_closed}
use Rattle.ilk_motion.proofs.Shape.{ahead-next_to}
use Rattle.ilk_model.specs.Hazard.{hazard}
use Rattle.ilk_layout.specs.Image.{image_of}
use Rattle.ilk_layout.specs.Occupancy.{occupancy_or_crash}
use Rattle.ilk_layout.specs.Standing.{is_point_wrong_between}
use Rattle.ilk_layout.specs.declared.values.Occupancy.{Occupancy}
use Rattle.ilk_layout.specs.declared.values.Occupancy.TheVariants.{Taken, Crash}
use Rattle.ilk_layout.proofs.Bodies.{last-at, last-has}
use Rattle.ilk_layout.proofs.Calm.{body-of, occupancy-in}
use Rattle.ilk_layout.proofs.Plants.{body-known, body-once}
use Rattle.ilk_layout.proofs.Trains.{with_trains}
use Rattle.ilk_layout.specs.Conditions.{occupancy_is}
use Rattle.ilk_behave.specs.Guards.{leg_set_if_facing, board_open_if_any}
use Rattle.ilk_behave.specs.Settings.{rule}
use Rattle.ilk_behave.specs.Steps.{RulesMatchEvent, guard_holds_in_image}
use Rattle.ilk_behave.specs.TrainRules.{no_hazard_for_train, head_move_settings, head_rules_to_neighbour, head_move_conditions, rules_of_head}
use Rattle.ilk_behave.proofs.Fired.{IsFor, Tells, any-of-all, in-one, neighbour_steps, occupancy-is}
use Rattle.ilk_behave.proofs.TailSteps.{leads-holds}
use Rattle.ilk_behave.proofs.HeadMoved.{head-clear, head-crash, head-follows, head-image}
use Rattle.ilk_behave.proofs.HeadTests.{IsHead, bars-holds, free-holds, goes-on, passes-holds}

module _ (p : PlantLists) (plant : IsPlant p) (never : IsAcyclic p) (s : State) (shape : HasShape p s) (calm : hazard p s ≡ None) where
  told-by : (x y : ℕ) (d : Dir) (tail : Bool) (conditions : List Tree) (there : Occupancy) →
      (m : IsHead p s x y d tail) →
      occupancy_or_crash p (with_trains s (set s.trains m.number (with_new_head y m.train))) y ≡ there →
      Tells p s (after_head p s x) (rule conditions (head_move_settings p x d y tail there))
  told-by x y d tail conditions there m is =
      record {
        state = with_board_closed (board_of p x m.train.dir) (with_trains s (set s.trains m.number (with_new_head y m.train)));
        follows = head-follows p plant never s shape calm m.number m.place x y m.train m.at m.there m.last m.led m.passes;
        image = ap (λ e. after_settings (image_of p s) (head_move_settings p x e y tail there)) (sym m.dir) ∙ head-image p plant never s shape calm m.number m.place x y m.train m.at m.there m.last m.led m.passes tail there m.begins is;
      }

  free-told : (x y : ℕ) (d : Dir) (tail : Bool) → contains_section y (next_to p x d) ≡ true →
      guard_holds_in_image p s
      (rule (head_move_conditions p x d y tail ++ no_hazard_for_train p x d y) (head_move_settings p x d y tail (Taken d false true)))
      ≡ true →
      Tells p s (after_head p s x)
      (rule (head_move_conditions p x d y tail ++ no_hazard_for_train p x d y) (head_move_settings p x d y tail (Taken d false true)))
  free-told x y d tail near h =
      let all = sym (list_all-append (tree_holds (image_of p s)) (head_move_conditions p x d y tail) (no_hazard_for_train p x d y)) ∙ sym (all_of-holds (image_of p s) (head_move_conditions p x d y tail ++ no_hazard_for_train p x d y)) ∙ h in
      let parts = and_parts (list_all (tree_holds (image_of p s)) (head_move_conditions p x d y tail)) (list_all (tree_holds (image_of p s)) (no_hazard_for_train p x d y)) all in
      let m = goes-on p plant never s shape calm x y d tail near parts.0 in
      let safe = unbarred (is_occupied s y || is_point_wrong_between p s y (Some x) None) (sym (free-holds p plant never s shape calm x y d near) ∙ parts.1) in
      told-by x y d tail (head_move_conditions p x d y tail ++ no_hazard_for_train p x d y) (Taken d false true) m
      (head-clear p plant never s shape calm m.number m.place x y m.train m.at m.there m.last m.led m.passes safe ∙ ap (λ e. Taken e false true) m.dir)
    where
      unbarred : (b : Bool) → not b ≡ true → b ≡ false
      unbarred true e = cc
      unbarred false e = refl

  crash-told : (x y : ℕ) (d : Dir) (tail : Bool) → contains_section y (next_to p x d) ≡ true →
      guard_holds_in_image p s
      (rule (head_move_conditions p x d y tail ++ any_of (trees_from_list (map negation (no_hazard_for_train p x d y))) ∷ [])
      (head_move_settings p x d y tail Crash)) ≡ true →
      Tells p s (after_head p s x)
      (rule (head_move_conditions p x d y tail ++ any_of (trees_from_list (map negation (no_hazard_for_train p x d y))) ∷ [])
      (head_move_settings p x d y tail Crash))
  crash-told x y d tail near h =
      let bars = any_of (trees_from_list (map negation (no_hazard_for_train p x d y))) in
      let all = sym (list_all-append (tree_holds (image_of p s)) (head_move_conditions p x d y tail) (bars ∷ [])) ∙ sym (all_of-holds (image_of p s) (head_move_conditions p x d y tail ++ bars ∷ [])) ∙ h in
      let parts = and_parts (list_all (tree_holds (image_of p s)) (head_move_conditions p x d y tail)) (list_all (tree_holds (image_of p s)) (bars ∷ [])) all in
      let m = goes-on p plant never s shape calm x y d tail near parts.0 in
      let barred = sym (bars-holds p plant never s shape calm x y d near) ∙ (and_parts (tree_holds (image_of p s) bars) true parts.1).0 in
      told-by x y d tail (head_move_conditions p x d y tail ++ bars ∷ []) Crash m (head-crash p plant never s shape calm m.number m.place x y m.train m.at m.there m.last m.led m.passes barred)

  head-told : (x y : ℕ) (d : Dir) (tail : Bool) → contains_section y (next_to p x d) ≡ true → (j : ℕ) (r : PlainRule) → slice_get (head_rules_to_neighbour p x d y tail) j ≡ Some r → guard_holds_in_image p s r ≡ true → Tells p s (after_head p s x) r
  head-told x y d tail near zero r at h =
      let same : rule (head_move_conditions p x d y tail ++ no_hazard_for_train p x d y) (head_move_settings p x d y tail (Taken d false true)) ≡ r = same_Some _ r at in
      subst (Tells p s (after_head p s x)) same (free-told x y d tail near (ap (guard_holds_in_image p s) same ∙ h))
  head-told x y d tail near (suc zero) r at h =
      let same : rule (head_move_conditions p x d y tail ++ any_of (trees_from_list (map negation (no_hazard_for_train p x d y))) ∷ []) (head_move_settings p x d y tail Crash) ≡ r = same_Some _ r at in
      subst (Tells p s (after_head p s x)) same (crash-told x y d tail near (ap (guard_holds_in_image p s) same ∙ h))
  head-told x y d tail near (suc (suc j)) r at h = cc

  head-fires : (x : ℕ) (after : State) → after_head p s x ≡ Some after → IsFor p s x (λ d y. flat_map (head_rules_to_neighbour p x d y) (true ∷ false ∷ []))
  head-fires x after e =
      let first = bind_some (position (has_head_at x) s.trains) _ after e in
      let train = bind_some (slice_get s.trains first.0) _ after first.2 in
      let next = bind_some (ahead p s x train.0.dir) _ after train.2 in
      let passes = (cond_some (may_pass_board s (board_of p x train.0.dir)) _ after next.2).0 in
      let last = position-at (has_head_at x) s.trains first.0 train.0 first.1 train.1 in
      let place = section-at x train.0.body (last-has x train.0.body last) in
      from first.0 train.0 next.0 place.0 train.1 place.1 last next.1 passes
    where
      flag : (tail : Bool) → (k : ℕ) × (slice_get (true ∷ false ∷ []) k ≡ Some tail)
      flag true = (zero, refl)
      flag false = (suc zero, refl)

      one-of : (a b c : Bool) → a ≡ true → b ≡ not c → ((a && b) || ((a && (c && true)) || false)) ≡ true
      one-of true true true h e = refl
      one-of true true false h e = refl
      one-of true false true h e = refl
      one-of true false false h e = cc
      one-of false b c h e = cc

      from : (i : ℕ) (t : Train) (y k : ℕ) → slice_get s.trains i ≡ Some t → slice_get t.body k ≡ Some x →
          is_last_section x t.body ≡ true → ahead p s x t.dir ≡ Some y → may_pass_board s (board_of p x t.dir) ≡ true →
          IsFor p s x (λ d y. flat_map (head_rules_to_neighbour p x d y) (true ∷ false ∷ []))
      from i t y k at place is led open_board =
          let d = t.dir in
          let tail = k == 0 in
          let body = body-of p plant never s shape calm i t at in
          let within_x = body-known p t k x plant body place in
          let near = ahead-next_to p s x y d led in
          let end : (k + 1 == length t.body) ≡ true = sym (last-at t.body k x (body-once p t never body) place) ∙ is in
          let at_x = occupancy-is p s shape x (Taken d tail true) within_x (occupancy-in p plant never s shape calm i k x t at place ∙ ap (Taken d tail) end) in
          let leads : list_all (tree_holds (image_of p s)) (leg_set_if_facing p x d y) ≡ true = leads-holds p plant s shape calm x y d near ∙ ap (λ o. is_some_and o (λ z. z == y)) led ∙ eq-eqb y y refl in
          let passes : list_all (tree_holds (image_of p s)) (board_open_if_any p x d) ≡ true = passes-holds p plant never s shape calm (board_of p x d) (λ m f. plant.boards_known x m d f) ∙ open_board in
          let may : list_all (tree_holds (image_of p s)) (head_move_conditions p x d y tail) ≡ true = and_from
          (tree_holds (image_of p s) (occupancy_is p x (Taken d tail true)))
          (list_all (tree_holds (image_of p s)) (board_open_if_any p x d ++ leg_set_if_facing p x d y)) at_x
          (list_all-append (tree_holds (image_of p s)) (board_open_if_any p x d) (leg_set_if_facing p x d y)
          ∙ and_from (list_all (tree_holds (image_of p s)) (board_open_if_any p x d))
          (list_all (tree_holds (image_of p s)) (leg_set_if_facing p x d y)) passes leads) in
          let bars = any_of (trees_from_list (map negation (no_hazard_for_train p x d y))) in
          let one :
          guard_holds_in_image p s
          (rule (head_move_conditions p x d y tail ++ no_hazard_for_train p x d y)
          (head_move_settings p x d y tail (Taken d false true)))
          ≡
          (list_all (tree_holds (image_of p s)) (head_move_conditions p x d y tail)
          && list_all (tree_holds (image_of p s)) (no_hazard_for_train p x d y)) =
          all_of-holds (image_of p s) (head_move_conditions p x d y tail ++ no_hazard_for_train p x d y)
          ∙ list_all-append (tree_holds (image_of p s)) (head_move_conditions p x d y tail) (no_hazard_for_train p x d y)
          in
          let two : guard_holds_in_image p s (rule (head_move_conditions p x d y tail ++ bars ∷ []) (head_move_settings p x d y tail Crash))
          ≡
          (list_all (tree_holds (image_of p s)) (head_move_conditions p x d y tail)
          && (tree_holds (image_of p s) bars && true)) =
          all_of-holds (image_of p s) (head_move_conditions p x d y tail ++ bars ∷ [])
          ∙ list_all-append (tree_holds (image_of p s)) (head_move_conditions p x d y tail) (bars ∷ []) in
          let apart : list_all (tree_holds (image_of p s)) (no_hazard_for_train p x d y) ≡ not (tree_holds (image_of p s) bars) = free-holds p plant never s shape calm x y d near ∙ ap not (sym (bars-holds p plant never s shape calm x y d near)) in
          let fires : list_any (guard_holds_in_image p s) (head_rules_to_neighbour p x d y tail) ≡ true =
          ap (λ b. b || (guard_holds_in_image p s (rule (head_move_conditions p x d y tail ++ bars ∷ []) (head_move_settings p x d y tail Crash)) || false)) one
          ∙ ap (λ b. (list_all (tree_holds (image_of p s)) (head_move_conditions p x d y tail) && list_all (tree_holds (image_of p s)) (no_hazard_for_train p x d y)) || (b || false)) two
          ∙ one-of (list_all (tree_holds (image_of p s)) (head_move_conditions p x d y tail)) (list_all (tree_holds (image_of p s)) (no_hazard_for_train p x d y)) (tree_holds (image_of p s) bars) may apart in
          let there = flag tail in
          record {
            dir = d;
            neighbour = y;
            beside = near;
            fires = any-of-all (guard_holds_in_image p s) (head_rules_to_neighbour p x d y) (true ∷ false ∷ []) there.0 tail there.1 fires;
          }

  pub head-steps : (x : ℕ) → RulesMatchEvent p s (after_head p s x) (rules_of_head p x)
  head-steps x =
      neighbour_steps p s (after_head p s x) x (λ d y. flat_map (head_rules_to_neighbour p x d y) (true ∷ false ∷ []))
      (λ d y j r near at h.
      (let one = in-one (head_rules_to_neighbour p x d y) (true ∷ false ∷ []) j r at in
      head-told x y d one.1 near one.2 r one.4 h))
      (head-fires x)
