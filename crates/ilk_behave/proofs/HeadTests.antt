-- The meaning of head's guards for a state.
use Rattle.std.proofs.Common.{◌≡◌, ℕ, ◌+◌, ◌<◌, ◌==◌, Bool, true, false, ◌&&◌, ◌||◌, not, map, Option, Some, None, List, [], ◌∷◌, ◌++◌, length, slice_get, refl, sym, ◌∙◌, ap, arith, cond}
use Rattle.std.specs.List.{list_all, list_any}
use Rattle.std.specs.Option.{option_to_list}
use Rattle.std.proofs.lemmas.Bool.{and_parts, eq-eqb, eqb-true, false≢true, ne_eqb}
use Rattle.std.proofs.lemmas.List.Folds.{list_all-append}
use Rattle.ilk_base.specs.Option.{is_some_and}
use Rattle.ilk_base.proofs.Lists.{item_at}
use Rattle.ilk_base.proofs.Options.{some-and}
use Rattle.ilk_base.proofs.Tested.{list_any-map}
use Rattle.ilk_ir.specs.Tree.{Tree, any_of, negation, tree_holds, trees_from_list}
use Rattle.ilk_ir.proofs.Trees.{any_of-holds}
use Rattle.ilk_plant.specs.Network.{contains_section, same_direction}
use Rattle.ilk_plant.specs.Plant.{IsPlant, PlantLists, board_of, next_to, point_number}
use Rattle.ilk_plant.specs.Shape.{HasShape}
use Rattle.ilk_plant.specs.Sound.{IsAcyclic}
use Rattle.ilk_plant.specs.State.{is_occupied, detected_position_in_state}
use Rattle.ilk_plant.specs.declared.network.Dir.{Dir}
use Rattle.ilk_plant.specs.declared.network.Dir.TheVariants.{Up, Down}
use Rattle.ilk_plant.specs.declared.network.Section.{Section}
use Rattle.ilk_plant.specs.declared.network.Section.TheVariants.{Linear, Point}
use Rattle.ilk_plant.specs.declared.state.Aspect.{Aspect}
use Rattle.ilk_plant.specs.declared.state.Aspect.TheVariants.{Closed, Open}
use Rattle.ilk_plant.specs.declared.state.Lie.{Lie}
use Rattle.ilk_plant.specs.declared.state.Lie.TheVariants.{Plus as LiesPlus, Minus as LiesMinus, Moving}
use Rattle.ilk_plant.specs.declared.state.State.{State}
use Rattle.ilk_plant.specs.declared.state.Train.{Train}
use Rattle.ilk_plant.specs.NetworkRules.{opposite_direction}
use Rattle.ilk_plant.proofs.PointNumbers.{point_number-below}
use Rattle.ilk_plant.proofs.Sides.{back-opposite}
use Rattle.ilk_plant.proofs.InLists.{only-one}
use Rattle.ilk_motion.specs.Ahead.{ahead}
use Rattle.ilk_motion.specs.Trains.{is_open, may_pass_board}
use Rattle.ilk_routes.specs.Boards.{same_aspect}
use Rattle.ilk_routes.specs.Lies.{is_lie_moving, lie_from_position, is_lie_at_position}
use Rattle.ilk_model.specs.Hazard.{hazard}
use Rattle.ilk_layout.specs.Image.{image_of}
use Rattle.ilk_layout.specs.Standing.{is_point_wrong_between}
use Rattle.ilk_layout.specs.declared.values.Occupancy.TheVariants.{Taken}
use Rattle.ilk_layout.proofs.Calm.{lie-known, occupancy-in, taken-in}
use Rattle.ilk_layout.proofs.Made.{legs-differ}
use Rattle.ilk_layout.specs.Conditions.{is_board_aspect, section_point_is_detected, occupancy_is}
use Rattle.ilk_layout.proofs.ConditionValues.{at-holds, board-holds, moving-test, vacant-holds}
use Rattle.ilk_behave.specs.Guards.{leg_set_if_facing, leg_position, board_open_if_any, not_wrong_from}
use Rattle.ilk_behave.specs.TrainRules.{no_hazard_for_train, head_move_conditions}
use Rattle.ilk_behave.proofs.AllocateSteps.{lie-holds}
use Rattle.ilk_behave.proofs.Fired.{has-neighbour-known, occupancy-known, parts-of-taken}
use Rattle.ilk_behave.proofs.TailSteps.{leads-holds}
use Rattle.ilk_behave.proofs.TailTests.{lies-nowhere}

abbrev taking : PlantLists → ℕ → ℕ → Dir → Option Section → List Tree
taking p x y d None = []
taking p x y d (Some (Linear down up b c)) = []
taking p x y d (Some (Point stem plus minus faces)) = cond (same_direction faces d) (negation (section_point_is_detected p y Moving)) (section_point_is_detected p y (lie_from_position (leg_position plus x))) ∷ []

takes-by : (p : PlantLists) (x y : ℕ) (d : Dir) (o : Option Section) → slice_get p.sections y ≡ o → not_wrong_from p x d y ≡ taking p x y d (slice_get p.sections y)
takes-by p x y d None e = rw e refl
takes-by p x y d (Some (Linear down up b c)) e = rw e refl
takes-by p x y d (Some (Point stem plus minus faces)) e = rw e refl

abbrev wrong_from : ℕ → ℕ → ℕ → Lie → Bool
wrong_from x plus minus Moving = true
wrong_from x plus minus LiesPlus = (x == minus) || false
wrong_from x plus minus LiesMinus = (x == plus) || false

some-fails : (holds : Tree → Bool) (ts : List Tree) → list_any (λ t. not (holds t)) ts ≡ not (list_all holds ts)
some-fails holds [] = refl
some-fails holds (t ∷ ts) = ap (λ b. not (holds t) || b) (some-fails holds ts) ∙ either (holds t) (list_all holds ts)
  where
    either : (a b : Bool) → (not a || not b) ≡ not (a && b)
    either true b = refl
    either false b = refl

pub record IsHead (p : PlantLists) (s : State) (x y : ℕ) (d : Dir) (tail : Bool) : Type 0 where
  pub number : ℕ
  pub train : Train
  pub place : ℕ
  pub at : slice_get s.trains number ≡ Some train
  pub there : slice_get train.body place ≡ Some x
  pub last : place + 1 ≡ length train.body
  pub dir : train.dir ≡ d
  pub begins : (place == 0) ≡ tail
  pub led : ahead p s x train.dir ≡ Some y
  pub passes : may_pass_board s (board_of p x train.dir) ≡ true

module _ (p : PlantLists) (plant : IsPlant p) (never : IsAcyclic p) (s : State) (shape : HasShape p s) (calm : hazard p s ≡ None) where
  pub passes-holds : (o : Option ℕ) → ((m : ℕ) → o ≡ Some m → m < length p.boards) → list_all (tree_holds (image_of p s)) (map (λ m. is_board_aspect p m Open) (option_to_list o)) ≡ may_pass_board s o
  passes-holds None known = refl
  passes-holds (Some m) known = ap (λ b. b && true) (board-holds p s shape m Open (known m refl)) ∙ same (slice_get s.boards m)
    where
      same : (o : Option Aspect) → (is_some_and o (λ now. same_aspect now Open) && true) ≡ is_some_and o is_open
      same None = refl
      same (Some Open) = refl
      same (Some Closed) = refl

  moving-holds : (x : ℕ) → tree_holds (image_of p s) (section_point_is_detected p x Moving) ≡ is_some_and (detected_position_in_state p s x) is_lie_moving
  moving-holds x = by_number (point_number p x) refl
    where
      by_number : (o : Option ℕ) → point_number p x ≡ o → tree_holds (image_of p s) (section_point_is_detected p x Moving) ≡ is_some_and (detected_position_in_state p s x) is_lie_moving
      by_number None e = rw e refl
      by_number (Some n) e =
          let below : n < length s.points = (let known = point_number-below p x in let less = rw e at known in let count = shape.points in omega (arith, less)) in
          let point = item_at s.points n below in
          rw (e, point.1) (at-holds p s shape n point.0 Moving point.1 ∙ moving-test point.0.at)

  pub takes-holds : (x y : ℕ) (d : Dir) → contains_section y (next_to p x d) ≡ true → list_all (tree_holds (image_of p s)) (not_wrong_from p x d y) ≡ not (is_point_wrong_between p s y (Some x) None)
  takes-holds x y d near = by_section (slice_get p.sections y) refl (back-opposite p plant x y d near)
    where
      wrong-known : (stem plus minus : ℕ) (faces : Dir) (l : Lie) → slice_get p.sections y ≡ Some (Point stem plus minus faces) → detected_position_in_state p s y ≡ Some l → is_point_wrong_between p s y (Some x) None ≡ wrong_from x plus minus l
      wrong-known stem plus minus faces Moving e f = rw (e, f) refl
      wrong-known stem plus minus faces LiesPlus e f = rw (e, f) refl
      wrong-known stem plus minus faces LiesMinus e f = rw (e, f) refl

      stem : (plus minus : ℕ) (l : Lie) → (x == minus) ≡ false → (x == plus) ≡ false → (not (is_lie_moving l) && true) ≡ not (wrong_from x plus minus l)
      stem plus minus Moving not_minus not_plus = refl
      stem plus minus LiesPlus not_minus not_plus = rw not_minus refl
      stem plus minus LiesMinus not_minus not_plus = rw not_plus refl

      leg : (plus minus : ℕ) (l : Lie) (b : Bool) → (plus == x) ≡ b → (plus ≡ minus → ⊥) → contains_section x (plus ∷ minus ∷ []) ≡ true → (is_lie_at_position l (leg_position plus x) && true) ≡ not (wrong_from x plus minus l)
      leg plus minus LiesPlus true e apart h = (let other : (x == minus) ≡ false = ne_eqb x minus (λ same. apart (eqb-true plus x e ∙ same)) in rw (e, other) refl)
      leg plus minus LiesPlus false e apart h = (let rest : ((minus == x) || false) ≡ true = rw e at h in let own : (x == minus) ≡ true = eq-eqb x minus (sym (only-one x minus rest)) in rw (e, own) refl)
      leg plus minus LiesMinus true e apart h = (let own : (x == plus) ≡ true = eq-eqb x plus (sym (eqb-true plus x e)) in rw (e, own) refl)
      leg plus minus LiesMinus false e apart h = (let other : (x == plus) ≡ false = ne_eqb x plus (λ same. false≢true (sym e ∙ eq-eqb plus x (sym same))) in rw (e, other) refl)
      leg plus minus Moving b e apart h = ap (λ v. v && true) (lies-nowhere (leg_position plus x))

      from-stem : (stem_of plus minus : ℕ) (faces : Dir) →
          slice_get p.sections y ≡ Some (Point stem_of plus minus faces) →
          contains_section x (stem_of ∷ []) ≡ true → not_wrong_from p x d y ≡ negation (section_point_is_detected p y Moving) ∷ [] →
          list_all (tree_holds (image_of p s)) (not_wrong_from p x d y)
          ≡ not (is_point_wrong_between p s y (Some x) None)
      from-stem stem_of plus minus faces e h takes =
          let differ = legs-differ p plant y stem_of plus minus faces e in
          let lie = lie-known p plant never s shape calm y stem_of plus minus faces e in
          let is : stem_of ≡ x = only-one x stem_of h in
          ap (list_all (tree_holds (image_of p s))) takes
          ∙ ap (λ b. not b && true) (moving-holds y ∙ ap (λ o. is_some_and o is_lie_moving) lie.1)
          ∙ stem plus minus lie.0 (ne_eqb x minus (λ same. differ.1 (is ∙ same))) (ne_eqb x plus (λ same. differ.2 (is ∙ same)))
          ∙ ap not (sym (wrong-known stem_of plus minus faces lie.0 e lie.1))

      from-leg : (stem_of plus minus : ℕ) (faces : Dir) →
          slice_get p.sections y ≡ Some (Point stem_of plus minus faces) →
          contains_section x (plus ∷ minus ∷ []) ≡ true →
          not_wrong_from p x d y ≡ section_point_is_detected p y (lie_from_position (leg_position plus x)) ∷ [] →
          list_all (tree_holds (image_of p s)) (not_wrong_from p x d y)
          ≡ not (is_point_wrong_between p s y (Some x) None)
      from-leg stem_of plus minus faces e h takes =
          let differ = legs-differ p plant y stem_of plus minus faces e in
          let lie = lie-known p plant never s shape calm y stem_of plus minus faces e in
          ap (list_all (tree_holds (image_of p s))) takes
          ∙ ap (λ b. b && true) (lie-holds p plant s shape calm y (leg_position plus x) ∙ ap (λ o. is_some_and o (λ l. is_lie_at_position l (leg_position plus x))) lie.1)
          ∙ leg plus minus lie.0 (plus == x) refl differ.0 h
          ∙ ap not (sym (wrong-known stem_of plus minus faces lie.0 e lie.1))

      takes : (stem_of plus minus : ℕ) (faces : Dir) → slice_get p.sections y ≡ Some (Point stem_of plus minus faces)
          → not_wrong_from p x d y ≡ cond (same_direction faces d) (negation (section_point_is_detected p y Moving)) (section_point_is_detected p y (lie_from_position (leg_position plus x))) ∷ []
      takes stem_of plus minus faces e = takes-by p x y d (slice_get p.sections y) refl ∙ ap (taking p x y d) e

      turned : (stem_of plus minus : ℕ) (faces e : Dir) → slice_get p.sections y ≡ Some (Point stem_of plus minus faces) → same_direction faces e ≡ true → contains_section x (next_to p y (opposite_direction e)) ≡ true →
          contains_section x (stem_of ∷ []) ≡ true
      turned stem_of plus minus Up Up e f h = rw e at h
      turned stem_of plus minus Down Down e f h = rw e at h
      turned stem_of plus minus Up Down e f h = cc
      turned stem_of plus minus Down Up e f h = cc

      straight : (stem_of plus minus : ℕ) (faces e : Dir) →
          slice_get p.sections y ≡ Some (Point stem_of plus minus faces) → same_direction faces e ≡ false →
          contains_section x (next_to p y (opposite_direction e)) ≡ true → contains_section x (plus ∷ minus ∷ []) ≡ true
      straight stem_of plus minus Up Down e f h = rw e at h
      straight stem_of plus minus Down Up e f h = rw e at h
      straight stem_of plus minus Up Up e f h = cc
      straight stem_of plus minus Down Down e f h = cc

      by_section : (o : Option Section) → slice_get p.sections y ≡ o → contains_section x (next_to p y (opposite_direction d)) ≡ true → list_all (tree_holds (image_of p s)) (not_wrong_from p x d y) ≡ not (is_point_wrong_between p s y (Some x) None)
      by_section None e h = rw e refl
      by_section (Some (Linear a b c f)) e h = rw e refl
      by_section (Some (Point stem_of plus minus faces)) e h = facing (same_direction faces d) refl
        where
          facing : (b : Bool) → same_direction faces d ≡ b → list_all (tree_holds (image_of p s)) (not_wrong_from p x d y) ≡ not (is_point_wrong_between p s y (Some x) None)
          facing true f = from-stem stem_of plus minus faces e (turned stem_of plus minus faces d e f h)
              (takes stem_of plus minus faces e ∙ ap (λ b. cond b (negation (section_point_is_detected p y Moving)) (section_point_is_detected p y (lie_from_position (leg_position plus x))) ∷ []) f)
          facing false f = from-leg stem_of plus minus faces e (straight stem_of plus minus faces d e f h)
              (takes stem_of plus minus faces e ∙ ap (λ b. cond b (negation (section_point_is_detected p y Moving)) (section_point_is_detected p y (lie_from_position (leg_position plus x))) ∷ []) f)

  pub free-holds : (x y : ℕ) (d : Dir) → contains_section y (next_to p x d) ≡ true → list_all (tree_holds (image_of p s)) (no_hazard_for_train p x d y) ≡ not (is_occupied s y || is_point_wrong_between p s y (Some x) None)
  free-holds x y d near =
      ap (λ b. b && list_all (tree_holds (image_of p s)) (not_wrong_from p x d y)) (vacant-holds p s shape calm y (plant.neighbours x y d near))
      ∙ ap (λ b. not (is_occupied s y) && b) (takes-holds x y d near)
      ∙ neither (is_occupied s y) (is_point_wrong_between p s y (Some x) None)
    where
      neither : (a b : Bool) → (not a && not b) ≡ not (a || b)
      neither true b = refl
      neither false b = refl

  pub bars-holds : (x y : ℕ) (d : Dir) → contains_section y (next_to p x d) ≡ true → tree_holds (image_of p s) (any_of (trees_from_list (map negation (no_hazard_for_train p x d y)))) ≡ (is_occupied s y || is_point_wrong_between p s y (Some x) None)
  bars-holds x y d near =
      any_of-holds (image_of p s) (map negation (no_hazard_for_train p x d y))
      ∙ list_any-map (tree_holds (image_of p s)) negation (no_hazard_for_train p x d y)
      ∙ some-fails (tree_holds (image_of p s)) (no_hazard_for_train p x d y)
      ∙ ap not (free-holds x y d near)
      ∙ twice (is_occupied s y || is_point_wrong_between p s y (Some x) None)
    where
      twice : (b : Bool) → not (not b) ≡ b
      twice true = refl
      twice false = refl

  pub goes-on : (x y : ℕ) (d : Dir) (tail : Bool) → contains_section y (next_to p x d) ≡ true → list_all (tree_holds (image_of p s)) (head_move_conditions p x d y tail) ≡ true → IsHead p s x y d tail
  goes-on x y d tail near h =
      let within_x = has-neighbour-known p plant x y d near in
      let one = and_parts (tree_holds (image_of p s) (occupancy_is p x (Taken d tail true))) (list_all (tree_holds (image_of p s)) (board_open_if_any p x d ++ leg_set_if_facing p x d y)) h in
      let two = and_parts (list_all (tree_holds (image_of p s)) (board_open_if_any p x d)) (list_all (tree_holds (image_of p s)) (leg_set_if_facing p x d y))
      (sym (list_all-append (tree_holds (image_of p s)) (board_open_if_any p x d) (leg_set_if_facing p x d y)) ∙ one.1) in
      let at_x = occupancy-known p s shape x (Taken d tail true) within_x one.0 in
      let led = some-and (ahead p s x d) (λ z. z == y) (sym (leads-holds p plant s shape calm x y d near) ∙ two.1) in
      let leads : ahead p s x d ≡ Some y = led.1 ∙ ap Some (eqb-true led.0 y led.2) in
      let passes : may_pass_board s (board_of p x d) ≡ true = sym (passes-holds (board_of p x d) (λ m e. plant.boards_known x m d e)) ∙ two.0 in
      let found = taken-in p plant never s shape calm x d tail true at_x in
      let is = parts-of-taken found.1.dir d (found.2 == 0) (found.2 + 1 == length found.1.body) tail true (sym (occupancy-in p plant never s shape calm found.0 found.2 x found.1 found.3 found.4) ∙ at_x) in
      record {
        number = found.0;
        train = found.1;
        place = found.2;
        at = found.3;
        there = found.4;
        last = eqb-true (found.2 + 1) (length found.1.body) is.2;
        dir = is.0;
        begins = is.1;
        led = ap (ahead p s x) is.0 ∙ leads;
        passes = ap (λ e. may_pass_board s (board_of p x e)) is.0 ∙ passes;
      }
