-- The section ahead of a section; the legs and the stem of a point.
use Rattle.std.proofs.Common.{◌≡◌, ℕ, Bool, true, false, ◌==◌, ◌&&◌, Option, Some, None, option_to_list, List, [], ◌∷◌, ◌++◌, inl, inr, ◌⊎◌, slice_get, refl, sym, ap, ◌∙◌, arith}
use Rattle.std.specs.Prelude.{if◌then◌else◌}
use Rattle.std.specs.List.{list_any}
use Rattle.std.proofs.lemmas.Bool.{and_parts, cases_Bool, eqb-true}
use Rattle.std.proofs.lemmas.Bool.Decides.{nat_tests}
use Rattle.std.proofs.lemmas.Option.{same_Some}
use Rattle.ilk_base.specs.Option.{◌>>=◌, is_some_and}
use Rattle.ilk_base.proofs.Options.{bind_some, some-and}
use Rattle.ilk_base.proofs.Tested.{list_any-at}
use Rattle.ilk_plant.specs.ColumnRules.{is_leg_at_position, is_listed_towards_any_section}
use Rattle.ilk_plant.specs.Network.{neighbours_on, board_on, contains_section, same_direction}
use Rattle.ilk_plant.specs.NetworkRules.{opposite_direction}
use Rattle.ilk_plant.specs.Once.{numbers_differ}
use Rattle.ilk_plant.specs.Plant.{IsPlant, PlantLists, board_of, next_to}
use Rattle.ilk_plant.specs.State.{detected_position_in_state}
use Rattle.ilk_plant.specs.declared.network.Dir.{Dir}
use Rattle.ilk_plant.specs.declared.network.Dir.TheVariants.{Up, Down}
use Rattle.ilk_plant.specs.declared.network.Position.{Position}
use Rattle.ilk_plant.specs.declared.network.Position.TheVariants.{Plus, Minus}
use Rattle.ilk_plant.specs.declared.network.Section.{Section}
use Rattle.ilk_plant.specs.declared.network.Section.TheVariants.{Linear, Point}
use Rattle.ilk_plant.specs.declared.state.Lie.{Lie}
use Rattle.ilk_plant.specs.declared.state.State.{State}
use Rattle.ilk_plant.specs.declared.table.Listed.{Listed}
use Rattle.ilk_plant.proofs.Sides.{back-opposite}
use Rattle.ilk_plant.proofs.InLists.{only-one}
use Rattle.ilk_plant.proofs.Alike.{one_direction}
use Rattle.ilk_motion.specs.Ahead.{ahead, section_led_to, detected_leg}
use Rattle.ilk_routes.specs.Lies.{lie_from_position, is_point_detected_as_listed, is_lie_at_position}
use Rattle.ilk_model.specs.Hazard.{are_adjacent_in_body, is_wrong_under_body}
use Rattle.ilk_model.proofs.Alike.{one_lie}

only-value : (o : Option ℕ) (a b : ℕ) → contains_section a (option_to_list o) ≡ true → contains_section b (option_to_list o) ≡ true → a ≡ b
only-value None a b h g = cc
only-value (Some y) a b h g = sym (only-one a y h) ∙ only-one b y g

pub board-one : (p : PlantLists) (x m a b : ℕ) (d : Dir) → board_of p x d ≡ Some m → contains_section a (next_to p x d) ≡ true → contains_section b (next_to p x d) ≡ true → a ≡ b
board-one p x m a b d board first second =
    let section = bind_some (slice_get p.sections x) (λ it. board_on it d) m board in
    let one : contains_section a (neighbours_on section.0 d) ≡ true = rw section.1 at first in
    let two : contains_section b (neighbours_on section.0 d) ≡ true = rw section.1 at second in
    of_section section.0 d section.2 one two
  where
    of_section : (it : Section) (d : Dir) → board_on it d ≡ Some m → contains_section a (neighbours_on it d) ≡ true → contains_section b (neighbours_on it d) ≡ true → a ≡ b
    of_section (Linear down up board_down board_up) Down e h g = only-value down a b h g
    of_section (Linear down up board_down board_up) Up e h g = only-value up a b h g
    of_section (Point stem plus minus faces) d e h g = cc

abbrev pub leg : ℕ → ℕ → Position → ℕ
leg plus minus Plus = plus
leg plus minus Minus = minus

abbrev pub other_leg : ℕ → ℕ → Position → ℕ
other_leg plus minus Plus = minus
other_leg plus minus Minus = plus

pub detected_leg-lie_from_position : (plus minus : ℕ) (at : Position) → detected_leg plus minus (lie_from_position at) ≡ Some (leg plus minus at)
detected_leg-lie_from_position plus minus Plus = refl
detected_leg-lie_from_position plus minus Minus = refl

pub is_wrong_under_body-lie_from_position : (x plus minus : ℕ) (at : Position) (body : List ℕ) → is_wrong_under_body x plus minus (Some (lie_from_position at)) body ≡ are_adjacent_in_body x (other_leg plus minus at) body
is_wrong_under_body-lie_from_position x plus minus Plus body = refl
is_wrong_under_body-lie_from_position x plus minus Minus body = refl

pub leg-is : (at : Position) (w stem plus minus : ℕ) (faces : Dir) → is_leg_at_position at w (Point stem plus minus faces) ≡ true → leg plus minus at ≡ w
leg-is Plus w stem plus minus faces h = eqb-true plus w h
leg-is Minus w stem plus minus faces h = eqb-true minus w h

pub record LegsDiffer (stem plus minus : ℕ) : Type 0 where
  pub stem_plus : stem ≡ plus → ⊥
  pub stem_minus : stem ≡ minus → ⊥
  pub plus_minus : plus ≡ minus → ⊥

pub legs-differ : (p : PlantLists) → IsPlant p → (x stem plus minus : ℕ) (faces : Dir) → slice_get p.sections x ≡ Some (Point stem plus minus faces) → LegsDiffer stem plus minus
legs-differ p plant x stem plus minus faces section =
    let once : numbers_differ (neighbours_on (Point stem plus minus faces) Down ++ neighbours_on (Point stem plus minus faces) Up) ≡ true = rw section at (plant.neighbours_once x) in
    by_side faces once
  where
    by_side : (faces : Dir) → numbers_differ (neighbours_on (Point stem plus minus faces) Down ++ neighbours_on (Point stem plus minus faces) Up) ≡ true → LegsDiffer stem plus minus
    by_side Up once = record {
      stem_plus = λ e. grind (arith, nat_tests);
      stem_minus = λ e. grind (arith, nat_tests);
      plus_minus = λ e. grind (arith, nat_tests);
    }
    by_side Down once = record {
      stem_plus = λ e. grind (arith, nat_tests);
      stem_minus = λ e. grind (arith, nat_tests);
      plus_minus = λ e. grind (arith, nat_tests);
    }

pub stem-no_leg : (stem plus minus : ℕ) (at : Position) → LegsDiffer stem plus minus → stem ≡ leg plus minus at → ⊥
stem-no_leg stem plus minus Plus differ e = differ.stem_plus e
stem-no_leg stem plus minus Minus differ e = differ.stem_minus e

pub stem-no_other : (stem plus minus : ℕ) (at : Position) → LegsDiffer stem plus minus → stem ≡ other_leg plus minus at → ⊥
stem-no_other stem plus minus Plus differ e = differ.stem_minus e
stem-no_other stem plus minus Minus differ e = differ.stem_plus e

pub leg-no_other : (stem plus minus : ℕ) (at : Position) → LegsDiffer stem plus minus → leg plus minus at ≡ other_leg plus minus at → ⊥
leg-no_other stem plus minus Plus differ e = differ.plus_minus e
leg-no_other stem plus minus Minus differ e = differ.plus_minus (sym e)

pub stem-side : (p : PlantLists) (x stem plus minus : ℕ) (faces d : Dir) (z : ℕ) → slice_get p.sections x ≡ Some (Point stem plus minus faces) → same_direction faces d ≡ false → contains_section z (next_to p x d) ≡ true → stem ≡ z
stem-side p x stem plus minus faces d z section turned h =
    let one : contains_section z (if same_direction faces d then plus ∷ minus ∷ [] else stem ∷ []) ≡ true = rw section at h in
    only-one z stem (rw turned at one)

opposite-turned : (d : Dir) → same_direction d (opposite_direction d) ≡ false
opposite-turned Up = refl
opposite-turned Down = refl

pub stem-before : (p : PlantLists) → IsPlant p → (before x stem plus minus : ℕ) (faces d : Dir) → slice_get p.sections x ≡ Some (Point stem plus minus faces) → faces ≡ d → contains_section x (next_to p before d) ≡ true → stem ≡ before
stem-before p plant before x stem plus minus faces d section same h =
    let turned : same_direction faces (opposite_direction d) ≡ false = rw same (opposite-turned d) in
    stem-side p x stem plus minus faces (opposite_direction d) before section turned (back-opposite p plant before x d h)

pub record LeadsToLeg (p : PlantLists) (s : State) (x : ℕ) (d : Dir) (y : ℕ) : Type 0 where
  pub stem : ℕ
  pub plus : ℕ
  pub minus : ℕ
  pub faces : Dir
  pub section : slice_get p.sections x ≡ Some (Point stem plus minus faces)
  pub same : faces ≡ d
  pub lie : Lie
  pub lies : detected_position_in_state p s x ≡ Some lie
  pub to_leg : detected_leg plus minus lie ≡ Some y

pub ahead-cases : (p : PlantLists) (s : State) (x y z : ℕ) (d : Dir) → ahead p s x d ≡ Some y → contains_section z (next_to p x d) ≡ true → (y ≡ z) ⊎ LeadsToLeg p s x d y
ahead-cases p s x y z d e h =
    let section = bind_some (slice_get p.sections x) (λ it. section_led_to it d (detected_position_in_state p s x)) y e in
    let one : contains_section z (neighbours_on section.0 d) ≡ true = rw section.1 at h in
    of_section section.0 d section.1 section.2 one
  where
    of_section : (it : Section) (d : Dir) → slice_get p.sections x ≡ Some it → section_led_to it d (detected_position_in_state p s x) ≡ Some y → contains_section z (neighbours_on it d) ≡ true → (y ≡ z) ⊎ LeadsToLeg p s x d y
    of_section (Linear down up board_down board_up) Down at leads h =
        let one : contains_section z (y ∷ []) ≡ true = rw leads at h in inl (only-one z y one)
    of_section (Linear down up board_down board_up) Up at leads h =
        let one : contains_section z (y ∷ []) ≡ true = rw leads at h in inl (only-one z y one)
    of_section (Point stem plus minus faces) d at leads h = elim (cases_Bool (same_direction faces d)) [
      | inl same ↦
          (let by_lie : (detected_position_in_state p s x >>= detected_leg plus minus) ≡ Some y = rw same at leads in
          let lie = bind_some (detected_position_in_state p s x) (detected_leg plus minus) y by_lie in
          inr (record {
            stem = stem;
            plus = plus;
            minus = minus;
            faces = faces;
            section = at;
            same = one_direction faces d same;
            lie = lie.0;
            lies = lie.1;
            to_leg = lie.2;
          }))
      | inr turned ↦
          (let to_stem : Some stem ≡ Some y = rw turned at leads in
          let one : contains_section z (stem ∷ []) ≡ true = rw turned at h in
          inl (sym (same_Some stem y to_stem) ∙ only-one z stem one))
    ]

pub record IsListedTo (p : PlantLists) (points : List Listed) (sections : List ℕ) (x : ℕ) : Type 0 where
  pub k : ℕ
  pub listed : Listed
  pub at : slice_get points k ≡ Some listed
  pub point : listed.point ≡ x
  pub j : ℕ
  pub w : ℕ
  pub among : slice_get sections j ≡ Some w
  pub leads : is_some_and (slice_get p.sections x) (is_leg_at_position listed.at w) ≡ true

pub listed_towards-at : (p : PlantLists) (points : List Listed) (sections : List ℕ) (x : ℕ) → is_listed_towards_any_section p points sections x ≡ true → IsListedTo p points sections x
listed_towards-at p points sections x h =
    let entry : (k : ℕ) × (listed : Listed) × (slice_get points k ≡ Some listed) × (((listed.point == x) && towards listed) ≡ true) = list_any-at (λ listed. (listed.point == x) && towards listed) points h in
    let both = and_parts (entry.1.point == x) (towards entry.1) entry.3 in
    let leads : (j : ℕ) × (w : ℕ) × (slice_get sections j ≡ Some w) × (is_some_and (slice_get p.sections x) (is_leg_at_position entry.1.at w) ≡ true) = list_any-at (λ y. is_some_and (slice_get p.sections x) (is_leg_at_position entry.1.at
    y)) sections both.1 in
    record {
      k = entry.0;
      listed = entry.1;
      at = entry.2;
      point = eqb-true entry.1.point x both.0;
      j = leads.0;
      w = leads.1;
      among = leads.2;
      leads = leads.3;
    }
  where
    towards : Listed → Bool
    towards listed = list_any (λ y. is_some_and (slice_get p.sections x) (is_leg_at_position listed.at y)) sections

pub lies-listed : (p : PlantLists) (s : State) (listed : Listed) (x : ℕ) → is_point_detected_as_listed p s listed ≡ true → listed.point ≡ x → detected_position_in_state p s x ≡ Some (lie_from_position listed.at)
lies-listed p s listed x h same =
    let lie = some-and (detected_position_in_state p s listed.point) (λ it. is_lie_at_position it listed.at) h in
    ap (detected_position_in_state p s) (sym same) ∙ lie.1 ∙ ap Some (one_lie lie.0 listed.at lie.2)
