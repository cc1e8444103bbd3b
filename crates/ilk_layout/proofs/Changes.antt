-- Each change of a state is one write to its image, plus one for each section whose occupancy
-- changes.
use Rattle.std.proofs.Common.{◌≡◌, ℕ, ◌<◌, true, false, ◌==◌, ◌||◌, ◌≤◌, cond, count_by, find, nat_lt, option_map, Option, Some, None, List, length, map, set, slice_get, inl, inr, refl, sym, ◌∙◌, ap, subst, arith}
use Rattle.std.specs.List.{list_any, range_with_len}
use Rattle.std.proofs.lemmas.Bool.{cases_eq, eq-eqb, ne_eqb}
use Rattle.std.proofs.lemmas.List.FromFn.{length-map-range_with_len}
use Rattle.std.proofs.lemmas.Option.{slice_get-map, slice_get_past}
use Rattle.ilk_base.proofs.Lists.{same_by_slice_get, slice_get-set_other, slice_get-set_same}
use Rattle.ilk_base.proofs.Ranges.{below_or_past, range-at}
use Rattle.ilk_plant.specs.Plant.{PlantLists}
use Rattle.ilk_plant.specs.Shape.{HasShape}
use Rattle.ilk_plant.specs.State.{detected_position_in_state}
use Rattle.ilk_plant.specs.declared.network.Section.{Section}
use Rattle.ilk_plant.specs.declared.network.Section.TheVariants.{Linear, Point}
use Rattle.ilk_plant.specs.declared.state.Aspect.{Aspect}
use Rattle.ilk_plant.specs.declared.state.State.{State}
use Rattle.ilk_plant.specs.declared.state.Train.{Train}
use Rattle.ilk_model.specs.Hazard.{is_wrong_under_train, is_wrong_under_body}
use Rattle.ilk_layout.specs.Image.{image_of, occupancy_values}
use Rattle.ilk_layout.specs.Occupancy.{occupancy_or_crash, occupancy_by_train_if_any}
use Rattle.ilk_layout.specs.Values.{aspect_value, occupancy_value}
use Rattle.ilk_layout.specs.Variables.{board_var, occupancy_var}
use Rattle.ilk_layout.proofs.Trains.{has_x, with_trains}
use Rattle.ilk_layout.specs.declared.values.Occupancy.TheVariants.{Crash}
use Rattle.ilk_layout.proofs.Writes.{board-written, image_with, occupancy-written}

-- An occupancy depends only on the trains and on the position of its point.
pub occupancy-kept : (p : PlantLists) (s t : State) (x : ℕ) → t.trains ≡ s.trains → detected_position_in_state p t x ≡ detected_position_in_state p s x → occupancy_or_crash p t x ≡ occupancy_or_crash p s x
occupancy-kept p s t x trains lies i =
    cond (nat_lt 1 (count_by (has_x x) (trains i)) || wrong-same i) Crash (occupancy_by_train_if_any x (find (has_x x) (trains i)))
  where
    wrong-same : is_wrong_under_train p t x ≡ is_wrong_under_train p s x
    wrong-same = by_section (slice_get p.sections x) refl
      where
        by_section : (o : Option Section) → slice_get p.sections x ≡ o → is_wrong_under_train p t x ≡ is_wrong_under_train p s x
        by_section None e = rw e refl
        by_section (Some (Linear down up b c)) e = rw e refl
        by_section (Some (Point stem plus minus faces)) e = rw e (λ i. list_any (λ (train : Train). is_wrong_under_body x plus minus (lies i) train.body) (trains i))

-- Lists in which one value changes, or two.
pub table-one : (f g : ℕ → ℕ) (n x : ℕ) → x < n → ((y : ℕ) → y < n → (y ≡ x → ⊥) → g y ≡ f y) → set (map f (range_with_len 0 n)) x (g x) ≡ map g (range_with_len 0 n)
table-one f g n x within other = same_by_slice_get (set (map f (range_with_len 0 n)) x (g x)) (map g (range_with_len 0 n)) at
  where
    long : length (map f (range_with_len 0 n)) ≡ n
    long = length-map-range_with_len f 0 n

    value : (h : ℕ → ℕ) (y : ℕ) → y < n → slice_get (map h (range_with_len 0 n)) y ≡ Some (h y)
    value h y less = slice_get-map h (range_with_len 0 n) y ∙ ap (option_map h) (range-at n y less)

    past : (h : ℕ → ℕ) (y : ℕ) → n ≤ y → slice_get (map h (range_with_len 0 n)) y ≡ None
    past h y more = slice_get_past (map h (range_with_len 0 n)) y (let m = length-map-range_with_len h 0 n in omega arith)

    at : (y : ℕ) → slice_get (set (map f (range_with_len 0 n)) x (g x)) y ≡ slice_get (map g (range_with_len 0 n)) y
    at y =
        elim (cases_eq x y) [
          | inl same ↦
              (let P : ℕ → Type 0 = λ v. slice_get (set (map f (range_with_len 0 n)) x (g x)) v ≡ slice_get (map g (range_with_len 0 n)) v in
              subst P same (slice_get-set_same (map f (range_with_len 0 n)) x (g x) (let m = long in omega arith) ∙ sym (value g x within)))
          | inr apart ↦
              slice_get-set_other (map f (range_with_len 0 n)) x y (g x) apart
              ∙ elim (below_or_past y n) [
                | inl less ↦ value f y less ∙ ap Some (sym (other y less (λ e. apart (sym e)))) ∙ sym (value g y less)
                | inr more ↦ past f y more ∙ sym (past g y more)
              ]
        ]

abbrev changed : (ℕ → ℕ) → (ℕ → ℕ) → ℕ → ℕ → ℕ
changed f g x z = cond (z == x) (g z) (f z)

pub table-two : (f g : ℕ → ℕ) (n x y : ℕ) → x < n → y < n → (x ≡ y → ⊥) → ((z : ℕ) → z < n → (z ≡ x → ⊥) → (z ≡ y → ⊥) → g z ≡ f z) → set (set (map f (range_with_len 0 n)) x (g x)) y (g y) ≡ map g (range_with_len 0 n)
table-two f g n x y within_x within_y apart other =
    ap (λ l. set l y (g y)) (ap (set (map f (range_with_len 0 n)) x) (sym first) ∙ table-one f (changed f g x) n x within_x (λ z less ne. (let no_x : (z == x) ≡ false = ne_eqb z x ne in rw no_x refl))) ∙ table-one (changed f g x) g n y within_y rest
  where
    first : changed f g x x ≡ g x
    first = let own : (x == x) ≡ true = eq-eqb x x refl in rw own refl

    rest : (z : ℕ) → z < n → (z ≡ y → ⊥) → g z ≡ changed f g x z
    rest z less ne =
        elim (cases_eq z x) [
          | inl same ↦ (let own : (z == x) ≡ true = eq-eqb z x same in rw own refl)
          | inr differ ↦ (let no_x : (z == x) ≡ false = ne_eqb z x differ in rw no_x (other z less differ ne))
        ]

abbrev pub occupied : PlantLists → State → ℕ → ℕ
occupied p s x = occupancy_value (occupancy_or_crash p s x)

module _ (p : PlantLists) (s : State) (shape : HasShape p s) where
  pub image-board : (m : ℕ) (aspect : Aspect) → m < length p.boards → set (image_of p s) (board_var p m) (aspect_value aspect) ≡ image_of p (record s { boards = set s.boards m aspect })
  image-board m aspect within = board-written p s (occupancy_values p s) shape m aspect within

  -- Moving trains: two writes if two occupancies change.
  pub image-two : (ts : List Train) (x y : ℕ) → x < length p.sections → y < length p.sections → (x ≡ y → ⊥) → ((z : ℕ) → z < length p.sections → (z ≡ x → ⊥) → (z ≡ y → ⊥) → occupancy_or_crash p (with_trains s ts) z ≡ occupancy_or_crash p s z)
      → set (set (image_of p s) (occupancy_var p x) (occupied p (with_trains s ts) x)) (occupancy_var p y) (occupied p (with_trains s ts) y) ≡ image_of p (with_trains s ts)
  image-two ts x y within_x within_y apart other =
      ap (λ v. set v (occupancy_var p y) (occupied p (with_trains s ts) y)) (occupancy-written p s (occupancy_values p s) shape x (occupied p (with_trains s ts) x))
      ∙ occupancy-written p s (set (occupancy_values p s) x (occupied p (with_trains s ts) x)) shape y (occupied p (with_trains s ts) y)
      ∙ ap (image_with s) (table-two (occupied p s) (occupied p (with_trains s ts)) (length p.sections) x y within_x within_y apart (λ z less nx ny. ap occupancy_value (other z less nx ny)))
