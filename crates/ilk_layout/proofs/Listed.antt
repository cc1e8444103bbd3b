-- The meaning of a listed point's condition for a state, by its image; the condition is valid.
use Rattle.std.proofs.Common.{◌≡◌, ℕ, ◌<◌, ◌==◌, true, Option, Some, None, length, refl, ◌∙◌, arith}
use Rattle.ilk_base.proofs.Lists.{item_at}
use Rattle.ilk_ir.specs.Tree.{tree_holds, tree_valid}
use Rattle.ilk_plant.specs.Plant.{PlantLists, point_number}
use Rattle.ilk_plant.specs.Shape.{HasShape}
use Rattle.ilk_plant.specs.declared.network.Position.{Position}
use Rattle.ilk_plant.specs.declared.network.Position.TheVariants.{Plus, Minus}
use Rattle.ilk_plant.specs.declared.state.State.{State}
use Rattle.ilk_plant.specs.declared.table.Listed.{Listed}
use Rattle.ilk_plant.proofs.PointNumbers.{point_number-below}
use Rattle.ilk_routes.specs.Lies.{lie_from_position, is_point_detected_as_listed}
use Rattle.ilk_model.specs.Commanded.{is_point_commanded_as_listed, same_position}
use Rattle.ilk_layout.specs.Image.{image_of}
use Rattle.ilk_layout.specs.Values.{commanded_value}
use Rattle.ilk_layout.specs.Variables.{ranges_of_plant}
use Rattle.ilk_layout.specs.Conditions.{is_listed_point_commanded, is_listed_point_detected}
use Rattle.ilk_layout.proofs.Valid.{is_point_commanded-valid}
use Rattle.ilk_layout.proofs.ConditionValues.{at-holds, lies-test, to-holds}

position-test : (a b : Position) → (commanded_value a == commanded_value b) ≡ same_position a b
position-test Plus Plus = refl
position-test Plus Minus = refl
position-test Minus Plus = refl
position-test Minus Minus = refl

module _ (p : PlantLists) (s : State) (shape : HasShape p s) where
  pub is_listed_point_detected-holds : (listed : Listed) → tree_holds (image_of p s) (is_listed_point_detected p listed) ≡ is_point_detected_as_listed p s listed
  is_listed_point_detected-holds listed = by_number (point_number p listed.point) refl
    where
      by_number : (o : Option ℕ) → point_number p listed.point ≡ o → tree_holds (image_of p s) (is_listed_point_detected p listed) ≡ is_point_detected_as_listed p s listed
      by_number None e = rw e refl
      by_number (Some n) e =
          let below : n < length s.points = (let known = point_number-below p listed.point in let less = rw e at known in let count = shape.points in omega (arith, less)) in
          let point = item_at s.points n below in
          rw (e, point.1) (at-holds p s shape n point.0 (lie_from_position listed.at) point.1 ∙ lies-test point.0.at listed.at)

  pub is_listed_point_commanded-holds : (listed : Listed) → tree_holds (image_of p s) (is_listed_point_commanded p listed) ≡ is_point_commanded_as_listed p s listed
  is_listed_point_commanded-holds listed = by_number (point_number p listed.point) refl
    where
      by_number : (o : Option ℕ) → point_number p listed.point ≡ o → tree_holds (image_of p s) (is_listed_point_commanded p listed) ≡ is_point_commanded_as_listed p s listed
      by_number None e = rw e refl
      by_number (Some n) e =
          let below : n < length s.points = (let known = point_number-below p listed.point in let less = rw e at known in let count = shape.points in omega (arith, less)) in
          let point = item_at s.points n below in
          rw (e, point.1) (to-holds p s shape n point.0 listed.at point.1 ∙ position-test point.0.to listed.at)

pub is_listed_point_commanded-valid : (p : PlantLists) (listed : Listed) → tree_valid (ranges_of_plant p) (is_listed_point_commanded p listed) ≡ true
is_listed_point_commanded-valid p listed = by_number (point_number p listed.point) refl
  where
    by_number : (o : Option ℕ) → point_number p listed.point ≡ o → tree_valid (ranges_of_plant p) (is_listed_point_commanded p listed) ≡ true
    by_number None e = rw e refl
    by_number (Some n) e =
        let known = point_number-below p listed.point in let less = rw e at known in rw e (is_point_commanded-valid p n listed.at less)
