-- The rules of the two events of points.
use Rattle.std.specs.Prelude.{ℕ, List, [], ◌∷◌, ◌++◌, map}
use Rattle.ilk_ir.specs.System.{PlainRule}
use Rattle.ilk_ir.specs.Tree.{Tree, any_of, negation, trees_from_list}
use Rattle.ilk_plant.specs.Plant.{PlantLists, point_number}
use Rattle.ilk_plant.specs.declared.network.Position.TheVariants.{Plus, Minus}
use Rattle.ilk_plant.specs.declared.state.Lie.TheVariants.{Plus as LiesPlus, Minus as LiesMinus, Moving}
use Rattle.ilk_routes.specs.Lies.{lie_from_position}
use Rattle.ilk_layout.specs.declared.values.Occupancy.TheVariants.{Crash}
use Rattle.ilk_layout.specs.Conditions.{is_point_detected, train_at, is_point_commanded, no_train_at}
use Rattle.ilk_behave.specs.Settings.{set_detected, set_occupancy, rule, map_or_no_rules}

-- The conditions that point number `n` is not moving and is not in its commanded position.
abbrev pub rests_out_of_position : PlantLists → ℕ → List Tree
rests_out_of_position p n =
    negation (is_point_detected p n Moving)
    ∷ any_of (trees_from_list (negation (is_point_detected p n LiesPlus) ∷ negation (is_point_commanded p n Plus) ∷ []))
    ∷ any_of (trees_from_list (negation (is_point_detected p n LiesMinus) ∷ negation (is_point_commanded p n Minus) ∷ []))
    ∷ []

-- The rules of `throw x`: if the point on section `x` is not moving and not in its commanded
-- position, it starts to move. Under a train, the occupancy of `x` also becomes Crash.
abbrev pub rules_of_throw : PlantLists → ℕ → List PlainRule
rules_of_throw p x =
    map_or_no_rules (point_number p x) (λ n.
    rule (rests_out_of_position p n ++ no_train_at p x ∷ []) (set_detected p n Moving ∷ [])
    ∷ rule (rests_out_of_position p n ++ train_at p x ∷ []) (set_detected p n Moving ∷ set_occupancy p x Crash ∷ [])
    ∷ [])

-- The rules of `settle x`: if the point on section `x` is moving, it becomes detected in its
-- commanded position.
abbrev pub rules_of_settle : PlantLists → ℕ → List PlainRule
rules_of_settle p x =
    map_or_no_rules (point_number p x) (λ n.
    map (λ position. rule (is_point_detected p n Moving ∷ is_point_commanded p n position ∷ []) (set_detected p n (lie_from_position position) ∷ []))
    (Plus ∷ Minus ∷ []))
