use Rattle.std.proofs.Common.{◌≡◌, ◌++◌, ◌∷◌, [], map}
use Rattle.std.specs.List.{range_with_len}
use Rattle.ilk_ir.specs.Form.{tree_of}
use Rattle.ilk_ir.specs.Tree.{negation}
use Rattle.ilk_plant.specs.declared.state.Mode.TheVariants.{Occupied}
use Rattle.ilk_layout.specs.Conditions.{mode_is, is_seen_count}
use Rattle.ilk_invs.specs.Held.{is_released_count_below}
use Rattle.ilk_invs.specs.Parts.{some_of}
use Rattle.ilk_invs.proofs.route_families.push_fewer_released.Given as goal

abbrev pub invariant-loop-k : goal.invariant-loop-k
invariant-loop-k l =
    map tree_of l.forms.items ≡ map tree_of l.initial.forms.items ++ map (λ k. some_of (negation (mode_is l.r Occupied) ∷ negation (is_seen_count l.r k) ∷ is_released_count_below l.r k ∷ [])) (range_with_len 0 l.k)
