use Rattle.std.proofs.Common.{◌≡◌, ◌++◌, filter, map}
use Rattle.std.specs.List.{range_with_len}
use Rattle.ilk_ir.specs.Tree.{negation}
use Rattle.ilk_ir.specs.Form.{tree_of}
use Rattle.ilk_plant.specs.declared.state.Mode.TheVariants.{Locked}
use Rattle.ilk_routes.specs.Boards.{is_protecting_board}
use Rattle.ilk_layout.specs.Conditions as conditions
use Rattle.ilk_behave.proofs.route_rules.push_no_protector_locked.Given as goal

abbrev pub invariant-loop-q : goal.invariant-loop-q
invariant-loop-q l =
    map tree_of l.forms.items ≡ map tree_of l.initial.forms.items
    ++ map (λ q. negation (conditions.mode_is q Locked)) (filter (λ q. is_protecting_board l.plant q l.m) (range_with_len 0 l.q))
