use Rattle.std.proofs.Common.{true, false, [], ◌∷◌, map}
use Rattle.std.specs.List.{flat_map}
use Rattle.ilk_ir.specs.System.{plain_rule}
use Rattle.ilk_behave.specs.TrainRules.{head_rules_to_neighbour}
use Rattle.ilk_behave.proofs.Pushed.{two_pushed}
use Rattle.ilk_behave.proofs.heads.push_head_in.Goals as goal

pub returns : goal.returns
returns c =
    two_pushed (λ y. flat_map (head_rules_to_neighbour c.args.plant.now c.args.x c.args.d y) (true ∷ false ∷ []))
    c.args.plant.now c.args.x c.args.d (map plain_rule c.args.rules.now)
    (map plain_rule c.push_head_at.new.rules) (map plain_rule c.push_head_at-2.new.rules)
    c.in_ok-push_head_at.ensures c.in_ok-push_head_at-2.ensures
