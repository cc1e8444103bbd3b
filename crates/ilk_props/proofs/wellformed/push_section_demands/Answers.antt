use Rattle.std.proofs.Common.{map}
use Rattle.ilk_ir.specs.Form.{tree_of}
use Rattle.ilk_plant.specs.declared.network.Dir.TheVariants.{Up, Down}
use Rattle.ilk_props.specs.WellformedForm.{no_hazard_or_moving_point, neighbours_have_train_if_continuing}
use Rattle.ilk_props.proofs.Made.{three_made}
use Rattle.ilk_props.proofs.wellformed.push_section_demands.Goals as goal

pub returns : goal.returns
returns c =
    three_made (map tree_of c.args.demands.now.items) (map tree_of c.push_own_demands.new.demands.items)
    (map tree_of c.push_train_demands.new.demands.items)
    (map tree_of c.push_train_demands-2.new.demands.items) (no_hazard_or_moving_point c.args.plant.now c.args.x)
    (neighbours_have_train_if_continuing c.args.plant.now c.args.x Up) (neighbours_have_train_if_continuing c.args.plant.now c.args.x Down)
    c.in_ok-push_own_demands.ensures c.in_ok-push_train_demands.ensures
    c.in_ok-push_train_demands-2.ensures
