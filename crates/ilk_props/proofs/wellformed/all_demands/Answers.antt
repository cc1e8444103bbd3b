use Rattle.std.proofs.Common.{[], map}
use Rattle.ilk_base.proofs.Ranges.{grows_all}
use Rattle.ilk_ir.specs.Form.{tree_of}
use Rattle.ilk_props.specs.WellformedForm.{section_demands}
use Rattle.ilk_props.proofs.wellformed.all_demands.Goals as goal

pub loop-x-preserved : goal.loop-x-preserved
loop-x-preserved c =
    grows_all (section_demands c.args.plant.now) c.loop-x.x [] (map tree_of c.loop-x.demands.items) (map tree_of c.push_section_demands.new.demands.items) c.loop-x.invariant c.in_ok-push_section_demands.ensures
