use Rattle.std.proofs.Common.{[], map}
use Rattle.ilk_ir.specs.Form.{tree_of}
use Rattle.ilk_invs.specs.HoldFamilies.{at_most_one_holder}
use Rattle.ilk_base.proofs.Ranges.{grows_all}
use Rattle.ilk_invs.proofs.hold_family.v2_sections_held_once_form.Goals as goal

pub loop-x-preserved : goal.loop-x-preserved
loop-x-preserved c =
    grows_all (at_most_one_holder c.args.plant.now) c.loop-x.x [] (map tree_of c.loop-x.forms.items) (map tree_of c.push_held_once.new.forms.items) c.loop-x.invariant c.in_ok-push_held_once.ensures
