use Rattle.ilk_props.specs.HazardForm.{hazard_in_section}
use Rattle.ilk_props.proofs.Made.{form_made}
use Rattle.ilk_props.proofs.hazard.some_crash.Goals as goal

pub loop-x-preserved : goal.loop-x-preserved
loop-x-preserved c =
    form_made (hazard_in_section c.args.plant.now) c.loop-x.x c.loop-x.sections.items c.push.new.self.items c.hazard_in_section.result c.loop-x.invariant c.in_ok-push.ensures.items c.hazard_in_section.ensures
