use Rattle.std.proofs.Common.{[], subst, sym}
use Rattle.ilk_model.specs.declared.event.Event.{Event}
use Rattle.ilk_drive.specs.Awakening.{neighbours_of}
use Rattle.ilk_drive.specs.Touched.{IsLeastHazardousAmong, sections_at_risk}
use Rattle.ilk_drive.proofs.LeastHazard.{least-none}
use Rattle.ilk_drive.proofs.touched.least_touched.Goals as goal

pub returns-in-Throw : goal.returns-in-Throw
returns-in-Throw c =
    subst (λ (e : Event). IsLeastHazardousAmong c.args.plant.now c.args.s.now (sections_at_risk c.args.plant.now e) c.lesser.result) (sym c.in-Throw.is) (c.lesser.ensures [] (least-none c.args.plant.now c.args.s.now))

pub returns-in-Settle : goal.returns-in-Settle
returns-in-Settle c =
    subst (λ (e : Event). IsLeastHazardousAmong c.args.plant.now c.args.s.now (sections_at_risk c.args.plant.now e) c.lesser-in-Settle.result) (sym c.in-Settle.is) (c.lesser-in-Settle.ensures [] (least-none c.args.plant.now c.args.s.now))

pub returns-in-Head : goal.returns-in-Head
returns-in-Head c =
    subst (λ (e : Event). IsLeastHazardousAmong c.args.plant.now c.args.s.now (sections_at_risk c.args.plant.now e) c.lesser-in-Head.result) (sym c.in-Head.is)
    (c.lesser-in-Head.ensures (neighbours_of c.args.plant.now c.in-Head.x) c.least_around-beside.ensures)
