use Rattle.std.proofs.Common.{true, false, ◌∙◌}
use Rattle.ilk_drive.proofs.LeastHazard.{hazard-after_none, hazard-after_one}
use Rattle.ilk_drive.proofs.touched.hazard_after.Goals as goal

pub returns-in_err-x : goal.returns-in_err-x
returns-in_err-x c s none e =
    c.from_residual.ensures ∙ hazard-after_none c.args.plant.now c.args.s.now c.args.event c.in_err-x.ensures s none e

pub returns-then-is_two : goal.returns-then-is_two
returns-then-is_two c =
    hazard-after_one c.args.plant.now c.args.s.now c.args.event c.in_ok-x.x true c.in_ok-x.ensures c.if-is_two.ensures

pub returns-else-is_two : goal.returns-else-is_two
returns-else-is_two c =
    hazard-after_one c.args.plant.now c.args.s.now c.args.event c.in_ok-x.x false c.in_ok-x.ensures c.if-is_two.ensures
