use Rattle.std.proofs.Common.{[], ap}
use Rattle.ilk_ir.specs.System.{plain_system}
use Rattle.ilk_unroll.specs.Goal.{plain_goal}
use Rattle.ilk_queries.proofs.Satisfying.{valid_goal, valid_system}
use Rattle.ilk_plant_audit.proofs.Over.{made_over}
use Rattle.ilk_plant_audit.proofs.audit.CertAudit.new.Goals as goal

pub new-requires-clause-system : goal.new-requires-clause-system
new-requires-clause-system c =
    valid_system c.args.plant.now (plain_system c.in_ok-system.system) c.in_ok-system.ensures.system c.behaviour.ensures.valid

pub new-requires-clause-goal : goal.new-requires-clause-goal
new-requires-clause-goal c =
    valid_goal c.args.plant.now c.in_ok-system.system.ranges (plain_goal c.in_ok-goal.goal) (ap (λ s. s.ranges) c.in_ok-system.ensures.system) c.in_ok-goal.ensures.goal c.in_ok-goal.ensures.valid

pub returns-clause-fed : goal.returns-clause-fed
returns-clause-fed c =
    made_over c.args.plant.now (plain_system c.in_ok-system.system) (plain_goal c.in_ok-goal.goal) c.new.result [] c.in_ok-system.ensures.system c.in_ok-goal.ensures.goal c.new.ensures
