use Rattle.ilk_ir.specs.System.{plain_system}
use Rattle.ilk_unroll.specs.Goal.{plain_goal}
use Rattle.ilk_queries.proofs.Satisfying.{formula_is, satisfiable_on}
use Rattle.ilk_queries.proofs.formulas.formula_of.Goals as goal

pub returns-clause-formula : goal.returns-clause-formula
returns-clause-formula c =
    formula_is c.query.result c.args.plant.now c.args.q (plain_system c.args.system.now) (plain_goal c.args.goal.now) c.requires.system c.requires.goal c.query.ensures.formula

pub returns-clause-satisfiable : goal.returns-clause-satisfiable
returns-clause-satisfiable c =
    satisfiable_on c.query.result c.args.plant.now c.args.q (plain_system c.args.system.now)
    (plain_goal c.args.goal.now) c.requires.system c.requires.goal c.prove_is_plant.ensures c.requires.steps
    c.requires.means c.requires.wanted c.query.ensures.sound c.query.ensures.complete
