use Rattle.std.proofs.Common.{arith, ap}
use Rattle.ilk_trail.specs.Trail.{TrailList, level_of}
use Rattle.ilk_watches.specs.Chained.{formula_of}
use Rattle.ilk_solver.specs.Held.{search_with_log_and_view}
use Rattle.ilk_solver.specs.Search.{FormulaLogAndView}
use Rattle.ilk_solver.proofs.SetVariables.{level-few}
use Rattle.ilk_solver.proofs.search.Search.level.Goals as goal

pub returns-clause-few : goal.returns-clause-few
returns-clause-few c =
    let s = c.self.inside in
    let few = level-few (search_with_log_and_view (formula_of s.clauses) s.given s.log s.view) c.self.invariant.search.search c.vars.ensures.view in
    let here = ap (λ (x : FormulaLogAndView). x.formula.vars) c.self.view_is in
    let trail = ap (λ (t : TrailList). level_of t.entries) c.trail.ensures in
    omega (arith, few, here, trail, c.level.ensures.level)
