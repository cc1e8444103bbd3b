use Rattle.std.proofs.Common.{List, ap, ◌∙◌, subst}
use Rattle.ilk_cnf.specs.Literal.{Literal}
use Rattle.ilk_rup.specs.Alike.{AreEquivalent}
use Rattle.ilk_rup.proofs.checker.Checker.new.Goals as goal

pub returns-clause-formula : goal.returns-clause-formula
returns-clause-formula c = ap (λ f. f.now) c.in_ok-propagate_units.ensures.same.formula ∙ c.in_ok-base.ensures.formula

pub returns-clause-alike : goal.returns-clause-alike
returns-clause-alike c = (let P : List (List Literal) → Type 0 = λ cs. AreEquivalent cs c.propagate_units.new.self.clauses.clauses in subst P c.in_ok-base.ensures.clauses c.in_ok-propagate_units.ensures.same.alike)
