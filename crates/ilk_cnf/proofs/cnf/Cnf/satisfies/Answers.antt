use Rattle.std.proofs.Common.{◌≡◌, true, false, rules, ap, refl, sym, ◌∙◌}
use Rattle.ilk_base.proofs.Lists.{drop_from}
use Rattle.ilk_cnf.specs.Formula.{Formula}
use Rattle.ilk_cnf.specs.Truth.{is_clause_true, satisfies}
use Rattle.ilk_cnf.proofs.cnf.Cnf.satisfies.Goals as goal

pub returns-then-not-satisfies_clause : goal.returns-then-not-satisfies_clause
returns-then-not-satisfies_clause c =
    let a = c.args.a.now in
    let rest = ap (satisfies a) (drop_from c.self.inside.clauses c.loop-i.i c.at.result.now c.at.ensures) in
    let no : is_clause_true a c.at.result.now ≡ false = search rules in
    let here : satisfies a c.self.inside.clauses ≡ false = sym c.loop-i.invariant ∙ rest ∙ rw no refl in
    sym here ∙ ap (λ (f : Formula). satisfies a f.clauses) c.self.view_is

pub loop-i-preserved : goal.loop-i-preserved
loop-i-preserved c =
    let a = c.args.a.now in
    let rest = ap (satisfies a) (drop_from c.self.inside.clauses c.loop-i.i c.at.result.now c.at.ensures) in
    let yes : is_clause_true a c.at.result.now ≡ true = search rules in
    sym (rest ∙ rw yes refl) ∙ c.loop-i.invariant
