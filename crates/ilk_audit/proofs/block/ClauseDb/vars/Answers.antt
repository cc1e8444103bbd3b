use Rattle.std.proofs.Common.{◌<◌, ◌^◌, arith, length, subst}
use Rattle.ilk_cnf.specs.Formula.{Formula}
use Rattle.ilk_audit.specs.Codes.{codes_in}
use Rattle.ilk_audit.specs.Stored.{split_into_clauses}
use Rattle.ilk_audit.proofs.Blocks.{clauses-few}
use Rattle.ilk_audit.proofs.block.ClauseDb.vars.Goals as goal

pub returns-clause-few : goal.returns-clause-few
returns-clause-few c =
    let b = c.self.inside in
    let few = clauses-few b.bounds.items (codes_in b.codes) in
    let P : Formula → Type 0 = λ f. length f.clauses < 2 ^ 64 in
    let small : length (split_into_clauses b.bounds.items (codes_in b.codes)) < 2 ^ 64 = omega (arith, few, c.len.ensures, c.len.type_inv, b.bounds.ok.0) in
    subst P c.self.view_is small
