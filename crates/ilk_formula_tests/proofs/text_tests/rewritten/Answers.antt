use Rattle.std.proofs.Common.{◌^◌}
use Rattle.std.proofs.lemmas.Bool.{and_parts}
use Rattle.ilk_cnf.specs.Formula.{is_clause_over}
use Rattle.ilk_formula_tests.proofs.FromOne.{from-one}
use Rattle.ilk_formula_tests.proofs.text_tests.rewritten.Goals as goal

pub write_step-requires : goal.write_step-requires
write_step-requires c =
    let step = c.in-Some.step in
    from-one step.hints (and_parts (is_clause_over (2 ^ 62) step.clause) _ ((c.in_ok-step.ensures step).0 c.in-Some.is).1).1
