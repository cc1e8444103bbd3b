use Rattle.std.proofs.Common.{◌≡◌, ◌^◌, ◌∷◌, ◌++◌, [], List, ◌∙◌, true, nat_lt, sym, ap, subst}
use Rattle.std.specs.Prelude.{slice_get}
use Rattle.std.specs.List.{list_all}
use Rattle.std.proofs.lemmas.Bool.{and_parts}
use Rattle.std.proofs.lemmas.Option.{same_Some}
use Rattle.ilk_cnf.specs.Formula.{is_clause_over}
use Rattle.ilk_log.specs.declared.step.Step.{Step}
use Rattle.ilk_formula_tests.proofs.FromOne.{from-one}
use Rattle.ilk_formula_tests.proofs.search_memory_tests.kept_line.Goals as goal

pub write_step-requires : goal.write_step-requires
write_step-requires c =
    let step = c.in-Some.step in
    let kept = c.in_ok-kept.kept in
    let parts = and_parts (is_clause_over (2 ^ 62) step.clause) _ ((c.in_ok-step.ensures step).0 c.in-Some.is).1 in
    let P : Step → Type 0 = λ s. list_all (λ h. nat_lt 0 h) s.hints ≡ true in
    let one = c.in_ok-push.ensures.ok ∙ ap (λ (log : List Step). log ++ step ∷ []) c.new-log.ensures in
    subst P (same_Some step kept (sym (ap (λ (log : List Step). slice_get log 0) one) ∙ c.in_ok-kept.ensures)) (from-one step.hints parts.1)
