use Rattle.std.proofs.Common.{◌≡◌, ◌↔◌, true, nat_lt, [], refl}
use Rattle.std.specs.List.{list_all}
use Rattle.ilk_cnf.proofs.Extending.{extends-clauses_from_lists}
use Rattle.ilk_ir.specs.System.{PlainSystem, system_valid}
use Rattle.ilk_unroll.specs.declared.queries.Wanted.{Wanted}
use Rattle.ilk_unroll.specs.Assignment.{EncodesWantedRun, run_assignment}
use Rattle.ilk_unroll.specs.Goal.{PlainGoalForms, goal_valid}
use Rattle.ilk_unroll.specs.Query.{query_formula, query_part}
use Rattle.ilk_unroll.specs.Satisfied.{IsSatisfiable}
use Rattle.ilk_unroll.proofs.QueryLaw.{query-law}
use Rattle.ilk_unroll.proofs.ReadBack.{ranges_fit-bytes}
use Rattle.ilk_unroll.specs.Evidence.{HasRun}

pub satisfiable-runs : (s : PlainSystem) (g : PlainGoalForms) (q : Wanted) → system_valid s ≡ true → list_all (λ range. nat_lt range 256) s.ranges ≡ true → goal_valid s.ranges g ≡ true → IsSatisfiable (query_formula s g q) ↔ HasRun s g q
satisfiable-runs s g q valid bytes fits =
    let p = query_part s g q in
    let law = extends-clauses_from_lists [] p.vars p.clauses (EncodesWantedRun s g q) (query-law s g q valid (ranges_fit-bytes s.ranges s.ranges refl bytes) fits) in (
      λ is. (let run = law.only is.assignment is.size is.satisfied in (run.0, run.1, run.2)),
      λ has. (let a = run_assignment s g q has.0 has.1 in
          let wanted : EncodesWantedRun s g q a = (has.0, has.1, has.2, refl) in
          record { assignment = a; size = law.sized a wanted; satisfied = law.all_satisfy a wanted }),
    )
