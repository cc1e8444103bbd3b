use Rattle.std.proofs.Common.{◌≡◌, true, false, not, List, [], ◌∷◌, ◌++◌, sym, subst, append_assoc}
use Rattle.std.proofs.lemmas.Bool.{and_parts, and_from}
use Rattle.std.proofs.lemmas.List.{append-nil}
use Rattle.ilk_cnf.specs.Literal.{Literal}
use Rattle.ilk_log.specs.declared.step.Step.{Step}
use Rattle.ilk_log.specs.Derived.{only_last_clause_is_empty, is_empty_clause, step_clauses}
use Rattle.ilk_log.specs.Fresh.{EachEmpowering, IsEmpowering}
use Rattle.ilk_solver.specs.Answered.{has_no_empty_step}

pub fresh-push : (cs : List (List Literal)) (log : List Step) (s : Step) → EachEmpowering cs log → (is_empty_clause s.clause ≡ false → IsEmpowering (cs ++ step_clauses log) s.clause) → EachEmpowering cs (log ++ s ∷ [])
fresh-push cs [] s h f =
    let F : List (List Literal) → Type 0 = λ xs. is_empty_clause s.clause ≡ false → IsEmpowering xs s.clause in
    (subst F (append-nil cs) f, tt)
fresh-push cs (t ∷ log) s h f =
    let F : List (List Literal) → Type 0 = λ xs. is_empty_clause s.clause ≡ false → IsEmpowering xs s.clause in
    (h.0, fresh-push (cs ++ t.clause ∷ []) log s h.1 (subst F (sym (append_assoc cs (t.clause ∷ []) (step_clauses log))) f))

pub ends-push : (log : List Step) (s : Step) → has_no_empty_step log ≡ true → is_empty_clause s.clause ≡ true → only_last_clause_is_empty (log ++ s ∷ []) ≡ true
ends-push [] s h e = e
ends-push (t ∷ []) s h e = (let p = and_parts (not (is_empty_clause t.clause)) true h in and_from (not (is_empty_clause t.clause)) (is_empty_clause s.clause) p.0 e)
ends-push (t ∷ (u ∷ log)) s h e =
    let p = and_parts (not (is_empty_clause t.clause)) (has_no_empty_step (u ∷ log)) h in
    and_from (not (is_empty_clause t.clause)) (only_last_clause_is_empty ((u ∷ log) ++ s ∷ [])) p.0 (ends-push (u ∷ log) s p.1 e)
