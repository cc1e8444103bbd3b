-- A log with one more step.
use Rattle.std.proofs.Common.{◌≡◌, ℕ, true, List, [], ◌∷◌, ◌++◌, refl, sym, ap, ◌∙◌, append_assoc}
use Rattle.std.proofs.lemmas.Bool.{and_parts, and_from}
use Rattle.std.proofs.lemmas.List.{append-nil}
use Rattle.ilk_cnf.specs.Literal.{Literal}
use Rattle.ilk_log.specs.declared.step.Step.{Step}
use Rattle.ilk_log.specs.Derived.{each_derived, is_derived, step_clauses}

pub clauses-push : (log : List Step) (s : Step) → step_clauses (log ++ s ∷ []) ≡ step_clauses log ++ s.clause ∷ []
clauses-push [] s = refl
clauses-push (t ∷ log) s = ap (λ (cs : List (List Literal)). t.clause ∷ cs) (clauses-push log s)

pub derived-push : (n : ℕ) (cs : List (List Literal)) (log : List Step) (s : Step) → each_derived n cs log ≡ true → is_derived n (cs ++ step_clauses log) s ≡ true → each_derived n cs (log ++ s ∷ []) ≡ true
derived-push n cs [] s h d = and_from (is_derived n cs s) true (ap (λ xs. is_derived n xs s) (sym (append-nil cs)) ∙ d) refl
derived-push n cs (t ∷ log) s h d =
    let p = and_parts (is_derived n cs t) (each_derived n (cs ++ t.clause ∷ []) log) h in
    and_from (is_derived n cs t) (each_derived n (cs ++ t.clause ∷ []) (log ++ s ∷ [])) p.0 (derived-push n (cs ++ t.clause ∷ []) log s p.1 (ap (λ xs. is_derived n xs s) (append_assoc cs (t.clause ∷ []) (step_clauses log)) ∙ d))
