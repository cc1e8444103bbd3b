use Rattle.std.proofs.Common.{◌≡◌, ◌+◌, ◌-◌, ◌<◌, ℕ, inl, inr, cond, List, [], ◌∷◌, ◌++◌, length, take, get_or, sym, ap, ◌∙◌, subst, arith, append_assoc, length-append}
use Rattle.std.specs.Prelude.{count_by}
use Rattle.std.proofs.lemmas.Bool.{and_from, and_parts, le-leb, lt-ltb, ltb-true}
use Rattle.std.proofs.lemmas.List.{take-append-le, get_or_past}
use Rattle.ilk_base.proofs.Ranges.{below_or_past}
use Rattle.std.proofs.lemmas.List.Sums.{count_by-le-length}
use Rattle.ilk_cnf.specs.Literal.{Literal, has_var, positive_lit}
use Rattle.ilk_cnf.specs.Formula.{Formula, with_var_count_and_clauses, is_lit_over}
use Rattle.ilk_log.specs.declared.step.Step.{Step}
use Rattle.ilk_log.specs.Derived.{step_clauses}
use Rattle.ilk_trail.specs.Trail.{TrailList}
use Rattle.ilk_watches.specs.Reasons.{HasReasons}
use Rattle.ilk_watches.proofs.Forced.{reasons-grown}
use Rattle.ilk_solver.specs.Levels.{LowerLevelsAreSaturated}
use Rattle.ilk_solver.specs.View.{TrailAndWeights, weight_of}
use Rattle.ilk_solver.specs.Held.{HoldsSearch}
use Rattle.ilk_solver.proofs.ClosedLevels.{closed-added}
use Rattle.ilk_solver.proofs.Searches.{known-closed, known-reasons}
use Rattle.ilk_log.proofs.Pushed.{clauses-push}
use Rattle.ilk_solver.proofs.Weights.{count_by-push}

pub held-added : (cs : Formula) (given : ℕ) (log : List Step) (view new : TrailAndWeights) (s : Step) →
    HoldsSearch cs given log view → LowerLevelsAreSaturated (s.clause ∷ []) view.trail.entries → new.trail ≡ view.trail →
    ((v : ℕ) → 0 < v → weight_of new v ≡ weight_of view v + cond (has_var v s.clause) 1 0) →
    HoldsSearch (with_var_count_and_clauses cs cs.vars (s.clause ∷ [])) given (log ++ s ∷ []) new
held-added cs given log view new s h apart same counts =
    let c = s.clause in
    let front : take given (cs.clauses ++ c ∷ []) ≡ take given cs.clauses = take-append-le given cs.clauses (c ∷ []) h.first in
    let laid : cs.clauses ++ c ∷ [] ≡ take given (cs.clauses ++ c ∷ []) ++ step_clauses (log ++ s ∷ []) =
    ap (λ xs. xs ++ c ∷ []) h.laid ∙ append_assoc (take given cs.clauses) (step_clauses log) (c ∷ [])
    ∙ ap (λ xs. take given cs.clauses ++ xs) (sym (clauses-push log s))
    ∙ ap (λ xs. xs ++ step_clauses (log ++ s ∷ [])) (sym front) in
    let reasons = reasons-grown cs.clauses (c ∷ []) view.trail.entries (known-reasons cs given log view h) in
    let closed = closed-added cs.clauses c view.trail.entries (known-closed cs given log view h) apart in
    let R : List (List Literal) → Type 0 = λ xs. HasReasons xs view.trail.entries in
    let S : TrailList → Type 0 = λ t. HasReasons (take given (cs.clauses ++ c ∷ []) ++ step_clauses (log ++ s ∷ [])) t.entries in
    let C : List (List Literal) → Type 0 = λ xs. LowerLevelsAreSaturated xs view.trail.entries in
    let D : TrailList → Type 0 = λ t. LowerLevelsAreSaturated (take given (cs.clauses ++ c ∷ []) ++ step_clauses (log ++ s ∷ [])) t.entries in
    record {
      first = (let l = length-append cs.clauses (c ∷ []) in let f = h.first in omega (arith, l, f));
      laid = laid;
      search = record {
        vars = ap (λ (t : TrailList). t.vars) same ∙ h.search.vars;
        reasons = subst S (sym same) (subst R laid reasons);
        closed = subst D (sym same) (subst C laid closed);
        weighed = λ v w.
            (let known = h.search.weighed v (ap (λ (t : TrailList). is_lit_over t.vars (positive_lit v)) (sym same) ∙ w) in
            let from_1 = ltb-true 0 v (and_parts _ _ w).0 in
            counts v from_1 ∙ ap (λ n. n + cond (has_var v c) 1 0) known ∙ sym (count_by-push (has_var v) (step_clauses log) c) ∙ ap (count_by (has_var v)) (sym (clauses-push log s)));
      };
    }

pub weight-fits : (cs : Formula) (given : ℕ) (log : List Step) (view : TrailAndWeights) (room : ℕ) → HoldsSearch cs given log view → length view.weights ≡ view.trail.vars → length cs.clauses + 1 < room → (i : ℕ) → get_or view.weights i 0 + 1 < room
weight-fits cs given log view room h long few i = elim (below_or_past i (length view.weights)) [
  | inl b ↦ (let back : i + 1 - 1 ≡ i = omega arith in
      let known = h.search.weighed (i + 1) (and_from _ _ (lt-ltb 0 (i + 1) (omega arith)) (le-leb (i + 1) view.trail.vars (omega (arith, long, b)))) in
      let here : get_or view.weights i 0 ≡ count_by (has_var (i + 1)) (step_clauses log) = ap (λ j. get_or view.weights j 0) (sym back) ∙ known in
      let most = count_by-le-length (has_var (i + 1)) (step_clauses log) in
      let size = ap length h.laid in
      let parts = length-append (take given cs.clauses) (step_clauses log) in
      omega (arith, here, most, size, parts, few))
  | inr b ↦ (let here = get_or_past view.weights i 0 b in omega (arith, here, few))
]
