use Rattle.std.proofs.Common.{◌≡◌, ◌<◌, ℕ, Bool, true, false, not, cond, List, [], ◌∷◌, ◌++◌, length, refl, sym, ap, ◌∙◌, subst, arith, length-append}
use Rattle.std.specs.Prelude.{count_by}
use Rattle.std.proofs.lemmas.Bool.{and_parts, and_from, not_from_false, true≢false}
use Rattle.std.proofs.lemmas.List.Sums.{count_by-le-length, sum_by-cons}
use Rattle.ilk_base.proofs.Tested.{list_all-more}
use Rattle.ilk_cnf.specs.Literal.{Literal}
use Rattle.ilk_cnf.specs.Formula.{Formula}
use Rattle.ilk_log.specs.declared.step.Step.{Step}
use Rattle.ilk_log.specs.Derived.{is_derived, is_derived_log, is_empty_clause, is_refutation, only_last_clause_is_empty, step_clauses}
use Rattle.ilk_log.specs.Fresh.{IsEmpowering, CanLearnButNotRefute}
use Rattle.ilk_log.proofs.Count.{fresh_few}
use Rattle.ilk_solver.specs.Search.{FormulaLogAndView}
use Rattle.ilk_solver.specs.Answered.{IsEmpoweringLogWithinBudget, IsSpentLog, has_no_empty_step}
use Rattle.ilk_log.proofs.Pushed.{derived-push}
use Rattle.ilk_solver.proofs.Logs.{fresh-push, ends-push}
use Rattle.ilk_solver.proofs.Weights.{count_by-push}

pub log-start : (f : Formula) (budget : ℕ) → IsEmpoweringLogWithinBudget f budget []
log-start f budget = record { derived = refl; fresh = tt; few = omega arith }

pub fresh-some : (cs : List (List Literal)) (c : List Literal) → IsEmpowering cs c → is_empty_clause c ≡ false
fresh-some cs [] h = absurd (true≢false (sym h.1))
fresh-some cs (l ∷ c) h = refl

pub log-more : (f : Formula) (budget : ℕ) (log : List Step) (s : Step) → IsEmpoweringLogWithinBudget f budget log →
    length log < budget → is_derived f.vars (f.clauses ++ step_clauses log) s ≡ true →
    IsEmpowering (f.clauses ++ step_clauses log) s.clause → IsEmpoweringLogWithinBudget f budget (log ++ s ∷ [])
log-more f budget log s h room d fr = record {
  derived = derived-push f.vars f.clauses log s h.derived d;
  fresh = fresh-push f.clauses log s h.fresh (λ _. fr);
  few = (let one = count_by-le-length (λ (t : Step). not (is_empty_clause t.clause)) (log ++ s ∷ []) in
      let size = length-append log (s ∷ []) in
      omega (arith, one, size, room));
}

pub has_no_empty_step-more : (cs : List (List Literal)) (log : List Step) (s : Step) → has_no_empty_step log ≡ true → IsEmpowering cs s.clause → has_no_empty_step (log ++ s ∷ []) ≡ true
has_no_empty_step-more cs log s h fr = list_all-more (λ (t : Step). not (is_empty_clause t.clause)) log s h (not_from_false (is_empty_clause s.clause) (fresh-some cs s.clause fr))

empty-is : (c : List Literal) → c ≡ [] → is_empty_clause c ≡ true
empty-is c e = ap is_empty_clause e

pub log-ended : (f : Formula) (budget : ℕ) (log : List Step) (s : Step) → IsEmpoweringLogWithinBudget f budget log → is_derived f.vars (f.clauses ++ step_clauses log) s ≡ true → s.clause ≡ [] → IsEmpoweringLogWithinBudget f budget (log ++ s ∷ [])
log-ended f budget log s h d e = record {
  derived = derived-push f.vars f.clauses log s h.derived d;
  fresh = fresh-push f.clauses log s h.fresh (λ some. absurd (true≢false (sym (empty-is s.clause e) ∙ some)));
  few = (let has : Step → Bool = λ t. not (is_empty_clause t.clause) in
      let more = count_by-push has log s in
      let none : ◌≡◌ {A = ℕ} (cond (has s) 1 0) 0 = ap (λ (b : Bool). let n : ℕ = cond (not b) 1 0 in n) (empty-is s.clause e) in
      let few = h.few in
      omega (arith, more, none, few));
}

pub refuted : (f : Formula) (budget : ℕ) (log : List Step) (s : Step) → IsEmpoweringLogWithinBudget f budget log → has_no_empty_step log ≡ true → is_derived f.vars (f.clauses ++ step_clauses log) s ≡ true → s.clause ≡ [] →
    is_refutation f (log ++ s ∷ []) ≡ true
refuted f budget log s h n d e = and_from (is_derived_log f (log ++ s ∷ [])) (only_last_clause_is_empty (log ++ s ∷ [])) (derived-push f.vars f.clauses log s h.derived d) (ends-push log s n (empty-is s.clause e))

count-each : (log : List Step) → has_no_empty_step log ≡ true → count_by (λ (s : Step). not (is_empty_clause s.clause)) log ≡ length log
count-each [] h = refl
count-each (s ∷ log) h =
    let has : Step → Bool = λ t. not (is_empty_clause t.clause) in
    let p = and_parts (has s) (has_no_empty_step log) h in
    let one = sum_by-cons (λ (t : Step). cond (has t) 1 0) s log in
    let here : ◌≡◌ {A = ℕ} (cond (has s) 1 0) 1 = ap (λ (b : Bool). let n : ℕ = cond b 1 0 in n) p.0 in
    let rest = count-each log p.1 in
    omega (arith, one, here, rest)

pub spent : (f : Formula) (budget : ℕ) (log : List Step) → IsEmpoweringLogWithinBudget f budget log → has_no_empty_step log ≡ true → length log ≡ budget → CanLearnButNotRefute f log → IsSpentLog f budget log
spent f budget log h n e st = record {
  steps = e;
  unfinished = n;
  stuck = st;
  small = (let few = fresh_few f log h.derived h.fresh in let each = count-each log n in omega (arith, few, each, e));
}

pub moved : (P : Formula → List Step → Type 0) (s : FormulaLogAndView) (f : Formula) (log : List Step) → s.formula ≡ f → s.log ≡ log → P s.formula s.log → P f log
moved P s f log e k h = subst (P f) k (subst (λ (g : Formula). P g s.log) e h)
