use Rattle.std.proofs.Common.{◌≡◌, ◌&&◌, ◌-◌, ◌<◌, ℕ, Bool, true, false, not, inl, inr, List, [], ◌∷◌, length, refl, sym, ◌∙◌, subst, arith}
use Rattle.std.specs.Prelude.{is_none, nat_lt, Result, Ok, Err, IfOk}
use Rattle.std.proofs.lemmas.Bool.{and_parts, cases_Bool, ltb-true, not-true, true≢false}
use Rattle.ilk_base.proofs.Tested.{list_all-slice_get}
use Rattle.ilk_cnf.specs.Literal.{Literal}
use Rattle.ilk_cnf.specs.Formula.{Formula}
use Rattle.ilk_log.specs.declared.step.Step.{Step}
use Rattle.ilk_log.specs.Propagation.{is_saturated, is_falsified, unit_lit}
use Rattle.ilk_log.specs.Derived.{is_derived}
use Rattle.ilk_log.specs.Fresh.{IsEmpowering, CanLearnButNotRefute}
use Rattle.ilk_log.proofs.Closed.{no-false-end}
use Rattle.ilk_trail.specs.declared.entry.Entry.{Entry}
use Rattle.ilk_trail.specs.Trail.{level_of, entries_up_to}
use Rattle.ilk_trail.specs.Laws.{lits_of}
use Rattle.ilk_watches.specs.Reasons.{nth_clause_or_empty, is_conflict}
use Rattle.ilk_watches.proofs.Within.{clause-there}
use Rattle.ilk_learn.specs.Levels.{is_current, highest_level}
use Rattle.ilk_learn.specs.Asserting.{back_level, is_first_lit_at_level, is_false_in_asserting_order}
use Rattle.ilk_solver.specs.Levels.{LowerLevelsAreSaturated}
use Rattle.ilk_solver.specs.Search.{FormulaLogAndView, IsSearch, all_clauses}
use Rattle.ilk_solver.specs.Learned.{IsLearnedAssertingStep}
use Rattle.ilk_solver.specs.View.{TrailAndWeights}
use Rattle.ilk_solver.specs.Held.{search_with_log_and_view, HoldsSearch}
use Rattle.ilk_solver.proofs.Searches.{known-closed}

no-conflict : (cs : List (List Literal)) (set : List Literal) (c : ℕ) → is_saturated cs set ≡ true → is_conflict cs set c ≡ false
no-conflict cs set c k =
    elim (cases_Bool (is_conflict cs set c)) [
      | inl t ↦ absurd (let p = and_parts (nat_lt c (length cs)) (is_falsified set (nth_clause_or_empty cs c)) t in
          let test : List Literal → Bool = λ x. not (is_falsified set x) && is_none (unit_lit set x) in
          let at = list_all-slice_get test cs c (nth_clause_or_empty cs c) k (clause-there cs c (ltb-true c (length cs) p.0)) in
          true≢false (sym p.1 ∙ not-true (is_falsified set (nth_clause_or_empty cs c)) (and_parts (not (is_falsified set (nth_clause_or_empty cs c))) (is_none (unit_lit set (nth_clause_or_empty cs c))) at).0))
      | inr t ↦ t
    ]

pub none-below : (cs : List (List Literal)) (es : List Entry) (c : ℕ) → LowerLevelsAreSaturated cs es → 0 < level_of es → is_conflict cs (lits_of (entries_up_to (level_of es - 1) es)) c ≡ false
none-below cs es c h p = no-conflict cs (lits_of (entries_up_to (level_of es - 1) es)) c (h (level_of es - 1) (omega (arith, p)))

pub back-below : (es : List Entry) (c : List Literal) → is_false_in_asserting_order es c ≡ true → back_level es c < level_of es
back-below es [] a = absurd (cc)
back-below es (l ∷ ls) a =
    let high = highest_level es ls in
    let one = and_parts (is_falsified (lits_of es) (l ∷ ls) && is_current es l && nat_lt high (level_of es)) (is_first_lit_at_level es high ls) a in
    let two = and_parts (is_falsified (lits_of es) (l ∷ ls) && is_current es l) (nat_lt high (level_of es)) one.0 in
    ltb-true high (level_of es) two.1

pub stuck : (s : FormulaLogAndView) (step : Step) (k : ℕ) → IsSearch s → 0 < level_of s.view.trail.entries → IsLearnedAssertingStep s step k → CanLearnButNotRefute s.formula s.log
stuck s step k h p l = record {
  unrefuted = λ hints. no-false-end (all_clauses s) [] (lits_of (entries_up_to 0 s.view.trail.entries)) hints (h.closed 0 p) (λ m none. absurd (true≢false (sym none)));
  next = (step, l.derived, l.fresh);
}

pub learned-here : (cs : Formula) (given : ℕ) (log : List Step) (view : TrailAndWeights) (step : Step) (k : ℕ) →
    HoldsSearch cs given log view → is_derived cs.vars cs.clauses step ≡ true →
    is_false_in_asserting_order view.trail.entries step.clause ≡ true → k ≡ back_level view.trail.entries step.clause →
    (is_saturated cs.clauses (lits_of (entries_up_to k view.trail.entries)) ≡ true → IsEmpowering cs.clauses step.clause) →
    IsLearnedAssertingStep (search_with_log_and_view cs given log view) step k
learned-here cs given log view step k h d a b fresh =
    let below = back-below view.trail.entries step.clause a in
    let D : List (List Literal) → Type 0 = λ xs. is_derived cs.vars xs step ≡ true in
    let F : List (List Literal) → Type 0 = λ xs. IsEmpowering xs step.clause in
    record {
      derived = subst D h.laid d;
      fresh = subst F h.laid (fresh (known-closed cs given log view h k (omega (arith, below, b))));
      asserting = a;
      back = b;
    }

pub if-ok : {T E : Type 0} (r : Result T E) (P : T → Type 0) → ((x : T) → r ≡ Ok x → P x) → IfOk r P
if-ok (Ok x) P f = f x refl
if-ok (Err e) P f = tt
