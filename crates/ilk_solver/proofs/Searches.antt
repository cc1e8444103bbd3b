use Rattle.std.proofs.Common.{◌≡◌, ◌-◌, zero, suc, ◌≤◌, ℕ, true, List, [], ◌++◌, length, take, replicate, get_or, refl, sym, ap, ◌∙◌, subst, arith}
use Rattle.std.proofs.lemmas.List.{append-nil}
use Rattle.std.proofs.Math.Seq.{take-length}
use Rattle.ilk_cnf.specs.Literal.{Literal}
use Rattle.ilk_cnf.specs.Formula.{Formula}
use Rattle.ilk_log.specs.declared.step.Step.{Step}
use Rattle.ilk_log.specs.Propagation.{is_saturated}
use Rattle.ilk_trail.specs.declared.entry.Entry.{Entry}
use Rattle.ilk_trail.specs.Trail.{with_decision, level_of, entries_up_to}
use Rattle.ilk_trail.specs.Laws.{each_may_follow_level, lits_of}
use Rattle.ilk_arena.specs.Arena.{ArenaContent}
use Rattle.ilk_watches.specs.Chained.{SameClauses, formula_of}
use Rattle.ilk_watches.specs.Reasons.{HasReasons}
use Rattle.ilk_watches.proofs.Forced.{reasons-none}
use Rattle.ilk_watches.specs.Propagated.{ExtendsByPropagation}
use Rattle.ilk_solver.specs.Levels.{LowerLevelsAreSaturated}
use Rattle.ilk_solver.specs.View.{TrailAndWeights, with_trail_entries}
use Rattle.ilk_solver.specs.Search.{all_clauses}
use Rattle.ilk_solver.specs.Held.{search_with_log_and_view, HoldsSearch}
use Rattle.ilk_solver.proofs.ClosedLevels.{closed-back, closed-with_decision, closed-propagated, reasons-back, reasons-with_decision, reasons-propagated}

held-entries : (cs : Formula) (given : ℕ) (log : List Step) (view : TrailAndWeights) (es : List Entry) → HoldsSearch cs given log view → HasReasons cs.clauses es → LowerLevelsAreSaturated cs.clauses es →
    HoldsSearch cs given log (with_trail_entries view es)
held-entries cs given log view es h r c =
    let all = all_clauses (search_with_log_and_view cs given log view) in
    let R : List (List Literal) → Type 0 = λ xs. HasReasons xs es in
    let C : List (List Literal) → Type 0 = λ xs. LowerLevelsAreSaturated xs es in
    record {
      first = h.first;
      laid = h.laid;
      search = record {
        vars = h.search.vars;
        reasons = subst R h.laid r;
        closed = subst C h.laid c;
        weighed = h.search.weighed;
      };
    }

pub known-reasons : (cs : Formula) (given : ℕ) (log : List Step) (view : TrailAndWeights) → HoldsSearch cs given log view → HasReasons cs.clauses view.trail.entries
known-reasons cs given log view h = (let R : List (List Literal) → Type 0 = λ xs. HasReasons xs view.trail.entries in subst R (sym h.laid) h.search.reasons)

pub known-closed : (cs : Formula) (given : ℕ) (log : List Step) (view : TrailAndWeights) → HoldsSearch cs given log view → LowerLevelsAreSaturated cs.clauses view.trail.entries
known-closed cs given log view h = (let C : List (List Literal) → Type 0 = λ xs. LowerLevelsAreSaturated xs view.trail.entries in subst C (sym h.laid) h.search.closed)

pub held-propagated : (cs : Formula) (given : ℕ) (log : List Step) (view : TrailAndWeights) (es : List Entry) → HoldsSearch cs given log view → ExtendsByPropagation cs.clauses view.trail.entries es
    → HoldsSearch cs given log (with_trail_entries view es)
held-propagated cs given log view es h p =
    held-entries cs given log view es h (reasons-propagated cs.clauses view.trail.entries es p (known-reasons cs given log view h)) (closed-propagated cs.clauses view.trail.entries es p (known-closed cs given log view h))

pub held-with_decision : (cs : Formula) (given : ℕ) (log : List Step) (view : TrailAndWeights) (l : Literal) →
    HoldsSearch cs given log view → each_may_follow_level 0 view.trail.entries ≡ true →
    is_saturated cs.clauses (lits_of view.trail.entries) ≡ true →
    HoldsSearch cs given log (with_trail_entries view (with_decision view.trail.entries l))
held-with_decision cs given log view l h c k =
    held-entries cs given log view (with_decision view.trail.entries l) h (reasons-with_decision cs.clauses view.trail.entries l (known-reasons cs given log view h))
    (closed-with_decision cs.clauses view.trail.entries l c (known-closed cs given log view h) k)

pub held-back : (cs : Formula) (given : ℕ) (log : List Step) (view : TrailAndWeights) (m : ℕ) →
    HoldsSearch cs given log view → each_may_follow_level 0 view.trail.entries ≡ true → m ≤ level_of view.trail.entries →
    level_of (entries_up_to m view.trail.entries) ≡ m →
    HoldsSearch cs given log (with_trail_entries view (entries_up_to m view.trail.entries))
held-back cs given log view m h c le top =
    held-entries cs given log view (entries_up_to m view.trail.entries) h (reasons-back cs.clauses view.trail.entries m c (known-reasons cs given log view h)) (closed-back cs.clauses view.trail.entries m le top (known-closed cs given log view h))

pub held-start : (cs : Formula) → HoldsSearch cs (length cs.clauses) [] (record { trail = record { vars = cs.vars; entries = [] }; weights = replicate cs.vars 0 })
held-start cs = record {
  first = omega arith;
  laid = sym (take-length cs.clauses) ∙ sym (append-nil (take (length cs.clauses) cs.clauses));
  search = record {
    vars = refl;
    reasons = reasons-none (take (length cs.clauses) cs.clauses ++ []);
    closed = λ k b. absurd (omega (arith, b));
    weighed = λ v w. none cs.vars v;
  };
}
  where
    zeros : (n i : ℕ) → ◌≡◌ {A = ℕ} (get_or (replicate n 0) i 0) 0
    zeros zero i = refl
    zeros (suc n) zero = refl
    zeros (suc n) (suc i) = zeros n i

    none : (n v : ℕ) → ◌≡◌ {A = ℕ} (get_or (replicate n 0) (v - 1) 0) 0
    none n v = zeros n (v - 1)

pub formula-same : (a b : ArenaContent) → SameClauses a b → formula_of b ≡ formula_of a
formula-same a b s = ap (λ (n : ℕ). let f : Formula = record { vars = n; clauses = b.clauses } in f) s.vars ∙ ap (λ (cs : List (List Literal)). let f : Formula = record { vars = a.vars; clauses = cs } in f) s.clauses
