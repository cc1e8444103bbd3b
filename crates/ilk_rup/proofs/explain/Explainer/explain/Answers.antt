use Rattle.std.proofs.Common.{◌≡◌, ◌+◌, ◌++◌, ◌∷◌, [], ◌∙◌, ap, sym, subst, List, ℕ, true, reverse, take}
use Rattle.ilk_cnf.specs.Literal.{Literal}
use Rattle.ilk_watches.specs.Chained.{formula_of}
use Rattle.ilk_watches.specs.Reasons.{nth_clause_or_empty}
use Rattle.ilk_log.specs.Derived.{hints_end_in_conflict, negated_clause}
use Rattle.ilk_trail.specs.Laws.{lits_of}
use Rattle.ilk_rup.specs.LitSet.{LitSetList}
use Rattle.ilk_rup.specs.Needs.{AreNeededLitsAfterClauseExamined, HintsFalsifyGivenNeededLits, unit_hints_of_needed}
use Rattle.ilk_rup.proofs.Explained.{explained, shown-first}
use Rattle.ilk_rup.proofs.explain.Explainer.explain.Goals as goal

pub walk-requires-clause-shows : goal.walk-requires-clause-shows
walk-requires-clause-shows c =
    let f = formula_of c.args.clauses.now in
    let es = c.args.trail.now.entries in
    let set = c.args.set.now.lits in
    let needed = c.need.new.needed.lits in
    let d = nth_clause_or_empty f.clauses c.args.at.clause in
    let P : List ℕ → Type 0 = λ items. HintsFalsifyGivenNeededLits f.clauses (lits_of (take c.args.at.top es)) (lits_of (take c.args.at.top es)) set needed (reverse items) in
    let N : List Literal → Type 0 = λ old. AreNeededLitsAfterClauseExamined set d old needed in
    let items = c.in_ok-push.ensures.items ∙ ap (λ (xs : List ℕ). xs ++ (c.args.at.clause + 1) ∷ []) c.clear-2.ensures.items in
    subst P (sym items)
    (shown-first f es set needed c.args.at.clause c.args.at.from c.args.at.top c.args.self.now.named
    c.count.ensures.formula c.count-2.ensures.is_trail.once c.requires.explains
    (subst N (ap (λ (s : LitSetList). s.lits) c.clear.ensures) c.need.ensures.needed))

pub returns-clause-hints : goal.returns-clause-hints
returns-clause-hints c = λ d differ fewer more.
    let cs = c.args.clauses.now.clauses in
    let units = c.args.self.now.units.items in
    let needed = c.walk.new.needed.lits in
    let P : List ℕ → Type 0 = λ hs. hints_end_in_conflict cs (negated_clause d) hs ≡ true in
    let named = ap (λ (us : List ℕ). unit_hints_of_needed us needed ++ reverse c.as_slice-2.result.now) c.as_slice.ensures.value in
    let is = c.in_ok-hints.ensures ∙ named ∙ ap (λ (xs : List ℕ). unit_hints_of_needed units needed ++ reverse xs) c.as_slice-2.ensures.value in
    let x = c.args.at in
    let r = c.requires in
    let hints = reverse c.walk.new.reasons.items in
    subst P (sym is)
    (explained cs c.args.trail.now.entries c.args.set.now.lits needed units hints x.clause x.from x.top
    c.args.self.now.named c.args.clauses.now.vars r.explains r.units c.count-2.ensures.is_trail.once
    c.len.ensures.differ c.in_ok-walk.ensures.shows d differ fewer more)
