use Rattle.std.proofs.Common.{◌≡◌, ◌≤◌, List, length, min, arith, ap, sym, ◌∙◌, subst}
use Rattle.ilk_trail.specs.declared.entry.Entry.{Entry}
use Rattle.ilk_trail.specs.Trail.{TrailList, level_of, entries_up_to}
use Rattle.ilk_watches.specs.Chained.{formula_of}
use Rattle.ilk_watches.specs.declared.queue.PropagationProgress.{PropagationProgress}
use Rattle.ilk_watches.specs.Watched.{IsPropagationInvariant}
use Rattle.ilk_watches.proofs.Back.{queue-back}
use Rattle.ilk_solver.specs.View.{TrailAndWeights}
use Rattle.ilk_solver.specs.Search.{FormulaLogAndView}
use Rattle.ilk_solver.specs.Held.{HoldsSearch}
use Rattle.ilk_solver.proofs.Searches.{held-back, known-closed}
use Rattle.ilk_solver.proofs.search.Search.back_to.Goals as goal

pub invariant_of-self : goal.invariant_of-self
invariant_of-self c =
    let s = c.self.inside in
    let m = c.args.level in
    let es = s.view.trail.entries in
    let h = s.queue.head in
    let P : TrailAndWeights → Type 0 = λ v. HoldsSearch (formula_of s.clauses) s.given s.log v in
    let at = ap (λ (x : FormulaLogAndView). level_of x.view.trail.entries) c.self.view_is in
    let le : m ≤ level_of es = omega (arith, c.requires, at) in
    let top : level_of (entries_up_to m es) ≡ m = ap (λ (v : TrailAndWeights). level_of v.trail.entries) (sym c.back_to.ensures.entries) ∙ c.back_to.ensures.level in
    let climb = c.vars.ensures.view.trail.climbing in
    let known = known-closed (formula_of s.clauses) s.given s.log s.view c.self.invariant.search in
    let q = queue-back s.clauses es h s.queue.settled m c.self.invariant.queue c.count.ensures.clauses climb (λ b. known m b) in
    let Q : List Entry → Type 0 = λ xs. IsPropagationInvariant s.clauses xs (min h (length xs)) s.queue.settled in
    let entries = ap (λ (v : TrailAndWeights). v.trail.entries) c.back_to.ensures.entries in
    let H : PropagationProgress → Type 0 = λ x. IsPropagationInvariant s.clauses c.back_to.new.self.trail.entries x.head x.settled in
    let L : TrailList → Type 0 = λ t. IsPropagationInvariant s.clauses c.back_to.new.self.trail.entries (min h (length t.entries)) s.queue.settled in
    record {
      search = subst P (sym c.back_to.ensures.entries) (held-back (formula_of s.clauses) s.given s.log s.view m c.self.invariant.search climb le top);
      queue = subst H (sym c.back_to-2.ensures) (subst L (sym c.trail.ensures) (subst Q (sym entries) q));
    }
