use Rattle.std.proofs.Common.{◌≡◌, ◌<◌, ◌+◌, ℕ, not, List, length, arith, ap, sym, ◌∙◌, subst}
use Rattle.std.proofs.lemmas.Bool.{and_parts, not-true}
use Rattle.ilk_cnf.specs.Literal.{positive_lit}
use Rattle.ilk_cnf.specs.Formula.{is_lit_over}
use Rattle.ilk_trail.specs.declared.entry.Entry.{Entry}
use Rattle.ilk_trail.specs.Trail.{TrailList, with_assignment}
use Rattle.ilk_trail.specs.Laws.{is_set}
use Rattle.ilk_watches.specs.Chained.{formula_of}
use Rattle.ilk_watches.specs.Propagated.{ExtendsByPropagation}
use Rattle.ilk_watches.specs.Watched.{IsPropagationInvariant}
use Rattle.ilk_watches.proofs.Finding.{forced-is}
use Rattle.ilk_watches.proofs.Looks.{queue-open, queue-unit}
use Rattle.ilk_watches.proofs.Propagations.{propagated-push}
use Rattle.ilk_watches.proofs.queue.PropagationProgress.settle.Goals as goal
use Rattle.ilk_watches.proofs.queue.PropagationProgress.settle.Goals.{in-Unit, in-Open}

pub assign-requires-clause-within : goal.assign-requires-clause-within
assign-requires-clause-within c =
    let a = c.args.clauses.now in
    let es = c.looks.trail.entries in
    let h = c.looks.self.head in
    let s = c.looks.self.settled in
    let v = c.looks.invariant in
    let within : s < length a.clauses = omega (arith, c.count.ensures.count, c.looks-test.true) in
    let vars : c.looks.trail.vars ≡ a.vars = ap (λ (t : TrailList). t.vars) v.trail ∙ c.requires.vars in
    let l = c.in-Unit.l in
    let f = forced-is (formula_of a) es s l c.count.ensures.clauses.formula c.clause_state.ensures.trail.once within (sym c.in-Unit.ensures.look) in
    ap (λ (n : ℕ). is_lit_over n l) vars ∙ (and_parts (is_lit_over a.vars (positive_lit l.var)) (not (is_set es l.var)) f.1).0

pub assign-requires-clause-unset : goal.assign-requires-clause-unset
assign-requires-clause-unset c =
    let a = c.args.clauses.now in
    let es = c.looks.trail.entries in
    let h = c.looks.self.head in
    let s = c.looks.self.settled in
    let v = c.looks.invariant in
    let within : s < length a.clauses = omega (arith, c.count.ensures.count, c.looks-test.true) in
    let vars : c.looks.trail.vars ≡ a.vars = ap (λ (t : TrailList). t.vars) v.trail ∙ c.requires.vars in
    let l = c.in-Unit.l in
    let f = forced-is (formula_of a) es s l c.count.ensures.clauses.formula c.clause_state.ensures.trail.once within (sym c.in-Unit.ensures.look) in
    not-true (is_set es l.var) (and_parts (is_lit_over a.vars (positive_lit l.var)) (not (is_set es l.var)) f.1).1

pub looks-preserved : goal.looks-preserved
looks-preserved c =
    let a = c.args.clauses.now in
    let es = c.looks.trail.entries in
    let h = c.looks.self.head in
    let s = c.looks.self.settled in
    let v = c.looks.invariant in
    let within : s < length a.clauses = omega (arith, c.count.ensures.count, c.looks-test.true) in
    let vars : c.looks.trail.vars ≡ a.vars = ap (λ (t : TrailList). t.vars) v.trail ∙ c.requires.vars in
    let old = c.args.trail.now in
    let new = c.match-clause_state.trail in
    let Q : TrailList → Type 0 = λ t. IsPropagationInvariant a t.entries h (s + 1) in
    let P : TrailList → Type 0 = λ t. ExtendsByPropagation a.clauses old.entries t.entries in
    elim c.match-clause_state.branch [
      | in-Unit w ↦ (let l = w.in-Unit.l in
          let f = forced-is (formula_of a) es s l c.count.ensures.clauses.formula c.clause_state.ensures.trail.once within (sym w.in-Unit.ensures.look) in
          let made : new ≡ record c.looks.trail { entries = with_assignment es l s } = w.trail-is ∙ w.assign.ensures in
          record {
            trail = made ∙ ap (λ (t : TrailList). record t { entries = with_assignment es l s }) v.trail ∙ ap (λ (xs : List Entry). record old { entries = xs }) (sym (ap (λ (t : TrailList). t.entries) made));
            queue = subst Q (sym made) (queue-unit a es h s l v.queue c.count.ensures.clauses c.clause_state.ensures.trail.once within (sym w.in-Unit.ensures.look));
            propagated = subst P (sym made) (propagated-push a.clauses old.entries es l s v.propagated f.0);
          })
      | in-Open w ↦ record {
        trail = w.trail-is ∙ v.trail ∙ ap (λ (xs : List Entry). record old { entries = xs }) (sym (ap (λ (t : TrailList). t.entries) w.trail-is));
        queue = subst Q (sym w.trail-is) (queue-open a es h s v.queue c.count.ensures.clauses c.clause_state.ensures.trail.climbing within (sym w.in-Open.ensures.look));
        propagated = subst P (sym w.trail-is) v.propagated;
      }
    ]
