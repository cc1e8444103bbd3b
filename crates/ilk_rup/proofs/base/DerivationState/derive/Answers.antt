use Rattle.std.proofs.Common.{◌≡◌, ◌<◌, ◌∙◌, ℕ, List, true, ap, sym, subst, arith, length, min}
use Rattle.std.proofs.Math.Seq.{take-length}
use Rattle.ilk_cnf.specs.Literal.{Literal, has_lit}
use Rattle.ilk_log.specs.Propagation.{is_saturated}
use Rattle.ilk_trail.specs.declared.entry.Entry.{Entry}
use Rattle.ilk_trail.specs.Trail.{TrailList, entries_up_to}
use Rattle.ilk_trail.specs.Laws.{is_set, lits_of}
use Rattle.ilk_watches.specs.declared.queue.PropagationProgress.{PropagationProgress}
use Rattle.ilk_watches.specs.Propagated.{ExtendsByPropagation}
use Rattle.ilk_watches.specs.Watched.{IsPropagationInvariant}
use Rattle.ilk_watches.proofs.Back.{queue-back}
use Rattle.ilk_watches.proofs.Entries.{length-kept}
use Rattle.ilk_watches.proofs.Propagations.{propagated-start}
use Rattle.ilk_rup.specs.Needs.{IsClauseFalseApartFromSet, AreUnitHintsByVar}
use Rattle.ilk_rup.specs.Standing.{IsBaseInvariant}
use Rattle.ilk_rup.specs.declared.explain.Explainer.{Explainer}
use Rattle.ilk_rup.proofs.Deriving.{assumed-none, back-known, derive-explains, if-none, kept-join, queue-assumed, same-length, some-unset, trail-is}
use Rattle.ilk_rup.proofs.Holds.{held-propagated, known-propagated}
use Rattle.ilk_rup.proofs.base.DerivationState.derive.Goals as goal

pub returns-then-from-known-clause-none : goal.returns-then-from-known-clause-none
returns-then-from-known-clause-none c =
    let k = c.args.self.now in
    let es = k.trail.entries in
    let fs = c.assume_negations.new.trail.entries in
    let p = c.assume_negations.ensures.assumed in
    let same : fs ≡ es = same-length es fs p.kept (omega (arith, c.count-known.ensures.count, c.count-from.ensures.count, c.if-from-known.true)) in
    let once = c.count-from.ensures.is_trail.once in
    assumed-none k.formula.now.vars k.clauses.clauses es fs fs k.set.lits (ap (λ (xs : List Entry). is_saturated k.clauses.clauses (lits_of xs)) same ∙ c.requires.settled.closed) c.len.ensures.differ once (take-length fs) c.requires.untrue p

pub propagate-requires-clause-queue : goal.propagate-requires-clause-queue
propagate-requires-clause-queue c =
    let k = c.args.self.now in
    let s = c.requires.settled in
    queue-assumed k.clauses k.trail.entries c.assume_negations.new.trail.entries k.queue.head k.queue.settled k.set.lits s.loose.held.queued c.count.ensures.clauses s.settled s.head c.assume_negations.ensures.assumed

pub returns-in_default-clause-none : goal.returns-in_default-clause-none
returns-in_default-clause-none c =
    let k = c.args.self.now in
    let fs = c.assume_negations.new.trail.entries in
    let gs = c.propagate.new.trail.entries in
    let closed : is_saturated k.clauses.clauses (lits_of gs) ≡ true = if-none c.propagate.result c.propagate.ensures.closed c.in_default.not-Some in
    assumed-none k.formula.now.vars k.clauses.clauses k.trail.entries fs gs k.set.lits closed c.len.ensures.differ c.count-from.ensures.is_trail.once c.propagate.ensures.propagated.kept c.requires.untrue c.assume_negations.ensures.assumed

pub explain-requires : goal.explain-requires
explain-requires c =
    let k = c.args.self.now in
    let y = k.explainer in
    let b = c.propagate.new.clauses in
    let es = k.trail.entries in
    let fs = c.assume_negations.new.trail.entries in
    let gs = c.propagate.new.trail.entries in
    let set = k.set.lits in
    let i = c.in-Some.conflict in
    let s = c.requires.settled in
    let h = s.loose.held in
    let p = c.assume_negations.ensures.assumed in
    let q = c.propagate.ensures.propagated in
    let same = c.propagate.ensures.clauses in
    let n = sym (same.vars ∙ h.vars) in
    let known = known-propagated y.units.items k.clauses.clauses es gs k.formula.now.vars y.named (kept-join es fs gs p.kept q.kept) h.known in
    let base = derive-explains k.clauses.clauses es fs gs set i c.in-Some.ensures.conflict c.count-top.ensures.is_trail.once c.requires.untrue p q in
    let U : List (List Literal) → Type 0 = λ cs. AreUnitHintsByVar y.units.items cs gs k.formula.now.vars y.named in
    let N : ℕ → Type 0 = λ v. AreUnitHintsByVar y.units.items b.clauses gs v y.named in
    let C : List (List Literal) → Type 0 = λ cs. IsClauseFalseApartFromSet cs gs set i (length fs) (length gs) (length es) in
    let F : ℕ → Type 0 = λ v. IsClauseFalseApartFromSet b.clauses gs set i v (length gs) (length es) in
    let T : ℕ → Type 0 = λ v. IsClauseFalseApartFromSet b.clauses gs set i c.count-from.result v (length es) in
    let K : ℕ → Type 0 = λ v. IsClauseFalseApartFromSet b.clauses gs set i c.count-from.result c.count-top.result v in
    record {
      vars = s.loose.needed_vars ∙ n;
      set_vars = s.loose.set_vars ∙ n;
      trail_vars = ap (λ (t : TrailList). t.vars) c.propagate.ensures.trail ∙ ap (λ (t : TrailList). t.vars) c.assume_negations.ensures.trail ∙ h.trail_vars ∙ n;
      units = subst N n (subst U (sym same.clauses) known);
      explains = subst K (sym s.named) (subst T (sym c.count-top.ensures.count) (subst F (sym c.count-from.ensures.count) (subst C (sym same.clauses) base)));
    }

pub returns-clause-derived : goal.returns-clause-derived
returns-clause-derived c =
    let k = c.args.self.now in
    let b = c.propagate.new.clauses in
    let es = k.trail.entries in
    let fs = c.assume_negations.new.trail.entries in
    let gs = c.propagate.new.trail.entries in
    let s = c.requires.settled in
    let p = c.assume_negations.ensures.assumed in
    let longer = length-kept es fs p.kept in
    let more : length es < length fs = omega (arith, longer, c.count-known.ensures.count, c.count-from.ensures.count, c.if-from-known.false) in
    let back = back-known k.clauses.clauses es fs gs k.set.lits c.count-known.ensures.is_trail.climbing s.loose.held.level more p c.propagate.ensures.propagated in
    let vars = ap (λ (t : TrailList). t.vars) c.propagate.ensures.trail ∙ ap (λ (t : TrailList). t.vars) c.assume_negations.ensures.trail in
    let now = c.back_to.new.self in
    let whole : now ≡ k.trail = c.back_to.ensures.entries ∙ trail-is k.trail c.propagate.new.trail.vars (entries_up_to 0 gs) vars back in
    let entries : now.entries ≡ entries_up_to 0 gs = ap (λ (t : TrailList). t.entries) c.back_to.ensures.entries in
    let same = c.propagate.ensures.clauses in
    let r = c.propagate.new.self in
    let closed : is_saturated b.clauses (lits_of (entries_up_to 0 gs)) ≡ true = ap (λ (cs : List (List Literal)). is_saturated cs (lits_of (entries_up_to 0 gs))) same.clauses
    ∙ ap (λ (xs : List Entry). is_saturated k.clauses.clauses (lits_of xs)) back ∙ s.closed in
    let queue = queue-back b gs r.head r.settled 0 c.propagate.ensures.queue c.count-2.ensures.clauses c.count-top.ensures.is_trail.climbing (λ _. closed) in
    let E : List Entry → Type 0 = λ xs. IsPropagationInvariant b xs (min r.head (length xs)) r.settled in
    let Q : PropagationProgress → Type 0 = λ x. IsPropagationInvariant b now.entries x.head x.settled in
    let I : List Entry → Type 0 = λ xs. ExtendsByPropagation k.clauses.clauses es xs in
    let X : Explainer → Type 0 = λ x. IsBaseInvariant k.formula.now b now c.back_to-2.new.self x.units.items x.named k.log in
    let at = entries ∙ back in
    let is = whole ∙ sym (ap (λ (xs : List Entry). let t : TrailList = record { vars = k.trail.vars; entries = xs } in t) at) in
    let queued = subst Q (sym c.back_to-2.ensures) (subst E (sym entries) queue) in
    let y = k.explainer in
    let u = some-unset k.set.lits es fs more c.count-from.ensures.is_trail.once p in
    record {
      loose = record {
        held = subst X (sym c.in_ok-hints.ensures.rest)
            (held-propagated k.formula.now k.clauses b k.trail now k.queue c.back_to-2.new.self
            y.units.items y.named k.log s.loose.held same is
            (subst I (sym at) (propagated-start k.clauses.clauses es)) queued);
        needed_vars = c.in_ok-hints.ensures.vars ∙ s.loose.needed_vars;
        set_vars = s.loose.set_vars;
      };
      clause = c.in_ok-clause.ensures;
      hints = c.in_ok-hints.ensures.hints;
      untrue = λ m h. ap (λ (xs : List Entry). has_lit m (lits_of xs)) at ∙ c.requires.untrue m h;
      unset = u.0;
      has = u.1;
      open_ = ap (λ (xs : List Entry). is_set xs u.0.var) at ∙ u.2;
    }
