use Rattle.std.proofs.Common.{◌≡◌, true, List, length, ap, sym, ◌∙◌, subst}
use Rattle.ilk_cnf.specs.Literal.{Literal}
use Rattle.ilk_log.specs.Propagation.{is_saturated}
use Rattle.ilk_trail.specs.declared.entry.Entry.{Entry}
use Rattle.ilk_trail.specs.Trail.{TrailList, with_decision}
use Rattle.ilk_trail.specs.Laws.{is_set, lits_of}
use Rattle.ilk_watches.specs.Watched.{IsPropagationInvariant}
use Rattle.ilk_watches.proofs.Propagations.{propagated-same}
use Rattle.ilk_watches.proofs.Queues.{no-conflict, nothing-forced, queue-with_decision}
use Rattle.ilk_watches.proofs.queue.PropagationProgress.decide.Goals as goal

pub decide-requires-clause-unset : goal.decide-requires-clause-unset
decide-requires-clause-unset c =
    let a = c.args.clauses.now in
    let b = c.propagate.new.clauses in
    let es = c.args.trail.now.entries in
    let fs = c.propagate.new.trail.entries in
    let same = c.propagate.ensures.clauses in
    let closed : is_saturated b.clauses (lits_of es) ≡ true = ap (λ (cs : List (List Literal)). is_saturated cs (lits_of es)) same.clauses ∙ c.requires.closed in
    let made = propagated-same b.clauses a.clauses es fs (sym same.clauses) c.propagate.ensures.propagated in
    let none : fs ≡ es = nothing-forced b es fs c.count.ensures.clauses closed made c.level.ensures.is_trail.once in
    ap (λ (xs : List Entry). is_set xs c.args.l.var) none ∙ c.requires.unset

pub returns-clause-trail : goal.returns-clause-trail
returns-clause-trail c =
    let a = c.args.clauses.now in
    let b = c.propagate.new.clauses in
    let es = c.args.trail.now.entries in
    let fs = c.propagate.new.trail.entries in
    let same = c.propagate.ensures.clauses in
    let closed : is_saturated b.clauses (lits_of es) ≡ true = ap (λ (cs : List (List Literal)). is_saturated cs (lits_of es)) same.clauses ∙ c.requires.closed in
    let made = propagated-same b.clauses a.clauses es fs (sym same.clauses) c.propagate.ensures.propagated in
    let none : fs ≡ es = nothing-forced b es fs c.count.ensures.clauses closed made c.level.ensures.is_trail.once in
    c.decide.ensures ∙ ap (λ (t : TrailList). record t { entries = with_decision fs c.args.l }) c.propagate.ensures.trail ∙ ap (λ (xs : List Entry). record c.args.trail.now { entries = with_decision xs c.args.l }) none

pub returns-clause-queue : goal.returns-clause-queue
returns-clause-queue c =
    let a = c.args.clauses.now in
    let b = c.propagate.new.clauses in
    let es = c.args.trail.now.entries in
    let fs = c.propagate.new.trail.entries in
    let same = c.propagate.ensures.clauses in
    let closed : is_saturated b.clauses (lits_of es) ≡ true = ap (λ (cs : List (List Literal)). is_saturated cs (lits_of es)) same.clauses ∙ c.requires.closed in
    let made = propagated-same b.clauses a.clauses es fs (sym same.clauses) c.propagate.ensures.propagated in
    let none : fs ≡ es = nothing-forced b es fs c.count.ensures.clauses closed made c.level.ensures.is_trail.once in
    let h = c.propagate.new.self.head in
    let s = c.propagate.new.self.settled in
    let end : (h ≡ length fs) × (s ≡ length a.clauses) = no-conflict a.clauses (lits_of fs) c.propagate.result
    _ (ap (λ (xs : List Entry). is_saturated a.clauses (lits_of xs)) none ∙ c.requires.closed)
    c.propagate.ensures.conflict c.propagate.ensures.ended in
    let P : TrailList → Type 0 = λ t. IsPropagationInvariant b t.entries h s in
    subst P (sym c.decide.ensures) (queue-with_decision b fs h s c.args.l c.propagate.ensures.queue c.count.ensures.clauses (end.1 ∙ ap length (sym same.clauses)) end.0)

pub returns-clause-ended : goal.returns-clause-ended
returns-clause-ended c =
    let a = c.args.clauses.now in
    let b = c.propagate.new.clauses in
    let es = c.args.trail.now.entries in
    let fs = c.propagate.new.trail.entries in
    let same = c.propagate.ensures.clauses in
    let closed : is_saturated b.clauses (lits_of es) ≡ true = ap (λ (cs : List (List Literal)). is_saturated cs (lits_of es)) same.clauses ∙ c.requires.closed in
    let made = propagated-same b.clauses a.clauses es fs (sym same.clauses) c.propagate.ensures.propagated in
    let none : fs ≡ es = nothing-forced b es fs c.count.ensures.clauses closed made c.level.ensures.is_trail.once in
    let h = c.propagate.new.self.head in
    let s = c.propagate.new.self.settled in
    let end : (h ≡ length fs) × (s ≡ length a.clauses) = no-conflict a.clauses (lits_of fs) c.propagate.result
    _ (ap (λ (xs : List Entry). is_saturated a.clauses (lits_of xs)) none ∙ c.requires.closed)
    c.propagate.ensures.conflict c.propagate.ensures.ended in
    (end.0 ∙ ap length none, end.1)
