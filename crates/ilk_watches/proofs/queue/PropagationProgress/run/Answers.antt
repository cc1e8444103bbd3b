use Rattle.std.proofs.Common.{◌≡◌, ℕ, List, length, arith, ap, sym, ◌∙◌, subst}
use Rattle.ilk_cnf.specs.Literal.{Literal}
use Rattle.ilk_log.specs.Propagation.{is_saturated}
use Rattle.ilk_trail.specs.Laws.{lits_of}
use Rattle.ilk_watches.specs.Watched.{IsPropagationInvariant}
use Rattle.ilk_watches.proofs.Entries.{length-kept}
use Rattle.ilk_watches.proofs.Propagations.{propagated-start}
use Rattle.ilk_watches.proofs.Queues.{all-covered, queue-closed, queue-walked}
use Rattle.ilk_watches.proofs.queue.PropagationProgress.run.Goals as goal

pub propagate_from-requires-clause-covered : goal.propagate_from-requires-clause-covered
propagate_from-requires-clause-covered c =
    all-covered c.args.clauses.now c.args.trail.now.entries c.args.self.now.head c.args.self.now.settled c.requires.queue c.count.ensures.clauses c.requires.settled

pub returns-then-self-count-clause-closed : goal.returns-then-self-count-clause-closed
returns-then-self-count-clause-closed c =
    (queue-closed c.args.clauses.now c.args.trail.now.entries c.args.self.now.head c.args.self.now.settled
    c.requires.queue c.count.ensures.clauses c.count-2.ensures.is_trail.once c.requires.settled
    (omega (arith, c.count-2.ensures.count, c.if-self-count.true))).0

pub returns-then-self-count-clause-propagated : goal.returns-then-self-count-clause-propagated
returns-then-self-count-clause-propagated c = propagated-start c.args.clauses.now.clauses c.args.trail.now.entries

pub returns-in-Some-clause-queue : goal.returns-in-Some-clause-queue
returns-in-Some-clause-queue c =
    let a = c.args.clauses.now in
    let es = c.args.trail.now.entries in
    let fs = c.propagate_from.new.trail.entries in
    let h = c.args.self.now.head in
    let longer = length-kept es fs c.propagate_from.ensures.propagated.kept in
    queue-walked a c.propagate_from.new.clauses es fs h h c.args.self.now.settled c.requires.queue c.propagate_from.ensures.covered c.propagate_from.ensures.propagated c.propagate_from.ensures.clauses (omega arith)
    (omega (arith, c.requires.queue.head_in, longer))

pub returns-clause-queue : goal.returns-clause-queue
returns-clause-queue c =
    let a = c.args.clauses.now in
    let b = c.propagate_from.new.clauses in
    let es = c.args.trail.now.entries in
    let fs = c.propagate_from.new.trail.entries in
    let h = c.args.self.now.head in
    let s = c.args.self.now.settled in
    let longer = length-kept es fs c.propagate_from.ensures.propagated.kept in
    let Q : ℕ → Type 0 = λ n. IsPropagationInvariant b fs n s in
    subst Q (sym c.count-self.ensures.count)
    (queue-walked a b es fs h (length fs) s c.requires.queue c.in_default.ensures.walked
    c.propagate_from.ensures.propagated c.propagate_from.ensures.clauses
    (omega (arith, c.requires.queue.head_in, longer)) (omega arith))

pub returns-clause-closed : goal.returns-clause-closed
returns-clause-closed c =
    let a = c.args.clauses.now in
    let b = c.propagate_from.new.clauses in
    let es = c.args.trail.now.entries in
    let fs = c.propagate_from.new.trail.entries in
    let h = c.args.self.now.head in
    let s = c.args.self.now.settled in
    let longer = length-kept es fs c.propagate_from.ensures.propagated.kept in
    let same = c.propagate_from.ensures.clauses in
    let queue = queue-walked a b es fs h (length fs) s c.requires.queue c.in_default.ensures.walked c.propagate_from.ensures.propagated same (omega (arith, c.requires.queue.head_in, longer)) (omega arith) in
    let all : s ≡ length b.clauses = c.requires.settled ∙ ap length (sym same.clauses) in
    let closed = queue-closed b fs (length fs) s queue c.count-3.ensures.clauses c.count-self.ensures.is_trail.once all (omega arith) in
    ap (λ (cs : List (List Literal)). is_saturated cs (lits_of fs)) (sym same.clauses) ∙ closed.0
