use Rattle.std.proofs.Common.{◌≡◌, ◌≢◌, ◌+◌, ◌≤◌, ℕ, Bool, true, false, Option, Some, None, arith, refl, sym, ap, ◌∙◌}
use Rattle.std.specs.Prelude.{is_some}
use Rattle.ilk_cnf.specs.Literal.{Literal}
use Rattle.ilk_trail.specs.Trail.{TrailList}
use Rattle.ilk_watches.specs.Visits.{count_rest_of_chain}
use Rattle.ilk_watches.proofs.Beside.{StepAt, left-beside}
use Rattle.ilk_watches.proofs.Entries.{entries-few}
use Rattle.ilk_watches.proofs.Going.{Both, alone-before, alone-broken, alone-ended, alone-start, alone-step, at-level, both-broken, both-ended, both-start, both-step, both-turned, sofar-more, sofar-start}
use Rattle.ilk_watches.proofs.walk.propagate_from.Goals as goal
use Rattle.ilk_watches.proofs.walk.propagate_from.Goals.{In_default-step, then-alone-test+else-next-count, else-alone-test, then-both-test+else-is_some, else-both-test}

no-next : (o : Option ℕ) (b : Bool) → b ≡ is_some o → b ≡ false → o ≡ None
no-next None b e f = refl
no-next (Some x) b e f = absurd (let t : true ≡ false = sym e ∙ f in cc)

a-next : (o : Option ℕ) (b : Bool) → b ≡ is_some o → b ≡ true → o ≢ None
a-next None b e t = λ q. (let f : false ≡ true = sym e ∙ t in absurd (cc))
a-next (Some x) b e t = λ q. absurd (cc)

pub overflow_add-next : goal.overflow_add-next
overflow_add-next c =
    let t = c.start-older.ensures.trail in
    omega (arith, c.requires.head, entries-few c.args.trail.now t, t.few)

pub entries-init : goal.entries-init
entries-init c = record {
  sofar = sofar-start _ _;
  alone = alone-start _ _ _ _ c.requires.covered c.start-older.ensures.literal (λ e s. c.requires.queued _ e (omega arith) s) c.start-older.ensures.before c.start-older.ensures.next;
}

pub returns-in-Some-clause-covered : goal.returns-in-Some-clause-covered
returns-in-Some-clause-covered c =
    let o = c.alone.invariant.alone in
    let s : StepAt c.alone.clauses c.step.new.clauses c.alone.trail.entries c.step.new.trail.entries
    c.alone.older.f =
    record {
      same = c.step.ensures.clauses;
      kept = c.step.ensures.propagated.kept;
      chains = c.step.ensures.chains;
      once = c.step.ensures.was_trail.once;
      denied = o.going.made.denied;
    } in
    alone-broken o s

pub returns-in-Some-clause-propagated : goal.returns-in-Some-clause-propagated
returns-in-Some-clause-propagated c =
    (sofar-more c.alone.invariant.sofar c.step.ensures.clauses c.step.ensures.trail c.step.ensures.propagated).propagated

pub alone-preserved : goal.alone-preserved
alone-preserved c =
    let o = c.alone.invariant.alone in
    let s : StepAt c.alone.clauses c.step.new.clauses c.alone.trail.entries c.step.new.trail.entries
    c.alone.older.f =
    record {
      same = c.step.ensures.clauses;
      kept = c.step.ensures.propagated.kept;
      chains = c.step.ensures.chains;
      once = c.step.ensures.was_trail.once;
      denied = o.going.made.denied;
    } in
    record {
      sofar = sofar-more c.alone.invariant.sofar c.step.ensures.clauses c.step.ensures.trail c.step.ensures.propagated;
      alone = alone-step o s c.step.ensures.propagated.level c.in_default.ensures.literal c.in_default.ensures.walking;
    }

pub returns-then-next-count-2-clause-walked : goal.returns-then-next-count-2-clause-walked
returns-then-next-count-2-clause-walked c =
    let n : c.entries.next ≡ _ = c.if-next-count-2.true ∙ c.count-in-entries.ensures.count in
    let none : c.alone.older.next ≡ None = elim c.alone-test.branch [
      | then-alone-test+else-next-count w ↦ absurd (w.if-next-count.false (c.if-next-count-2.true ∙ c.count-in-entries.ensures.count ∙ sym w.count.ensures.count))
      | else-alone-test w ↦ no-next _ _ c.is_some.ensures w.alone-test.false
    ] in
    let all = alone-ended c.alone.invariant.alone none c.count-in-entries.ensures.is_trail.once c.count-in-entries.ensures.is_trail.climbing in
    λ k known i e l below s w1 w2 ne. all k known i e l (omega (arith, n, below)) s w1 w2 ne

pub returns-then-next-count-2-clause-covered : goal.returns-then-next-count-2-clause-covered
returns-then-next-count-2-clause-covered c = alone-before c.alone.invariant.alone c.count-in-entries.ensures.is_trail.once

pub both-init : goal.both-init
both-init c =
    let o = c.alone.invariant.alone in
    let low : c.args.head ≤ c.entries.next = omega (arith, o.going.low, o.going.high) in
    record {
      sofar = c.alone.invariant.sofar;
      both = both-start _ _ _ _ _ _ o c.start-newer.ensures.trail.once c.start-newer.ensures.literal (λ e s. at-level c.args.head c.alone.invariant.sofar c.requires.queued _ e low s) low c.start-newer.ensures.before c.start-newer.ensures.next;
    }

pub returns-in-Some-step-clause-covered : goal.returns-in-Some-step-clause-covered
returns-in-Some-step-clause-covered c =
    let o = c.both.invariant.both in
    let s : StepAt c.both.clauses c.step-in-both.new.clauses c.both.trail.entries
    c.step-in-both.new.trail.entries c.both.older.f =
    record {
      same = c.step-in-both.ensures.clauses;
      kept = c.step-in-both.ensures.propagated.kept;
      chains = c.step-in-both.ensures.chains;
      once = c.step-in-both.ensures.was_trail.once;
      denied = o.one.made.denied;
    } in
    both-broken o s

pub returns-in-Some-step-clause-propagated : goal.returns-in-Some-step-clause-propagated
returns-in-Some-step-clause-propagated c =
    (sofar-more c.both.invariant.sofar c.step-in-both.ensures.clauses c.step-in-both.ensures.trail c.step-in-both.ensures.propagated).propagated

halfway : (c : In_default-step) → Both c.step-in-both.new.clauses c.step-in-both.new.trail.entries c.args.head (c.entries.next + 1) c.step-in-both.new.walk c.both.newer
halfway c =
    let o = c.both.invariant.both in
    let s : StepAt c.both.clauses c.step-in-both.new.clauses c.both.trail.entries
    c.step-in-both.new.trail.entries c.both.older.f =
    record {
      same = c.step-in-both.ensures.clauses;
      kept = c.step-in-both.ensures.propagated.kept;
      chains = c.step-in-both.ensures.chains;
      once = c.step-in-both.ensures.was_trail.once;
      denied = o.one.made.denied;
    } in
    both-step o s c.step-in-both.ensures.propagated.level c.in_default-step.ensures.literal c.in_default-step.ensures.walking

pub step-requires-in-both-2-clause-denied : goal.step-requires-in-both-2-clause-denied
step-requires-in-both-2-clause-denied c = (halfway (goal.at.step-requires-in-both-2-clause-denied c).In_default-step).two.made.denied

pub step-requires-in-both-2-clause-walking : goal.step-requires-in-both-2-clause-walking
step-requires-in-both-2-clause-walking c = (halfway (goal.at.step-requires-in-both-2-clause-walking c).In_default-step).two.walking

pub returns-in-Some-step-2-clause-covered : goal.returns-in-Some-step-2-clause-covered
returns-in-Some-step-2-clause-covered c =
    let o = both-turned (halfway (goal.at.returns-in-Some-step-2-clause-covered c).In_default-step) in
    let s : StepAt c.step-in-both.new.clauses c.step-in-both-2.new.clauses c.step-in-both.new.trail.entries
    c.step-in-both-2.new.trail.entries c.both.newer.f =
    record {
      same = c.step-in-both-2.ensures.clauses;
      kept = c.step-in-both-2.ensures.propagated.kept;
      chains = c.step-in-both-2.ensures.chains;
      once = c.step-in-both-2.ensures.was_trail.once;
      denied = o.one.made.denied;
    } in
    both-broken o s

pub returns-in-Some-step-2-clause-propagated : goal.returns-in-Some-step-2-clause-propagated
returns-in-Some-step-2-clause-propagated c =
    let first = sofar-more c.both.invariant.sofar c.step-in-both.ensures.clauses c.step-in-both.ensures.trail c.step-in-both.ensures.propagated in
    (sofar-more first c.step-in-both-2.ensures.clauses c.step-in-both-2.ensures.trail c.step-in-both-2.ensures.propagated).propagated

pub both-smaller : goal.both-smaller
both-smaller c =
    let o = c.both.invariant.both in
    let half = halfway (goal.at.both-smaller c).In_default-step in
    let s : StepAt c.both.clauses c.step-in-both.new.clauses c.both.trail.entries
    c.step-in-both.new.trail.entries c.both.older.f =
    record {
      same = c.step-in-both.ensures.clauses;
      kept = c.step-in-both.ensures.propagated.kept;
      chains = c.step-in-both.ensures.chains;
      once = c.step-in-both.ensures.was_trail.once;
      denied = o.one.made.denied;
    } in
    let u : StepAt c.step-in-both.new.clauses c.step-in-both-2.new.clauses c.step-in-both.new.trail.entries
    c.step-in-both-2.new.trail.entries c.both.newer.f =
    record {
      same = c.step-in-both-2.ensures.clauses;
      kept = c.step-in-both-2.ensures.propagated.kept;
      chains = c.step-in-both-2.ensures.chains;
      once = c.step-in-both-2.ensures.was_trail.once;
      denied = half.two.made.denied;
    } in
    let older_next = a-next _ _ c.is_some-in-both.ensures c.both-test.true in
    let newer_next = a-next _ _ c.is_some-in-both-2.ensures c.if-is_some.true in
    let one = c.in_default-step.ensures.shorter older_next in
    let two = c.in_default-step-2.ensures.shorter newer_next in
    let beside = left-beside _ _ _ _ c.both.older.f c.both.newer.f c.both.newer.next s o.two.made.denied o.apart in
    let kept = left-beside _ _ _ _ c.both.newer.f c.step-in-both.new.walk.f c.step-in-both.new.walk.next u half.one.made.denied (λ e. half.apart (sym e)) in
    let f = ap (λ (l : Literal). count_rest_of_chain c.step-in-both.new.clauses l c.step-in-both.new.walk.next) c.in_default-step.ensures.literal in
    let g = ap (λ (l : Literal). count_rest_of_chain c.step-in-both-2.new.clauses l c.step-in-both-2.new.walk.next) c.in_default-step-2.ensures.literal in
    omega (arith, one, two, beside, kept, f, g)

pub both-preserved : goal.both-preserved
both-preserved c =
    let first = sofar-more c.both.invariant.sofar c.step-in-both.ensures.clauses c.step-in-both.ensures.trail c.step-in-both.ensures.propagated in
    let o = both-turned (halfway (goal.at.both-preserved c).In_default-step) in
    let s : StepAt c.step-in-both.new.clauses c.step-in-both-2.new.clauses c.step-in-both.new.trail.entries
    c.step-in-both-2.new.trail.entries c.both.newer.f =
    record {
      same = c.step-in-both-2.ensures.clauses;
      kept = c.step-in-both-2.ensures.propagated.kept;
      chains = c.step-in-both-2.ensures.chains;
      once = c.step-in-both-2.ensures.was_trail.once;
      denied = o.one.made.denied;
    } in
    record {
      sofar = sofar-more first c.step-in-both-2.ensures.clauses c.step-in-both-2.ensures.trail c.step-in-both-2.ensures.propagated;
      both = both-turned (both-step o s c.step-in-both-2.ensures.propagated.level c.in_default-step-2.ensures.literal c.in_default-step-2.ensures.walking);
    }

pub entries-smaller-then-is_some-2 : goal.entries-smaller-then-is_some-2
entries-smaller-then-is_some-2 c =
    let few = entries-few c.alone.trail c.start-newer.ensures.trail in
    let now = ap (λ (t : TrailList). t.vars) c.both.invariant.sofar.trail in
    let then_ = ap (λ (t : TrailList). t.vars) c.entries.invariant.sofar.trail in
    let there = ap (λ (t : TrailList). t.vars) c.alone.invariant.sofar.trail in
    omega (arith, few, now, then_, there, c.alone.invariant.alone.next_in)

pub entries-preserved-then-is_some-2 : goal.entries-preserved-then-is_some-2
entries-preserved-then-is_some-2 c =
    let o = c.both.invariant.both in
    let none : c.both.older.next ≡ None = elim c.both-test.branch [
      | then-both-test+else-is_some w ↦ absurd (a-next _ _ c.is_some-in-entries.ensures c.if-is_some-2.true (no-next _ _ w.is_some-in-both-2.ensures w.if-is_some.false))
      | else-both-test w ↦ no-next _ _ c.is_some-in-both.ensures w.both-test.false
    ] in
    record { sofar = c.both.invariant.sofar; alone = both-ended o none c.level.ensures.is_trail.once c.level.ensures.is_trail.climbing }

pub entries-smaller : goal.entries-smaller
entries-smaller c =
    let few = entries-few c.alone.trail c.start-newer.ensures.trail in
    let now = ap (λ (t : TrailList). t.vars) c.both.invariant.sofar.trail in
    let then_ = ap (λ (t : TrailList). t.vars) c.entries.invariant.sofar.trail in
    let there = ap (λ (t : TrailList). t.vars) c.alone.invariant.sofar.trail in
    omega (arith, few, now, then_, there, c.alone.invariant.alone.next_in)

pub entries-preserved : goal.entries-preserved
entries-preserved c =
    let o = c.both.invariant.both in
    let none : c.both.newer.next ≡ None = no-next _ _ c.is_some-in-entries.ensures c.if-is_some-2.false in
    record { sofar = c.both.invariant.sofar; alone = both-ended (both-turned o) none c.level.ensures.is_trail.once c.level.ensures.is_trail.climbing }
