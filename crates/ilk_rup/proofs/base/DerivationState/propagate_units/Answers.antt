use Rattle.std.proofs.Common.{◌∙◌, List, ap, sym, arith, length, refl}
use Rattle.std.proofs.lemmas.Bool.{true≢false}
use Rattle.ilk_cnf.specs.Literal.{Literal}
use Rattle.ilk_watches.specs.Reasons.{is_conflict}
use Rattle.ilk_log.specs.Propagation.{is_saturated}
use Rattle.ilk_trail.specs.Trail.{TrailList}
use Rattle.ilk_trail.specs.Laws.{lits_of}
use Rattle.ilk_watches.proofs.Entries.{entries-few}
use Rattle.ilk_rup.specs.declared.base.DerivationState.{DerivationState}
use Rattle.ilk_rup.proofs.Alike.{alike-self}
use Rattle.ilk_rup.proofs.Holds.{alike-propagated, alike-twice, loose-propagated}
use Rattle.ilk_rup.proofs.base.DerivationState.propagate_units.Goals as goal

pub rounds-init : goal.rounds-init
rounds-init c = record { loose = c.requires.loose; same = record { formula = refl; alike = alike-self c.args.self.now.clauses.clauses }; going = c.requires.going }

pub propagate-requires : goal.propagate-requires
propagate-requires c = (let h = c.rounds.invariant.loose.held in record { vars = h.trail_vars ∙ sym h.vars; queue = h.queued })

pub name_all-requires : goal.name_all-requires
name_all-requires c = (let e = c.propagate.ensures in loose-propagated c.rounds.self c.propagate.new.clauses c.propagate.new.trail c.propagate.new.self c.rounds.invariant.loose e.clauses e.trail e.propagated e.queue)

pub name_all-requires-in-Some : goal.name_all-requires-in-Some
name_all-requires-in-Some c = (let e = c.propagate.ensures in loose-propagated c.rounds.self c.propagate.new.clauses c.propagate.new.trail c.propagate.new.self c.rounds.invariant.loose e.clauses e.trail e.propagated e.queue)

pub returns-then-self-count-clause-stands : goal.returns-then-self-count-clause-stands
returns-then-self-count-clause-stands c =
    let v = c.rounds.invariant in
    let e = c.propagate.ensures in
    let set = lits_of c.propagate.new.trail.entries in
    record {
      set_vars = v.loose.set_vars;
      going = λ _. record {
        loose = loose-propagated c.rounds.self c.propagate.new.clauses c.propagate.new.trail c.propagate.new.self v.loose e.clauses e.trail e.propagated e.queue;
        closed = ap (λ (cs : List (List Literal)). is_saturated cs set) e.clauses.clauses ∙ c.in-None.ensures.closed;
        head = c.in-None.ensures.ended.0;
        settled = c.in-None.ensures.ended.1 ∙ ap length (sym e.clauses.clauses);
        named = omega (arith, c.if-self-count.true, c.count.ensures.count);
      };
      ended = λ x. absurd (true≢false (sym x ∙ v.going));
    }

pub returns-then-self-count-clause-same : goal.returns-then-self-count-clause-same
returns-then-self-count-clause-same c =
    let b = c.propagate.new in
    alike-twice c.args.self.now c.rounds.self (record c.rounds.self { clauses = b.clauses; trail = b.trail; queue = b.self }) c.rounds.invariant.same (alike-propagated c.rounds.self b.clauses b.trail b.self c.propagate.ensures.clauses)

pub rounds-smaller : goal.rounds-smaller
rounds-smaller c =
    let v = c.rounds.invariant in
    let e = c.propagate.ensures in
    let n = c.in_ok-name_all-in-None.ensures in
    let held = (loose-propagated c.rounds.self c.propagate.new.clauses c.propagate.new.trail c.propagate.new.self v.loose e.clauses e.trail e.propagated e.queue).held in
    let few = entries-few c.propagate.new.trail c.count.ensures.is_trail in
    let vars = ap (λ f. f.now.vars) n.same.same.formula in
    let entries = ap (λ (t : TrailList). length t.entries) n.same.trail in
    omega (arith, few, held.trail_vars, held.known.within, n.named, entries, vars, c.if-self-count.false, c.count.ensures.count)

pub rounds-preserved : goal.rounds-preserved
rounds-preserved c =
    let b = c.propagate.new in
    let v = c.rounds.invariant in
    let n = c.in_ok-name_all-in-None.ensures in
    let mid : DerivationState = record c.rounds.self { clauses = b.clauses; trail = b.trail; queue = b.self } in
    record {
      loose = n.loose;
      same = alike-twice c.args.self.now mid c.name_all.new.self (alike-twice c.args.self.now c.rounds.self mid v.same (alike-propagated c.rounds.self b.clauses b.trail b.self c.propagate.ensures.clauses)) n.same.same;
      going = n.same.refuted ∙ v.going;
    }

pub refute-requires-clause-conflict : goal.refute-requires-clause-conflict
refute-requires-clause-conflict c =
    let i = c.in-Some.conflict in
    let set = lits_of c.propagate.new.trail.entries in
    c.in_ok-name_all-in-Some.ensures.same.conflicts i (ap (λ (cs : List (List Literal)). is_conflict cs set i) c.propagate.ensures.clauses.clauses ∙ c.in-Some.ensures.conflict)

pub returns-in-Some-clause-same : goal.returns-in-Some-clause-same
returns-in-Some-clause-same c =
    let b = c.propagate.new in
    let a = c.args.self.now in
    let mid : DerivationState = record c.rounds.self { clauses = b.clauses; trail = b.trail; queue = b.self } in
    let named = c.name_all-in-Some.new.self in
    let here = alike-twice a c.rounds.self mid c.rounds.invariant.same (alike-propagated c.rounds.self b.clauses b.trail b.self c.propagate.ensures.clauses) in
    alike-twice a named c.refute.new.self (alike-twice a mid named here c.in_ok-name_all-in-Some.ensures.same.same) c.in_ok-refute-in-Some.ensures.same
