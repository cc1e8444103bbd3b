use Rattle.std.proofs.Common.{ℕ, List, ap, sym, ◌∙◌, subst}
use Rattle.ilk_cnf.specs.Formula.{is_clause_over}
use Rattle.ilk_log.specs.declared.step.Step.{Step}
use Rattle.ilk_rup.specs.Standing.{IsValidMaybeUnpropagated}
use Rattle.ilk_rup.specs.declared.base.DerivationState.{DerivationState}
use Rattle.ilk_rup.proofs.Taking.{has-taken, loose-taken, none-fact, some-fact, taken-clause, taken-known, taken-refuted}
use Rattle.ilk_rup.proofs.base.DerivationState.try_add_clause.Goals as goal

pub returns-then-self : goal.returns-then-self
returns-then-self c = taken-refuted c.args.self.now c.requires c.if-self.true

pub returns-then-knows : goal.returns-then-knows
returns-then-knows c = (let k = c.knows.ensures.yes c.if-knows.true in taken-known c.args.self.now k.0 c.requires c.if-self.false k.1 k.2)

pub knows-requires : goal.knows-requires
knows-requires c = (let l = (c.requires.going c.if-self.false).loose in l.set_vars ∙ sym l.held.trail_vars)

pub returns-in-None : goal.returns-in-None
returns-in-None c = none-fact c.in_ok-derive.field-0 _ c.in_ok-derive.ensures.none c.in-None.is

pub add-requires-clause-within : goal.add-requires-clause-within
add-requires-clause-within c =
    let s = c.in-Some.step in
    let d = some-fact c.in_ok-derive.field-0 _ s c.in_ok-derive.ensures.derived c.in-Some.is in
    ap (λ (n : ℕ). is_clause_over n s.clause) d.loose.held.vars ∙ (taken-clause c.derive.new.self s d c.len-set.ensures.within c.len-set.ensures.differ).within

pub add-requires-clause-differ : goal.add-requires-clause-differ
add-requires-clause-differ c = (taken-clause c.derive.new.self c.in-Some.step (some-fact c.in_ok-derive.field-0 _ c.in-Some.step c.in_ok-derive.ensures.derived c.in-Some.is) c.len-set.ensures.within c.len-set.ensures.differ).differ

pub propagate_units-requires-clause-loose : goal.propagate_units-requires-clause-loose
propagate_units-requires-clause-loose c =
    let m = c.derive.new.self in
    let s = c.in-Some.step in
    let d = some-fact c.in_ok-derive.field-0 _ s c.in_ok-derive.ensures.derived c.in-Some.is in
    let own = taken-clause m s d c.len-set.ensures.within c.len-set.ensures.differ in
    let L : List Step → Type 0 = λ log. IsValidMaybeUnpropagated (record m { clauses = c.add.new.self.clauses; log = log }) in
    let P : DerivationState → Type 0 = λ b. IsValidMaybeUnpropagated b in
    subst P (sym c.in_ok-add.ensures.rest) (subst L (sym c.in_ok-add.ensures.log) (loose-taken m c.add.new.self.clauses s d own c.count-before.ensures.clauses c.count-after.ensures.clauses c.in_ok-add.ensures.clauses c.count-trail.ensures.is_trail))

pub propagate_units-requires-clause-going : goal.propagate_units-requires-clause-going
propagate_units-requires-clause-going c = ap (λ (b : DerivationState). b.refuted) c.in_ok-add.ensures.rest ∙ ap (λ (b : DerivationState). b.refuted) c.in_ok-derive.ensures.rest ∙ c.if-self.false

pub returns : goal.returns
returns c =
    let k = c.args.self.now in
    let m = c.derive.new.self in
    let s = c.in-Some.step in
    let e = c.in_ok-propagate_units.ensures in
    let d = some-fact c.in_ok-derive.field-0 _ s c.in_ok-derive.ensures.derived c.in-Some.is in
    let own = taken-clause m s d c.len-set.ensures.within c.len-set.ensures.differ in
    has-taken k m c.add.new.self c.propagate_units.new.self s c.in_ok-derive.ensures.rest c.in_ok-derive.ensures.clauses d own c.in_ok-add.ensures e.stands e.same
