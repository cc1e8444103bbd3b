use Rattle.std.proofs.Common.{◌∙◌, ap, sym, subst, List, ℕ, arith, reverse}
use Rattle.std.specs.List.{slice_get}
use Rattle.ilk_base.proofs.Options.{mapped-Some}
use Rattle.ilk_cnf.specs.Literal.{Literal, has_lit}
use Rattle.ilk_cnf.specs.Formula.{is_lit_over}
use Rattle.ilk_watches.specs.Chained.{formula_of}
use Rattle.ilk_trail.specs.declared.entry.Entry.{Entry}
use Rattle.ilk_trail.proofs.Entries.{entry-within}
use Rattle.ilk_rup.specs.Needs.{HintsWorkWithoutEntry}
use Rattle.ilk_rup.proofs.Passing.{passed-skip, passed-step}
use Rattle.ilk_rup.proofs.explain.pass.Goals as goal

pub has-requires : goal.has-requires
has-requires c =
    let t = c.args.trail.now in
    let x = mapped-Some (λ (e : Entry). e.lit) (slice_get t.entries c.args.i) c.at.result c.at.ensures in
    ap (λ (n : ℕ). is_lit_over n c.at.result) (c.requires.vars ∙ sym c.requires.trail) ∙ ap (is_lit_over t.vars) (sym x.2) ∙ entry-within t c.args.i x.0 c.count-trail.ensures.is_trail x.1

pub returns-then-not-has-clause-passed : goal.returns-then-not-has-clause-passed
returns-then-not-has-clause-passed c =
    let t = c.args.trail.now in
    let x = mapped-Some (λ (e : Entry). e.lit) (slice_get t.entries c.args.i) c.at.result c.at.ensures in
    let needed = c.args.needed.now.lits in
    passed-skip c.args.clauses.now.clauses t.entries c.args.set.now.lits needed c.args.i x.0
    (reverse c.args.reasons.now.items) x.1 c.count-trail.ensures.is_trail.once
    (ap (λ (l : Literal). has_lit l needed) x.2 ∙ sym c.has.ensures ∙ c.if-not-has.true)

pub returns-clause-passed : goal.returns-clause-passed
returns-clause-passed c =
    let t = c.args.trail.now in
    let x = mapped-Some (λ (e : Entry). e.lit) (slice_get t.entries c.args.i) c.at.result c.at.ensures in
    let needed = c.args.needed.now.lits in
    let set = c.args.set.now.lits in
    let next = c.need.new.needed.lits in
    let r = c.reason_index_of_entry-reason.result in
    let P : List ℕ → Type 0 = λ items. HintsWorkWithoutEntry c.args.clauses.now.clauses t.entries set c.args.i needed (reverse c.args.reasons.now.items) next (reverse items) in
    subst P (sym c.in_ok-push.ensures.items)
    (passed-step (formula_of c.args.clauses.now) t.entries set needed next c.args.i r x.0
    c.args.reasons.now.items c.count-clauses.ensures.formula x.1 c.count-trail.ensures.is_trail.once
    (ap (λ (l : Literal). has_lit l needed) x.2 ∙ sym c.has.ensures ∙ c.if-not-has.false)
    (c.reason_index_of_entry-reason.ensures.reason x.0 x.1)
    (c.requires.walk c.args.i x.0 (omega arith) (omega arith) x.1).1 c.need.ensures.needed)
