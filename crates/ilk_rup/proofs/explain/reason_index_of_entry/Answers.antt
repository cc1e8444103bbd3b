use Rattle.std.proofs.Common.{◌≡◌, ◌∙◌, ap, sym, Some, take, true}
use Rattle.std.specs.List.{slice_get}
use Rattle.ilk_base.proofs.Options.{mapped-Some}
use Rattle.ilk_cnf.specs.Literal.{Literal}
use Rattle.ilk_cnf.specs.Formula.{is_lit_over}
use Rattle.ilk_watches.specs.Reasons.{clause_forces_lit}
use Rattle.ilk_trail.specs.declared.entry.Entry.{Entry}
use Rattle.ilk_trail.specs.Laws.{is_set, lits_of}
use Rattle.ilk_trail.proofs.Entries.{entry-within, set-at}
use Rattle.ilk_rup.proofs.Passing.{reason-at, reason-in, some-reason, that-reason}
use Rattle.ilk_rup.proofs.explain.reason_index_of_entry.Goals as goal

pub reason-requires-clause-within : goal.reason-requires-clause-within
reason-requires-clause-within c =
    let t = c.args.trail.now in
    let x = mapped-Some (λ (e : Entry). e.lit) (slice_get t.entries c.args.i) c.at.result c.at.ensures in
    ap (is_lit_over t.vars) (sym x.2) ∙ entry-within t c.args.i x.0 c.count-trail.ensures.is_trail x.1

pub reason-requires-clause-set : goal.reason-requires-clause-set
reason-requires-clause-set c =
    let t = c.args.trail.now in
    let x = mapped-Some (λ (e : Entry). e.lit) (slice_get t.entries c.args.i) c.at.result c.at.ensures in
    ap (λ (l : Literal). is_set t.entries l.var) (sym x.2) ∙ set-at t.entries c.args.i x.0 x.1

pub unwrap-requires : goal.unwrap-requires
unwrap-requires c =
    let t = c.args.trail.now in
    let x = mapped-Some (λ (e : Entry). e.lit) (slice_get t.entries c.args.i) c.at.result c.at.ensures in
    some-reason x.0.reason c.reason.result
    (λ r. clause_forces_lit c.args.clauses.now.clauses (lits_of (take c.args.i t.entries)) x.0.lit r ≡ true)
    (reason-at t.entries c.args.i x.0 c.at.result c.reason.result c.count-trail.ensures.is_trail.once x.1
    x.2 c.reason.ensures)
    (c.requires.forced x.0 x.1)

pub returns-clause-reason : goal.returns-clause-reason
returns-clause-reason c = λ e at.
    let t = c.args.trail.now in
    let x = mapped-Some (λ (e : Entry). e.lit) (slice_get t.entries c.args.i) c.at.result c.at.ensures in
    let same : x.0 ≡ e = (let z : Some x.0 ≡ Some e = sym x.1 ∙ at in cc) in
    that-reason e.reason c.unwrap.result
    (λ r. clause_forces_lit c.args.clauses.now.clauses (lits_of (take c.args.i t.entries)) e.lit r ≡ true)
    (reason-at t.entries c.args.i e c.at.result c.reason.result c.count-trail.ensures.is_trail.once at
    (ap (λ (y : Entry). y.lit) (sym same) ∙ x.2) c.reason.ensures
    ∙ c.unwrap.ensures)
    (c.requires.forced e at)

pub returns-clause-known : goal.returns-clause-known
returns-clause-known c =
    let t = c.args.trail.now in
    let x = mapped-Some (λ (e : Entry). e.lit) (slice_get t.entries c.args.i) c.at.result c.at.ensures in
    reason-in c.args.clauses.now.clauses (lits_of (take c.args.i t.entries)) x.0.lit c.unwrap.result
    (that-reason x.0.reason c.unwrap.result
    (λ r. clause_forces_lit c.args.clauses.now.clauses (lits_of (take c.args.i t.entries)) x.0.lit r ≡ true)
    (reason-at t.entries c.args.i x.0 c.at.result c.reason.result
    c.count-trail.ensures.is_trail.once x.1 x.2 c.reason.ensures
    ∙ c.unwrap.ensures)
    (c.requires.forced x.0 x.1))
