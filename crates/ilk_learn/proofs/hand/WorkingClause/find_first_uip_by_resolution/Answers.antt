use Rattle.std.proofs.Common.{◌≡◌, ◌-◌, ℕ, suc, true, false, Some, ap, ◌∙◌, sym, subst, arith}
use Rattle.std.specs.List.{slice_get}
use Rattle.ilk_base.proofs.Options.{mapped-Some}
use Rattle.ilk_cnf.specs.Literal.{Literal}
use Rattle.ilk_cnf.specs.Formula.{is_lit_over}
use Rattle.ilk_trail.specs.declared.entry.Entry.{Entry}
use Rattle.ilk_trail.specs.Trail.{entry_of}
use Rattle.ilk_trail.specs.Laws.{is_set}
use Rattle.ilk_trail.proofs.Entries.{set-at, entry-within}
use Rattle.ilk_watches.specs.Chained.{formula_of}
use Rattle.ilk_learn.specs.Levels.{is_current}
use Rattle.ilk_learn.specs.Learning.{has_var_and_one_current}
use Rattle.ilk_learn.specs.Hand.{ConflictWalkEndedAt}
use Rattle.ilk_learn.proofs.Latest.{entry-at}
use Rattle.ilk_learn.proofs.Far.{Far, far-start, far-next, far-point, far-end, entry-current}
use Rattle.ilk_learn.proofs.hand.WorkingClause.find_first_uip_by_resolution.Goals as goal

pub loop-i-init : goal.loop-i-init
loop-i-init c =
    let P : ℕ → Type 0 = λ n. Far (formula_of c.args.clauses.now) c.args.trail.now c.args.self.now c.args.conflict n in
    record {
      low = omega (arith, c.count-i.ensures.count);
      far = subst P (sym c.count-i.ensures.count) (far-start (formula_of c.args.clauses.now) c.args.trail.now c.args.self.now c.args.conflict c.count-clauses.ensures.formula c.count-i.ensures.is_trail c.requires.conflict c.requires.held);
    }

pub is_point-requires-clause-within : goal.is_point-requires-clause-within
is_point-requires-clause-within c =
    let t = c.args.trail.now in
    let x = mapped-Some (λ (e : Entry). e.lit) (slice_get t.entries (c.loop-i.i - 1)) c.at-lit.result c.at-lit.ensures in
    ap (is_lit_over t.vars) (sym x.2) ∙ entry-within t (c.loop-i.i - 1) x.0 c.count-i.ensures.is_trail x.1

pub returns-then-is_point : goal.returns-then-is_point
returns-then-is_point c =
    let f = (formula_of c.args.clauses.now) in
    let t = c.args.trail.now in
    let i = c.loop-i.i - 1 in
    let k = c.loop-i.invariant.far in
    let x = mapped-Some (λ (e : Entry). e.lit) (slice_get t.entries i) c.at-lit.result c.at-lit.ensures in
    let q : c.loop-i.i ≡ suc i = omega arith in
    let p : has_var_and_one_current t.entries c.at-lit.result k.step.clause ≡ true = sym (c.is_point.ensures k.step.clause k.keeps.holds) ∙ c.if-is_point.true in
    let P : Literal → Type 0 = λ l. ConflictWalkEndedAt t f.clauses c.args.conflict c.loop-i.self (Some l) in
    subst P x.2 (far-point f t c.loop-i.self c.args.conflict c.loop-i.i i x.0 c.count-i.ensures.is_trail k q x.1 (ap (λ (l : Literal). has_var_and_one_current t.entries l k.step.clause) x.2 ∙ p))

pub pass-requires-clause-within : goal.pass-requires-clause-within
pass-requires-clause-within c =
    let t = c.args.trail.now in
    let x = mapped-Some (λ (e : Entry). e.lit) (slice_get t.entries (c.loop-i.i - 1)) c.at-lit.result c.at-lit.ensures in
    ap (is_lit_over t.vars) (sym x.2) ∙ entry-within t (c.loop-i.i - 1) x.0 c.count-i.ensures.is_trail x.1

pub pass-requires-clause-set : goal.pass-requires-clause-set
pass-requires-clause-set c =
    let t = c.args.trail.now in
    let x = mapped-Some (λ (e : Entry). e.lit) (slice_get t.entries (c.loop-i.i - 1)) c.at-lit.result c.at-lit.ensures in
    ap (λ (l : Literal). is_set t.entries l.var) (sym x.2) ∙ set-at t.entries (c.loop-i.i - 1) x.0 x.1

pub pass-requires-clause-current : goal.pass-requires-clause-current
pass-requires-clause-current c = λ _. (let t = c.args.trail.now in
    let i = c.loop-i.i - 1 in
    let x = mapped-Some (λ (e : Entry). e.lit) (slice_get t.entries i) c.at-lit.result c.at-lit.ensures in
    let q : c.loop-i.i ≡ suc i = omega arith in
    ap (is_current t.entries) (sym x.2) ∙ entry-current (formula_of c.args.clauses.now) t c.loop-i.self c.args.conflict c.loop-i.i i x.0 c.count-i.ensures.is_trail c.loop-i.invariant.far q x.1)

pub loop-i-preserved : goal.loop-i-preserved
loop-i-preserved c =
    let f = (formula_of c.args.clauses.now) in
    let t = c.args.trail.now in
    let i = c.loop-i.i - 1 in
    let k = c.loop-i.invariant.far in
    let low = c.loop-i.invariant.low in
    let x = mapped-Some (λ (e : Entry). e.lit) (slice_get t.entries i) c.at-lit.result c.at-lit.ensures in
    let q : c.loop-i.i ≡ suc i = omega arith in
    let p : has_var_and_one_current t.entries x.0.lit k.step.clause ≡ false = ap (λ (l : Literal). has_var_and_one_current t.entries l k.step.clause) x.2 ∙ sym (c.is_point.ensures k.step.clause k.keeps.holds) ∙ c.if-is_point.false in
    let at : entry_of t.entries c.at-lit.result.var ≡ Some x.0 = ap (λ (l : Literal). entry_of t.entries l.var) (sym x.2) ∙ entry-at t.entries i x.0 c.count-i.ensures.is_trail.once x.1 in
    record {
      low = omega (arith, low);
      far = far-next f t c.loop-i.self c.pass.new.self c.args.conflict c.loop-i.i i x.0 c.count-clauses.ensures.formula k q x.1 p (c.in_ok-pass.ensures x.0 k.step at k.keeps);
    }

pub returns : goal.returns
returns c =
    let n : c.loop-i.i ≡ 0 = omega (arith, c.loop-i-test.false) in
    let P : ℕ → Type 0 = λ m. Far (formula_of c.args.clauses.now) c.args.trail.now c.loop-i.self c.args.conflict m in
    far-end (formula_of c.args.clauses.now) c.args.trail.now c.loop-i.self c.args.conflict (subst P n c.loop-i.invariant.far)
