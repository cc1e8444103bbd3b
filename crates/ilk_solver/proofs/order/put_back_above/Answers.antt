use Rattle.std.proofs.Common.{◌-◌, ap, sym, ◌∙◌, arith}
use Rattle.std.specs.List.{slice_get}
use Rattle.ilk_base.proofs.Options.{mapped-Some}
use Rattle.ilk_cnf.specs.Literal.{Literal}
use Rattle.ilk_cnf.specs.Formula.{is_lit_over}
use Rattle.ilk_cnf.proofs.Literals.{is_lit_over-parts}
use Rattle.ilk_trail.specs.declared.entry.Entry.{Entry}
use Rattle.ilk_trail.specs.Laws.{is_set}
use Rattle.ilk_trail.proofs.Entries.{set-at, entry-within}
use Rattle.ilk_solver.proofs.Orders.{low-above, put-done}
use Rattle.ilk_solver.proofs.order.put_back_above.Goals as goal

pub level_of-requires-clause-within : goal.level_of-requires-clause-within
level_of-requires-clause-within c =
    let t = c.args.trail.now in
    let x = mapped-Some (λ (e : Entry). e.lit) (slice_get t.entries (c.entries.i - 1)) c.at-lit.result c.at-lit.ensures in
    ap (is_lit_over t.vars) (sym x.2) ∙ entry-within t (c.entries.i - 1) x.0 c.count-i.ensures.is_trail x.1

pub level_of-requires-clause-set : goal.level_of-requires-clause-set
level_of-requires-clause-set c =
    let t = c.args.trail.now in
    let x = mapped-Some (λ (e : Entry). e.lit) (slice_get t.entries (c.entries.i - 1)) c.at-lit.result c.at-lit.ensures in
    ap (λ (l : Literal). is_set t.entries l.var) (sym x.2) ∙ set-at t.entries (c.entries.i - 1) x.0 x.1

pub returns-then-level_of-level-clause-above : goal.returns-then-level_of-level-clause-above
returns-then-level_of-level-clause-above c =
    let t = c.args.trail.now in
    let x = mapped-Some (λ (e : Entry). e.lit) (slice_get t.entries (c.entries.i - 1)) c.at-lit.result c.at-lit.ensures in
    low-above t c.args.weights.now c.entries.tree c.entries.i c.args.level x.0 c.at-lit.result c.level_of.result c.count-i.ensures.is_trail x.1 x.2 c.level_of.ensures c.if-level_of-level.true (λ j e h. c.entries.invariant.done j e (omega (arith, h)))

pub put_variable-requires-clause-from_1 : goal.put_variable-requires-clause-from_1
put_variable-requires-clause-from_1 c =
    let t = c.args.trail.now in
    let x = mapped-Some (λ (e : Entry). e.lit) (slice_get t.entries (c.entries.i - 1)) c.at-lit.result c.at-lit.ensures in
    let w = is_lit_over-parts t.vars c.at-lit.result (ap (is_lit_over t.vars) (sym x.2) ∙ entry-within t (c.entries.i - 1) x.0 c.count-i.ensures.is_trail x.1) in
    omega (arith, w.0, c.var.ensures)

pub put_variable-requires-clause-within : goal.put_variable-requires-clause-within
put_variable-requires-clause-within c =
    let t = c.args.trail.now in
    let x = mapped-Some (λ (e : Entry). e.lit) (slice_get t.entries (c.entries.i - 1)) c.at-lit.result c.at-lit.ensures in
    let w = is_lit_over-parts t.vars c.at-lit.result (ap (is_lit_over t.vars) (sym x.2) ∙ entry-within t (c.entries.i - 1) x.0 c.count-i.ensures.is_trail x.1) in
    omega (arith, w.1, c.var.ensures, c.requires.vars)

pub entries-preserved : goal.entries-preserved
entries-preserved c =
    let t = c.args.trail.now in
    let x = mapped-Some (λ (e : Entry). e.lit) (slice_get t.entries (c.entries.i - 1)) c.at-lit.result c.at-lit.ensures in
    let kept = c.put_variable.ensures.kept in
    record {
      within = omega (arith, c.entries.invariant.within);
      tree = c.put_variable.ensures.tree;
      kept = λ v s. kept v (c.entries.invariant.kept v s);
      done = λ j e h at. put-done t c.args.weights.now c.put_variable.new.tree c.entries.i x.0 c.at-lit.result c.var.result x.1 x.2 c.var.ensures c.put_variable.ensures.stands (λ j2 e2 h2 at2. kept e2.lit.var (c.entries.invariant.done j2 e2 h2 at2))
          j e h at;
    }
