use Rattle.std.proofs.Common.{◌∙◌, ℕ, List, sym, subst, ap, arith}
use Rattle.ilk_cnf.specs.Formula.{Formula, with_var_count}
use Rattle.ilk_cnf.specs.Part.{with_part}
use Rattle.ilk_forms.specs.declared.copy.VarValueAndBoundLits.{VarValueAndBoundLits}
use Rattle.ilk_forms.specs.Copy.{range_class_part}
use Rattle.ilk_forms.proofs.CopyMade.{Makes, var_there, class_taken, class_passed}
use Rattle.ilk_forms.proofs.copy.add_range_class.Goals.{then-other-range+in_ok-table, else-other-range}
use Rattle.ilk_forms.proofs.copy.add_range_class.Goals as goal

pub add_system_var-requires : goal.add_system_var-requires
add_system_var-requires c =
    let at = c.loop-v in
    let before = at.invariant in
    let made = ap (λ (f : Formula). f.vars) before.makes.made in
    record { there = var_there c.args.range at.v at.used at.cnf.vars c.args.ranges.now at.table c.loop-v-test.true before.makes.many c.if-other-range.true (omega (arith, made, before.vars, c.requires.there)) }

pub loop-v-preserved : goal.loop-v-preserved
loop-v-preserved c =
    let before = c.loop-v.invariant in
    let whole = range_class_part c.args.range c.args.ranges.now c.args.table.now c.args.used.now in
    let end = with_part (with_var_count c.args.cnf.now c.args.used.now) whole.part in
    elim c.if-other-range.branch [
      | then-other-range+in_ok-table w ↦
          (let same = ap (λ (n : ℕ). with_var_count c.if-other-range.cnf n) w.used-is ∙ ap (λ (f : Formula). with_var_count f w.add_system_var.new.used) w.cnf-is in
          record {
            vars = ap (λ (f : Formula). f.vars) w.cnf-is ∙ w.in_ok-table.ensures.vars ∙ before.vars;
            makes =
                class_taken c.args.range c.loop-v.v c.args.ranges.now c.loop-v.table c.if-other-range.table whole.columns w.in_ok-table.field-0
                (with_var_count c.loop-v.cnf c.loop-v.used) (with_var_count c.if-other-range.cnf c.if-other-range.used) end c.loop-v-test.true w.if-other-range.true w.table-is
                w.in_ok-table.ensures.column (same ∙ w.in_ok-table.ensures.made) before.makes;
          })
      | else-other-range w ↦
          (let same = ap (λ (n : ℕ). with_var_count c.loop-v.cnf n) (sym w.used-is) ∙ ap (λ (f : Formula). with_var_count f c.if-other-range.used) (sym w.cnf-is) in
          record {
            vars = ap (λ (f : Formula). f.vars) w.cnf-is ∙ before.vars;
            makes =
                class_passed c.args.range c.loop-v.v c.args.ranges.now c.if-other-range.table whole.columns (with_var_count c.if-other-range.cnf c.if-other-range.used) end
                c.loop-v-test.true w.if-other-range.false
                (subst (λ (t : List VarValueAndBoundLits). Makes c.args.range c.loop-v.v c.args.ranges.now t (with_var_count c.if-other-range.cnf c.if-other-range.used) whole.columns end) (sym w.table-is)
                (subst (λ (f : Formula). Makes c.args.range c.loop-v.v c.args.ranges.now c.loop-v.table f whole.columns end) same before.makes));
          })
    ]
