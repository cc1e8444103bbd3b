use Rattle.std.proofs.Common.{◌≡◌, ◌∙◌, ◌+◌, ◌-◌, ℕ, List, length, suc, refl, ap, arith}
use Rattle.ilk_cnf.specs.Formula.{Formula, with_var_count}
use Rattle.ilk_cnf.specs.Part.{with_part}
use Rattle.ilk_cnf.proofs.Extending.{extends-clauses_from_lists}
use Rattle.ilk_forms.specs.Copy.{FormulaPartAndAllVarLits, copy_part, AreCopyBits}
use Rattle.ilk_forms.proofs.CopyLaw.{copy-law, ranges_fit-small}
use Rattle.ilk_forms.proofs.CopyWidth.{class-length, copy-most, no_lits_for_each_var-length}
use Rattle.ilk_forms.proofs.CopySays.{copy-say}
use Rattle.ilk_forms.proofs.CopyMade.{class_there, below_step, copy-begins}
use Rattle.ilk_forms.proofs.copy.add_copy_clauses.Goals as goal

pub loop-i-init : goal.loop-i-init
loop-i-init c =
    let ranges = c.as_slice-ranges.result.now in
    let f = with_var_count c.args.cnf.now c.args.before in
    let same = copy-begins 256 ranges c.in_ok-table.table c.args.before refl c.in_ok-table.ensures in
    record {
      vars = refl;
      many = ap length c.in_ok-table.ensures ∙ no_lits_for_each_var-length ranges;
      table = ap (λ (p : FormulaPartAndAllVarLits). p.columns) same;
      made = ap (λ (p : FormulaPartAndAllVarLits). with_part f p.part) same;
    }

pub add_range_class-requires-clause-there : goal.add_range_class-requires-clause-there
add_range_class-requires-clause-there c =
    let i = c.loop-i.i in
    let ranges = c.as_slice-ranges.result.now in
    let left : 256 - i ≡ suc (255 - i) = omega (arith, c.loop-i-test.true) in
    let made = ap (λ (f : Formula). f.vars) c.loop-i.invariant.made in
    let same = ap (λ (rs : List ℕ). (copy_part rs c.args.before).part.vars) c.as_slice-ranges.ensures in
    class_there (256 - i) (255 - i) c.loop-i.used c.loop-i.cnf.vars ranges c.loop-i.table left
    (omega (arith, made, same, c.loop-i.invariant.vars, copy-most c.args.ranges.now c.args.before, c.requires))

pub loop-i-preserved : goal.loop-i-preserved
loop-i-preserved c =
    let i = c.loop-i.i in
    let ranges = c.as_slice-ranges.result.now in
    let before = c.loop-i.invariant in
    let made = c.in_ok-add_range_class.ensures in
    let left : 256 - i ≡ suc (255 - i) = omega (arith, c.loop-i-test.true) in
    let next : 256 - (i + 1) ≡ 255 - i = omega arith in
    let step = below_step (256 - i) (255 - i) (256 - (i + 1)) ranges c.loop-i.table c.add_range_class.new.table (with_var_count c.loop-i.cnf c.loop-i.used)
    (with_var_count c.add_range_class.new.cnf c.add_range_class.new.used) left next made.table made.made in
    record {
      vars = made.vars ∙ before.vars;
      many = ap length made.table ∙ class-length (255 - i) ranges c.loop-i.table c.loop-i.used before.many;
      table = step.0 ∙ before.table;
      made = step.1 ∙ before.made;
    }

pub returns-clause-law : goal.returns-clause-law
returns-clause-law c =
    λ a size small.
    let ranges = c.args.ranges.now in
    let part = (copy_part ranges c.args.before).part in
    extends-clauses_from_lists a part.vars part.clauses (AreCopyBits ranges) (copy-law ranges a c.args.before size (ranges_fit-small ranges small))

pub returns-clause-exact : goal.returns-clause-exact
returns-clause-exact c = λ a d ws size small inside. copy-say c.args.ranges.now ws a d c.args.before size (ranges_fit-small c.args.ranges.now small) inside
