use Rattle.std.proofs.Common.{◌≡◌, ℕ, ◌∙◌, ◌+◌, ◌-◌, ◌*◌, ◌++◌, List, suc, ap, arith}
use Rattle.std.proofs.Math.Nat.{suc-mul}
use Rattle.ilk_cnf.specs.Formula.{Formula}
use Rattle.ilk_forms.specs.declared.copy.VarValueAndBoundLits.{VarValueAndBoundLits}
use Rattle.ilk_forms.specs.Copy.{copy_var_count}
use Rattle.ilk_unroll.specs.Query.{copies_part}
use Rattle.ilk_unroll.proofs.CopiesLaw.{copies-step}
use Rattle.ilk_unroll.proofs.ReadBack.{ranges_fit-bytes}
use Rattle.ilk_unroll.proofs.unroll.add_copies.Goals as goal

pub loop-preserved : goal.loop-preserved
loop-preserved c =
    let ranges = c.args.ranges.now in
    let w = copy_var_count ranges in
    let i = c.args.count - (c.loop.counter + 1) in
    let left : c.args.count - c.loop.counter ≡ suc i = omega (arith, c.loop-test.true) in
    let more : suc i * w ≡ i * w + w = suc-mul i w in
    let was : c.loop.before ≡ suc i * w = c.loop.invariant.before ∙ ap (λ (k : ℕ). k * w) left in
    let now : c.loop.before - c.args.width ≡ i * w = omega (arith, more, was, c.requires.width) in
    let fit = ranges_fit-bytes ranges c.as_slice.result.now c.as_slice.ensures c.bytes_of-ranges.ensures.bytes in
    let step = copies-step c.loop.cnf c.add_copy_clauses.new.cnf ranges c.loop.tables
    (copies_part ranges c.args.count 0).tables c.in_ok-add_copy_clauses.field-0 i (c.args.count - c.loop.counter)
    (c.loop.before - c.args.width) fit left now c.loop.invariant.tables c.in_ok-add_copy_clauses.ensures.table
    c.in_ok-add_copy_clauses.ensures.made in
    record {
      vars = ap (λ (f : Formula). f.vars) c.in_ok-add_copy_clauses.ensures.made ∙ c.loop.invariant.vars;
      before = now;
      within = omega (arith, c.loop.invariant.within);
      tables = ap (λ (ts : List (List VarValueAndBoundLits)). ts ++ (copies_part ranges i 0).tables) c.in_ok-push.ensures.ok ∙ step.0;
      made = step.1 ∙ c.loop.invariant.made;
    }
