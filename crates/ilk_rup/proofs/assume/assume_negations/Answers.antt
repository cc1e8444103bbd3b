use Rattle.std.proofs.Common.{ℕ, List, take, ap, sym, ◌∙◌, arith}
use Rattle.ilk_cnf.specs.Literal.{Literal}
use Rattle.ilk_cnf.specs.Formula.{is_lit_over}
use Rattle.ilk_trail.specs.Trail.{TrailList}
use Rattle.ilk_base.proofs.Tested.{list_all-slice_get}
use Rattle.ilk_rup.specs.Needs.{TrailAssumesNegatedLits}
use Rattle.ilk_rup.proofs.Assuming.{assumed-next}
use Rattle.ilk_rup.proofs.Needing.{all-taken, one-more}
use Rattle.ilk_rup.proofs.assume.assume_negations.Goals as goal

pub assume_one-requires-clause-within : goal.assume_one-requires-clause-within
assume_one-requires-clause-within c =
    let s = c.args.set.now in
    ap (λ (n : ℕ). is_lit_over n c.at.result) (ap (λ (t : TrailList). t.vars) c.loop-i.invariant.trail ∙ sym c.requires.vars) ∙ list_all-slice_get (is_lit_over s.vars) s.lits c.loop-i.i c.at.result c.len-i-end.ensures.within c.at.ensures

pub loop-i-preserved : goal.loop-i-preserved
loop-i-preserved c =
    let ls = c.args.set.now.lits in
    let i = c.loop-i.i in
    let P : List Literal → Type 0 = λ xs. TrailAssumesNegatedLits xs c.args.trail.now.entries c.assume_one.new.trail.entries in
    record {
      trail = c.assume_one.ensures.trail ∙ ap (λ (t : TrailList). record t { entries = c.assume_one.new.trail.entries }) c.loop-i.invariant.trail;
      assumed = one-more P ls i c.at.result c.at.ensures (assumed-next (take i ls) c.args.trail.now.entries c.loop-i.trail.entries c.assume_one.new.trail.entries c.at.result c.loop-i.invariant.assumed c.assume_one.ensures.assumed);
    }

pub returns-clause-assumed : goal.returns-clause-assumed
returns-clause-assumed c =
    let ls = c.args.set.now.lits in
    let P : List Literal → Type 0 = λ xs. TrailAssumesNegatedLits xs c.args.trail.now.entries c.loop-i.trail.entries in
    all-taken P ls c.loop-i.i (omega (arith, c.len-i-end.ensures.count, c.loop-i-test.false)) c.loop-i.invariant.assumed
