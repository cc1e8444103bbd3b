use Rattle.std.proofs.Common.{ap, ◌∙◌}
use Rattle.ilk_cnf.specs.Formula.{Formula}
use Rattle.ilk_ints.proofs.PairsLaw.{lit_and_earlier-in, at_most_one-more}
use Rattle.ilk_ints.proofs.selection.rule_out_pairs.Goals as goal

pub rule_out_with_each-requires : goal.rule_out_with_each-requires
rule_out_with_each-requires c =
    let same = c.loop-i.invariant.vars in
    lit_and_earlier-in c.loop-i.cnf.vars c.loop-i.i c.args.lits.now c.index-lits-i.result c.loop-i-test.true c.index-lits-i.is (rw same c.requires)

pub loop-i-preserved : goal.loop-i-preserved
loop-i-preserved c =
    let made = c.in_ok-rule_out_with_each.ensures in
    record {
      vars = ap (λ (f : Formula). f.vars) made ∙ c.loop-i.invariant.vars;
      rest = at_most_one-more c.loop-i.cnf c.rule_out_with_each.new.cnf c.args.lits.now c.loop-i.i c.index-lits-i.result c.loop-i-test.true c.index-lits-i.is made ∙ c.loop-i.invariant.rest;
    }
