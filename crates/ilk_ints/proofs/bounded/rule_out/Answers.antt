use Rattle.std.proofs.Common.{◌<◌, ◌^◌, ◌++◌, ◌∙◌, rules, ap}
use Rattle.ilk_cnf.specs.Formula.{Formula}
use Rattle.ilk_cnf.specs.Part.{clauses_from_lists}
use Rattle.ilk_ints.specs.Number.{non_value_clauses}
use Rattle.ilk_ints.proofs.NumberLaw.{ruled_step}
use Rattle.ilk_ints.proofs.bounded.rule_out.Goals as goal

pub loop-value-preserved : goal.loop-value-preserved
loop-value-preserved c =
    let made = c.in_ok-rule_out_value.ensures in
    let less : c.loop-value.value < 2 ^ c.args.count = search rules in
    record {
      vars = ap (λ (f : Formula). f.vars) made ∙ c.loop-value.invariant.vars;
      rest = ruled_step c.loop-value.cnf c.rule_out_value.new.cnf (c.args.cnf.now.clauses ++ clauses_from_lists (non_value_clauses c.args.first c.args.range)) c.args.first c.args.count c.loop-value.value less made c.loop-value.invariant.rest;
    }
