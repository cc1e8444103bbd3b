use Rattle.std.proofs.Common.{[]}
use Rattle.std.proofs.lemmas.Result.{on_ok_weaker}
use Rattle.ilk_cnf.proofs.Gates.{grown_one}
use Rattle.ilk_ints.specs.OneOf.{at_most_one_clauses}
use Rattle.ilk_ints.proofs.selection.demand_one_of_few.Goals as goal

pub returns : goal.returns
returns c =
    let lits = c.args.lits.now in
    on_ok_weaker _ (grown_one c.args.cnf.now c.rule_out_pairs.new.cnf c.add_clause_unless_tautology.new.self (at_most_one_clauses [] lits) lits c.in_ok-rule_out_pairs.ensures) c.add_clause_unless_tautology.ensures.ok
