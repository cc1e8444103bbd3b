use Rattle.std.proofs.Common.{[], ◌∷◌, map}
use Rattle.std.proofs.lemmas.Result.{on_ok_weaker}
use Rattle.ilk_cnf.specs.Literal.{negated_lit}
use Rattle.ilk_cnf.proofs.Gates.{grown_more}
use Rattle.ilk_ints.specs.OneOf.{at_most_one_clauses}
use Rattle.ilk_ints.proofs.selection.add_either.Goals as goal

pub returns : goal.returns
returns c =
    let v = c.args.joined in
    let lits = c.args.lits.now in
    let f = c.args.cnf.now in
    let g = c.imply_joined.new.cnf in
    let h = c.rule_out_pairs.new.cnf in
    let each = map (λ l. negated_lit l ∷ v ∷ []) lits in
    let pairs = at_most_one_clauses [] lits in
    on_ok_weaker _ (λ made. grown_more f g h each ((negated_lit v ∷ lits) ∷ pairs) c.in_ok-imply_joined.ensures
    (grown_more g c.demand_some_if.new.cnf h ((negated_lit v ∷ lits) ∷ []) pairs c.in_ok-demand_some_if.ensures made)) c.rule_out_pairs.ensures
