use Rattle.std.proofs.Common.{◌+◌, ◌*◌, ◌≤◌, length, List, map, sym, ap, ◌∙◌, subst}
use Rattle.ilk_cnf.specs.Truth.{is_true}
use Rattle.ilk_cnf.specs.Literal.{Literal}
use Rattle.ilk_cnf.specs.Formula.{Formula}
use Rattle.ilk_cnf.specs.Part.{with_part}
use Rattle.ilk_cnf.specs.Extends.{PassesAndEqualsGivenValues}
use Rattle.ilk_cnf.proofs.Extending.{extends-clauses_from_lists}
use Rattle.ilk_ints.specs.OneOf.{exactly_one_part, exactly_one_true, exactly_one_bits}
use Rattle.ilk_ints.proofs.OneOfLaw.{one_of-law, clauses-few}
use Rattle.ilk_ints.proofs.selection.one_of.Goals as goal

pub returns-clause-law : goal.returns-clause-law
returns-clause-law c =
    λ a size.
    let n = c.args.cnf.now.vars in
    let ls = c.args.lits.now in
    extends-clauses_from_lists a (exactly_one_part ls n).vars (exactly_one_part ls n).clauses (PassesAndEqualsGivenValues (exactly_one_true (map (is_true a) ls)) (exactly_one_bits (map (is_true a) ls))) (one_of-law ls a n size c.requires)

pub returns-clause-few : goal.returns-clause-few
returns-clause-few c =
    let f = c.args.cnf.now in
    let ls = c.args.lits.now in
    let made = c.in_ok-join_all.ensures ∙ ap (λ (ks : List Literal). with_part f (exactly_one_part ks f.vars)) (c.in_ok-from_slice.ensures.items ∙ c.as_slice.ensures.items) in
    subst (λ (g : Formula). length g.clauses ≤ length f.clauses + 4 * length ls + 1) (sym made) (clauses-few f ls)
