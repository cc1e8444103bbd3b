use Rattle.std.proofs.Common.{◌*◌, ◌≤◌, ◌∷◌, [], suc, refl, arith}
use Rattle.std.specs.Prelude.{sum}
use Rattle.ilk_cnf.proofs.Extending.{extends-clauses_from_lists}
use Rattle.ilk_ir.specs.Tree.{all_of, negation, trees_from_list}
use Rattle.ilk_ir.specs.System.{plain_system}
use Rattle.ilk_forms.proofs.CopyLaw.{ranges_fit-small}
use Rattle.ilk_unroll.specs.Goal.{plain_goal, query_step_count}
use Rattle.ilk_unroll.specs.Query.{copies_part, query_part}
use Rattle.ilk_unroll.specs.Assignment.{run_assignment, EncodesWantedRun}
use Rattle.ilk_unroll.proofs.CopiesLaw.{copies-few, is_valid_in_each-from}
use Rattle.ilk_unroll.proofs.DemandsLaw.{goal-valid}
use Rattle.ilk_unroll.proofs.QueryLaw.{query-law}
use Rattle.ilk_unroll.proofs.QueryMade.{query_made, few-wanted, tables-many}
use Rattle.ilk_unroll.proofs.formula.query.Goals as goal

pub unroll-requires-clause-steps : goal.unroll-requires-clause-steps
unroll-requires-clause-steps c = let few = few-wanted c.args.q c.requires.wanted in omega (arith, few, c.steps.ensures)

pub add_query_demands-requires-clause-steps : goal.add_query_demands-requires-clause-steps
add_query_demands-requires-clause-steps c = tables-many (plain_system c.args.system.now) c.steps.result c.args.q c.in_ok-unrolled.unrolled.tables c.steps.ensures c.in_ok-unrolled.ensures.tables

pub add_query_demands-requires-clause-few : goal.add_query_demands-requires-clause-few
add_query_demands-requires-clause-few c = few-wanted c.args.q c.requires.wanted

pub add_query_demands-requires-clause-start : goal.add_query_demands-requires-clause-start
add_query_demands-requires-clause-start c =
    let g = plain_goal c.args.goal.now in
    is_valid_in_each-from c.args.system.now.ranges c.in_ok-unrolled.unrolled.tables g.start c.in_ok-unrolled.ensures.ranges (goal-valid c.args.system.now.ranges g c.requires.goal).start

pub add_query_demands-requires-clause-hazard : goal.add_query_demands-requires-clause-hazard
add_query_demands-requires-clause-hazard c =
    let g = plain_goal c.args.goal.now in
    is_valid_in_each-from c.args.system.now.ranges c.in_ok-unrolled.unrolled.tables g.hazard c.in_ok-unrolled.ensures.ranges (goal-valid c.args.system.now.ranges g c.requires.goal).hazard

pub add_query_demands-requires-clause-wellformed : goal.add_query_demands-requires-clause-wellformed
add_query_demands-requires-clause-wellformed c =
    let g = plain_goal c.args.goal.now in
    is_valid_in_each-from c.args.system.now.ranges c.in_ok-unrolled.unrolled.tables g.wellformed c.in_ok-unrolled.ensures.ranges (goal-valid c.args.system.now.ranges g c.requires.goal).wellformed

pub add_query_demands-requires-clause-kept : goal.add_query_demands-requires-clause-kept
add_query_demands-requires-clause-kept c =
    let g = plain_goal c.args.goal.now in
    is_valid_in_each-from c.args.system.now.ranges c.in_ok-unrolled.unrolled.tables (all_of (trees_from_list (g.wellformed ∷ g.families))) c.in_ok-unrolled.ensures.ranges (goal-valid c.args.system.now.ranges g c.requires.goal).kept

pub add_query_demands-requires-clause-families : goal.add_query_demands-requires-clause-families
add_query_demands-requires-clause-families c =
    let g = plain_goal c.args.goal.now in
    is_valid_in_each-from c.args.system.now.ranges c.in_ok-unrolled.unrolled.tables (all_of (trees_from_list g.families)) c.in_ok-unrolled.ensures.ranges (goal-valid c.args.system.now.ranges g c.requires.goal).families

pub add_query_demands-requires-clause-last : goal.add_query_demands-requires-clause-last
add_query_demands-requires-clause-last c =
    let g = plain_goal c.args.goal.now in
    is_valid_in_each-from c.args.system.now.ranges c.in_ok-unrolled.unrolled.tables (all_of (trees_from_list (negation g.hazard ∷ g.families))) c.in_ok-unrolled.ensures.ranges (goal-valid c.args.system.now.ranges g c.requires.goal).safe

pub returns-clause-formula : goal.returns-clause-formula
returns-clause-formula c =
    query_made (plain_system c.args.system.now) (plain_goal c.args.goal.now) c.args.q c.steps.result
    c.unroll.new.cnf c.add_query_demands.new.cnf c.in_ok-unrolled.unrolled.tables c.steps.ensures
    c.in_ok-unrolled.ensures.tables c.in_ok-unrolled.ensures.made c.in_ok-add_query_demands.ensures

pub returns-clause-sound : goal.returns-clause-sound
returns-clause-sound c =
    λ a size sat.
    let s = plain_system c.args.system.now in
    let g = plain_goal c.args.goal.now in
    let p = query_part s g c.args.q in
    (extends-clauses_from_lists [] p.vars p.clauses (EncodesWantedRun s g c.args.q) (query-law s g c.args.q c.requires.system (ranges_fit-small s.ranges c.in_ok-unrolled.ensures.bytes) c.requires.goal)).only a size sat

pub returns-clause-complete : goal.returns-clause-complete
returns-clause-complete c =
    λ first rules wanted.
    let s = plain_system c.args.system.now in
    let g = plain_goal c.args.goal.now in
    let p = query_part s g c.args.q in
    let law = extends-clauses_from_lists [] p.vars p.clauses (EncodesWantedRun s g c.args.q) (query-law s g c.args.q c.requires.system (ranges_fit-small s.ranges c.in_ok-unrolled.ensures.bytes) c.requires.goal) in
    let a = run_assignment s g c.args.q first rules in
    (law.sized a (first, rules, wanted, refl), law.all_satisfy a (first, rules, wanted, refl))

pub returns-clause-copies : goal.returns-clause-copies
returns-clause-copies c =
    let count = suc (query_step_count c.args.q) in
    let ranges = c.args.system.now.ranges in
    let few : (copies_part ranges count 0).part.vars ≤ 2 * (count * sum ranges) = omega (arith, copies-few count ranges 0) in
    few
