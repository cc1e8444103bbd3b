use Rattle.std.proofs.Common.{◌-◌, List, refl, subst, sym}
use Rattle.ilk_ir.specs.System.{plain_system}
use Rattle.ilk_unroll.specs.Goal.{plain_goal}
use Rattle.ilk_unroll.specs.declared.queries.Wanted.TheVariants.{Hazard}
use Rattle.ilk_induct.specs.declared.due.Next.{Next}
use Rattle.ilk_induct.specs.declared.due.DueQuery.TheVariants.{Unbroken}
use Rattle.ilk_certificate.specs.declared.asked.Asked.{Asked}
use Rattle.ilk_induct.specs.Due.{IsDueAfterAskedQueries, IsValidContinuation, max_queries_left}
use Rattle.ilk_induct.proofs.Certified.{certifies}
use Rattle.ilk_induct.proofs.Follows.{first-due, turned}
use Rattle.ilk_induct.proofs.deciding.decide.Goals as goal

pub loop-due-init : goal.loop-due-init
loop-due-init c =
    let s = plain_system c.args.system.now in
    let g = plain_goal c.args.goal.now in
    subst (λ (xs : List Asked). IsDueAfterAskedQueries s g c.args.depth c.args.conflicts (Unbroken (Hazard 0)) xs c.args.conflicts) (sym c.new-asked.ensures) (first-due s g c.args.depth c.args.conflicts)

pub loop-due-preserved : goal.loop-due-preserved
loop-due-preserved c =
    let s = plain_system c.args.system.now in
    let g = plain_goal c.args.goal.now in
    let rest = c.loop-due.left - c.count_learned_clauses-left.result in
    let next = turned s g c.args.depth c.args.conflicts c.loop-due.due c.query-query.result
    c.in_ok-response.field-0.response c.in_ok-response.field-0.log c.loop-due.asked c.push.new.self
    c.loop-due.left c.count_learned_clauses-left.result rest c.query_or_verdict_after_response.result c.requires.system
    c.requires.some_depth c.requires.depth c.loop-due.invariant c.query-query.ensures
    c.in_ok-response.ensures.log c.in_ok-response.ensures.response c.count_learned_clauses-left.ensures refl
    c.in_ok-push.ensures.ok c.query_or_verdict_after_response.ensures in
    (subst (λ (n : Next). IsValidContinuation s g c.args.depth c.args.conflicts (max_queries_left c.args.depth c.loop-due.due) n c.push.new.self rest) c.in-Ask.is next).0

pub returns-in-End-clause-right : goal.returns-in-End-clause-right
returns-in-End-clause-right c =
    let s = plain_system c.args.system.now in
    let g = plain_goal c.args.goal.now in
    let rest = c.loop-due.left - c.count_learned_clauses-left.result in
    let next = turned s g c.args.depth c.args.conflicts c.loop-due.due c.query-query.result
    c.in_ok-response.field-0.response c.in_ok-response.field-0.log c.loop-due.asked c.push.new.self
    c.loop-due.left c.count_learned_clauses-left.result rest c.query_or_verdict_after_response.result c.requires.system
    c.requires.some_depth c.requires.depth c.loop-due.invariant c.query-query.ensures
    c.in_ok-response.ensures.log c.in_ok-response.ensures.response c.count_learned_clauses-left.ensures refl
    c.in_ok-push.ensures.ok c.query_or_verdict_after_response.ensures in
    (subst (λ (n : Next). IsValidContinuation s g c.args.depth c.args.conflicts (max_queries_left c.args.depth c.loop-due.due) n c.push.new.self rest) c.in-End.is next).right

pub returns-in-End-clause-lasts : goal.returns-in-End-clause-lasts
returns-in-End-clause-lasts c =
    let s = plain_system c.args.system.now in
    let g = plain_goal c.args.goal.now in
    let rest = c.loop-due.left - c.count_learned_clauses-left.result in
    let next = turned s g c.args.depth c.args.conflicts c.loop-due.due c.query-query.result
    c.in_ok-response.field-0.response c.in_ok-response.field-0.log c.loop-due.asked c.push.new.self
    c.loop-due.left c.count_learned_clauses-left.result rest c.query_or_verdict_after_response.result c.requires.system
    c.requires.some_depth c.requires.depth c.loop-due.invariant c.query-query.ensures
    c.in_ok-response.ensures.log c.in_ok-response.ensures.response c.count_learned_clauses-left.ensures refl
    c.in_ok-push.ensures.ok c.query_or_verdict_after_response.ensures in
    (subst (λ (n : Next). IsValidContinuation s g c.args.depth c.args.conflicts (max_queries_left c.args.depth c.loop-due.due) n c.push.new.self rest) c.in-End.is next).lasts

pub returns-in-End-clause-asked : goal.returns-in-End-clause-asked
returns-in-End-clause-asked c =
    let s = plain_system c.args.system.now in
    let g = plain_goal c.args.goal.now in
    let rest = c.loop-due.left - c.count_learned_clauses-left.result in
    let next = turned s g c.args.depth c.args.conflicts c.loop-due.due c.query-query.result
    c.in_ok-response.field-0.response c.in_ok-response.field-0.log c.loop-due.asked c.push.new.self
    c.loop-due.left c.count_learned_clauses-left.result rest c.query_or_verdict_after_response.result c.requires.system
    c.requires.some_depth c.requires.depth c.loop-due.invariant c.query-query.ensures
    c.in_ok-response.ensures.log c.in_ok-response.ensures.response c.count_learned_clauses-left.ensures refl
    c.in_ok-push.ensures.ok c.query_or_verdict_after_response.ensures in
    (subst (λ (n : Next). IsValidContinuation s g c.args.depth c.args.conflicts (max_queries_left c.args.depth c.loop-due.due) n c.push.new.self rest) c.in-End.is next).queries

pub returns-in-End-clause-certified : goal.returns-in-End-clause-certified
returns-in-End-clause-certified c =
    let s = plain_system c.args.system.now in
    let g = plain_goal c.args.goal.now in
    let rest = c.loop-due.left - c.count_learned_clauses-left.result in
    let next = turned s g c.args.depth c.args.conflicts c.loop-due.due c.query-query.result
    c.in_ok-response.field-0.response c.in_ok-response.field-0.log c.loop-due.asked c.push.new.self
    c.loop-due.left c.count_learned_clauses-left.result rest c.query_or_verdict_after_response.result c.requires.system
    c.requires.some_depth c.requires.depth c.loop-due.invariant c.query-query.ensures
    c.in_ok-response.ensures.log c.in_ok-response.ensures.response c.count_learned_clauses-left.ensures refl
    c.in_ok-push.ensures.ok c.query_or_verdict_after_response.ensures in
    let end = subst (λ (n : Next). IsValidContinuation s g c.args.depth c.args.conflicts (max_queries_left c.args.depth c.loop-due.due) n c.push.new.self rest) c.in-End.is next in
    certifies s g c.args.depth c.args.conflicts c.in-End.verdict c.push.new.self end.queries
