use Rattle.std.proofs.Common.{arith}
use Rattle.ilk_ir.specs.System.{plain_system}
use Rattle.ilk_forms.proofs.CopyLaw.{ranges_fit-small}
use Rattle.ilk_unroll.specs.Goal.{plain_goal}
use Rattle.ilk_unroll.proofs.QueryMade.{ReadsAs, few-wanted, reads_as}
use Rattle.ilk_unroll.proofs.reading.read_back.Goals as goal
use Rattle.ilk_unroll.proofs.reading.read_back.Goals.{After-at}

pub unroll-requires-clause-steps : goal.unroll-requires-clause-steps
unroll-requires-clause-steps c = let few = few-wanted c.args.q c.requires.wanted in omega (arith, few, c.steps.ensures)

run : (c : After-at) → ReadsAs (plain_system c.args.system.now) (plain_goal c.args.goal.now) c.args.q c.args.a.now c.at.result.now c.in_ok-unrolled.unrolled.choices
run c = reads_as (plain_system c.args.system.now) (plain_goal c.args.goal.now) c.args.q c.args.a.now c.steps.result
    c.at.result.now c.in_ok-unrolled.unrolled.tables c.in_ok-unrolled.unrolled.choices c.requires.system
    (ranges_fit-small c.args.system.now.ranges c.in_ok-unrolled.ensures.bytes) c.requires.goal c.requires.sized
    c.requires.satisfied c.steps.ensures c.in_ok-unrolled.ensures.tables c.at.ensures c.in_ok-unrolled.ensures.choices

pub read_values-requires-clause-told : goal.read_values-requires-clause-told
read_values-requires-clause-told c = (let r = run (goal.at.read_values-requires-clause-told c).After-at in (r.first, r.told))

pub read_rules-requires-clause-chosen : goal.read_rules-requires-clause-chosen
read_rules-requires-clause-chosen c = (let r = run (goal.at.read_rules-requires-clause-chosen c).After-at in (r.rules, r.chosen))

pub returns-clause-run : goal.returns-clause-run
returns-clause-run c =
    let r = run (goal.at.returns-clause-run c).After-at in
    let first = c.in_ok-first.ensures r.first r.told in
    let rules = c.in_ok-rules.ensures r.rules r.chosen in
    rw (first, rules) r.wanted

pub returns-clause-assignment : goal.returns-clause-assignment
returns-clause-assignment c =
    let r = run (goal.at.returns-clause-assignment c).After-at in
    let first = c.in_ok-first.ensures r.first r.told in
    let rules = c.in_ok-rules.ensures r.rules r.chosen in
    rw (first, rules) r.is
