use Rattle.ilk_watches.specs.Reasons.{nth_clause_or_empty}
use Rattle.ilk_learn.specs.Resolvent.{with_lits_of_new_vars}
use Rattle.ilk_learn.proofs.Members.{joined-var-left}
use Rattle.ilk_learn.proofs.Holding.{some-current, holds-drop}
use Rattle.ilk_learn.proofs.hand.WorkingClause.resolve.Goals as goal

pub overflow_sub-self : goal.overflow_sub-self
overflow_sub-self c =
    let h = c.requires.held in
    let d = nth_clause_or_empty c.args.clauses.now.clauses c.args.reason in
    let s = c.add_lits_of_new_vars.new.self in
    some-current c.args.trail.now s.marks.items s.current s.lower.items (with_lits_of_new_vars h.0 d) c.args.lit (c.in_ok-add_lits_of_new_vars.ensures.holds h.0 h.1) (joined-var-left c.args.lit.var h.0 d h.2) c.requires.current

pub returns-clause-holds : goal.returns-clause-holds
returns-clause-holds c =
    λ k h v.
    let d = nth_clause_or_empty c.args.clauses.now.clauses c.args.reason in
    let s = c.add_lits_of_new_vars.new.self in
    rw c.var.ensures (holds-drop c.args.trail.now s.marks.items s.current s.lower.items (with_lits_of_new_vars k d) c.args.lit (c.in_ok-add_lits_of_new_vars.ensures.holds k h) c.requires.within
    (joined-var-left c.args.lit.var k d v) c.requires.current)
