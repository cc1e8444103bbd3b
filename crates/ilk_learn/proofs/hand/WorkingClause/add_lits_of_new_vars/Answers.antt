use Rattle.std.proofs.Common.{List, take, ◌∙◌, subst, sym}
use Rattle.ilk_watches.specs.Reasons.{nth_clause_or_empty}
use Rattle.ilk_cnf.specs.Literal.{Literal}
use Rattle.ilk_learn.specs.Resolvent.{with_lits_of_new_vars}
use Rattle.ilk_learn.specs.Hand.{WorkingClauseHolds}
use Rattle.ilk_learn.proofs.Holding.{joined-more, set-at}
use Rattle.ilk_learn.proofs.hand.WorkingClause.add_lits_of_new_vars.Goals as goal

pub meet-requires-clause-within : goal.meet-requires-clause-within
meet-requires-clause-within c =
    (set-at c.args.trail.now (nth_clause_or_empty c.args.clauses.now.clauses c.args.c) c.loop-i.i c.literal.result c.requires.set c.literal.ensures.literal).0

pub meet-requires-clause-set : goal.meet-requires-clause-set
meet-requires-clause-set c =
    (set-at c.args.trail.now (nth_clause_or_empty c.args.clauses.now.clauses c.args.c) c.loop-i.i c.literal.result c.requires.set c.literal.ensures.literal).1

pub loop-i-preserved : goal.loop-i-preserved
loop-i-preserved c = record {
  hints = c.meet.ensures.hints ∙ c.loop-i.invariant.hints;
  holds = λ k h. (let d = nth_clause_or_empty c.args.clauses.now.clauses c.args.c in
      let P : List Literal → Type 0 = λ x. WorkingClauseHolds c.args.trail.now c.meet.new.self x in
      subst P (sym (joined-more k d c.loop-i.i c.literal.result c.literal.ensures.literal)) (c.in_ok-meet.ensures.holds (with_lits_of_new_vars k (take c.loop-i.i d)) (c.loop-i.invariant.holds k h)));
}
