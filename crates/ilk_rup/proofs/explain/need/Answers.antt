use Rattle.std.proofs.Common.{◌∙◌, List, take, arith}
use Rattle.ilk_watches.specs.Reasons.{nth_clause_or_empty}
use Rattle.ilk_cnf.specs.Literal.{Literal}
use Rattle.ilk_rup.specs.Needs.{AreNeededLitsAfterClauseExamined}
use Rattle.ilk_rup.proofs.Needing.{all-taken, needed-next, one-more}
use Rattle.ilk_rup.proofs.explain.need.Goals as goal

pub loop-i-preserved : goal.loop-i-preserved
loop-i-preserved c =
    let i = c.loop-i.i in
    let d = nth_clause_or_empty c.args.clauses.now.clauses c.args.c in
    let P : List Literal → Type 0 = λ ls. AreNeededLitsAfterClauseExamined c.args.set.now.lits ls c.args.needed.now.lits c.need_one.new.needed.lits in
    record {
      vars = c.need_one.ensures.vars ∙ c.loop-i.invariant.vars;
      needed = one-more P d i c.literal.result c.literal.ensures.literal
          (needed-next c.args.set.now.lits (take i d) c.args.needed.now.lits c.loop-i.needed.lits
          c.need_one.new.needed.lits c.literal.result c.loop-i.invariant.needed
          c.need_one.ensures.needed);
    }

pub returns-clause-needed : goal.returns-clause-needed
returns-clause-needed c =
    let d = nth_clause_or_empty c.args.clauses.now.clauses c.args.c in
    let P : List Literal → Type 0 = λ ls. AreNeededLitsAfterClauseExamined c.args.set.now.lits ls c.args.needed.now.lits c.loop-i.needed.lits in
    all-taken P d c.loop-i.i (omega (arith, c.length-i-end.ensures, c.loop-i-test.false)) c.loop-i.invariant.needed
