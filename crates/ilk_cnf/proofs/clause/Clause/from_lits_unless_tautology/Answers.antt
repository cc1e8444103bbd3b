use Rattle.std.proofs.Common.{◌≡◌, false, List, ap, sym, ◌∙◌, drop, ◌+◌}
use Rattle.ilk_cnf.specs.Literal.{Literal, has_lit, negated_lit}
use Rattle.ilk_cnf.proofs.Distinct.{reading_at, reading_new, reading_skip, reading_keep}
use Rattle.ilk_cnf.proofs.clause.Clause.from_lits_unless_tautology.Goals as goal
use Rattle.ilk_cnf.proofs.clause.Clause.from_lits_unless_tautology.Goals.{then-not-stands_after+in_ok-push, else-not-stands_after}

pub push-requires : goal.push-requires
push-requires c = reading_new _ _ _ _ (reading_at _ _ _ _ c.loop-i-test.true c.index-lits-i.is c.loop-i.invariant)

pub loop-i-preserved : goal.loop-i-preserved
loop-i-preserved c =
    let rest : List Literal = drop (c.loop-i.i + 1) c.args.lits.now in
    let r = reading_at _ _ _ _ c.loop-i-test.true c.index-lits-i.is c.loop-i.invariant in
    let other : has_lit (negated_lit c.index-lits-i.result) rest ≡ false =
    sym (c.if-stands_after.ensures ∙ ap (λ (l : Literal). has_lit l rest) c.negated.ensures) in
    elim c.if-not-stands_after.branch [
      | then-not-stands_after+in_ok-push w ↦ rw (w.clause-is, w.in_ok-push.ensures.ok) (reading_keep _ _ _ _ r other (sym w.if-not-stands_after.ensures))
      | else-not-stands_after w ↦ rw w.clause-is (reading_skip _ _ _ _ r other (sym w.if-not-stands_after.ensures))
    ]
