use Rattle.std.proofs.Common.{◌+◌, arith}
use Rattle.ilk_step.specs.Choice.{choice_part, AreChoiceBits}
use Rattle.ilk_cnf.proofs.Extending.{extends-clauses_from_lists}
use Rattle.ilk_step.proofs.ChoiceLaw.{chosen_lits-in, choice-law}
use Rattle.ilk_step.proofs.choice.add_rule_choice.Goals as goal

pub one_of-requires : goal.one_of-requires
one_of-requires c =
    let n = c.args.cnf.now.vars in
    let m = c.args.rules in
    let lits = c.in_ok-chosen.ensures.lits in
    let made = c.in_ok-chosen.ensures.made in
    rw (lits, made) (chosen_lits-in m (n + 1) (n + m) (omega arith) (omega arith))

pub returns-clause-law : goal.returns-clause-law
returns-clause-law c =
    λ a size.
    let n = c.args.cnf.now.vars in
    let m = c.args.rules in
    extends-clauses_from_lists a (choice_part m n).vars (choice_part m n).clauses (AreChoiceBits m) (choice-law a m n size)
