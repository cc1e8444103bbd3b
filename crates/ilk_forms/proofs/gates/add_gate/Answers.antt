use Rattle.std.proofs.Common.{◌+◌, arith}
use Rattle.ilk_cnf.proofs.Literals.{is_clause_over-more}
use Rattle.ilk_forms.proofs.gates.add_gate.Goals as goal

pub define_and_gate-requires-clause-lits : goal.define_and_gate-requires-clause-lits
define_and_gate-requires-clause-lits c =
    let n = c.args.cnf.now.vars in
    let grown = c.in_ok-fresh.ensures.grown in
    rw (grown, c.as_slice.ensures) (is_clause_over-more n (n + 1) c.args.lits (omega arith) c.requires)
