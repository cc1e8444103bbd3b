use Rattle.ilk_forms.proofs.GatesLaw.{lits_negated_unless_all-in}
use Rattle.ilk_forms.proofs.gates.gate_lit.Goals as goal

pub add_gate-requires : goal.add_gate-requires
add_gate-requires c = rw c.in_ok-key.ensures (lits_negated_unless_all-in c.args.all c.args.cnf.now.vars c.args.lits.now c.requires)
