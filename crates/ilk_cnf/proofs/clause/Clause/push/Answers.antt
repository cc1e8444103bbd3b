use Rattle.std.proofs.Common.{◌≡◌, false}
use Rattle.ilk_cnf.specs.Literal.{has_var}
use Rattle.ilk_cnf.proofs.Literals.{has_distinct_vars-push}
use Rattle.ilk_cnf.proofs.clause.Clause.push.Goals as goal

pub invariant_of-self-2 : goal.invariant_of-self-2
invariant_of-self-2 c =
    let away : has_var c.args.item.var c.self.inside.lits.items ≡ false = rw c.self.view_is c.requires in
    rw c.in_ok-push.ensures.items (has_distinct_vars-push c.self.inside.lits.items c.args.item c.self.invariant away)
