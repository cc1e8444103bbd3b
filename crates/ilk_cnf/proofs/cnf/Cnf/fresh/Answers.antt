use Rattle.std.proofs.Common.{length, rules, ◌≤◌, ◌^◌}
use Rattle.ilk_cnf.proofs.Literals.{IsFormula-fresh}
use Rattle.ilk_cnf.proofs.cnf.Cnf.fresh.Goals as goal

pub invariant_of-self-2 : goal.invariant_of-self-2
invariant_of-self-2 c =
    let more : length c.self.inside.marks.items ≤ length c.push.new.self.items = search rules in
    let numbered : length c.push.new.self.items ≤ 2 ^ 62 = search rules in
    IsFormula-fresh (record { vars = length c.self.inside.marks.items; clauses = c.self.inside.clauses }) (length c.push.new.self.items) c.self.invariant more numbered
