use Rattle.std.proofs.Common.{Some, None}
use Rattle.ilk_plant.proofs.Positions.{named_before}
use Rattle.ilk_plant.proofs.names.Names.repeats_earlier_name.Goals as goal

pub returns-in-Some : goal.returns-in-Some
returns-in-Some c = named_before c.args.self.now c.args.i c.name.result.now (Some c.in-Some.first) c.name.ensures (rw c.as_str.ensures at c.in-Some.ensures.number)

pub returns-in-None : goal.returns-in-None
returns-in-None c = named_before c.args.self.now c.args.i c.name.result.now None c.name.ensures (rw c.as_str.ensures at c.in-None.ensures.number)
