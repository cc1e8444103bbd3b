use Rattle.std.proofs.Common.{arith}
use Rattle.ilk_unroll.proofs.ReadBack.{bytes-from}
use Rattle.ilk_unroll.proofs.unroll.bytes_of.Goals as goal

pub returns-clause-bytes : goal.returns-clause-bytes
returns-clause-bytes c = bytes-from c.args.ranges.now (λ k less. omega (arith, c.type_inv.ranges k))
