use Rattle.std.proofs.Common.{arith}
use Rattle.ilk_lines.proofs.Decimals.{decimal_exactly}
use Rattle.ilk_lines.proofs.laws.decimals_are_those_written.Goals as goal

pub returns : goal.returns
returns c = decimal_exactly c.args.limit c.args.word.now (omega arith)
