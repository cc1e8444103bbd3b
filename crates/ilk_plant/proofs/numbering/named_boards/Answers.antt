use Rattle.std.proofs.Common.{arith, ap, length, length-append}
use Rattle.ilk_plant.proofs.FewBoards.{few-boards}
use Rattle.ilk_plant.proofs.numbering.named_boards.Goals as goal

pub returns-clause-few : goal.returns-clause-few
returns-clause-few c =
    let whole = ap length c.loop-i.invariant.names in
    omega (arith, simp length-append at whole, few-boards c.as_slice-section-items.result.now (rw c.as_slice-section-items.ensures c.requires))
