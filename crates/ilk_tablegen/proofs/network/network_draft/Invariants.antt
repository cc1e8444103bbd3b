use Rattle.std.proofs.Common.{◌≡◌, map, take}
use Rattle.std.specs.List.{enumerate_from}
use Rattle.ilk_tablegen.specs.NetworkDraft.{section_draft}
use Rattle.ilk_tablegen.proofs.network.network_draft.Given as goal

abbrev pub invariant-loop-x : goal.invariant-loop-x
invariant-loop-x l =
    l.sections ≡ map (λ numbered. section_draft l.plant numbered.0 numbered.1) (enumerate_from 0 (take l.x l.plant.sections))
