use Rattle.std.proofs.Common.{◌≡◌, map, take}
use Rattle.std.specs.List.{enumerate_from}
use Rattle.ilk_tablegen.specs.Table.{route_draft}
use Rattle.ilk_tablegen.proofs.table.table_draft.Given as goal

abbrev pub invariant-loop-n : goal.invariant-loop-n
invariant-loop-n l =
    l.drafts ≡ map (λ numbered. route_draft l.plant numbered.0 numbered.1) (enumerate_from 0 (take l.n l.route-items))
