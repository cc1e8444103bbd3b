use Rattle.std.proofs.Common.{◌≡◌, ◌++◌, map, drop}
use Rattle.ilk_plant.specs.Draft.{boards_of_sections_from}
use Rattle.ilk_plant.proofs.numbering.named_boards.Given as goal

abbrev pub invariant-loop-i : goal.invariant-loop-i
invariant-loop-i l =
    record {
      names : l.made.names ++ map (λ named. named.name) (boards_of_sections_from l.i (drop l.i l.section-items)) ≡ map (λ named. named.name) (boards_of_sections_from 0 l.section-items);
      boards : l.made.boards ++ map (λ named. named.board) (boards_of_sections_from l.i (drop l.i l.section-items)) ≡ map (λ named. named.board) (boards_of_sections_from 0 l.section-items);
    }
