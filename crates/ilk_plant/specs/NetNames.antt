-- The names of a network by number.
use Rattle.std.specs.Prelude.{◌≡◌, ◌≤◌, length, map}
use Rattle.ilk_plant.specs.Draft.{boards_of_sections_from, names_of_boards, names_of_sections}
use Rattle.ilk_plant.specs.declared.draft.NetDraft.{NetDraft}
use Rattle.ilk_plant.specs.declared.limits.TheConstants.{MAX_BOARDS}
use Rattle.ilk_plant.specs.declared.net_names.NetNames.{NetNames}

-- Holds if `names` has the boards of the network `net`, and the names of its sections and boards.
pub record HasBoardsAndNamesOf (names : NetNames) (net : NetDraft) : Type 0 where
  pub section_names : names.section_names ≡ names_of_sections net.sections
  pub board_names : names.board_names ≡ names_of_boards net.sections
  pub boards : names.boards ≡ map (λ named. named.board) (boards_of_sections_from 0 net.sections)
  pub few_boards : length names.boards ≤ MAX_BOARDS
