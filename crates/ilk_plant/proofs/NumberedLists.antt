-- Lists numbered one by one are the numbered drafts.
use Rattle.std.proofs.Common.{◌≡◌, List, map, refl}
use Rattle.ilk_plant.specs.Draft.{boards_of_sections_from, names_of_boards, names_of_routes, names_of_sections, plant_from_drafts, numbered_route, numbered_section}
use Rattle.ilk_plant.specs.Name.{Name}
use Rattle.ilk_plant.specs.Plant.{PlantLists}
use Rattle.ilk_plant.specs.declared.draft.NetDraft.{NetDraft}
use Rattle.ilk_plant.specs.declared.draft.TableDraft.{TableDraft}
use Rattle.ilk_plant.specs.declared.network.Board.{Board}
use Rattle.ilk_plant.specs.declared.network.Section.{Section}
use Rattle.ilk_plant.specs.declared.table.Route.{Route}

pub plant_from_drafts-lists :
    (net : NetDraft) (table : TableDraft) (section_names board_names route_names : List Name)
    (sections : List Section) (boards : List Board) (routes : List Route) →
    section_names ≡ names_of_sections net.sections → board_names ≡ names_of_boards net.sections →
    route_names ≡ names_of_routes table.routes →
    sections ≡ map (λ section. numbered_section section_names board_names section.kind) net.sections →
    boards ≡ map (λ named. named.board) (boards_of_sections_from 0 net.sections) →
    routes ≡ map (numbered_route section_names board_names route_names) table.routes → let lists : PlantLists =
    record {
      sections = sections;
      boards = boards;
      routes = routes;
      section_names = section_names;
      board_names = board_names;
      route_names = route_names;
    } in lists ≡ plant_from_drafts net table
plant_from_drafts-lists net table section_names board_names route_names sections boards routes sn bn rn s b r =
    simp (s, b, r, sn, bn, rn) refl
