-- Drafts within the limits that violate no rule give a plant.
use Rattle.std.proofs.Common.{◌≡◌, length, refl, sym, ◌∙◌, subst, arith, []}
use Rattle.std.proofs.lemmas.List.{length-map}
use Rattle.ilk_plant.proofs.AllowedNames.{board_names-allowed, route_names-allowed, section_names-allowed}
use Rattle.ilk_plant.proofs.Boards.{boards-agree, boards-lead, boards-plant_from_drafts}
use Rattle.ilk_plant.proofs.FewBoards.{few-boards}
use Rattle.ilk_plant.proofs.Neighbours.{next-back, next-known, next-once, next-other, next-some}
use Rattle.ilk_plant.proofs.NamesDiffer.{named-once}
use Rattle.ilk_plant.proofs.Once.{names_differ-from_places}
use Rattle.ilk_plant.proofs.RoutesOf.{conflicts-other, route-known}
use Rattle.ilk_plant.proofs.Rules.{all_network_rules-kept, all_table_rules-kept}
use Rattle.ilk_plant.proofs.Walks.{never-is_on_up_cycle}
use Rattle.ilk_plant.specs.Draft.{boards_of_sections_from, names_of_boards, names_of_routes, names_of_sections, plant_from_drafts, numbered_route, numbered_section}
use Rattle.ilk_plant.specs.Plant.{IsPlant, PlantLists}
use Rattle.ilk_base.proofs.Once.{EachOnce}
use Rattle.ilk_plant.specs.declared.broken.Rule.TheVariants.{N1, N2, R1}
use Rattle.ilk_plant.specs.declared.network.Dir.TheVariants.{Up, Down}
use Rattle.ilk_plant.specs.Sound.{AreSoundDrafts, IsFromSoundDrafts}
use Rattle.ilk_plant.specs.Kept.{IsAcyclicFromSoundDrafts}
use Rattle.ilk_plant.specs.TableRules.{plant_table_rules_broken}
use Rattle.ilk_plant.specs.declared.draft.NetDraft.{NetDraft}
use Rattle.ilk_plant.specs.declared.draft.TableDraft.{TableDraft}

pub sound-IsPlant : (net : NetDraft) (table : TableDraft) → AreSoundDrafts net table → IsPlant (plant_from_drafts net table)
sound-IsPlant net table sound =
    let network = all_network_rules-kept net sound.network in
    let routes = all_table_rules-kept (plant_from_drafts net table) sound.routes in
    let count : length (plant_from_drafts net table).sections ≡ length net.sections = length-map net.sections (λ section. numbered_section (names_of_sections net.sections) (names_of_boards net.sections) section.kind) in
    let names : length (names_of_sections net.sections) ≡ length net.sections = length-map net.sections (λ section. section.name) in
    let boards : length (plant_from_drafts net table).boards ≡ length (names_of_boards net.sections) = length-map (boards_of_sections_from 0 net.sections) (λ named. named.board) ∙ sym (length-map (boards_of_sections_from 0 net.sections)
    (λ named. named.name)) in
    let count_routes : length (plant_from_drafts net table).routes ≡ length table.routes = length-map table.routes (numbered_route (names_of_sections net.sections) (names_of_boards net.sections) (names_of_routes table.routes)) in
    let board_names : EachOnce (names_of_boards net.sections) = named-once (names_of_boards net.sections) (network 1 N2 refl) in
    let count_names : length (names_of_routes table.routes) ≡ length table.routes = length-map table.routes (λ route. route.name) in
    record {
      some_section = omega (arith, count, sound.limits.of_network.some);
      section_names_differ = names_differ-from_places _ (named-once (names_of_sections net.sections) (λ i h. network 0 N1 refl i (omega (arith, names))));
      board_names_differ = names_differ-from_places _ board_names;
      route_names_differ = names_differ-from_places _ (named-once (names_of_routes table.routes) (λ i h. routes 0 R1 refl i (omega (arith, count_routes, count_names))));
      section_names_allowed = section_names-allowed net.sections sound.limits.of_network.named;
      board_names_allowed = board_names-allowed net.sections sound.limits.of_network.named;
      route_names_allowed = route_names-allowed table.routes sound.limits.of_table.named;
      neighbours_some = λ x h. next-some net table network x (omega (arith, count));
      neighbours_other = next-other net table network;
      neighbours_once = λ x. next-once net table network x;
      neighbours_back = λ x y. (next-back net table network x y Up, next-back net table network y x Down);
      boards_listed = boards-agree net table board_names;
      boards_lead_on = boards-lead net table network;
      conflicts_other = conflicts-other (plant_from_drafts net table) routes;
      few_sections = omega (arith, count, sound.limits.of_network.few);
      few_boards = omega (arith, boards, few-boards net.sections sound.limits.of_network.few);
      few_routes = omega (arith, count_routes, sound.limits.of_table.few);
      sections_named = names ∙ sym count;
      boards_named = sym boards;
      routes_named = count_names ∙ sym count_routes;
      neighbours = λ x y d h. let known = next-known net table network x y d h in omega (arith, known.0, names, count);
      boards_known = boards-plant_from_drafts net table;
      routes_known = route-known net table routes sound.limits.of_table.each;
    }

pub plant_from_drafts-IsSound : (net : NetDraft) (table : TableDraft) → AreSoundDrafts net table → IsAcyclicFromSoundDrafts (plant_from_drafts net table)
plant_from_drafts-IsSound net table sound = record {
  plant = sound-IsPlant net table sound;
  walks = never-is_on_up_cycle net table (all_network_rules-kept net sound.network);
  drafts = record { net = net; table = table; sound = sound; same = refl };
}

pub sound-of_drafts : (p : PlantLists) → IsFromSoundDrafts p → IsAcyclicFromSoundDrafts p
sound-of_drafts p drafts = subst IsAcyclicFromSoundDrafts (sym drafts.same) (plant_from_drafts-IsSound drafts.net drafts.table drafts.sound)

pub table-kept : (p : PlantLists) → IsFromSoundDrafts p → plant_table_rules_broken p ≡ []
table-kept p drafts =
    let P : PlantLists → Type 0 = λ q. plant_table_rules_broken q ≡ [] in subst P (sym drafts.same) drafts.sound.routes
