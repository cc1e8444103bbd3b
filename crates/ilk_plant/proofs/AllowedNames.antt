-- The names of a plant have only allowed characters if each text of its drafts is a name.
use Rattle.std.proofs.Common.{◌≡◌, ℕ, ◌+◌, true, Option, Some, None, List, [], ◌∷◌, All, refl, ap, ◌∙◌}
use Rattle.std.specs.List.{list_all}
use Rattle.std.proofs.lemmas.List.{map-append}
use Rattle.std.proofs.lemmas.List.Folds.{list_all-append, list_all-map}
use Rattle.ilk_plant.specs.Draft.{boards_of_sections_from, boards_on, names_of_boards, names_of_routes, names_of_sections, section_board_if_named}
use Rattle.ilk_plant.specs.Limits.{neighbour_and_board_names_valid, are_names_in_route_valid, are_names_in_section_valid}
use Rattle.ilk_plant.specs.Name.{IsName, Name, is_name, is_name_if_given}
use Rattle.ilk_plant.specs.declared.draft.KindDraft.{KindDraft}
use Rattle.ilk_plant.specs.declared.draft.KindDraft.TheVariants.{Linear as LinearDraft, Point as PointDraft}
use Rattle.ilk_plant.specs.declared.draft.RouteDraft.{RouteDraft}
use Rattle.ilk_plant.specs.declared.draft.SectionDraft.{SectionDraft}
use Rattle.ilk_plant.specs.declared.network.Dir.{Dir}
use Rattle.ilk_plant.specs.declared.network.Dir.TheVariants.{Up, Down}
use Rattle.ilk_plant.proofs.FewBoards.{names_in}
use Rattle.ilk_base.proofs.Tested.{All-tested, list_all-weaken}
use Rattle.std.proofs.lemmas.Bool.{and_parts}

each-name : (names : List Name) → list_all is_name names ≡ true → All IsName names
each-name names h = All-tested is_name IsName (λ name e. e) names h

pub section_names-allowed : (sections : List SectionDraft) → list_all are_names_in_section_valid sections ≡ true → All IsName (names_of_sections sections)
section_names-allowed sections h =
    each-name (names_of_sections sections)
    (list_all-map is_name (λ section. section.name) sections
    ∙ list_all-weaken are_names_in_section_valid (λ section. is_name section.name)
    (λ section e. (and_parts (is_name section.name) (neighbour_and_board_names_valid section.kind) e).0) sections
    h)

route-name : (route : RouteDraft) → are_names_in_route_valid route ≡ true → is_name route.name ≡ true
route-name route h =
    let eight = and_parts _ _ h in
    let seven = and_parts _ _ eight.0 in
    let six = and_parts _ _ seven.0 in
    let five = and_parts _ _ six.0 in
    let four = and_parts _ _ five.0 in
    let three = and_parts _ _ four.0 in
    let two = and_parts _ _ three.0 in
    (and_parts (is_name route.name) (is_name route.source) two.0).0

pub route_names-allowed : (routes : List RouteDraft) → list_all are_names_in_route_valid routes ≡ true → All IsName (names_of_routes routes)
route_names-allowed routes h =
    each-name (names_of_routes routes) (list_all-map is_name (λ route. route.name) routes ∙ list_all-weaken are_names_in_route_valid (λ route. is_name route.name) route-name routes h)

one-board : (x : ℕ) (d : Dir) (name : Option Name) → is_name_if_given name ≡ true → list_all is_name (names_in (section_board_if_named x d name)) ≡ true
one-board x d None h = refl
one-board x d (Some name) h = rw h refl

boards-here : (x : ℕ) (kind : KindDraft) → neighbour_and_board_names_valid kind ≡ true → list_all is_name (names_in (boards_on x kind)) ≡ true
boards-here x (LinearDraft down up board_down board_up) h =
    let last = and_parts _ (is_name_if_given board_up) h in
    let before = and_parts _ (is_name_if_given board_down) last.0 in
    ap (list_all is_name) (map-append (λ named. named.name) (section_board_if_named x Down board_down) (section_board_if_named x Up board_up))
    ∙ list_all-append is_name (names_in (section_board_if_named x Down board_down)) (names_in (section_board_if_named x Up board_up))
    ∙ rw (one-board x Down board_down before.1) (one-board x Up board_up last.1)
boards-here x (PointDraft stem plus minus faces) h = refl

boards-tested : (x : ℕ) (sections : List SectionDraft) → list_all are_names_in_section_valid sections ≡ true → list_all is_name (names_in (boards_of_sections_from x sections)) ≡ true
boards-tested x [] h = refl
boards-tested x (section ∷ rest) h =
    let parts = and_parts (are_names_in_section_valid section) (list_all are_names_in_section_valid rest) h in
    ap (list_all is_name) (map-append (λ named. named.name) (boards_on x section.kind) (boards_of_sections_from (x + 1) rest))
    ∙ list_all-append is_name (names_in (boards_on x section.kind)) (names_in (boards_of_sections_from (x + 1) rest))
    ∙ rw (boards-here x section.kind (and_parts (is_name section.name) (neighbour_and_board_names_valid section.kind) parts.0).1) (boards-tested (x + 1) rest parts.1)

pub board_names-allowed : (sections : List SectionDraft) → list_all are_names_in_section_valid sections ≡ true → All IsName (names_of_boards sections)
board_names-allowed sections h = each-name (names_of_boards sections) (boards-tested 0 sections h)
