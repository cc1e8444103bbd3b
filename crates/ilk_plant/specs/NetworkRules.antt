-- The rules N1 to N8 of the network.
use Rattle.std.specs.Prelude.{ℕ, zero, suc, ◌≡◌, Bool, true, false, not, ◌&&◌, ◌||◌, ◌==◌, Option, Some, None, is_none, List, [], ◌∷◌, ◌++◌, length, map, slice_get, count_by, IsTrue}
use Rattle.std.specs.List.{list_any}
use Rattle.ilk_plant.specs.Broken.{broken_for_rules}
use Rattle.ilk_base.specs.Option.{is_some_and}
use Rattle.ilk_plant.specs.Draft.{repeats_earlier_name, names_of_boards, names_of_sections}
use Rattle.ilk_plant.specs.Name.{Name}
use Rattle.ilk_plant.specs.Network.{last_of, same_direction}
use Rattle.ilk_plant.specs.Once.{names_differ}
use Rattle.ilk_plant.specs.Plant.{first_number_named}
use Rattle.ilk_plant.specs.declared.broken.Broken.{Broken}
use Rattle.ilk_plant.specs.declared.broken.PlaceKind.{PlaceKind}
use Rattle.ilk_plant.specs.declared.broken.PlaceKind.TheVariants.{Sections, Boards, Routes, RoutePairs}
use Rattle.ilk_plant.specs.declared.broken.Rule.{Rule}
use Rattle.ilk_plant.specs.declared.broken.Rule.TheVariants.{N1, N2, N3, N4, N5, N6, N7, N8}
use Rattle.ilk_plant.specs.declared.draft.KindDraft.{KindDraft}
use Rattle.ilk_plant.specs.declared.draft.KindDraft.TheVariants.{Linear as LinearDraft, Point as PointDraft}
use Rattle.ilk_plant.specs.declared.draft.NetDraft.{NetDraft}
use Rattle.ilk_plant.specs.declared.draft.SectionDraft.{SectionDraft}
use Rattle.ilk_plant.specs.declared.network.Dir.{Dir}
use Rattle.ilk_plant.specs.declared.network.Dir.TheVariants.{Up, Down}

-- Returns whether a side of a section has a neighbour or no board.
abbrev pub has_neighbour_if_board : Option Name → Option Name → Bool
has_neighbour_if_board None board = is_none board
has_neighbour_if_board (Some neighbour) board = true

abbrev pub opposite_direction : Dir → Dir
opposite_direction Up = Down
opposite_direction Down = Up

-- An end of a section that has a neighbour: its side, and the neighbour's name.
pub record End : Type 0 where
  pub side : Dir
  pub name : Name

-- A list of the end on side `side`, or of none if there is no neighbour.
abbrev pub ends_from_optional_neighbour : Dir → Option Name → List End
ends_from_optional_neighbour side None = []
ends_from_optional_neighbour side (Some name) = record { side = side; name = name } ∷ []

-- The ends of a section that have neighbours. A point has its legs on the side that it faces, and
-- its stem on the other.
abbrev pub ends_of_draft : KindDraft → List End
ends_of_draft (LinearDraft down up board_down board_up) = ends_from_optional_neighbour Down down ++ ends_from_optional_neighbour Up up
ends_of_draft (PointDraft stem plus minus faces) =
    record { side = opposite_direction faces; name = stem } ∷ record { side = faces; name = plus } ∷ record { side = faces; name = minus } ∷ []

-- The ends of section `x` that have neighbours; none if `x` is not a section.
abbrev pub ends_of : NetDraft → ℕ → List End
ends_of net x = ends_if (slice_get net.sections x)
  where
    ends_if : Option SectionDraft → List End
    ends_if None = []
    ends_if (Some section) = ends_of_draft section.kind

-- The number of the first section with this name, or `None` if there is none.
abbrev pub section_named : NetDraft → Name → Option ℕ
section_named net name = first_number_named (names_of_sections net.sections) name

-- Returns whether the neighbour at an end is section `x`.
abbrev pub end_refers_to_section : NetDraft → ℕ → End → Bool
end_refers_to_section net x end = is_some_and (section_named net end.name) (λ y. y == x)

-- Returns whether the neighbour at an end is a section other than `x`.
abbrev pub refers_to_another : NetDraft → ℕ → End → Bool
refers_to_another net x end = is_some_and (section_named net end.name) (λ y. not (y == x))

-- Returns whether section `x` violates N3: a neighbour is not a section, or is `x` itself.
abbrev pub has_unknown_or_self_neighbour : NetDraft → ℕ → Bool
has_unknown_or_self_neighbour net x = list_any (λ end. not (refers_to_another net x end)) (ends_of net x)

-- Returns whether section `x` violates N4: two of its neighbours have the same name.
abbrev pub repeats_neighbour : NetDraft → ℕ → Bool
repeats_neighbour net x = not (names_differ (map (λ end. end.name) (ends_of net x)))

-- Returns whether exactly one of `ends` has section `x` as its neighbour, and that end is on side
-- `d`.
abbrev pub is_named_back_once_on_side : NetDraft → ℕ → Dir → List End → Bool
is_named_back_once_on_side net x d ends =
    count_by (end_refers_to_section net x) ends == 1 && list_any (λ end. end_refers_to_section net x end && same_direction end.side d) ends

-- Returns whether an end of section `x` has another section as its neighbour, and that section
-- doesn't have `x` as its neighbour at exactly one end, on the opposite side.
abbrev pub is_end_not_named_back_once : NetDraft → ℕ → End → Bool
is_end_not_named_back_once net x end =
    is_some_and (section_named net end.name) (λ y. not (y == x) && not (is_named_back_once_on_side net x (opposite_direction end.side) (ends_of net y)))

-- Returns whether section `x` violates N5: a neighbour, other than `x`, doesn't have `x` as its
-- neighbour at exactly one end, on the opposite side.
abbrev pub is_not_named_back_once : NetDraft → ℕ → Bool
is_not_named_back_once net x = list_any (is_end_not_named_back_once net x) (ends_of net x)

-- Returns whether a section is linear and has no neighbour.
abbrev pub is_linear_without_neighbours : KindDraft → Bool
is_linear_without_neighbours (LinearDraft down up board_down board_up) = is_none down && is_none up
is_linear_without_neighbours (PointDraft stem plus minus faces) = false

-- Returns whether section `x` violates N6: it is linear and has no neighbour.
abbrev pub is_isolated_linear_section : NetDraft → ℕ → Bool
is_isolated_linear_section net x = is_some_and (slice_get net.sections x) (λ section. is_linear_without_neighbours section.kind)

-- Returns whether section `y` is a neighbour of section `x` on its up side.
abbrev pub is_next_up : NetDraft → ℕ → ℕ → Bool
is_next_up net x y = list_any (λ end. same_direction end.side Up && end_refers_to_section net y end) (ends_of net x)

-- Holds if the list continues upwards from section `x`: each section is a neighbour of the one
-- before on its up side.
abbrev pub IsWalkUp : NetDraft → ℕ → List ℕ → Type 0
IsWalkUp net x [] = Unit {0}
IsWalkUp net x (y ∷ rest) = IsTrue (is_next_up net x y) × IsWalkUp net y rest

-- Holds if one or more steps to a neighbour on the up side lead from section `x` to section `y`.
abbrev pub SomeWalkLeadsUp : NetDraft → ℕ → ℕ → Type 0
SomeWalkLeadsUp net x y = (walk : List ℕ) × (IsWalkUp net x walk × (last_of walk ≡ Some y))

-- Holds if one or more steps to a neighbour on the up side lead from section `x` back to it.
abbrev pub IsOnUpCycle : NetDraft → ℕ → Type 0
IsOnUpCycle net x = SomeWalkLeadsUp net x x

-- Returns whether one or more steps of the relation `step` lead from `x` to `y`, through numbers
-- below `n` only.
abbrev pub reaches_via_below : (ℕ → ℕ → Bool) → ℕ → ℕ → ℕ → Bool
reaches_via_below step zero x y = step x y
reaches_via_below step (suc n) x y = reaches_via_below step n x y || (reaches_via_below step n x n && reaches_via_below step n n y)

-- Returns whether section `x` violates N7: steps to neighbours on the up side lead back to it.
abbrev pub is_on_up_cycle : NetDraft → ℕ → Bool
is_on_up_cycle net x = reaches_via_below (is_next_up net) (length net.sections) x x

-- Returns whether a section is linear and has a board for a direction in which it has no neighbour.
abbrev pub has_board_to_nowhere : KindDraft → Bool
has_board_to_nowhere (LinearDraft down up board_down board_up) =
    not (has_neighbour_if_board down board_down && has_neighbour_if_board up board_up)
has_board_to_nowhere (PointDraft stem plus minus faces) = false

-- Returns whether section `x` violates N8: it is linear and has a board for a direction in which it
-- has no neighbour.
abbrev pub has_board_without_neighbour : NetDraft → ℕ → Bool
has_board_without_neighbour net x = is_some_and (slice_get net.sections x) (λ section. has_board_to_nowhere section.kind)

-- The number of locations of a kind in a network.
abbrev pub place_count_in_network : NetDraft → PlaceKind → ℕ
place_count_in_network net Sections = length net.sections
place_count_in_network net Boards = length (names_of_boards net.sections)
place_count_in_network net Routes = 0
place_count_in_network net RoutePairs = 0

abbrev pub all_network_rules : List Rule
all_network_rules = N1 ∷ N2 ∷ N3 ∷ N4 ∷ N5 ∷ N6 ∷ N7 ∷ N8 ∷ []

-- Returns whether a rule of the network is violated at its location `x`: a board for N2, otherwise
-- a section.
abbrev pub breaks_network_rule_at : NetDraft → Rule → ℕ → Bool
breaks_network_rule_at net N1 = repeats_earlier_name (names_of_sections net.sections)
breaks_network_rule_at net N2 = repeats_earlier_name (names_of_boards net.sections)
breaks_network_rule_at net N3 = has_unknown_or_self_neighbour net
breaks_network_rule_at net N4 = repeats_neighbour net
breaks_network_rule_at net N5 = is_not_named_back_once net
breaks_network_rule_at net N6 = is_isolated_linear_section net
breaks_network_rule_at net N7 = is_on_up_cycle net
breaks_network_rule_at net N8 = has_board_without_neighbour net
breaks_network_rule_at net _ = λ x. false

-- All violations of the rules of the network, rule by rule.
abbrev pub network_rules_broken : NetDraft → List Broken
network_rules_broken net = broken_for_rules all_network_rules (place_count_in_network net) (breaks_network_rule_at net)
