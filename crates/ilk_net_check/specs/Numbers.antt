-- A network with numbers for names, and its reachability as a table of bits. Used only in private
-- contracts.
use Rattle.std.specs.Prelude.{ℕ, ◌<◌, ◌≤◌, ◌-◌, Bool, not, ◌&&◌, ◌||◌, ◌==◌, Option, List, [], length, map, count_by, slice_get, slice_index_or, ◌≡◌, if◌then◌else◌, nat_lt}
use Rattle.std.specs.Int.{bit_at}
use Rattle.std.specs.List.{list_any}
use Rattle.ilk_plant.specs.NetNames.{HasBoardsAndNamesOf}
use Rattle.ilk_plant.specs.Name.{Name}
use Rattle.ilk_plant.specs.Network.{same_direction}
use Rattle.ilk_plant.specs.NetworkRules.{ends_of_draft, reaches_via_below, opposite_direction, section_named, End as NamedEnd}
use Rattle.ilk_base.specs.BitSet.{bit_set_contains}
use Rattle.ilk_base.specs.Option.{is_some_and}
use Rattle.ilk_plant.specs.declared.draft.KindDraft.{KindDraft}
use Rattle.ilk_plant.specs.declared.limits.TheConstants.{MAX_SECTIONS}
use Rattle.ilk_plant.specs.declared.network.Dir.{Dir}
use Rattle.ilk_plant.specs.declared.network.Dir.TheVariants.{Up}
use Rattle.ilk_net_check.specs.declared.ends.ResolvedEnd.{ResolvedEnd}
use Rattle.ilk_base.specs.declared.bit_set.BitSet256.{BitSet256}
use Rattle.ilk_net_check.specs.declared.rules.Network.{Network}

-- Returns the end with the number of the neighbour in place of its name. `number` gives the number
-- of a name, or `None`.
abbrev pub resolved_end : (Name → Option ℕ) → NamedEnd → ResolvedEnd
resolved_end number end = record { side = end.side; section = number end.name }

-- Returns the ends of a section of this kind that have a neighbour, with numbers in place of names.
abbrev pub resolved_ends_of_section : (Name → Option ℕ) → KindDraft → List ResolvedEnd
resolved_ends_of_section number kind = map (resolved_end number) (ends_of_draft kind)

-- Returns whether an end is on the up side and names section `y`.
abbrev pub is_up_side_end_naming : ℕ → ResolvedEnd → Bool
is_up_side_end_naming y end = same_direction end.side Up && is_some_and end.section (λ z. z == y)

-- Returns the ends of section `x`, or none if there is no section `x`.
abbrev pub ends_of_section : List (List ResolvedEnd) → ℕ → List ResolvedEnd
ends_of_section all x = slice_index_or all x []

-- Returns whether section `x` names section `y` on its up side.
abbrev pub is_up_neighbour : List (List ResolvedEnd) → ℕ → ℕ → Bool
is_up_neighbour all x y = list_any (is_up_side_end_naming y) (ends_of_section all x)

-- Returns the entry of table `t` in row `x` and column `y`, or false if there is no row `x`.
abbrev pub matrix_entry_or_false : List BitSet256 → ℕ → ℕ → Bool
matrix_entry_or_false t x y = is_some_and (slice_get t x) (λ row. bit_set_contains row y)

-- Holds if the table has `n` rows, and each of their entries in a column below 256 is the result of
-- `test` for row and column.
pub record IsMatrixOfTest (t : List BitSet256) (n : ℕ) (test : ℕ → ℕ → Bool) : Type 0 where
  pub rows : length t ≡ n
  pub entries : (x y : ℕ) → x < n → y < 256 → matrix_entry_or_false t x y ≡ test x y

-- Returns whether table `t` leads from `x` to `y`, or both from `x` to `k` and from `k` to `y`.
abbrev pub is_reachable_or_via_section : List BitSet256 → ℕ → ℕ → ℕ → Bool
is_reachable_or_via_section t k x y = matrix_entry_or_false t x y || (matrix_entry_or_false t x k && matrix_entry_or_false t k y)

-- Returns whether the neighbour at an end is section `x`.
abbrev pub refers_to : ℕ → ResolvedEnd → Bool
refers_to x end = is_some_and end.section (λ y. y == x)

-- Returns whether the neighbour at an end is not a section other than `x`: it is `x` itself, or
-- does not exist.
abbrev pub names_no_other : ℕ → ResolvedEnd → Bool
names_no_other x end = not (is_some_and end.section (λ y. not (y == x)))

-- Returns whether exactly one of these ends names section `x`, and that end is on side `d`.
abbrev pub is_named_once_on_side : ℕ → Dir → List ResolvedEnd → Bool
is_named_once_on_side x d ends = count_by (refers_to x) ends == 1 && list_any (λ end. refers_to x end && same_direction end.side d) ends

-- Returns whether an end of section `x` names another section that doesn't name `x` back: exactly
-- once, and on the opposite side.
abbrev pub end_not_named_back_once : List (List ResolvedEnd) → ℕ → ResolvedEnd → Bool
end_not_named_back_once all x end =
    is_some_and end.section (λ y. not (y == x) && not (is_named_once_on_side x (opposite_direction end.side) (ends_of_section all y)))

-- Holds if the names, ends and reachability of a network with numbers are those of its draft.
pub record AgreesWithDraft (network : Network) : Type 0 where
  pub names : HasBoardsAndNamesOf network.names.now network.net.now
  pub ends : network.ends ≡ map (λ section. resolved_ends_of_section (section_named network.net.now) section.kind) network.net.now.sections
  pub few : length network.net.now.sections ≤ MAX_SECTIONS
  pub leads : IsMatrixOfTest network.leads (length network.net.now.sections) (reaches_via_below (is_up_neighbour network.ends) (length network.net.now.sections))
