-- Facts on the path and the listed points of a route.
use Rattle.std.proofs.Common.{◌≡◌, ℕ, zero, suc, ◌+◌, ◌<◌, true, false, ◌==◌, ◌||◌, Option, Some, None, List, [], ◌∷◌, ◌++◌, inl, inr, ◌⊎◌, length, map, slice_get, refl, sym, ap, ◌∙◌}
use Rattle.std.specs.Option.{option_or}
use Rattle.std.proofs.lemmas.Bool.{or_left, or_right, both_ways}
use Rattle.std.proofs.lemmas.List.Folds.{list_any-append}
use Rattle.std.proofs.lemmas.Option.{cond_some, same_Some}
use Rattle.ilk_base.specs.Option.{then_some}
use Rattle.ilk_base.proofs.Lists.{at-before, at-either, at-past, item_at, map-at}
use Rattle.ilk_base.proofs.ListTests.{all-at}
use Rattle.ilk_base.proofs.Options.{or_cases}
use Rattle.ilk_base.proofs.Truth.{either}
use Rattle.ilk_plant.specs.Network.{contains_section}
use Rattle.ilk_plant.specs.Plant.{IsValidRouteOf, PlantLists}
use Rattle.ilk_plant.specs.TableRules.{protecting_points_of, sections_locked_for, path_and_overlap_of}
use Rattle.ilk_plant.specs.declared.network.Board.{Board}
use Rattle.ilk_plant.specs.declared.network.Position.{Position}
use Rattle.ilk_plant.specs.declared.table.Listed.{Listed}
use Rattle.ilk_plant.specs.declared.table.Route.{Route}
use Rattle.ilk_plant.proofs.Once.{numbers_differ-places}
use Rattle.ilk_plant.proofs.Sides.{once-apart}
use Rattle.ilk_plant.proofs.InLists.{section-at, section-from}
use Rattle.ilk_routes.specs.Claims.{sections_outside_path, required_points}
use Rattle.ilk_routes.specs.Lies.{listed_position, is_entry_for_point}

pub listed-mapped : (entries : List Listed) (j : ℕ) (one : Listed) → slice_get entries j ≡ Some one → slice_get (map (λ (it : Listed). it.point) entries) j ≡ Some one.point
listed-mapped [] j one at = cc
listed-mapped (y ∷ entries) zero one at = ap (λ (it : Listed). Some it.point) (same_Some y one at)
listed-mapped (y ∷ entries) (suc j) one at = listed-mapped entries j one at

module _ (p : PlantLists) (route : Route) (of : IsValidRouteOf p route) where
  pub path-once : (i j x : ℕ) → slice_get route.path i ≡ Some x → slice_get route.path j ≡ Some x → i ≡ j
  path-once i j x here there =
      numbers_differ-places (route.path ++ route.overlap) of.sections_once i j x (at-before route.path route.overlap i x here) (at-before route.path route.overlap j x there)

  pub path-apart : (i x : ℕ) → slice_get route.path i ≡ Some x → contains_section x (sections_outside_path route) ≡ true → ⊥
  path-apart i x here beside =
      let cases : (contains_section x route.overlap || contains_section x (protecting_points_of route)) ≡ true = sym (list_any-append (λ y. y == x) route.overlap (protecting_points_of route)) ∙ beside in
      elim (either (contains_section x route.overlap) (contains_section x (protecting_points_of route)) cases) [
        | inl overlap ↦ once-apart route.path route.overlap x of.sections_once (section-from route.path i x here) overlap
        | inr protecting ↦
            (let found = section-at x (protecting_points_of route) protecting in
            let listed = map-at (λ (one : Listed). one.point) route.protecting_points found.0 x found.1 in
            let away : contains_section listed.0.point (route.path ++ route.overlap) ≡ false = all-at (λ one. contains_section one.point (route.path ++ route.overlap) ≡ false) route.protecting_points found.0 listed.0
            of.protecting_points_apart listed.1 in
            let on : contains_section x (route.path ++ route.overlap) ≡ true = section-from (route.path ++ route.overlap) i x (at-before route.path route.overlap i x here) in
            both_ways (contains_section x (route.path ++ route.overlap)) (rw listed.2 at away) on)
      ]

  pub path-section : (i x : ℕ) → slice_get route.path i ≡ Some x → x < length p.sections
  path-section i x here = all-at (λ y. y < length p.sections) route.path i x of.path here

  pub route-source : (source : Board) × (slice_get p.boards route.source ≡ Some source)
  route-source = item_at p.boards route.source of.source

  pub listed-passed : (k : ℕ) (listed : Listed) → slice_get route.points k ≡ Some listed → contains_section listed.point (path_and_overlap_of route) ≡ true
  listed-passed k listed here = all-at (λ one. contains_section one.point (route.path ++ route.overlap) ≡ true) route.points k listed of.points_passed here

  pub wanted-locked : (k : ℕ) (listed : Listed) → slice_get (required_points route) k ≡ Some listed → contains_section listed.point (sections_locked_for route) ≡ true
  wanted-locked k listed here = elim (at-either route.points route.protecting_points k listed here) [
    | inl first ↦ list_any-append (λ y. y == listed.point) (path_and_overlap_of route) (protecting_points_of route)
        ∙ or_left (contains_section listed.point (path_and_overlap_of route))
        (contains_section listed.point (protecting_points_of route)) (listed-passed first.0 listed first.1)
    | inr second ↦ list_any-append (λ y. y == listed.point) (path_and_overlap_of route) (protecting_points_of route)
        ∙ or_right (contains_section listed.point (path_and_overlap_of route))
        (contains_section listed.point (protecting_points_of route))
        (section-from (protecting_points_of route) second.0 listed.point
        (listed-mapped route.protecting_points second.0 listed second.1))
  ]

pub path-locked_for : (route : Route) (i x : ℕ) → slice_get route.path i ≡ Some x → contains_section x (sections_locked_for route) ≡ true
path-locked_for route i x here =
    section-from (sections_locked_for route) i x (at-before (path_and_overlap_of route) (protecting_points_of route) i x (at-before route.path route.overlap i x here))

pub beside-locked_for : (route : Route) (x : ℕ) → contains_section x (sections_outside_path route) ≡ true → contains_section x (sections_locked_for route) ≡ true
beside-locked_for route x beside =
    let found = section-at x (sections_outside_path route) beside in
    elim (at-either route.overlap (protecting_points_of route) found.0 x found.1) [
      | inl overlap ↦ section-from (sections_locked_for route) (length route.path + overlap.0) x (at-before (path_and_overlap_of route) (protecting_points_of route) (length route.path + overlap.0) x (at-past route.path route.overlap
          overlap.0 x overlap.1))
      | inr protecting ↦ section-from (sections_locked_for route) (length (path_and_overlap_of route) + protecting.0) x (at-past (path_and_overlap_of route) (protecting_points_of route) protecting.0 x protecting.1)
    ]

pub locked_for-cases : (route : Route) (x : ℕ) → contains_section x (sections_locked_for route) ≡ true → ((i : ℕ) × (slice_get route.path i ≡ Some x)) ⊎ (contains_section x (sections_outside_path route) ≡ true)
locked_for-cases route x h =
    let found = section-at x (sections_locked_for route) h in
    elim (at-either (path_and_overlap_of route) (protecting_points_of route) found.0 x found.1) [
      | inl of_route ↦ elim (at-either route.path route.overlap of_route.0 x of_route.1) [
        | inl path ↦ inl (path.0, path.1)
        | inr overlap ↦ inr (section-from (sections_outside_path route) overlap.0 x (at-before route.overlap (protecting_points_of route) overlap.0 x overlap.1))
      ]
      | inr protecting ↦ inr (section-from (sections_outside_path route) (length route.overlap + protecting.0) x (at-past route.overlap (protecting_points_of route) protecting.0 x protecting.1))
    ]

counts-at : (p : PlantLists) (n : ℕ) (entries : List Listed) (to : Position) → listed_position p n entries ≡ Some to → (j : ℕ) × (one : Listed) × (slice_get entries j ≡ Some one) × (is_entry_for_point p n one ≡ true) × (one.at ≡ to)
counts-at p n [] to e = cc
counts-at p n (one ∷ rest) to e =
    or_cases ((j : ℕ) × (it : Listed) × (slice_get (one ∷ rest) j ≡ Some it) × (is_entry_for_point p n it ≡ true) × (it.at ≡ to)) (listed_position p n rest) (then_some (is_entry_for_point p n one) one.at) to e
    (λ later. let found = counts-at p n rest to later in (suc found.0, found.1, found.2, found.3, found.4))
    (λ here. let first = cond_some (is_entry_for_point p n one) one.at to here in (zero, one, refl, first.0, first.1))

counts-some : (p : PlantLists) (n : ℕ) (entries : List Listed) (k : ℕ) (listed : Listed) → slice_get entries k ≡ Some listed → is_entry_for_point p n listed ≡ true → (to : Position) × (listed_position p n entries ≡ Some to)
counts-some p n [] k listed at lists = cc
counts-some p n (one ∷ rest) zero listed at lists =
    let same : one ≡ listed = same_Some one listed at in
    let first : is_entry_for_point p n one ≡ true = rw (← same) at lists in
    either_counts (listed_position p n rest) one.at first
  where
    either_counts : (o : Option Position) (to : Position) → is_entry_for_point p n one ≡ true → (other : Position) × (option_or o (then_some (is_entry_for_point p n one) to) ≡ Some other)
    either_counts None to first = (to, rw first refl)
    either_counts (Some later) to first = (later, refl)
counts-some p n (one ∷ rest) (suc k) listed at lists =
    let later = counts-some p n rest k listed at lists in (later.0, rw later.1 refl)

pub listed-position : (p : PlantLists) (n : ℕ) (to : Position) (entries : List Listed) →
    ((j : ℕ) (one : Listed) → slice_get entries j ≡ Some one → is_entry_for_point p n one ≡ true → one.at ≡ to) →
    (k : ℕ) (listed : Listed) → slice_get entries k ≡ Some listed → is_entry_for_point p n listed ≡ true →
    listed_position p n entries ≡ Some to
listed-position p n to entries alike k listed at lists =
    let some = counts-some p n entries k listed at lists in
    let from = counts-at p n entries some.0 some.1 in
    some.1 ∙ ap Some (sym from.4 ∙ alike from.0 from.1 from.2 from.3)

pub listed-none : (p : PlantLists) (n : ℕ) (entries : List Listed) → ((j : ℕ) (one : Listed) → slice_get entries j ≡ Some one → is_entry_for_point p n one ≡ true → ⊥) → listed_position p n entries ≡ None
listed-none p n entries none = by_position (listed_position p n entries) refl
  where
    by_position : (o : Option Position) → listed_position p n entries ≡ o → listed_position p n entries ≡ None
    by_position None e = e
    by_position (Some to) e = let from = counts-at p n entries to e in absurd (none from.0 from.1 from.2 from.3)
