-- Two routes share a section if and only if a section of the second is flagged for the first.
use Rattle.std.proofs.Common.{◌≡◌, ℕ, ◌<◌, Bool, false, ◌||◌, Some, List, [], ◌∷◌, ◌++◌, get_or, length, slice_get, refl, sym, ◌∙◌, ap, arith}
use Rattle.std.specs.List.{AllByRecursion, list_any}
use Rattle.std.proofs.lemmas.List.Elements.{All-map, recursion_from_All}
use Rattle.std.proofs.lemmas.List.Folds.{list_any-append}
use Rattle.std.proofs.lemmas.List.FromFn.{get_or-map-range_with_len}
use Rattle.ilk_base.proofs.Lists.{item_at}
use Rattle.ilk_plant.specs.ColumnRules.{share_locked_section}
use Rattle.ilk_plant.specs.Network.{contains_section}
use Rattle.ilk_plant.specs.Plant.{IsValidRouteOf, PlantLists}
use Rattle.ilk_plant.specs.TableRules.{protecting_points_of, sections_locked_for}
use Rattle.ilk_plant.specs.declared.table.Route.{Route}
use Rattle.ilk_table_check.specs.Columns.{locked_flags}

flagged : (flags : List Bool) (test : ℕ → Bool) (n : ℕ) (xs : List ℕ) → ((x : ℕ) → x < n → get_or flags x false ≡ test x) → AllByRecursion (λ x. x < n) xs → list_any (λ x. get_or flags x false) xs ≡ list_any test xs
flagged flags test n [] same each = refl
flagged flags test n (x ∷ xs) same each = rw (same x each.0, flagged flags test n xs same each.1) refl

flags-own : (p : PlantLists) (i x : ℕ) (route : Route) → slice_get p.routes i ≡ Some route → x < length p.sections → get_or (locked_flags p i) x false ≡ contains_section x (sections_locked_for route)
flags-own p i x route at below =
    get_or-map-range_with_len _ 0 (length p.sections) x x false below (omega arith) ∙ rw at refl

pub share-flagged : (p : PlantLists) (flags : List Bool) (i j : ℕ) (other : Route) →
    flags ≡ locked_flags p i → i < length p.routes → slice_get p.routes j ≡ Some other → IsValidRouteOf p other →
    ((list_any (λ x. get_or flags x false) other.path || list_any (λ x. get_or flags x false) other.overlap)
    || list_any (λ x. get_or flags x false) (protecting_points_of other))
    ≡ share_locked_section p i j
share-flagged p flags i j other own within at known =
    let found : (route : Route) × (slice_get p.routes i ≡ Some route) = item_at p.routes i within in
    let test : ℕ → Bool = λ x. contains_section x (sections_locked_for found.0) in
    let same : (x : ℕ) → x < length p.sections → get_or flags x false ≡ test x = λ x below. rw own (flags-own p i x found.0 found.1 below) in
    let path = flagged flags test (length p.sections) other.path same (recursion_from_All (λ x. x < length p.sections) other.path known.path) in
    let overlap = flagged flags test (length p.sections) other.overlap same (recursion_from_All (λ x. x < length p.sections) other.overlap known.overlap) in
    let points = flagged flags test (length p.sections) (protecting_points_of other) same
    (recursion_from_All (λ x. x < length p.sections) (protecting_points_of other)
    (All-map (λ x. x < length p.sections) (λ listed. listed.point) other.protecting_points
    known.protecting_points)) in
    let whole : list_any test (sections_locked_for other) ≡ ((list_any test other.path || list_any test other.overlap) || list_any test (protecting_points_of other)) =
    list_any-append test (other.path ++ other.overlap) (protecting_points_of other) ∙ ap (λ b. b || list_any test (protecting_points_of other)) (list_any-append test other.path other.overlap) in
    rw (path, overlap, points) (rw (at, found.1) (sym whole))
