-- Facts about each way of a network: its ends, the sections between, and its length.
use Rattle.std.proofs.Common.{◌≡◌, ℕ, zero, suc, ◌+◌, ◌<◌, ◌≤◌, Bool, true, false, not, ◌&&◌, Some, All, List, [], ◌∷◌, flat_map, if◌then◌else◌, length, map, slice_get, refl, sym, ◌∙◌, ap, arith}
use Rattle.std.specs.List.{enumerate_from}
use Rattle.std.specs.Cmp.Derive.{both_true}
use Rattle.std.proofs.lemmas.Bool.{and_parts}
use Rattle.std.proofs.lemmas.List.Elements.{All-append, All-cons, All-head, All-map, All-nil, All-tail}
use Rattle.ilk_plant.proofs.Rows.{contains_section-at}
use Rattle.ilk_plant.specs.Network.{contains_section}
use Rattle.ilk_plant.specs.Plant.{IsPlant, PlantLists, next_to}
use Rattle.ilk_plant.specs.declared.limits.TheConstants.{MAX_PATH}
use Rattle.ilk_plant.specs.declared.network.Board.{Board}
use Rattle.ilk_plant.specs.declared.network.Dir.{Dir}
use Rattle.ilk_tablegen.specs.Ways.{all_ways, way_ends_at_section, ways, ways_from_board}
use Rattle.ilk_tablegen.specs.declared.ways.WayFromBoard.{WayFromBoard}

-- Returns whether a path leads from section x to the first of its sections at which a way ends.
abbrev pub is_way : PlantLists → Dir → ℕ → List ℕ → Bool
is_way p d x [] = false
is_way p d x (y ∷ []) = contains_section y (next_to p x d) && way_ends_at_section p d y
is_way p d x (y ∷ z ∷ rest) = contains_section y (next_to p x d) && (not (way_ends_at_section p d y) && is_way p d y (z ∷ rest))

-- Such a path within n sections.
pub record IsWay (p : PlantLists) (d : Dir) (n x : ℕ) (path : List ℕ) : Type 0 where
  pub leads : is_way p d x path ≡ true
  pub short : length path ≤ n

pub All-flat_map : {X Y : Type 0} (P : Y → Type 0) (f : X → List Y) (xs : List X) → ((i : ℕ) (x : X) → slice_get xs i ≡ Some x → All P (f x)) → All P (flat_map f xs)
All-flat_map P f [] each = All-nil P
All-flat_map P f (x ∷ xs) each = All-append P (f x) (flat_map f xs) (each 0 x refl) (All-flat_map P f xs (λ i y at. each (suc i) y at))

pub All-from_places : {X : Type 0} (P : X → Type 0) (xs : List X) → ((i : ℕ) (x : X) → slice_get xs i ≡ Some x → P x) → All P xs
All-from_places P [] each = All-nil P
All-from_places P (x ∷ xs) each = All-cons P x xs (each 0 x refl) (All-from_places P xs (λ i y at. each (suc i) y at))

pub All-implied : {X : Type 0} (P Q : X → Type 0) → ((x : X) → P x → Q x) → (xs : List X) → All P xs → All Q xs
All-implied P Q f [] all = All-nil Q
All-implied P Q f (x ∷ xs) all = All-cons Q x xs (f x (All-head P x xs all)) (All-implied P Q f xs (All-tail P x xs all))

longer : (p : PlantLists) (d : Dir) (n x y : ℕ) → contains_section y (next_to p x d) ≡ true → way_ends_at_section p d y ≡ false → (path : List ℕ) → IsWay p d n y path → IsWay p d (suc n) x (y ∷ path)
longer p d n x y next on [] way = let wrong : false ≡ true = way.leads in absurd (cc)
longer p d n x y next on (z ∷ rest) way = record {
  leads = both_true next (both_true (ap not on) way.leads);
  short = let short = way.short in omega (arith, short);
}

pub ways-are : (p : PlantLists) (d : Dir) (n x : ℕ) → All (IsWay p d n x) (ways p d n x)
ways-are p d zero x = All-nil (IsWay p d 0 x)
ways-are p d (suc n) x =
    All-flat_map (IsWay p d (suc n) x) over (next_to p x d) (each (λ y. ways-are p d n y))
  where
    over : ℕ → List (List ℕ)
    over y = if way_ends_at_section p d y then (y ∷ []) ∷ [] else map (λ way. y ∷ way) (ways p d n y)

    each : ((y : ℕ) → All (IsWay p d n y) (ways p d n y)) → (i y : ℕ) → slice_get (next_to p x d) i ≡ Some y → All (IsWay p d (suc n) x) (over y)
    each onward i y at = by_test (way_ends_at_section p d y) refl
      where
        next : contains_section y (next_to p x d) ≡ true
        next = contains_section-at (next_to p x d) i y at

        by_test : (b : Bool) → way_ends_at_section p d y ≡ b → All (IsWay p d (suc n) x) (if b then (y ∷ []) ∷ [] else map (λ way. y ∷ way) (ways p d n y))
        by_test true e = All-cons (IsWay p d (suc n) x) (y ∷ []) [] (record { leads = both_true next e; short = omega arith }) (All-nil (IsWay p d (suc n) x))
        by_test false e =
            All-map (IsWay p d (suc n) x) (λ way. y ∷ way) (ways p d n y) (All-implied (IsWay p d n y) (λ way. IsWay p d (suc n) x (y ∷ way)) (longer p d n x y next e) (ways p d n y) (onward y))

-- A way of the network begins at its board.
pub record IsWayOf (p : PlantLists) (way : WayFromBoard) : Type 0 where
  pub board : slice_get p.boards way.source ≡ Some way.from
  pub walk : IsWay p way.from.dir MAX_PATH way.from.section way.path

pub all-are : (p : PlantLists) → All (IsWayOf p) (all_ways p)
all-are p = numbered 0 p.boards (λ i board at. let place : 0 + i ≡ i = omega arith in ap (slice_get p.boards) place ∙ at)
  where
    numbered : (k : ℕ) (boards : List Board) → ((i : ℕ) (board : Board) → slice_get boards i ≡ Some board → slice_get p.boards (k + i) ≡ Some board) → All (IsWayOf p) (flat_map (λ place. ways_from_board p place.0 place.1) (enumerate_from k boards))
    numbered k [] stand = All-nil (IsWayOf p)
    numbered k (board ∷ boards) stand =
        let here : k + 0 ≡ k = omega arith in
        let first : slice_get p.boards k ≡ Some board = ap (slice_get p.boards) (sym here) ∙ stand 0 board refl in
        All-append (IsWayOf p) (ways_from_board p k board) (flat_map (λ place. ways_from_board p place.0 place.1) (enumerate_from (k + 1) boards))
        (All-map (IsWayOf p) (λ path. record { source = k; from = board; path = path }) (ways p board.dir MAX_PATH board.section)
        (All-implied (IsWay p board.dir MAX_PATH board.section)
        (λ path. IsWayOf p (record { source = k; from = board; path = path }))
        (λ path way. record { board = first; walk = way }) (ways p board.dir MAX_PATH board.section)
        (ways-are p board.dir MAX_PATH board.section)))
        (numbered (k + 1) boards (λ i other at. let place : k + 1 + i ≡ k + suc i = omega arith in ap (slice_get p.boards) place ∙ stand (suc i) other at))

pub way-within : (p : PlantLists) → IsPlant p → (d : Dir) (x : ℕ) (path : List ℕ) → is_way p d x path ≡ true → All (λ y. y < length p.sections) path
way-within p plant d x [] leads = All-nil (λ y. y < length p.sections)
way-within p plant d x (y ∷ []) leads =
    All-cons (λ y. y < length p.sections) y [] (plant.neighbours x y d (and_parts (contains_section y (next_to p x d)) (way_ends_at_section p d y) leads).0) (All-nil (λ y. y < length p.sections))
way-within p plant d x (y ∷ z ∷ rest) leads =
    let parts = and_parts (contains_section y (next_to p x d)) (not (way_ends_at_section p d y) && is_way p d y (z ∷ rest)) leads in
    All-cons (λ y. y < length p.sections) y (z ∷ rest) (plant.neighbours x y d parts.0) (way-within p plant d y (z ∷ rest) (and_parts (not (way_ends_at_section p d y)) (is_way p d y (z ∷ rest)) parts.1).1)

pub all-within : (p : PlantLists) → IsPlant p → All (λ (way : WayFromBoard). All (λ y. y < length p.sections) way.path) (all_ways p)
all-within p plant =
    All-implied (IsWayOf p) (λ (way : WayFromBoard). All (λ y. y < length p.sections) way.path) (λ way is. (let w = is.walk in way-within p plant way.from.dir way.from.section way.path w.leads)) (all_ways p) (all-are p)
