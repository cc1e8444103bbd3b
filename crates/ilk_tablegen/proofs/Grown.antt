-- Ways that grow by a section a round: together they become all ways of the network, and each
-- becomes at least one.
use Rattle.std.proofs.Common.{◌≡◌, ℕ, zero, suc, ◌+◌, ◌<◌, ◌≤◌, Bool, true, false, not, ◌&&◌, ◌||◌, ◌==◌, Some, None, is_some, All, List, [], ◌∷◌, ◌++◌, flat_map, if◌then◌else◌, length, map, nat_lt, slice_get, unwrap_or, refl, sym, ◌∙◌, ap, arith, subst}
use Rattle.std.specs.List.{enumerate_from, list_any}
use Rattle.std.proofs.lemmas.Bool.Decides.{nat_tests}
use Rattle.std.proofs.lemmas.List.{append_assoc, length-append, length-map, map-append}
use Rattle.std.proofs.lemmas.List.Elements.{All-append, All-cons, All-head, All-map, All-nil, All-tail}
use Rattle.std.proofs.lemmas.List.Folds.{flat_map-map}
use Rattle.std.proofs.lemmas.Grind.{flat_map-append}
use Rattle.ilk_base.proofs.Lists.{at-past, last_or-at}
use Rattle.ilk_base.proofs.Positions.{is_some-position}
use Rattle.ilk_base.proofs.Ranges.{below}
use Rattle.ilk_base.proofs.Tested.{list_any-none}
use Rattle.ilk_plant.proofs.Rows.{contains_section-at}
use Rattle.ilk_plant.specs.Plant.{IsPlant, PlantLists, board_of, next_to}
use Rattle.ilk_plant.specs.declared.limits.TheConstants.{MAX_PATH, MAX_ROUTES}
use Rattle.ilk_plant.specs.declared.network.Board.{Board}
use Rattle.ilk_plant.specs.declared.network.Dir.{Dir}
use Rattle.ilk_tablegen.proofs.Rounds.{board-within}
use Rattle.ilk_tablegen.specs.Rounds.{empty_way_per_board, all_ways_within_route_limit, last_section_or_start, is_finished_way, extensions_of_way_or_itself, extended_way}
use Rattle.ilk_tablegen.specs.Ways.{all_ways, way_ends_at_section, first_board_with_overlong_way, has_unended_path_from, board_has_overlong_way, ways}
use Rattle.ilk_tablegen.specs.declared.ways.WayFromBoard.{WayFromBoard}
use Rattle.ilk_plant.specs.Network.{last_of}

abbrev pub extended : WayFromBoard → List ℕ → WayFromBoard
extended way rest = record { source = way.source; from = way.from; path = way.path ++ rest }

-- The ways that a way becomes in n more rounds.
abbrev pub completed : PlantLists → ℕ → WayFromBoard → List WayFromBoard
completed p n way = if is_finished_way p way then way ∷ [] else map (extended way) (ways p way.from.dir n (last_section_or_start way))

-- Facts about a way with n more rounds to go.
pub record Goes (p : PlantLists) (n : ℕ) (way : WayFromBoard) : Type 0 where
  pub within : last_section_or_start way < length p.sections
  pub on : is_finished_way p way ≡ false → 0 < length (next_to p (last_section_or_start way) way.from.dir)
  pub ends : is_finished_way p way ≡ false → has_unended_path_from p way.from.dir n (last_section_or_start way) ≡ false

pub last_of-push : (path : List ℕ) (y : ℕ) → last_of (path ++ y ∷ []) ≡ Some y
last_of-push path y =
    let place : length path + 0 + 1 ≡ length (path ++ y ∷ []) = omega (arith, length-append path (y ∷ [])) in
    last_or-at None (path ++ y ∷ []) (length path + 0) y place (at-past path (y ∷ []) 0 y refl)

head-over : (way : WayFromBoard) (y : ℕ) → last_section_or_start (extended_way way y) ≡ y
head-over way y = ap (λ o. unwrap_or o way.from.section) (last_of-push way.path y)

ended-over : (p : PlantLists) (way : WayFromBoard) (y : ℕ) → is_finished_way p (extended_way way y) ≡ way_ends_at_section p way.from.dir y
ended-over p way y =
    let long : not (length (way.path ++ y ∷ []) == 0) ≡ true = grind (arith, nat_tests, length-append way.path (y ∷ [])) in
    ap (λ b. b && way_ends_at_section p way.from.dir (last_section_or_start (extended_way way y))) long ∙ ap (way_ends_at_section p way.from.dir) (head-over way y)

extended-over : (way : WayFromBoard) (y : ℕ) (rests : List (List ℕ)) → map (extended (extended_way way y)) rests ≡ map (extended way) (map (λ rest. y ∷ rest) rests)
extended-over way y [] = refl
extended-over way y (rest ∷ rests) =
    let first : extended (extended_way way y) rest ≡ extended way (y ∷ rest) = ap (λ path. record { source = way.source; from = way.from; path = path }) (append_assoc way.path (y ∷ []) rest) in
    ap (λ w. w ∷ map (extended (extended_way way y)) rests) first ∙ ap (λ l. extended way (y ∷ rest) ∷ l) (extended-over way y rests)

left-false : (a b : Bool) → (a || b) ≡ false → a ≡ false
left-false true b f = absurd (cc)
left-false false b f = refl

right-false : (a b : Bool) → (a || b) ≡ false → b ≡ false
right-false true b f = absurd (cc)
right-false false b f = f

not-empty : (xs : List ℕ) → (length xs == 0) ≡ false → 0 < length xs
not-empty xs h = grind (arith, nat_tests)

module _ (p : PlantLists) (n : ℕ) where
  abbrev over : Dir → ℕ → List (List ℕ)
  over d y = if way_ends_at_section p d y then (y ∷ []) ∷ [] else map (λ rest. y ∷ rest) (ways p d n y)

  completed-over : (way : WayFromBoard) (y : ℕ) → completed p n (extended_way way y) ≡ map (extended way) (over way.from.dir y)
  completed-over way y = by_test (way_ends_at_section p way.from.dir y) refl
    where
      by_test : (b : Bool) → way_ends_at_section p way.from.dir y ≡ b → completed p n (extended_way way y) ≡ map (extended way) (if b then (y ∷ []) ∷ [] else map (λ rest. y ∷ rest) (ways p way.from.dir n y))
      by_test true e = ap (λ b. if b then extended_way way y ∷ [] else map (extended (extended_way way y)) (ways p way.from.dir n (last_section_or_start (extended_way way y)))) (ended-over p way y ∙ e)
      by_test false e =
          ap (λ b. if b then extended_way way y ∷ [] else map (extended (extended_way way y)) (ways p way.from.dir n (last_section_or_start (extended_way way y)))) (ended-over p way y ∙ e)
          ∙ ap (λ x. map (extended (extended_way way y)) (ways p way.from.dir n x)) (head-over way y)
          ∙ extended-over way y (ways p way.from.dir n y)

  completed-over_all : (way : WayFromBoard) (ys : List ℕ) → flat_map (λ y. completed p n (extended_way way y)) ys ≡ map (extended way) (flat_map (over way.from.dir) ys)
  completed-over_all way [] = refl
  completed-over_all way (y ∷ ys) =
      ap (λ l. l ++ flat_map (λ z. completed p n (extended_way way z)) ys) (completed-over way y)
      ∙ ap (λ l. map (extended way) (over way.from.dir y) ++ l) (completed-over_all way ys)
      ∙ sym (map-append (extended way) (over way.from.dir y) (flat_map (over way.from.dir) ys))

  round-one : (way : WayFromBoard) → flat_map (completed p n) (extensions_of_way_or_itself p way) ≡ completed p (suc n) way
  round-one way = by_test (is_finished_way p way) refl
    where
      by_test : (b : Bool) → is_finished_way p way ≡ b → flat_map (completed p n) (if b then way ∷ [] else map (extended_way way) (next_to p (last_section_or_start way) way.from.dir))
          ≡ (if b then way ∷ [] else map (extended way) (ways p way.from.dir (suc n) (last_section_or_start way)))
      by_test true e = ap (λ b. (if b then way ∷ [] else map (extended way) (ways p way.from.dir n (last_section_or_start way))) ++ []) e
      by_test false e =
          flat_map-map (completed p n) (extended_way way) (next_to p (last_section_or_start way) way.from.dir)
          ∙ completed-over_all way (next_to p (last_section_or_start way) way.from.dir)

  pub round-all : (found : List WayFromBoard) → flat_map (completed p n) (flat_map (extensions_of_way_or_itself p) found) ≡ flat_map (completed p (suc n)) found
  round-all [] = refl
  round-all (way ∷ found) =
      flat_map-append (completed p n) (extensions_of_way_or_itself p way) (flat_map (extensions_of_way_or_itself p) found)
      ∙ ap (λ l. l ++ flat_map (completed p n) (flat_map (extensions_of_way_or_itself p) found)) (round-one way)
      ∙ ap (λ l. completed p (suc n) way ++ l) (round-all found)

  goes-one : IsPlant p → (way : WayFromBoard) → Goes p (suc n) way → All (Goes p n) (extensions_of_way_or_itself p way)
  goes-one plant way goes = by_test (is_finished_way p way) refl
    where
      d : Dir
      d = way.from.dir

      over-goes : is_finished_way p way ≡ false → (y : ℕ) (i : ℕ) → slice_get (next_to p (last_section_or_start way) d) i ≡ Some y → Goes p n (extended_way way y)
      over-goes e y i at = record {
        within = let is = head-over way y in omega (arith, is, plant.neighbours (last_section_or_start way) y d (contains_section-at (next_to p (last_section_or_start way) d) i y at));
        on = λ ended. not-empty (next_to p (last_section_or_start (extended_way way y)) d) (nothing (ends-not ended));
        ends = λ ended. ap (has_unended_path_from p d n) (head-over way y) ∙ stops ended;
      }
        where
          ends-not : is_finished_way p (extended_way way y) ≡ false → way_ends_at_section p d y ≡ false
          ends-not ended = sym (ended-over p way y) ∙ ended

          nothing : way_ends_at_section p d y ≡ false → (length (next_to p (last_section_or_start (extended_way way y)) d) == 0) ≡ false
          nothing h = ap (λ x. length (next_to p x d) == 0) (head-over way y) ∙ right-false (is_some (board_of p y d)) (length (next_to p y d) == 0) h

          stops : is_finished_way p (extended_way way y) ≡ false → has_unended_path_from p d n y ≡ false
          stops ended =
              let fails : (not (way_ends_at_section p d y) && has_unended_path_from p d n y)
              ≡ false = list_any-none (λ z. not (way_ends_at_section p d z) && has_unended_path_from p d n z) (next_to p (last_section_or_start way) d) i y (goes.ends e) at in
              sym (ap (λ b. not b && has_unended_path_from p d n y) (ends-not ended)) ∙ fails

      by_test : (b : Bool) → is_finished_way p way ≡ b → All (Goes p n) (if b then way ∷ [] else map (extended_way way) (next_to p (last_section_or_start way) d))
      by_test true e = All-cons (Goes p n) way [] (record { within = goes.within; on = goes.on; ends = λ f. absurd (cc) }) (All-nil (Goes p n))
      by_test false e =
          All-map (Goes p n) (extended_way way) (next_to p (last_section_or_start way) d) (All-from_slice_get (λ y. Goes p n (extended_way way y)) (next_to p (last_section_or_start way) d) (λ i y at. over-goes e y i at))
        where
          All-from_slice_get : {X : Type 0} (P : X → Type 0) (xs : List X) → ((i : ℕ) (x : X) → slice_get xs i ≡ Some x → P x) → All P xs
          All-from_slice_get P [] each = All-nil P
          All-from_slice_get P (x ∷ xs) each = All-cons P x xs (each 0 x refl) (All-from_slice_get P xs (λ i z at. each (suc i) z at))

  pub goes-all : IsPlant p → (found : List WayFromBoard) → All (Goes p (suc n)) found → All (Goes p n) (flat_map (extensions_of_way_or_itself p) found)
  goes-all plant [] go = All-nil (Goes p n)
  goes-all plant (way ∷ found) go =
      All-append (Goes p n) (extensions_of_way_or_itself p way) (flat_map (extensions_of_way_or_itself p) found) (goes-one plant way (All-head (Goes p (suc n)) way found go)) (goes-all plant found (All-tail (Goes p (suc n)) way found go))

some-way : (p : PlantLists) (d : Dir) (n x : ℕ) → 0 < length (next_to p x d) → has_unended_path_from p d n x ≡ false → 0 < length (ways p d n x)
some-way p d zero x some ends = absurd (cc)
some-way p d (suc n) x some ends = first (λ y. some-way p d n y) (next_to p x d) some ends
  where
    first : ((y : ℕ) → 0 < length (next_to p y d) → has_unended_path_from p d n y ≡ false → 0 < length (ways p d n y)) → (ys : List ℕ) → 0 < length ys → list_any (λ y. not (way_ends_at_section p d y) && has_unended_path_from p d n y) ys ≡ false
        → 0 < length (flat_map (over p n d) ys)
    first onward [] less f = absurd (omega arith)
    first onward (y ∷ ys) less f = by_test (way_ends_at_section p d y) refl
      where
        here : way_ends_at_section p d y ≡ false → has_unended_path_from p d n y ≡ false
        here e = sym (ap (λ b. not b && has_unended_path_from p d n y) e) ∙ left-false (not (way_ends_at_section p d y) && has_unended_path_from p d n y) (list_any (λ z. not (way_ends_at_section p d z) && has_unended_path_from p d n z) ys) f

        by_test : (b : Bool) → way_ends_at_section p d y ≡ b → 0 < length ((if b then (y ∷ []) ∷ [] else map (λ rest. y ∷ rest) (ways p d n y)) ++ flat_map (over p n d) ys)
        by_test true e = omega arith
        by_test false e =
            let next : 0 < length (next_to p y d) = not-empty (next_to p y d) (right-false (is_some (board_of p y d)) (length (next_to p y d) == 0) e) in
            let rest : 0 < length (ways p d n y) = onward y next (here e) in
            omega (arith, rest, length-map (ways p d n y) (λ r. y ∷ r), length-append (map (λ r. y ∷ r) (ways p d n y)) (flat_map (over p n d) ys))

pub no-fewer : (p : PlantLists) (n : ℕ) (found : List WayFromBoard) → All (Goes p n) found → length found ≤ length (flat_map (completed p n) found)
no-fewer p n [] go = omega arith
no-fewer p n (way ∷ found) go =
    let rest = no-fewer p n found (All-tail (Goes p n) way found go) in
    let one = becomes-some (All-head (Goes p n) way found go) in
    omega (arith, rest, one, length-append (completed p n way) (flat_map (completed p n) found))
  where
    becomes-some : Goes p n way → 0 < length (completed p n way)
    becomes-some goes = by_test (is_finished_way p way) refl
      where
        by_test : (b : Bool) → is_finished_way p way ≡ b → 0 < length (if b then way ∷ [] else map (extended way) (ways p way.from.dir n (last_section_or_start way)))
        by_test true e = omega arith
        by_test false e =
            let some = some-way p way.from.dir n (last_section_or_start way) (goes.on e) (goes.ends e) in
            omega (arith, some, length-map (ways p way.from.dir n (last_section_or_start way)) (extended way))

pub all-ended : (p : PlantLists) (found : List WayFromBoard) → All (Goes p 0) found → flat_map (completed p 0) found ≡ found
all-ended p [] go = refl
all-ended p (way ∷ found) go =
    ap (λ l. l ++ flat_map (completed p 0) found) (by_test (is_finished_way p way) refl (All-head (Goes p 0) way found go))
    ∙ ap (λ l. way ∷ l) (all-ended p found (All-tail (Goes p 0) way found go))
  where
    by_test : (b : Bool) → is_finished_way p way ≡ b → Goes p 0 way → (if b then way ∷ [] else map (extended way) (ways p way.from.dir 0 (last_section_or_start way))) ≡ way ∷ []
    by_test true e goes = refl
    by_test false e goes = let ends : true ≡ false = goes.ends e in absurd (cc)

abbrev begun : ℕ × Board → WayFromBoard
begun numbered = record { source = numbered.0; from = numbered.1; path = [] }

begun-become : (p : PlantLists) (n : ℕ) →
    flat_map (completed p n) (empty_way_per_board p)
    ≡ flat_map
    (λ numbered. map (λ path. record { source = numbered.0; from = numbered.1; path = path })
    (ways p numbered.1.dir n numbered.1.section))
    (enumerate_from 0 p.boards)
begun-become p n = flat_map-map (completed p n) begun (enumerate_from 0 p.boards)

begun-whole : (p : PlantLists) → flat_map (completed p MAX_PATH) (empty_way_per_board p) ≡ all_ways p
begun-whole p = begun-become p MAX_PATH

begun-go : (p : PlantLists) → IsPlant p → first_board_with_overlong_way p ≡ None → All (Goes p MAX_PATH) (empty_way_per_board p)
begun-go p plant none = All-map (Goes p MAX_PATH) begun (enumerate_from 0 p.boards) (each 0 p.boards (λ i board at. at-board i board at))
  where
    all-end : list_any (board_has_overlong_way p) p.boards ≡ false
    all-end = sym (is_some-position (board_has_overlong_way p) p.boards) ∙ ap is_some none

    at-board : (m : ℕ) (board : Board) → slice_get p.boards m ≡ Some board → (k : ℕ) → Goes p MAX_PATH (begun (k, board))
    at-board m board at k = record {
      within = board-within p plant m board at;
      on = λ e. plant.boards_lead_on board.section m board.dir ((plant.boards_listed board.section m board.dir).1 at);
      ends = λ e. list_any-none (board_has_overlong_way p) p.boards m board all-end at;
    }

    each : (k : ℕ) (boards : List Board) → ((i : ℕ) (board : Board) → slice_get boards i ≡ Some board → (j : ℕ) → Goes p MAX_PATH (begun (j, board))) → All (λ numbered. Goes p MAX_PATH (begun numbered)) (enumerate_from k boards)
    each k [] tell = All-nil (λ numbered. Goes p MAX_PATH (begun numbered))
    each k (board ∷ boards) tell =
        All-cons (λ numbered. Goes p MAX_PATH (begun numbered)) (k, board) (enumerate_from (k + 1) boards) (tell 0 board refl k) (each (k + 1) boards (λ i b at. tell (suc i) b at))

-- Facts about the ways found, with n more rounds to go.
pub record AreGrown (p : PlantLists) (n : ℕ) (found : List WayFromBoard) : Type 0 where
  pub go : All (Goes p n) found
  pub whole : flat_map (completed p n) found ≡ all_ways p

pub begun-grown : (p : PlantLists) → IsPlant p → first_board_with_overlong_way p ≡ None → AreGrown p MAX_PATH (empty_way_per_board p)
begun-grown p plant none = record { go = begun-go p plant none; whole = begun-whole p }

pub grown-more : (p : PlantLists) → IsPlant p → (n m : ℕ) (found next : List WayFromBoard) → n ≡ suc m → AreGrown p n found → next ≡ flat_map (extensions_of_way_or_itself p) found → AreGrown p m next
grown-more p plant n m found next count grown after =
    let before : AreGrown p (suc m) found = subst (λ k. AreGrown p k found) count grown in
    subst (AreGrown p m) (sym after) (record { go = goes-all p m plant found before.go; whole = round-all p m found ∙ before.whole })

pub too-many : (p : PlantLists) (n : ℕ) (found : List WayFromBoard) → AreGrown p n found → nat_lt MAX_ROUTES (length found) ≡ true → None ≡ all_ways_within_route_limit p
too-many p n found grown tested =
    let many = below MAX_ROUTES (length found) tested in
    let fewer = no-fewer p n found grown.go in
    let same = ap length grown.whole in
    let more : nat_lt MAX_ROUTES (length (all_ways p)) ≡ true = above MAX_ROUTES (length (all_ways p)) (omega (arith, many, fewer, same)) in
    ap (λ b. if b then None else Some (all_ways p)) (sym more)
  where
    above : (a b : ℕ) → a < b → nat_lt a b ≡ true
    above a b less = grind (arith, nat_tests)

pub few-enough : (p : PlantLists) (found : List WayFromBoard) → AreGrown p 0 found → length found ≤ MAX_ROUTES → Some found ≡ all_ways_within_route_limit p
few-enough p found grown few =
    let whole : found ≡ all_ways p = sym (all-ended p found grown.go) ∙ grown.whole in
    let same = ap length whole in
    let less : nat_lt MAX_ROUTES (length (all_ways p)) ≡ false = not_above MAX_ROUTES (length (all_ways p)) (omega (arith, few, same)) in
    ap Some whole ∙ ap (λ b. if b then None else Some (all_ways p)) (sym less)
  where
    not_above : (a b : ℕ) → b ≤ a → nat_lt a b ≡ false
    not_above a b le = grind (arith, nat_tests)

pub not-many : (found : List WayFromBoard) → nat_lt MAX_ROUTES (length found) ≡ false → length found ≤ MAX_ROUTES
not-many found tested = grind (arith, nat_tests, tested)
