-- The first board with a way without end, found by rounds over all sections.
use Rattle.std.proofs.Common.{◌≡◌, ℕ, zero, suc, ◌+◌, ◌<◌, Bool, true, false, not, ◌&&◌, Some, None, List, [], ◌∷◌, cond, get_or, length, map, option_map, position, replicate, slice_get, refl, sym, ◌∙◌, ap, arith}
use Rattle.std.specs.List.{range_with_len}
use Rattle.std.proofs.lemmas.List.FromFn.{get_or-map-range_with_len}
use Rattle.std.proofs.lemmas.Option.{slice_get_within}
use Rattle.ilk_base.proofs.ListTests.{list_any-alike}
use Rattle.ilk_base.proofs.Options.{bind_some}
use Rattle.ilk_base.proofs.Positions.{position-cons}
use Rattle.ilk_base.proofs.Ranges.{map-range-congr}
use Rattle.ilk_base.specs.Option.{is_some_and}
use Rattle.ilk_plant.proofs.Rows.{contains_section-at}
use Rattle.ilk_plant.specs.Network.{board_on}
use Rattle.ilk_plant.specs.Plant.{IsPlant, PlantLists, board_of, next_to}
use Rattle.ilk_plant.specs.declared.network.Board.{Board}
use Rattle.ilk_plant.specs.declared.network.Dir.{Dir}
use Rattle.ilk_plant.specs.declared.network.Section.{Section}
use Rattle.ilk_plant.specs.declared.limits.TheConstants.{MAX_PATH}
use Rattle.ilk_tablegen.specs.Rounds.{has_unended_path_from_each, has_flagged_unended_neighbour}
use Rattle.ilk_tablegen.specs.Ways.{way_ends_at_section, has_unended_path_from, board_has_overlong_way}

pub one-more : (p : PlantLists) → IsPlant p → (d : Dir) (n : ℕ) → map (has_flagged_unended_neighbour p d (has_unended_path_from_each p d n)) (range_with_len 0 (length p.sections)) ≡ has_unended_path_from_each p d (suc n)
one-more p plant d n =
    map-range-congr (has_flagged_unended_neighbour p d (has_unended_path_from_each p d n)) (has_unended_path_from p d (suc n)) 0 (length p.sections) (λ x low high. flags-tell x)
  where
    flag-tells : (x i y : ℕ) → slice_get (next_to p x d) i ≡ Some y → (not (way_ends_at_section p d y) && get_or (has_unended_path_from_each p d n) y false) ≡ (not (way_ends_at_section p d y) && has_unended_path_from p d n y)
    flag-tells x i y at =
        ap (λ b. not (way_ends_at_section p d y) && b) (get_or-map-range_with_len (has_unended_path_from p d n) 0 (length p.sections) y y false (plant.neighbours x y d (contains_section-at (next_to p x d) i y at)) (omega arith))

    flags-tell : (x : ℕ) → has_flagged_unended_neighbour p d (has_unended_path_from_each p d n) x ≡ has_unended_path_from p d (suc n) x
    flags-tell x =
        list_any-alike (λ y. not (way_ends_at_section p d y) && get_or (has_unended_path_from_each p d n) y false) (λ y. not (way_ends_at_section p d y) && has_unended_path_from p d n y) (next_to p x d) (flag-tells x)

pub round-more : (p : PlantLists) → IsPlant p → (d : Dir) (n : ℕ) (flags made : List Bool) → flags ≡ has_unended_path_from_each p d n → made ≡ map (has_flagged_unended_neighbour p d flags) (range_with_len 0 (length p.sections)) →
    made ≡ has_unended_path_from_each p d (n + 1)
round-more p plant d n flags made before after =
    let next : suc n ≡ n + 1 = omega arith in
    after ∙ ap (λ l. map (has_flagged_unended_neighbour p d l) (range_with_len 0 (length p.sections))) before ∙ one-more p plant d n ∙ ap (has_unended_path_from_each p d) next

pub none-yet : (n : ℕ) (p : PlantLists) (d : Dir) → n ≡ length p.sections → replicate n true ≡ has_unended_path_from_each p d 0
none-yet n p d e = alike n 0 ∙ ap (λ m. map (has_unended_path_from p d 0) (range_with_len 0 m)) e
  where
    alike : (m a : ℕ) → replicate m true ≡ map (has_unended_path_from p d 0) (range_with_len a m)
    alike zero a = refl
    alike (suc m) a = ap (λ l. true ∷ l) (alike m (a + 1))

pub board-within : (p : PlantLists) → IsPlant p → (m : ℕ) (board : Board) → slice_get p.boards m ≡ Some board → board.section < length p.sections
board-within p plant m board at =
    let stands : board_of p board.section board.dir ≡ Some m = (plant.boards_listed board.section m board.dir).1 at in
    let found : (s : Section) × (slice_get p.sections board.section ≡ Some s) × (board_on s board.dir ≡ Some m) = bind_some (slice_get p.sections board.section) (λ s. board_on s board.dir) m stands in
    slice_get_within p.sections board.section found.0 found.1

pub flag-of_board : (p : PlantLists) → IsPlant p →
    (m : ℕ) (board : Board) (d : Dir) (flags : List Bool) (b : Bool) → slice_get p.boards m ≡ Some board →
    board.dir ≡ d → flags ≡ has_unended_path_from_each p d MAX_PATH → b ≡ get_or flags board.section false →
    b ≡ is_some_and (slice_get p.boards m) (board_has_overlong_way p)
flag-of_board p plant m board d flags b at towards are tells =
    tells
    ∙ ap (λ l. get_or l board.section false) are
    ∙ get_or-map-range_with_len (has_unended_path_from p d MAX_PATH) 0 (length p.sections) board.section board.section false (board-within p plant m board at) (omega arith)
    ∙ ap (λ e. has_unended_path_from p e MAX_PATH board.section) (sym towards)
    ∙ ap (λ o. is_some_and o (board_has_overlong_way p)) (sym at)

module _ {X : Type 0} (p : X → Bool) where
  pub position-first : (xs : List X) (m : ℕ) → is_some_and (slice_get xs m) p ≡ true → ((k : ℕ) → k < m → is_some_and (slice_get xs k) p ≡ false) → position p xs ≡ Some m
  position-first [] m passes before = absurd (cc)
  position-first (x ∷ xs) zero passes before =
      position-cons p x xs ∙ ap (λ b. cond b (Some 0) (option_map suc (position p xs))) passes
  position-first (x ∷ xs) (suc m) passes before =
      let first : p x ≡ false = before 0 (omega arith) in
      let rest : position p xs ≡ Some m = position-first xs m passes (λ k less. before (suc k) (omega (arith, less))) in
      position-cons p x xs ∙ ap (λ b. cond b (Some 0) (option_map suc (position p xs))) first ∙ ap (option_map suc) rest

  pub position-none : (xs : List X) → ((k : ℕ) → k < length xs → is_some_and (slice_get xs k) p ≡ false) → position p xs ≡ None
  position-none [] fails = refl
  position-none (x ∷ xs) fails =
      let first : p x ≡ false = fails 0 (omega arith) in
      let rest : position p xs ≡ None = position-none xs (λ k less. fails (suc k) (omega (arith, less))) in
      position-cons p x xs ∙ ap (λ b. cond b (Some 0) (option_map suc (position p xs))) first ∙ ap (option_map suc) rest
