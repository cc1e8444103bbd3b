-- Flags of numbers, of a list, and rows of flags.
use Rattle.std.proofs.Common.{◌≡◌, ℕ, ◌+◌, ◌<◌, ◌≤◌, Bool, false, ◌==◌, ◌||◌, Some, List, [], ◌∷◌, ◌++◌, get_or, length, map, option_map, slice_get, take, refl, sym, ◌∙◌, ap, arith}
use Rattle.std.specs.List.{range_with_len}
use Rattle.std.proofs.Math.Bool.{or-false, or_assoc}
use Rattle.std.proofs.lemmas.Bool.Decides.{nat_tests}
use Rattle.std.proofs.lemmas.List.{get_or-map, length-map, take_more}
use Rattle.std.proofs.lemmas.List.Folds.{list_any-append}
use Rattle.std.proofs.lemmas.List.FromFn.{fill_by_all, get_or-map-range_with_len}
use Rattle.std.proofs.lemmas.Option.{slice_get-map}
use Rattle.ilk_base.proofs.Ranges.{range-at}
use Rattle.ilk_base.specs.Option.{is_some_and}
use Rattle.ilk_plant.specs.ColumnRules.{lists_as_conflict}
use Rattle.ilk_plant.specs.Network.{contains_section}
use Rattle.ilk_plant.specs.Plant.{PlantLists}
use Rattle.ilk_plant.specs.TableRules.{protecting_points_of, sections_locked_for}
use Rattle.ilk_plant.specs.declared.table.Listed.{Listed}
use Rattle.ilk_plant.specs.declared.table.Route.{Route}
use Rattle.ilk_table_check.specs.Columns.{listed_conflict_matrix, listed_conflict_flags, listed_conflict_flag_or_false, locked_flags}

pub flag_past : (flags : List Bool) (x y : ℕ) → length flags ≤ x → y < length flags → get_or flags y false ≡ (get_or flags y false || (x == y))
flag_past flags x y past below =
    let differs : (x == y) ≡ false = grind (arith, nat_tests) in
    sym (or-false (get_or flags y false)) ∙ ap (λ b. get_or flags y false || b) (sym differs)

pub flags_more : (numbers : List ℕ) (i d y : ℕ) (a b c : Bool) → i < length numbers → b ≡ (a || contains_section y (take i numbers)) → c ≡ (b || (get_or numbers i d == y)) → c ≡ (a || contains_section y (take (i + 1) numbers))
flags_more numbers i d y a b c within before after =
    after ∙ ap (λ t. t || (get_or numbers i d == y)) before ∙ or_assoc a (contains_section y (take i numbers)) (get_or numbers i d == y)
    ∙ ap (λ t. a || t) (sym grown)
  where
    grown : contains_section y (take (i + 1) numbers) ≡ (contains_section y (take i numbers) || (get_or numbers i d == y))
    grown =
        ap (contains_section y) (take_more numbers i d within) ∙ list_any-append (λ x. x == y) (take i numbers) (get_or numbers i d ∷ [])
        ∙ ap (λ t. contains_section y (take i numbers) || t) (or-false (get_or numbers i d == y))

pub points_more : (points : List Listed) (i : ℕ) (d : Listed) (y : ℕ) (a b c : Bool) → i < length points →
    b ≡ (a || contains_section y (take i (map (λ listed. listed.point) points))) →
    c ≡ (b || ((get_or points i d).point == y)) →
    c ≡ (a || contains_section y (take (i + 1) (map (λ listed. listed.point) points)))
points_more points i d y a b c within before after =
    let point : Listed → ℕ = λ listed. listed.point in
    let item : get_or (map point points) i d.point ≡ (get_or points i d).point = get_or-map point points i d d.point within in
    flags_more (map point points) i d.point y a b c (omega (arith, within, length-map points point)) before (after ∙ ap (λ n. b || (n == y)) (sym item))

pub listed-row : (p : PlantLists) (i n : ℕ) (route : Route) (flags : List Bool) (numbers : List ℕ) →
    n ≡ length p.routes → length flags ≡ n → numbers ≡ route.conflicts → slice_get p.routes i ≡ Some route →
    ((y : ℕ) → y < n → get_or flags y false ≡ contains_section y numbers) → flags ≡ listed_conflict_flags p i
listed-row p i n route flags numbers whole count own at tell =
    fill_by_all (lists_as_conflict p i) flags n false count (λ y below. tell y below ∙ ap (contains_section y) own ∙ rw at refl)
    ∙ ap (λ m. map (lists_as_conflict p i) (range_with_len 0 m)) whole

pub locked-row :
    (p : PlantLists) (i n : ℕ) (route : Route) (first second third : List Bool) (path overlap : List ℕ)
    (points : List Listed) →
    n ≡ length p.sections → path ≡ route.path → overlap ≡ route.overlap → points ≡ route.protecting_points →
    slice_get p.routes i ≡ Some route → length first ≡ n → length second ≡ length first →
    length third ≡ length second → ((y : ℕ) → y < n → get_or first y false ≡ contains_section y path) →
    ((y : ℕ) → y < length first → get_or second y false ≡ (get_or first y false || contains_section y overlap)) →
    ((y : ℕ) → y < length second →
    get_or third y false ≡ (get_or second y false || contains_section y (map (λ listed. listed.point) points)))
    →
    third ≡ locked_flags p i
locked-row p i n route first second third path overlap points whole own_path own_overlap own_points at one two three by_path by_overlap by_points =
    fill_by_all test third n false (three ∙ two ∙ one) (λ y below. tell y below ∙ sym (joined y) ∙ rw at refl)
    ∙ ap (λ m. map test (range_with_len 0 m)) whole
  where
    test : ℕ → Bool
    test x = is_some_and (slice_get p.routes i) (λ r. contains_section x (sections_locked_for r))

    joined : (y : ℕ) → contains_section y (sections_locked_for route) ≡ ((contains_section y route.path || contains_section y route.overlap) || contains_section y (protecting_points_of route))
    joined y =
        list_any-append (λ x. x == y) (route.path ++ route.overlap) (protecting_points_of route)
        ∙ ap (λ b. b || contains_section y (protecting_points_of route)) (list_any-append (λ x. x == y) route.path route.overlap)

    tell : (y : ℕ) → y < n → get_or third y false ≡ ((contains_section y route.path || contains_section y route.overlap) || contains_section y (protecting_points_of route))
    tell y below =
        by_points y (omega (arith, below, one, two))
        ∙ ap (λ b. b || contains_section y (map (λ listed. listed.point) points)) (by_overlap y (omega (arith, below, one)) ∙ ap (λ b. b || contains_section y overlap) (by_path y below))
        ∙ (λ j. (contains_section y (own_path j) || contains_section y (own_overlap j)) || contains_section y (map (λ listed. listed.point) (own_points j)))

pub row-flagged : (p : PlantLists) (listed : List (List Bool)) (i : ℕ) → listed ≡ listed_conflict_matrix p → i < length p.routes → slice_get listed i ≡ Some (listed_conflict_flags p i)
row-flagged p listed i is first =
    ap (λ l. slice_get l i) is ∙ slice_get-map (listed_conflict_flags p) (range_with_len 0 (length p.routes)) i ∙ ap (option_map (listed_conflict_flags p)) (range-at (length p.routes) i first)

pub lists_as_conflict-flagged : (p : PlantLists) (listed : List (List Bool)) (i j : ℕ) → listed ≡ listed_conflict_matrix p → i < length p.routes → j < length p.routes → listed_conflict_flag_or_false listed i j ≡ lists_as_conflict p i j
lists_as_conflict-flagged p listed i j is first second =
    rw (row-flagged p listed i is first) (get_or-map-range_with_len (lists_as_conflict p i) 0 (length p.routes) j j false second (omega arith))
