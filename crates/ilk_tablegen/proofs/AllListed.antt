-- The list has all ways, in order, and the flags are right about which sections go on.
use Rattle.std.proofs.Common.{◌≡◌, ◌⊎◌, inl, inr, ℕ, zero, suc, ◌+◌, ◌<◌, ◌≤◌, Bool, true, false, not, ◌&&◌, ◌==◌, Option, Some, None, Contains, IsTrue, List, [], ◌∷◌, ◌++◌, flat_map, if◌then◌else◌, length, map, option_to_list, slice_get, refl, sym, ◌∙◌, ap, arith, subst}
use Rattle.std.specs.Prelude.{◌↔◌}
use Rattle.std.specs.List.{list_all}
use Rattle.std.specs.Cmp.Derive.{both_true}
use Rattle.std.proofs.lemmas.Bool.{and_parts, eqb-true}
use Rattle.std.proofs.lemmas.List.{get_or-map, length-map}
use Rattle.std.proofs.lemmas.List.Elements.{All-contains}
use Rattle.ilk_base.proofs.FlatMaps.{Contains-flat_map_of}
use Rattle.ilk_base.proofs.Lists.{map-at}
use Rattle.ilk_base.proofs.Tested.{list_any-at, list_any-from}
use Rattle.ilk_base.specs.Option.{is_some_and}
use Rattle.ilk_plant.proofs.Rows.{contains_section-at}
use Rattle.ilk_plant.specs.ColumnRules.{all_but_last}
use Rattle.ilk_plant.specs.Network.{neighbours_on, contains_section, last_of, same_direction}
use Rattle.ilk_plant.specs.Plant.{PlantLists, next_to}
use Rattle.ilk_plant.specs.Shape.{is_connected_chain}
use Rattle.ilk_plant.specs.declared.network.Dir.{Dir}
use Rattle.ilk_plant.specs.declared.network.Dir.TheVariants.{Up, Down}
use Rattle.ilk_plant.specs.declared.network.Section.{Section}
use Rattle.ilk_plant.specs.declared.network.Section.TheVariants.{Linear, Point}
use Rattle.ilk_tablegen.proofs.IsWay.{IsWay, is_way, ways-are}
use Rattle.ilk_tablegen.proofs.WayFacts.{before-cons, goes-on, last-cons, way-ends, way-leads}
use Rattle.ilk_tablegen.specs.EachWay.{IsUnendedPathFrom, IsWayFromSection, WaysPartWithFirstOverPlusLeg}
use Rattle.ilk_tablegen.specs.Ways.{way_ends_at_section, has_unended_path_from, ways}

module _ (p : PlantLists) (d : Dir) where
  abbrev over : ℕ → ℕ → List (List ℕ)
  over n y = if way_ends_at_section p d y then (y ∷ []) ∷ [] else map (λ way. y ∷ way) (ways p d n y)

  between : (x : ℕ) (path : List ℕ) → is_way p d x path ≡ true → list_all (λ y. not (way_ends_at_section p d y)) (all_but_last path) ≡ true
  between x [] h = absurd (cc)
  between x (y ∷ []) h = refl
  between x (y ∷ z ∷ rest) h =
      let on = goes-on p d x y z rest h in
      ap (list_all (λ v. not (way_ends_at_section p d v))) (before-cons y z rest) ∙ both_true (ap not on.0) (between y (z ∷ rest) on.1)

  from-listed : (n x : ℕ) (path : List ℕ) → Contains (ways p d n x) path → (length path ≤ n) × IsWayFromSection p d x path
  from-listed n x path listed =
      let way : IsWay p d n x path = All-contains (IsWay p d n x) (ways p d n x) path (ways-are p d n x) listed in
      let leads = way.leads in
      let end : (z : ℕ) × (last_of path ≡ Some z) × (way_ends_at_section p d z ≡ true) = way-ends p d x path leads in (
        way.short,
        record {
          leads = way-leads p d x path leads;
          between = between x path leads;
          ends = ap (λ o. is_some_and o (way_ends_at_section p d)) end.1 ∙ end.2;
        },
      )

  one-by-one : (x : ℕ) (path : List ℕ) → is_connected_chain p d x path ≡ true → list_all (λ y. not (way_ends_at_section p d y)) (all_but_last path) ≡ true → is_some_and (last_of path) (way_ends_at_section p d) ≡ true → is_way p d x path ≡ true
  one-by-one x [] leads free ends = absurd (cc)
  one-by-one x (y ∷ []) leads free ends = both_true (and_parts (contains_section y (next_to p x d)) true leads).0 ends
  one-by-one x (y ∷ z ∷ rest) leads free ends =
      let on = and_parts (contains_section y (next_to p x d)) (is_connected_chain p d y (z ∷ rest)) leads in
      let open_ = and_parts (not (way_ends_at_section p d y)) (list_all (λ v. not (way_ends_at_section p d v)) (all_but_last (z ∷ rest))) (sym (ap (list_all (λ v. not (way_ends_at_section p d v))) (before-cons y z rest)) ∙ free) in
      both_true on.0 (both_true open_.0 (one-by-one y (z ∷ rest) on.1 open_.1 (sym (ap (λ o. is_some_and o (way_ends_at_section p d)) (last-cons y z rest)) ∙ ends)))

  Contains-map : (y : ℕ) (found : List (List ℕ)) (rest : List ℕ) → Contains found rest → Contains (map (λ way. y ∷ way) found) (y ∷ rest)
  Contains-map y found rest (k, within, is) =
      (k, omega (arith, within, length-map found (λ way. y ∷ way)), get_or-map (λ way. y ∷ way) found k rest (y ∷ rest) within ∙ ap (λ way. y ∷ way) is)

  next-place : (x y : ℕ) → contains_section y (next_to p x d) ≡ true → (k : ℕ) × (slice_get (next_to p x d) k ≡ Some y)
  next-place x y h =
      let found : (k : ℕ) × (z : ℕ) × (slice_get (next_to p x d) k ≡ Some z) × ((z == y) ≡ true) = list_any-at (λ z. z == y) (next_to p x d) h in
      (found.0, found.2 ∙ ap Some (eqb-true found.1 y found.3))

  to-listed : (n x : ℕ) (path : List ℕ) → is_way p d x path ≡ true → length path ≤ n → Contains (ways p d n x) path
  to-listed n x [] way short = absurd (cc)
  to-listed zero x (y ∷ rest) way short = absurd (omega (arith, short))
  to-listed (suc n) x (y ∷ []) way short =
      let parts = and_parts (contains_section y (next_to p x d)) (way_ends_at_section p d y) way in
      let place = next-place x y parts.0 in
      let here : Contains ((y ∷ []) ∷ []) (y ∷ []) = (0, omega arith, refl) in
      Contains-flat_map_of (over n) (next_to p x d) place.0 y (y ∷ []) place.1 (subst (λ b. Contains (if b then (y ∷ []) ∷ [] else map (λ way. y ∷ way) (ways p d n y)) (y ∷ [])) (sym parts.1) here)
  to-listed (suc n) x (y ∷ z ∷ rest) way short =
      let next = and_parts (contains_section y (next_to p x d)) (not (way_ends_at_section p d y) && is_way p d y (z ∷ rest)) way in
      let on = goes-on p d x y z rest way in
      let place = next-place x y next.0 in
      let here : Contains (map (λ v. y ∷ v) (ways p d n y)) (y ∷ z ∷ rest) = Contains-map y (ways p d n y) (z ∷ rest) (to-listed n y (z ∷ rest) on.1 (omega (arith, short))) in
      Contains-flat_map_of (over n) (next_to p x d) place.0 y (y ∷ z ∷ rest) place.1 (subst (λ b. Contains (if b then (y ∷ []) ∷ [] else map (λ v. y ∷ v) (ways p d n y)) (y ∷ z ∷ rest)) (sym on.0) here)

  pub exactly-ways : (n x : ℕ) (path : List ℕ) → Contains (ways p d n x) path ↔ ((length path ≤ n) × IsWayFromSection p d x path)
  exactly-ways n x path = (from-listed n x path, λ h. let way = h.1 in to-listed n x path (one-by-one x path way.leads way.between way.ends) h.0)

  over-some : (n x : ℕ) → has_unended_path_from p d n x ≡ true → (path : List ℕ) × (length path ≡ n) × IsUnendedPathFrom p d x path
  over-some zero x h = ([], refl, record { leads = refl; between = refl })
  over-some (suc n) x h =
      let found : (k : ℕ) × (y : ℕ) × (slice_get (next_to p x d) k ≡ Some y)
      × ((not (way_ends_at_section p d y) && has_unended_path_from p d n y) ≡ true) = list_any-at (λ y. not (way_ends_at_section p d y) && has_unended_path_from p d n y) (next_to p x d) h in
      let parts = and_parts (not (way_ends_at_section p d found.1)) (has_unended_path_from p d n found.1) found.3 in
      let rest : (path : List ℕ) × (length path ≡ n) × IsUnendedPathFrom p d found.1 path = over-some n found.1 parts.1 in
      let on = rest.2 in
      let count = rest.1 in
      (found.1 ∷ rest.0, omega (arith, count), record { leads = both_true (contains_section-at (next_to p x d) found.0 found.1 found.2) on.leads; between = both_true parts.0 on.between })

  some-over : (n x : ℕ) (path : List ℕ) → length path ≡ n → is_connected_chain p d x path ≡ true → list_all (λ y. not (way_ends_at_section p d y)) path ≡ true → has_unended_path_from p d n x ≡ true
  some-over zero x path count leads free = refl
  some-over (suc n) x [] count leads free = absurd (omega (arith, count))
  some-over (suc n) x (y ∷ path) count leads free =
      let on = and_parts (contains_section y (next_to p x d)) (is_connected_chain p d y path) leads in
      let open_ = and_parts (not (way_ends_at_section p d y)) (list_all (λ v. not (way_ends_at_section p d v)) path) free in
      let place = next-place x y on.0 in
      list_any-from (λ v. not (way_ends_at_section p d v) && has_unended_path_from p d n v) (next_to p x d) place.0 y place.1 (both_true open_.0 (some-over n y path (omega (arith, count)) on.1 open_.1))

  pub exactly-has_unended_path_from : (n x : ℕ) → IsTrue (has_unended_path_from p d n x) ↔ ((path : List ℕ) × (length path ≡ n) × IsUnendedPathFrom p d x path)
  exactly-has_unended_path_from n x = (over-some n x, λ h. let on = h.2 in some-over n x h.0 h.1 on.leads on.between)

  split-at : {X : Type 0} (xs ys : List X) (i : ℕ) (v : X) → slice_get (xs ++ ys) i ≡ Some v → ((i < length xs) × (slice_get xs i ≡ Some v)) ⊎ ((k : ℕ) × (i ≡ length xs + k) × (slice_get ys k ≡ Some v))
  split-at [] ys i v at = let place : i ≡ 0 + i = omega arith in inr (i, place, at)
  split-at (x ∷ xs) ys zero v at = inl (omega arith, at)
  split-at (x ∷ xs) ys (suc i) v at =
      elim (split-at xs ys i v at) [
        | inl e ↦ let less = e.0 in inl (omega (arith, less), e.1)
        | inr e ↦ let place = e.1 in inr (e.0, omega (arith, place), e.2)
      ]

  begins : (n y i : ℕ) (path : List ℕ) → slice_get (over n y) i ≡ Some path → (rest : List ℕ) × (y ∷ rest ≡ path)
  begins n y i path at = by_test (way_ends_at_section p d y) i at
    where
      by_test : (b : Bool) (k : ℕ) → slice_get (if b then (y ∷ []) ∷ [] else map (λ way. y ∷ way) (ways p d n y)) k ≡ Some path → (rest : List ℕ) × (y ∷ rest ≡ path)
      by_test true zero e = ([], cc)
      by_test true (suc k) e = absurd (cc)
      by_test false k e = let found : (rest : List ℕ) × (slice_get (ways p d n y) k ≡ Some rest) × (y ∷ rest ≡ path) = map-at (λ way. y ∷ way) (ways p d n y) k path e in (found.0, found.2)

  over-one : (n x y : ℕ) →
      ((i j : ℕ) (first second : List ℕ) → i < j → slice_get (ways p d n y) i ≡ Some first →
      slice_get (ways p d n y) j ≡ Some second → WaysPartWithFirstOverPlusLeg p d y first second) →
      (i j : ℕ) (first second : List ℕ) → i < j → slice_get (over n y) i ≡ Some first →
      slice_get (over n y) j ≡ Some second → WaysPartWithFirstOverPlusLeg p d x first second
  over-one n x y onward i j first second less at also = by_test (way_ends_at_section p d y) j less at also
    where
      by_test : (b : Bool) (m : ℕ) → i < m →
          slice_get (if b then (y ∷ []) ∷ [] else map (λ way. y ∷ way) (ways p d n y)) i ≡ Some first →
          slice_get (if b then (y ∷ []) ∷ [] else map (λ way. y ∷ way) (ways p d n y)) m ≡ Some second →
          WaysPartWithFirstOverPlusLeg p d x first second
      by_test true zero low e f = absurd (omega (arith, low))
      by_test true (suc m) low e f = absurd (cc)
      by_test false m low e f =
          let one : (rest : List ℕ) × (slice_get (ways p d n y) i ≡ Some rest) × (y ∷ rest ≡ first) = map-at (λ way. y ∷ way) (ways p d n y) i first e in
          let two : (rest : List ℕ) × (slice_get (ways p d n y) m ≡ Some rest) × (y ∷ rest ≡ second) = map-at (λ way. y ∷ way) (ways p d n y) m second f in
          let parts : WaysPartWithFirstOverPlusLeg p d x (y ∷ one.0) (y ∷ two.0) = inr (refl, onward i m one.0 two.0 low one.1 two.1) in
          subst (λ a. WaysPartWithFirstOverPlusLeg p d x a second) one.2 (subst (λ b. WaysPartWithFirstOverPlusLeg p d x (y ∷ one.0) b) two.2 parts)

  over-two : (n x y z : ℕ) → next_to p x d ≡ y ∷ z ∷ [] → (i j : ℕ) (first second : List ℕ) → slice_get (over n y) i ≡ Some first → slice_get (over n z) j ≡ Some second → WaysPartWithFirstOverPlusLeg p d x first second
  over-two n x y z are i j first second at also =
      let one = begins n y i first at in
      let two = begins n z j second also in
      let parts : WaysPartWithFirstOverPlusLeg p d x (y ∷ one.0) (z ∷ two.0) = inl are in
      subst (λ a. WaysPartWithFirstOverPlusLeg p d x a second) one.1 (subst (λ b. WaysPartWithFirstOverPlusLeg p d x (y ∷ one.0) b) two.1 parts)

  in-order-of : (n x : ℕ) (next : List ℕ) → next_to p x d ≡ next → length next ≤ 2 →
      ((y i j : ℕ) (first second : List ℕ) → i < j → slice_get (ways p d n y) i ≡ Some first →
      slice_get (ways p d n y) j ≡ Some second → WaysPartWithFirstOverPlusLeg p d y first second) →
      (i j : ℕ) (first second : List ℕ) → i < j → slice_get (flat_map (over n) next) i ≡ Some first →
      slice_get (flat_map (over n) next) j ≡ Some second → WaysPartWithFirstOverPlusLeg p d x first second
  in-order-of n x [] are few onward i j first second less at also = absurd (cc)
  in-order-of n x (y ∷ []) are few onward i j first second less at also =
      elim (split-at (over n y) [] i first at) [
        | inl e ↦ elim (split-at (over n y) [] j second also) [
          | inl f ↦ over-one n x y (onward y) i j first second less e.1 f.1
          | inr f ↦ (let none = f.2 in absurd (cc))
        ]
        | inr e ↦ (let none = e.2 in absurd (cc))
      ]
  in-order-of n x (y ∷ z ∷ []) are few onward i j first second less at also =
      elim (split-at (over n y) (over n z ++ []) i first at) [
        | inl e ↦ elim (split-at (over n y) (over n z ++ []) j second also) [
          | inl f ↦ over-one n x y (onward y) i j first second less e.1 f.1
          | inr f ↦ elim (split-at (over n z) [] f.0 second f.2) [
            | inl g ↦ over-two n x y z are i f.0 first second e.1 g.1
            | inr g ↦ (let none = g.2 in absurd (cc))
          ]
        ]
        | inr e ↦ elim (split-at (over n y) (over n z ++ []) j second also) [
          | inl f ↦ (let place = e.1 in let low = f.0 in absurd (omega (arith, less, place, low)))
          | inr f ↦ elim (split-at (over n z) [] e.0 first e.2) [
            | inl g ↦ elim (split-at (over n z) [] f.0 second f.2) [
              | inl h ↦ (let one = e.1 in let two = f.1 in over-one n x z (onward z) e.0 f.0 first second (omega (arith, less, one, two)) g.1 h.1)
              | inr h ↦ (let none = h.2 in absurd (cc))
            ]
            | inr g ↦ (let none = g.2 in absurd (cc))
          ]
        ]
      ]
  in-order-of n x (y ∷ z ∷ v ∷ rest) are few onward i j first second less at also = absurd (omega (arith, few))

  few-next : (x : ℕ) → length (next_to p x d) ≤ 2
  few-next x = by_section (slice_get p.sections x) refl
    where
      at-most-one : (o : Option ℕ) → length (option_to_list o) ≤ 2
      at-most-one None = omega arith
      at-most-one (Some y) = omega arith

      few-beside : (section : Section) (e : Dir) → length (neighbours_on section e) ≤ 2
      few-beside (Linear down up board_down board_up) Down = at-most-one down
      few-beside (Linear down up board_down board_up) Up = at-most-one up
      few-beside (Point stem plus minus faces) e = by_test (same_direction faces e)
        where
          by_test : (b : Bool) → length (if b then plus ∷ minus ∷ [] else stem ∷ []) ≤ 2
          by_test true = omega arith
          by_test false = omega arith

      by_section : (o : Option Section) → slice_get p.sections x ≡ o → length (next_to p x d) ≤ 2
      by_section None e = let none : length (next_to p x d) ≡ 0 = rw e refl in omega (arith, none)
      by_section (Some section) e = let few : length (next_to p x d) ≡ length (neighbours_on section d) = rw e refl in omega (arith, few, few-beside section d)

  pub in-order : (n x i j : ℕ) (first second : List ℕ) → i < j → slice_get (ways p d n x) i ≡ Some first → slice_get (ways p d n x) j ≡ Some second → WaysPartWithFirstOverPlusLeg p d x first second
  in-order zero x i j first second less at also = absurd (cc)
  in-order (suc n) x i j first second less at also =
      in-order-of n x (next_to p x d) refl (few-next x) (λ y. in-order n y) i j first second less at also
