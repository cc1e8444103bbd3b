-- The occupancies while trains are added, one section at a time.
use Rattle.std.proofs.Common.{◌≡◌, ℕ, zero, suc, ◌+◌, ◌<◌, ◌≤◌, Bool, true, false, ◌||◌, ◌==◌, Option, Some, None, option_map, List, [], ◌∷◌, ◌++◌, length, map, take, replicate, set, slice_get, get_or, inl, inr, refl, sym, ◌∙◌, ap, subst, arith}
use Rattle.std.specs.List.{range_with_len}
use Rattle.std.proofs.lemmas.Bool.{cases_eq, false_from_ne_true, ne_eqb, eq-eqb}
use Rattle.std.proofs.lemmas.List.{take_all, take_more}
use Rattle.std.proofs.lemmas.List.FromFn.{length-map-range_with_len, length-range_with_len}
use Rattle.std.proofs.lemmas.Option.{slice_get-get_or, slice_get-map, slice_get_past, slice_get_within, get_or_from_slice_get}
use Rattle.std.proofs.Math.Bool.{or-false}
use Rattle.ilk_base.proofs.Lists.{same_by_slice_get, slice_get-set_other, slice_get-set_same}
use Rattle.ilk_base.proofs.Once.{EachOnce}
use Rattle.ilk_base.proofs.Ranges.{below_or_past, range-at}
use Rattle.ilk_plant.specs.Network.{contains_section}
use Rattle.ilk_plant.specs.Plant.{IsPlant, PlantLists}
use Rattle.ilk_plant.specs.Shape.{has_nonempty_connected_body}
use Rattle.ilk_plant.specs.Sound.{IsAcyclic}
use Rattle.ilk_plant.specs.declared.state.State.{State}
use Rattle.ilk_plant.specs.declared.state.Train.{Train}
use Rattle.ilk_plant.proofs.InLists.{section-at}
use Rattle.ilk_model.proofs.SharedSections.{has_more}
use Rattle.ilk_layout.specs.Occupancy.{occupancy_or_crash}
use Rattle.ilk_layout.specs.Standing.{occupancy_after_adding_at_index, section_occupancy_after_adding, AreOccupanciesAfterAdding}
use Rattle.ilk_layout.specs.declared.values.Occupancy.{Occupancy}
use Rattle.ilk_layout.specs.declared.values.Occupancy.TheVariants.{Vacant}
use Rattle.ilk_layout.proofs.Bodies.{first-at, last-at}
use Rattle.ilk_layout.proofs.Plants.{body-known, body-once}
use Rattle.ilk_layout.proofs.Trains.{occupancy-more, with_trains, wrong-at, wrong-none}

taken-at : (xs : List ℕ) (n j x : ℕ) → slice_get (take n xs) j ≡ Some x → (slice_get xs j ≡ Some x) × (j < n)
taken-at [] zero j x at = cc
taken-at [] (suc n) j x at = cc
taken-at (y ∷ xs) zero j x at = cc
taken-at (y ∷ xs) (suc n) zero x at = (at, omega arith)
taken-at (y ∷ xs) (suc n) (suc j) x at = let rest = taken-at xs n j x at in (rest.0, omega (arith, rest.1))

not-yet : (body : List ℕ) (i x : ℕ) → EachOnce body → slice_get body i ≡ Some x → contains_section x (take i body) ≡ false
not-yet body i x once at =
    false_from_ne_true (contains_section x (take i body)) (λ h.
    let there = section-at x (take i body) h in
    let found = taken-at body i there.0 x there.1 in
    let places : there.0 ≡ i = once there.0 i x found.0 at in
    absurd (omega (arith, places, found.1)))

pub begun : (p : PlantLists) (s : State) (train : Train) (before : List Occupancy) → AreOccupanciesAfterAdding p s train (take 0 train.body) before before
begun p s train before x = same train.body (slice_get before x)
  where
    same : (body : List ℕ) (o : Option Occupancy) → o ≡ option_map (section_occupancy_after_adding p s train (take 0 body) x) o
    same [] None = refl
    same (y ∷ body) None = refl
    same [] (Some u) = refl
    same (y ∷ body) (Some u) = refl

gone_same : (p : PlantLists) (s : State) (train : Train) (g h : List ℕ) (y : ℕ) → contains_section y g ≡ contains_section y h → (o : Option Occupancy) → option_map (section_occupancy_after_adding p s train
    g y) o ≡ option_map (section_occupancy_after_adding p s train h y) o
gone_same p s train g h y same None = refl
gone_same p s train g h y same (Some u) = rw same refl

pub gone_on :
    (p : PlantLists) (s : State) (train : Train) (i x : ℕ) (u : Occupancy) (before now : List Occupancy) →
    EachOnce train.body → slice_get train.body i ≡ Some x → slice_get now x ≡ Some u →
    AreOccupanciesAfterAdding p s train (take i train.body) before now →
    AreOccupanciesAfterAdding p s train (take (i + 1) train.body) before (set now x (occupancy_after_adding_at_index p s train x i u))
gone_on p s train i x u before now once at here with_front y =
    elim (cases_eq x y) [
      | inl same ↦
          (let P : ℕ → Type 0 = λ v. slice_get (set now x (occupancy_after_adding_at_index p s train x i u)) v ≡ option_map (section_occupancy_after_adding p s train (take (i + 1) train.body) v) (slice_get before v) in
          subst P same (slice_get-set_same now x (occupancy_after_adding_at_index p s train x i u) (slice_get_within now x u here) ∙ mine (slice_get before x) (sym here ∙ with_front x)))
      | inr other ↦
          slice_get-set_other now x y (occupancy_after_adding_at_index p s train x i u) other ∙ with_front y
          ∙ sym (let same : contains_section y (take (i + 1) train.body) ≡ contains_section y (take i train.body) =
          has_more y train.body i x (slice_get_within train.body i x at)
          ∙ (let differs : (get_or train.body i x == y) ≡ false = ap (λ v. v == y) (get_or_from_slice_get train.body i x x at) ∙ ne_eqb x y other in ap (λ b. contains_section y (take i train.body) || b) differs)
          ∙ or-false (contains_section y (take i train.body)) in
          gone_same p s train (take (i + 1) train.body) (take i train.body) y same (slice_get before y))
    ]
  where
    has : contains_section x (take (i + 1) train.body) ≡ true
    has =
        has_more x train.body i x (slice_get_within train.body i x at)
        ∙ (let equal : (get_or train.body i x == x) ≡ true = ap (λ v. v == x) (get_or_from_slice_get train.body i x x at) ∙ eq-eqb x x refl in ap (λ b. contains_section x (take i train.body) || b) equal)
        ∙ or_true (contains_section x (take i train.body))
      where
        or_true : (b : Bool) → (b || true) ≡ true
        or_true true = refl
        or_true false = refl

    mine : (o : Option Occupancy) → Some u ≡ option_map (section_occupancy_after_adding p s train (take i train.body) x) o → Some (occupancy_after_adding_at_index p s train x i u) ≡ option_map (section_occupancy_after_adding p s
        train (take (i + 1) train.body) x) o
    mine None e = cc
    mine (Some w) e =
        let none : contains_section x (take i train.body) ≡ false = not-yet train.body i x once at in
        let same : u ≡ w = (let now_is : Some u ≡ Some w = rw none at e in cc) in
        let first = first-at train.body i x once at in
        let last = last-at train.body i x once at in
        let wrong = wrong-at p s train.body i x once at in
        rw (has, first, last, wrong) (ap (λ v. Some (occupancy_after_adding_at_index p s train x i v)) same)

pub train_added : (p : PlantLists) (s : State) (ts : List Train) (t : Train) (before now : List Occupancy) →
    before ≡ map (occupancy_or_crash p (with_trains s ts)) (range_with_len 0 (length p.sections)) →
    AreOccupanciesAfterAdding p s t t.body before now →
    now ≡ map (occupancy_or_crash p (with_trains s (ts ++ t ∷ []))) (range_with_len 0 (length p.sections))
train_added p s ts t before now is added = same_by_slice_get now (map (occupancy_or_crash p (with_trains s (ts ++ t ∷ []))) (range_with_len 0 (length p.sections))) at
  where
    f : ℕ → Occupancy
    f x = occupancy_or_crash p (with_trains s ts) x

    at : (x : ℕ) → slice_get now x ≡ slice_get (map (occupancy_or_crash p (with_trains s (ts ++ t ∷ []))) (range_with_len 0 (length p.sections))) x
    at x =
        added x ∙ ap (λ l. option_map (section_occupancy_after_adding p s t t.body x) (slice_get l x)) is
        ∙ ap (option_map (section_occupancy_after_adding p s t t.body x)) (slice_get-map (occupancy_or_crash p (with_trains s ts)) (range_with_len 0 (length p.sections)) x)
        ∙ elim (below_or_past x (length p.sections)) [
          | inl below ↦ (let number = range-at (length p.sections) x below in
              ap
              (λ o. option_map (section_occupancy_after_adding p s t t.body x)
              (option_map (occupancy_or_crash p (with_trains s ts)) o)) number
              ∙ ap Some (sym (occupancy-more p s ts t x))
              ∙ sym
              (slice_get-map (occupancy_or_crash p (with_trains s (ts ++ t ∷ [])))
              (range_with_len 0 (length p.sections)) x
              ∙ ap (option_map (occupancy_or_crash p (with_trains s (ts ++ t ∷ [])))) number))
          | inr past ↦ (let none : slice_get (range_with_len 0 (length p.sections)) x ≡ None = slice_get_past (range_with_len 0 (length p.sections)) x (let long = length-range_with_len 0 (length p.sections) in omega arith) in
              ap
              (λ o. option_map (section_occupancy_after_adding p s t t.body x)
              (option_map (occupancy_or_crash p (with_trains s ts)) o)) none
              ∙ sym
              (slice_get-map (occupancy_or_crash p (with_trains s (ts ++ t ∷ [])))
              (range_with_len 0 (length p.sections)) x
              ∙ ap (option_map (occupancy_or_crash p (with_trains s (ts ++ t ∷ [])))) none))
        ]

pub section_at : (p : PlantLists) (train : Train) (i : ℕ) (items : List ℕ) → IsPlant p → has_nonempty_connected_body p train ≡ true → items ≡ train.body → i < length items
    → (get_or items i 0 < length p.sections) × (slice_get train.body i ≡ Some (get_or items i 0))
section_at p train i items plant h is within =
    let at : slice_get train.body i ≡ Some (get_or items i 0) = ap (λ l. slice_get l i) (sym is) ∙ slice_get-get_or items i 0 within in
    (body-known p train i (get_or items i 0) plant h at, at)

pub section_known : (p : PlantLists) (train : Train) (i : ℕ) (items : List ℕ) → IsPlant p → has_nonempty_connected_body p train ≡ true → items ≡ train.body → i < length items → get_or train.body i 0 < length p.sections
section_known p train i items plant h is within =
    let P : List ℕ → Type 0 = λ l. get_or l i 0 < length p.sections in
    subst P is (section_at p train i items plant h is within).0

pub put_on :
    (p : PlantLists) (s : State) (train : Train) (i : ℕ) (items : List ℕ) (u v : Occupancy)
    (before now : List Occupancy) → IsPlant p → IsAcyclic p →
    has_nonempty_connected_body p train ≡ true → items ≡ train.body → i < length items →
    slice_get now (get_or items i 0) ≡ Some u → v ≡ occupancy_after_adding_at_index p s train (get_or train.body i 0) i u →
    AreOccupanciesAfterAdding p s train (take i train.body) before now →
    AreOccupanciesAfterAdding p s train (take (i + 1) train.body) before (set now (get_or items i 0) v)
put_on p s train i items u v before now plant never h is within here after with_front =
    let x = get_or items i 0 in
    let at : slice_get train.body i ≡ Some x = (section_at p train i items plant h is within).1 in
    let same : v ≡ occupancy_after_adding_at_index p s train x i u = after ∙ ap (λ l. occupancy_after_adding_at_index p s train (get_or l i 0) i u) (sym is) in
    let P : Occupancy → Type 0 = λ w. AreOccupanciesAfterAdding p s train (take (i + 1) train.body) before (set now x w) in
    subst P (sym same) (gone_on p s train i x u before now (body-once p train never h) at here with_front)

pub next_added :
    (p : PlantLists) (s : State) (trains : List Train) (i : ℕ) (t : Train) (before now : List Occupancy) →
    i < length trains → t ≡ get_or trains i t →
    before ≡ map (occupancy_or_crash p (with_trains s (take i trains))) (range_with_len 0 (length p.sections)) →
    AreOccupanciesAfterAdding p s t t.body before now →
    now ≡ map (occupancy_or_crash p (with_trains s (take (i + 1) trains))) (range_with_len 0 (length p.sections))
next_added p s trains i t before now within at is added =
    let front : take (i + 1) trains ≡ take i trains ++ t ∷ [] = take_more trains i t within ∙ ap (λ u. take i trains ++ u ∷ []) (sym at) in
    train_added p s (take i trains) t before now is added ∙ ap (λ ts. map (occupancy_or_crash p (with_trains s ts)) (range_with_len 0 (length p.sections))) (sym front)

pub all_added : (p : PlantLists) (s : State) (trains : List Train) (i : ℕ) (now : List Occupancy) →
    length trains ≤ i → trains ≡ s.trains →
    now ≡ map (occupancy_or_crash p (with_trains s (take i trains))) (range_with_len 0 (length p.sections)) →
    now ≡ map (occupancy_or_crash p s) (range_with_len 0 (length p.sections))
all_added p s trains i now past is made =
    made ∙ ap (λ ts. map (occupancy_or_crash p (with_trains s ts)) (range_with_len 0 (length p.sections))) (take_all i trains past ∙ is)

pub none_added : (p : PlantLists) (s : State) (trains : List Train) (n : ℕ) (made : List Occupancy) →
    n ≡ length p.sections → made ≡ replicate n Vacant →
    made ≡ map (occupancy_or_crash p (with_trains s (take 0 trains))) (range_with_len 0 (length p.sections))
none_added p s trains n made is e =
    e ∙ ap (λ k. replicate k Vacant) is ∙ all 0 (length p.sections)
    ∙ ap (λ ts. map (occupancy_or_crash p (with_trains s ts)) (range_with_len 0 (length p.sections))) (sym (take_none trains))
  where
    take_none : (ts : List Train) → take 0 ts ≡ []
    take_none [] = refl
    take_none (t ∷ ts) = refl

    vacant_at : (x : ℕ) → Vacant ≡ occupancy_or_crash p (with_trains s []) x
    vacant_at x = rw (wrong-none p s [] x refl) refl

    all : (a m : ℕ) → replicate m Vacant ≡ map (occupancy_or_crash p (with_trains s [])) (range_with_len a m)
    all a zero = refl
    all a (suc m) = rw (all (a + 1) m) (ap (λ u. u ∷ map (occupancy_or_crash p (with_trains s [])) (range_with_len (a + 1) m)) (vacant_at a))

pub as_many : (p : PlantLists) (f : ℕ → Occupancy) (made : List Occupancy) → made ≡ map f (range_with_len 0 (length p.sections)) → length made ≡ length p.sections
as_many p f made is = ap length is ∙ length-map-range_with_len f 0 (length p.sections)
