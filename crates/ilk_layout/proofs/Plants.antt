-- Bodies in a plant: their sections exist, none is repeated, and each step can be reversed.
use Rattle.std.proofs.Common.{◌≡◌, ℕ, zero, suc, ◌<◌, ◌≤◌, ◌==◌, eqb, true, false, Option, Some, None, List, [], ◌∷◌, length, nat_lt, slice_get, refl, sym, ◌∙◌, ap, arith}
use Rattle.std.specs.List.{AllByRecursion, IsDistinct}
use Rattle.std.proofs.lemmas.Bool.{and_parts, eq-eqb, eqb-true, ne_eqb}
use Rattle.std.proofs.lemmas.Bool.Decides.{nat_tests}
use Rattle.std.proofs.lemmas.Map.Steps.{length-le_from_distinct_below}
use Rattle.std.proofs.lemmas.Option.{cond_some, slice_get_within}
use Rattle.ilk_base.proofs.Once.{EachOnce}
use Rattle.ilk_base.proofs.Options.{bind_some}
use Rattle.ilk_base.proofs.Tested.{list_any-at}
use Rattle.ilk_plant.specs.Network.{neighbours_on, contains_section}
use Rattle.ilk_plant.specs.NetworkRules.{opposite_direction}
use Rattle.ilk_plant.specs.Plant.{IsPlant, PlantLists, next_to}
use Rattle.ilk_plant.specs.Shape.{has_nonempty_connected_body, is_connected_chain}
use Rattle.ilk_plant.specs.Sound.{IsAcyclic}
use Rattle.ilk_plant.specs.declared.network.Dir.{Dir}
use Rattle.ilk_plant.specs.declared.network.Dir.TheVariants.{Up, Down}
use Rattle.ilk_plant.specs.declared.network.Section.{Section}
use Rattle.ilk_plant.specs.declared.network.Section.TheVariants.{Linear, Point}
use Rattle.ilk_plant.specs.declared.state.Lie.{Lie}
use Rattle.ilk_plant.specs.declared.state.Lie.TheVariants.{Plus, Minus, Moving}
use Rattle.ilk_plant.specs.declared.state.Train.{Train}
use Rattle.ilk_plant.proofs.Once.{numbers_differ-places}
use Rattle.ilk_motion.specs.Ahead.{section_led_to}
use Rattle.ilk_layout.specs.Wellformed.{section_ahead, mutual_section_ahead}

pub walk-known : (p : PlantLists) → IsPlant p → (d : Dir) (x : ℕ) (walk : List ℕ) (i y : ℕ) → x < length p.sections → is_connected_chain p d x walk ≡ true → slice_get (x ∷ walk) i ≡ Some y → y < length p.sections
walk-known p plant d x walk zero y within on at = let same : x ≡ y = cc in omega arith
walk-known p plant d x [] (suc i) y within on at = cc
walk-known p plant d x (z ∷ walk) (suc i) y within on at =
    let parts = and_parts (contains_section z (next_to p x d)) (is_connected_chain p d z walk) on in
    walk-known p plant d z walk i y (plant.neighbours x z d parts.0) parts.1 at

pub body-parts : (p : PlantLists) (d : Dir) (x : ℕ) (rest : List ℕ) → has_nonempty_connected_body p (record { dir = d; body = x ∷ rest }) ≡ true → (x < length p.sections) × (is_connected_chain p d x rest ≡ true)
body-parts p d x rest h =
    let parts = and_parts (nat_lt x (length p.sections)) (is_connected_chain p d x rest) h in
    let within : x < length p.sections = (let test = parts.0 in grind (arith, nat_tests)) in
    (within, parts.1)

pub body-known : (p : PlantLists) (train : Train) (i x : ℕ) → IsPlant p → has_nonempty_connected_body p train ≡ true → slice_get train.body i ≡ Some x → x < length p.sections
body-known p train i x plant h at = known train.dir train.body h at
  where
    known : (d : Dir) (body : List ℕ) → has_nonempty_connected_body p (record { dir = d; body = body }) ≡ true → slice_get body i ≡ Some x → x < length p.sections
    known d [] h at = cc
    known d (y ∷ rest) h at =
        let parts = body-parts p d y rest h in walk-known p plant d y rest i x parts.0 parts.1 at

pub body-once : (p : PlantLists) (train : Train) → IsAcyclic p → has_nonempty_connected_body p train ≡ true → EachOnce train.body
body-once p train never h = once train.dir train.body h
  where
    once : (d : Dir) (body : List ℕ) → has_nonempty_connected_body p (record { dir = d; body = body }) ≡ true → EachOnce body
    once d [] h = λ i j v at also. cc
    once d (y ∷ rest) h = numbers_differ-places (y ∷ rest) (never d y rest (body-parts p d y rest h).1)

distinct : (xs : List ℕ) → EachOnce xs → IsDistinct eqb xs
unfolding IsDistinct
distinct [] once = tt
distinct (x ∷ xs) once =
    (others xs (λ j y at. ne_eqb x y (λ e. (let places : zero ≡ suc j = once zero (suc j) y (ap Some e) at in absurd (omega arith)))), distinct xs (λ i k v at also. (let next : suc i ≡ suc k = once (suc i) (suc k) v at also in omega arith)))
  where
    others : (ys : List ℕ) → ((j : ℕ) (y : ℕ) → slice_get ys j ≡ Some y → eqb x y ≡ false) → AllByRecursion (λ y. eqb x y ≡ false) ys
    others [] f = tt
    others (y ∷ ys) f = (f zero y refl, others ys (λ j v at. f (suc j) v at))

few-below : (xs : List ℕ) (n : ℕ) → EachOnce xs → ((i x : ℕ) → slice_get xs i ≡ Some x → x < n) → length xs ≤ n
few-below xs n once below =
    length-le_from_distinct_below xs n (distinct xs once)
    (λ q h.
    (let found : (k : ℕ) × (y : ℕ) × (slice_get xs k ≡ Some y) × (eqb q y ≡ true) = list_any-at
    (eqb q) xs h in
    let same = eqb-true q found.1 found.3 in let less = below found.0 found.1 found.2 in
    omega arith))

pub walk-short : (p : PlantLists) → IsPlant p → IsAcyclic p → (d : Dir) (x : ℕ) (walk : List ℕ) → x < length p.sections → is_connected_chain p d x walk ≡ true → length walk < length p.sections
walk-short p plant never d x walk within on =
    let few = few-below (x ∷ walk) (length p.sections) (numbers_differ-places (x ∷ walk) (never d x walk on)) (λ i y at. walk-known p plant d x walk i y within on at) in
    omega arith

led-neighbours_on : (k : Section) (d : Dir) (lie : Option Lie) (y : ℕ) → section_led_to k d lie ≡ Some y → contains_section y (neighbours_on k d) ≡ true
led-neighbours_on (Linear down up b c) Down lie y e = rw e (grind (arith, nat_tests))
led-neighbours_on (Linear down up b c) Up lie y e = rw e (grind (arith, nat_tests))
led-neighbours_on (Point stem plus minus Up) Up (Some Plus) y e = grind (arith, nat_tests)
led-neighbours_on (Point stem plus minus Up) Up (Some Minus) y e = grind (arith, nat_tests)
led-neighbours_on (Point stem plus minus Up) Up (Some Moving) y e = cc
led-neighbours_on (Point stem plus minus Up) Up None y e = cc
led-neighbours_on (Point stem plus minus Up) Down lie y e = grind (arith, nat_tests)
led-neighbours_on (Point stem plus minus Down) Down (Some Plus) y e = grind (arith, nat_tests)
led-neighbours_on (Point stem plus minus Down) Down (Some Minus) y e = grind (arith, nat_tests)
led-neighbours_on (Point stem plus minus Down) Down (Some Moving) y e = cc
led-neighbours_on (Point stem plus minus Down) Down None y e = cc
led-neighbours_on (Point stem plus minus Down) Up lie y e = grind (arith, nat_tests)

pub ahead-neighbours_on : (p : PlantLists) (lie : ℕ → Option Lie) (x y : ℕ) (d : Dir) → section_ahead p lie x d ≡ Some y → (x < length p.sections) × (contains_section y (next_to p x d) ≡ true)
ahead-neighbours_on p lie x y d e =
    let found = bind_some (slice_get p.sections x) (λ k. section_led_to k d (lie x)) y e in
    (slice_get_within p.sections x found.0 found.1, rw found.1 (led-neighbours_on found.0 d (lie x) y found.2))

pub turned-twice : (d : Dir) → opposite_direction (opposite_direction d) ≡ d
turned-twice Up = refl
turned-twice Down = refl

pub joined-parts : (p : PlantLists) (lie : ℕ → Option Lie) (x y : ℕ) (d : Dir) → mutual_section_ahead p lie x d ≡ Some y → (section_ahead p lie x d ≡ Some y) × (section_ahead p lie y (opposite_direction d) ≡ Some x)
joined-parts p lie x y d e =
    let one = bind_some (section_ahead p lie x d) _ y e in
    let two = bind_some (section_ahead p lie one.0 (opposite_direction d)) _ y one.2 in
    let three = cond_some (two.0 == x) one.0 y two.2 in
    let there : one.0 ≡ y = three.1 in
    let here : two.0 ≡ x = eqb-true two.0 x three.0 in
    (one.1 ∙ ap Some there, ap (λ v. section_ahead p lie v (opposite_direction d)) (sym there) ∙ two.1 ∙ ap Some here)

pub joined-from : (p : PlantLists) (lie : ℕ → Option Lie) (x y : ℕ) (d : Dir) → section_ahead p lie x d ≡ Some y → section_ahead p lie y (opposite_direction d) ≡ Some x → mutual_section_ahead p lie x d ≡ Some y
joined-from p lie x y d there back = let own : (x == x) ≡ true = eq-eqb x x refl in rw (there, back, own) refl

pub joined-back : (p : PlantLists) (lie : ℕ → Option Lie) (x y : ℕ) (d : Dir) → mutual_section_ahead p lie x d ≡ Some y → mutual_section_ahead p lie y (opposite_direction d) ≡ Some x
joined-back p lie x y d e =
    let parts = joined-parts p lie x y d e in
    joined-from p lie y x (opposite_direction d) parts.1 (ap (section_ahead p lie x) (turned-twice d) ∙ parts.0)
