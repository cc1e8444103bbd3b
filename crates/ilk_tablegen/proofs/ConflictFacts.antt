-- The conflicts of a path are other numbers, without duplicates, and mutual.
use Rattle.std.proofs.Common.{◌≡◌, ℕ, zero, suc, ◌+◌, ◌<◌, ◌≤◌, Bool, true, false, not, ◌&&◌, ◌||◌, ◌==◌, cond, Some, List, [], ◌∷◌, filter, get_or, length, nat_lt, slice_get, refl, sym, ◌∙◌, ap, arith}
use Rattle.std.specs.List.{list_all, range_with_len}
use Rattle.std.specs.Cmp.Derive.{both_true}
use Rattle.std.proofs.lemmas.Bool.{and_parts, eq-eqb, eqb-true, or_left}
use Rattle.std.proofs.lemmas.Bool.Decides.{nat_tests}
use Rattle.std.proofs.lemmas.List.FromFn.{length-range_with_len}
use Rattle.ilk_base.proofs.Ranges.{passing_within, range-at}
use Rattle.ilk_base.proofs.Tested.{all-pass, list_any-at, list_any-from}
use Rattle.ilk_base.proofs.Truth.{or-true, same_truth}
use Rattle.ilk_plant.specs.Network.{contains_section}
use Rattle.ilk_plant.specs.Once.{numbers_differ}
use Rattle.ilk_tablegen.specs.Routes.{conflicts_of, paths_share_section}

shared-back : (path other : List ℕ) → paths_share_section path other ≡ true → paths_share_section other path ≡ true
shared-back path other h =
    let here : (k : ℕ) × (x : ℕ) × (slice_get path k ≡ Some x) × (contains_section x other ≡ true) = list_any-at (λ x. contains_section x other) path h in
    let there : (j : ℕ) × (y : ℕ) × (slice_get other j ≡ Some y) × ((y == here.1) ≡ true) = list_any-at (λ y. y == here.1) other here.3 in
    let same : there.1 ≡ here.1 = eqb-true there.1 here.1 there.3 in
    list_any-from (λ y. contains_section y path) other there.0 there.1 there.2 (list_any-from (λ z. z == there.1) path here.0 here.1 here.2 (eq-eqb here.1 there.1 (sym same)))

pub shared-either : (path other : List ℕ) → paths_share_section path other ≡ paths_share_section other path
shared-either path other = same_truth (paths_share_section path other) (paths_share_section other path) (shared-back path other) (shared-back other path)

pub filter-passes : (test : ℕ → Bool) (xs : List ℕ) (i x : ℕ) → slice_get (filter test xs) i ≡ Some x → test x ≡ true
filter-passes test [] i x at = absurd (cc)
filter-passes test (y ∷ xs) i x at = by_test (test y) refl i at (λ j. filter-passes test xs j x)
  where
    by_test : (b : Bool) → test y ≡ b → (k : ℕ) → slice_get (cond b (y ∷ filter test xs) (filter test xs)) k ≡ Some x → ((j : ℕ) → slice_get (filter test xs) j ≡ Some x → test x ≡ true) → test x ≡ true
    by_test true e zero here later = let same : y ≡ x = cc in ap test (sym same) ∙ e
    by_test true e (suc k) here later = later k here
    by_test false e k here later = later k here

pub filter-keeps : (test : ℕ → Bool) (xs : List ℕ) (i x : ℕ) → slice_get xs i ≡ Some x → test x ≡ true → contains_section x (filter test xs) ≡ true
filter-keeps test [] i x at passes = absurd (cc)
filter-keeps test (y ∷ xs) zero x at passes =
    let same : y ≡ x = cc in
    let here : test y ≡ true = ap test same ∙ passes in
    ap (λ b. contains_section x (cond b (y ∷ filter test xs) (filter test xs))) here ∙ or_left (y == x) (contains_section x (filter test xs)) (eq-eqb y x same)
filter-keeps test (y ∷ xs) (suc i) x at passes = by_test (test y) (filter-keeps test xs i x at passes)
  where
    by_test : (b : Bool) → contains_section x (filter test xs) ≡ true → contains_section x (cond b (y ∷ filter test xs) (filter test xs)) ≡ true
    by_test true later = ap (λ c. (y == x) || c) later ∙ or-true (y == x)
    by_test false later = later

pub in-passing : (test : ℕ → Bool) (m j : ℕ) → contains_section j (filter test (range_with_len 0 m)) ≡ true → (j < m) × (test j ≡ true)
in-passing test m j h =
    let found : (k : ℕ) × (x : ℕ) × (slice_get (filter test (range_with_len 0 m)) k ≡ Some x) × ((x == j) ≡ true) = list_any-at (λ x. x == j) (filter test (range_with_len 0 m)) h in
    let same : found.1 ≡ j = eqb-true found.1 j found.3 in
    let below : found.1 < 0 + m = passing_within test 0 m found.0 found.1 found.2 in
    (omega (arith, same, below), ap test (sym same) ∙ filter-passes test (range_with_len 0 m) found.0 found.1 found.2)

pub among-passing : (test : ℕ → Bool) (m j : ℕ) → j < m → test j ≡ true → contains_section j (filter test (range_with_len 0 m)) ≡ true
among-passing test m j less passes = filter-keeps test (range_with_len 0 m) j j (range-at m j less) passes

none-low : (test : ℕ → Bool) (a b m : ℕ) → a < b → contains_section a (filter test (range_with_len b m)) ≡ false
none-low test a b zero less = refl
none-low test a b (suc m) less = by_test (test b) (none-low test a (b + 1) m (omega (arith, less)))
  where
    other : (b == a) ≡ false
    other = grind (arith, nat_tests)

    by_test : (c : Bool) → contains_section a (filter test (range_with_len (b + 1) m)) ≡ false → contains_section a (cond c (b ∷ filter test (range_with_len (b + 1) m)) (filter test (range_with_len (b + 1) m))) ≡ false
    by_test true later = ap (λ c. c || contains_section a (filter test (range_with_len (b + 1) m))) other ∙ later
    by_test false later = later

pub passing-once : (test : ℕ → Bool) (a m : ℕ) → numbers_differ (filter test (range_with_len a m)) ≡ true
passing-once test a zero = refl
passing-once test a (suc m) = by_test (test a) (none-low test a (a + 1) m (omega arith)) (passing-once test (a + 1) m)
  where
    by_test : (c : Bool) → contains_section a (filter test (range_with_len (a + 1) m)) ≡ false →
        numbers_differ (filter test (range_with_len (a + 1) m)) ≡ true →
        numbers_differ
        (cond c (a ∷ filter test (range_with_len (a + 1) m)) (filter test (range_with_len (a + 1) m)))
        ≡ true
    by_test true fresh later = both_true (ap not fresh) later
    by_test false fresh later = later

filter-short : (test : ℕ → Bool) (xs : List ℕ) → length (filter test xs) ≤ length xs
filter-short test [] = omega arith
filter-short test (x ∷ xs) = by_test (test x) (filter-short test xs)
  where
    by_test : (b : Bool) → length (filter test xs) ≤ length xs → length (cond b (x ∷ filter test xs) (filter test xs)) ≤ length (x ∷ xs)
    by_test true later = omega (arith, later)
    by_test false later = omega (arith, later)

abbrev pub conflicts_with : List (List ℕ) → ℕ → List ℕ → ℕ → Bool
conflicts_with paths n path k = not (k == n) && paths_share_section path (get_or paths k [])

pub conflicts-few : (paths : List (List ℕ)) (n : ℕ) (path : List ℕ) → length (conflicts_of paths n path) ≤ length paths
conflicts-few paths n path =
    let short = filter-short (conflicts_with paths n path) (range_with_len 0 (length paths)) in
    omega (arith, short, length-range_with_len 0 (length paths))

pub conflicts-other : (paths : List (List ℕ)) (n : ℕ) (path : List ℕ) (m : ℕ) → m ≡ length paths → list_all (λ k. nat_lt k m && not (k == n)) (conflicts_of paths n path) ≡ true
conflicts-other paths n path m count =
    all-pass (λ k. nat_lt k m && not (k == n)) (conflicts_of paths n path)
    (λ i k at. both_true (below k i at)
    (and_parts (not (k == n)) (paths_share_section path (get_or paths k []))
    (filter-passes (conflicts_with paths n path) (range_with_len 0 (length paths)) i k at)).0)
  where
    below : (k i : ℕ) → slice_get (conflicts_of paths n path) i ≡ Some k → nat_lt k m ≡ true
    below k i at =
        let less : k < 0 + length paths = passing_within (conflicts_with paths n path) 0 (length paths) i k at in
        let within : k < m = omega (arith, less, count) in
        grind (arith, nat_tests, within)
