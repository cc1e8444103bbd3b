-- Flags of sections and paths, and the conflicts by these flags.
use Rattle.std.proofs.Common.{◌≡◌, ◌≢◌, ℕ, zero, suc, ◌+◌, ◌<◌, Bool, true, false, not, ◌&&◌, ◌==◌, ◌||◌, List, [], ◌∷◌, ◌++◌, filter, get_or, if◌then◌else◌, length, map, replicate, set, take, refl, sym, ◌∙◌, ap, arith, All}
use Rattle.std.specs.List.{range_with_len}
use Rattle.std.proofs.Math.Bool.{or-false}
use Rattle.std.proofs.lemmas.Bool.Decides.{Decides-eqb}
use Rattle.std.proofs.lemmas.List.{get_or-map, get_or-set_other, get_or-set_same, length-map, length-set, take_more}
use Rattle.std.proofs.lemmas.List.Elements.{filter-append}
use Rattle.std.proofs.lemmas.List.Folds.{list_any-append}
use Rattle.std.proofs.lemmas.List.FromFn.{get_or-map-range_with_len, length-map-range_with_len}
use Rattle.ilk_base.proofs.ListTests.{all-at, list_any-alike}
use Rattle.ilk_base.proofs.Lists.{list-ext}
use Rattle.ilk_base.proofs.Ranges.{filter_one, range-more}
use Rattle.ilk_base.proofs.Truth.{or-true}
use Rattle.ilk_plant.specs.Network.{contains_section}
use Rattle.ilk_tablegen.specs.Flags.{any_section_flagged, conflicts_by_flags, path_membership_flags}
use Rattle.ilk_tablegen.specs.Routes.{conflicts_of, paths_share_section}

pub flags-none : (count n : ℕ) → n ≡ count → replicate n false ≡ path_membership_flags count []
flags-none count n e = alike n 0 ∙ ap (λ m. map (λ x. contains_section x []) (range_with_len 0 m)) e
  where
    alike : (m a : ℕ) → replicate m false ≡ map (λ x. contains_section x []) (range_with_len a m)
    alike zero a = refl
    alike (suc m) a = ap (λ l. false ∷ l) (alike m (a + 1))

flag-set : (flags : List Bool) (x y : ℕ) → y < length flags → get_or (set flags x true) y false ≡ (get_or flags y false || (x == y))
flag-set flags x y below = by_test (x == y) refl
  where
    by_test : (b : Bool) → (x == y) ≡ b → get_or (set flags x true) y false ≡ (get_or flags y false || b)
    by_test true e =
        let same : y ≡ x = sym ((Decides-eqb x y).0 e) in
        let within : x < length flags = omega (arith, below, same) in
        ap (λ z. get_or (set flags x true) z false) same ∙ get_or-set_same flags x true false within ∙ sym (or-true (get_or flags y false))
    by_test false e =
        let other : y ≢ x = λ equal. (let wrong : (x == y) ≡ true = (Decides-eqb x y).1 (sym equal) in absurd (cc)) in
        get_or-set_other flags x y true false other ∙ sym (or-false (get_or flags y false))

pub flags-more : (count : ℕ) (path : List ℕ) (i d : ℕ) (flags next : List Bool) → i < length path → flags ≡ path_membership_flags count (take i path) → next ≡ set flags (get_or path i d) true → next ≡ path_membership_flags count (take (i + 1) path)
flags-more count path i d flags next within before after =
    after ∙ ap (λ l. set l (get_or path i d) true) before ∙ list-ext false (set (path_membership_flags count (take i path)) (get_or path i d) true) (path_membership_flags count (take (i + 1) path)) lengths each
  where
    x : ℕ
    x = get_or path i d

    old : List Bool
    old = path_membership_flags count (take i path)

    old-length : length old ≡ count
    old-length = length-map-range_with_len (λ z. contains_section z (take i path)) 0 count

    set-length : length (set old x true) ≡ count
    set-length = length-set old x true ∙ old-length

    lengths : length (set old x true) ≡ length (path_membership_flags count (take (i + 1) path))
    lengths = set-length ∙ sym (length-map-range_with_len (λ z. contains_section z (take (i + 1) path)) 0 count)

    grown : (y : ℕ) → contains_section y (take (i + 1) path) ≡ (contains_section y (take i path) || (x == y))
    grown y =
        ap (contains_section y) (take_more path i d within) ∙ list_any-append (λ z. z == y) (take i path) (x ∷ [])
        ∙ ap (λ t. contains_section y (take i path) || t) (or-false (x == y))

    each : (y : ℕ) → y < length (set old x true) → get_or (set old x true) y false ≡ get_or (path_membership_flags count (take (i + 1) path)) y false
    each y less =
        let below : y < count = omega (arith, less, set-length) in
        let below_old : y < length old = omega (arith, below, old-length) in
        flag-set old x y below_old
        ∙ ap (λ b. b || (x == y)) (get_or-map-range_with_len (λ z. contains_section z (take i path)) 0 count y y false below (omega arith))
        ∙ sym (grown y)
        ∙ sym (get_or-map-range_with_len (λ z. contains_section z (take (i + 1) path)) 0 count y y false below (omega arith))

pub passing-more : (test : ℕ → Bool) (k : ℕ) (b : Bool) (made next : List ℕ) → b ≡ test k → made ≡ filter test (range_with_len 0 k) → next ≡ made ++ (if b then k ∷ [] else []) → next ≡ filter test (range_with_len 0 (k + 1))
passing-more test k b made next tested before after =
    after
    ∙ ap (λ c. made ++ (if c then k ∷ [] else [])) tested
    ∙ ap (λ l. l ++ (if test k then k ∷ [] else [])) before
    ∙ ap (λ l. filter test (range_with_len 0 k) ++ l) (sym (filter_one test k (test k) refl))
    ∙ sym (filter-append test (range_with_len 0 k) (k ∷ []))
    ∙ ap (filter test) (sym (range-more k))

told : (count : ℕ) (path sections : List ℕ) → All (λ x. x < count) sections → any_section_flagged (path_membership_flags count path) sections ≡ paths_share_section sections path
told count path sections within =
    list_any-alike (λ x. get_or (path_membership_flags count path) x false) (λ x. contains_section x path) sections (λ i x at.
    get_or-map-range_with_len (λ z. contains_section z path) 0 count x x false (all-at (λ z. z < count) sections i x within at) (omega arith))

pub conflicts-told : (count n : ℕ) (paths : List (List ℕ)) (path : List ℕ) → All (λ x. x < count) path → conflicts_by_flags (map (path_membership_flags count) paths) n path ≡ conflicts_of paths n path
conflicts-told count n paths path within =
    ap (λ m. filter by_flags (range_with_len 0 m)) (length-map paths (path_membership_flags count)) ∙ filter-alike by_flags by_paths (length paths) each
  where
    by_flags : ℕ → Bool
    by_flags k = not (k == n) && any_section_flagged (get_or (map (path_membership_flags count) paths) k []) path

    by_paths : ℕ → Bool
    by_paths k = not (k == n) && paths_share_section path (get_or paths k [])

    each : (k : ℕ) → k < length paths → by_flags k ≡ by_paths k
    each k less =
        ap (λ b. not (k == n) && b) (ap (λ l. any_section_flagged l path) (get_or-map (path_membership_flags count) paths k [] [] less) ∙ told count (get_or paths k []) path within)

    filter-alike : (f g : ℕ → Bool) (m : ℕ) → ((k : ℕ) → k < m → f k ≡ g k) → filter f (range_with_len 0 m) ≡ filter g (range_with_len 0 m)
    filter-alike f g zero same = refl
    filter-alike f g (suc m) same =
        let next : suc m ≡ m + 1 = omega arith in
        ap (λ v. filter f (range_with_len 0 v)) next
        ∙ ap (filter f) (range-more m) ∙ filter-append f (range_with_len 0 m) (m ∷ [])
        ∙ ap (λ l. l ++ filter f (m ∷ [])) (filter-alike f g m (λ k less. same k (omega (arith, less))))
        ∙ ap (λ l. filter g (range_with_len 0 m) ++ l) (filter_one f m (g m) (same m (omega arith)) ∙ sym (filter_one g m (g m) refl))
        ∙ sym (filter-append g (range_with_len 0 m) (m ∷ [])) ∙ ap (filter g) (sym (range-more m)) ∙ ap (λ v. filter g (range_with_len 0 v)) (sym next)
