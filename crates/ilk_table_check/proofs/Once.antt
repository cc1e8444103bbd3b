-- Lists of numbers without duplicates: a list of numbers themselves, and two lists together.
use Rattle.std.proofs.Common.{◌≡◌, ℕ, Bool, true, false, not, ◌==◌, ◌&&◌, ◌||◌, List, [], ◌∷◌, ◌++◌, map, refl, sym, ◌∙◌, ap}
use Rattle.std.specs.List.{list_all}
use Rattle.std.proofs.lemmas.List.{map-id}
use Rattle.std.proofs.lemmas.List.Folds.{list_any-append}
use Rattle.ilk_base.specs.Numbers.{has_number}
use Rattle.ilk_plant.specs.Once.{numbers_differ}

pub differ_by_number : (numbers : List ℕ) → numbers_differ (map (λ n. n) numbers) ≡ numbers_differ numbers
differ_by_number numbers = ap numbers_differ (map-id numbers)

-- a: the first occurs later in its list; b: it is in the other list; c, d: the rest of its list and
-- the other list have no duplicates; e: these share none.
first-joins : (a b c d e : Bool) → (not (a || b) && (c && (d && e))) ≡ ((not a && c) && (d && (not b && e)))
first-joins true b c d e = refl
first-joins false true true true e = refl
first-joins false true true false e = refl
first-joins false true false d e = refl
first-joins false false c d e = refl

abbrev share_none : List ℕ → List ℕ → Bool
share_none first second = list_all (λ x. not (has_number x second)) first

joined : (first second : List ℕ) → numbers_differ (first ++ second) ≡ (numbers_differ first && (numbers_differ second && share_none first second))
joined [] second = by_test (numbers_differ second) refl
  where
    by_test : (b : Bool) → numbers_differ second ≡ b → b ≡ (b && true)
    by_test true e = refl
    by_test false e = refl
joined (x ∷ first) second =
    let here : has_number x (first ++ second) ≡ (has_number x first || has_number x second) = list_any-append (λ y. y == x) first second in
    let rest = joined first second in
    (λ i. not (here i) && rest i) ∙ first-joins (has_number x first) (has_number x second) (numbers_differ first) (numbers_differ second) (share_none first second)

pub differ_in_both : (first second : List ℕ) → numbers_differ (first ++ second) ≡ (numbers_differ (map (λ n. n) first) && (numbers_differ (map (λ n. n) second) && list_all (λ x. not (has_number x second)) first))
differ_in_both first second =
    joined first second ∙ (λ i. map-first i && (map-second i && share_none first second))
  where
    map-first : numbers_differ first ≡ numbers_differ (map (λ n. n) first)
    map-first = sym (differ_by_number first)

    map-second : numbers_differ second ≡ numbers_differ (map (λ n. n) second)
    map-second = sym (differ_by_number second)
