-- No two routes hold the same section if and only if no section of the plant is held twice.
use Rattle.std.proofs.Common.{◌≡◌, ℕ, zero, suc, ◌+◌, ◌-◌, ◌<◌, ◌≤◌, Bool, true, false, ◌==◌, ◌&&◌, ◌||◌, not, cond, List, [], ◌∷◌, ◌++◌, inl, inr, count_by, drop, length, nat_le, refl, sym, ap, ◌∙◌, arith}
use Rattle.std.specs.List.{enumerate_from, list_all, list_any, range_with_len}
use Rattle.std.proofs.Math.Seq.{drop-nil}
use Rattle.std.proofs.lemmas.Bool.{and_from, both_ways, cases_Bool, cases_eq, cases_lt, false_from_ne_true, not_from_false, or_left, or_right}
use Rattle.std.proofs.lemmas.Bool.Decides.{nat_tests}
use Rattle.std.proofs.lemmas.List.Folds.{list_any-append}
use Rattle.std.proofs.lemmas.List.Sums.{sum_by-append, sum_by-cons}
use Rattle.ilk_base.proofs.Ranges.{below_or_past, range-at, range-suc}
use Rattle.ilk_base.proofs.Tested.{list_all-slice_get}
use Rattle.ilk_base.proofs.Truth.{either, same_truth}
use Rattle.ilk_base.specs.Each.{is_true_for_all_below}
use Rattle.ilk_plant.specs.Network.{contains_section}
use Rattle.ilk_plant.specs.Plant.{PlantLists}
use Rattle.ilk_plant.specs.TableRules.{protecting_points_of}
use Rattle.ilk_plant.specs.declared.state.RouteState.{RouteState}
use Rattle.ilk_plant.specs.declared.state.State.{State}
use Rattle.ilk_plant.specs.declared.table.Route.{Route}
use Rattle.ilk_routes.specs.Claims.{sections_outside_path}
use Rattle.ilk_model.specs.Families.{meets_v2_sections_held_once}
use Rattle.ilk_model.specs.Holding.{holds_section, is_holding_state, is_unreleased_on_path, route_holds}
use Rattle.ilk_model.specs.Shared.{is_held_by_two_routes, is_in_shared_sections}
use Rattle.ilk_model.specs.declared.shared.SharedSections.{SharedSections}

pub kept_from : (rel x k : ℕ) (path : List ℕ) → list_any (λ place. nat_le rel place.0 && (place.1 == x)) (enumerate_from k path) ≡ list_any (λ y. y == x) (drop (rel - k) path)
kept_from rel x k [] = sym (ap (list_any (λ y. y == x)) (drop-nil (rel - k)))
kept_from rel x k (y ∷ path) = elim (below_or_past k rel) [
  | inl given_back ↦
      (let test : nat_le rel k ≡ false = grind (arith, nat_tests) in
      let rest : rel - k ≡ suc (rel - (k + 1)) = omega (arith, given_back) in
      rw (test, rest) (kept_from rel x (k + 1) path))
  | inr kept ↦
      (let test : nat_le rel k ≡ true = grind (arith, nat_tests) in
      let here : rel - k ≡ 0 = omega (arith, kept) in
      let rest : rel - (k + 1) ≡ 0 = omega (arith, kept) in
      rw (test, here) (ap (λ b. (y == x) || b) (kept_from rel x (k + 1) path ∙ ap (λ n. list_any (λ z. z == x) (drop n path)) rest)))
]

pub held_parts : (route : Route) (now : RouteState) (x : ℕ) → is_holding_state now ≡ true → holds_section x route now ≡ ((contains_section x route.overlap || contains_section x (protecting_points_of route)) || contains_section x
    (drop now.rel route.path))
held_parts route now x holds =
    let beside : contains_section x (sections_outside_path route) ≡ (contains_section x route.overlap || contains_section x (protecting_points_of route)) = list_any-append (λ y. y == x) route.overlap (protecting_points_of route) in
    let whole : now.rel - 0 ≡ now.rel = omega arith in
    let kept : is_unreleased_on_path route now x ≡ contains_section x (drop now.rel route.path) = kept_from now.rel x 0 route.path ∙ ap (λ n. contains_section x (drop n route.path)) whole in
    ap (λ b. b && (contains_section x (sections_outside_path route) || is_unreleased_on_path route now x)) holds
    ∙ ap (λ b. b || is_unreleased_on_path route now x) beside
    ∙ ap (λ b. (contains_section x route.overlap || contains_section x (protecting_points_of route)) || b) kept

module _ (test : ℕ → Bool) where
  count_more : (n : ℕ) → count_by test (range_with_len 0 (suc n)) ≡ count_by test (range_with_len 0 n) + cond (test n) 1 0
  count_more n =
      let same : 0 + n ≡ n = omega arith in
      let step = sum_by-append (λ r. cond (test r) 1 0) (range_with_len 0 n) (n ∷ []) in
      let one = sum_by-cons (λ r. cond (test r) 1 0) n [] in
      ap (count_by test) (range-suc 0 n ∙ ap (λ m. range_with_len 0 n ++ m ∷ []) same) ∙ omega (arith, step, one)

  some_counted : (n r : ℕ) → r < n → test r ≡ true → 0 < count_by test (range_with_len 0 n)
  some_counted zero r below passes = absurd (omega (arith, below))
  some_counted (suc n) r below passes =
      let step = count_more n in
      elim (below_or_past r n) [
        | inl earlier ↦ (let before = some_counted n r earlier passes in omega (arith, step, before))
        | inr here ↦
            (let same : n ≡ r = omega (arith, here, below) in
            let one : ◌≡◌ {A = ℕ} (cond (test n) 1 0) 1 = ap (λ b. cond b 1 0) (ap test same ∙ passes) in
            omega (arith, step, one))
      ]

  two_counted : (n q r : ℕ) → q < r → r < n → test q ≡ true → test r ≡ true → 1 < count_by test (range_with_len 0 n)
  two_counted zero q r order below first second = absurd (omega (arith, below))
  two_counted (suc n) q r order below first second =
      let step = count_more n in
      elim (below_or_past r n) [
        | inl earlier ↦ (let before = two_counted n q r order earlier first second in omega (arith, step, before))
        | inr here ↦
            (let same : n ≡ r = omega (arith, here, below) in
            let one : ◌≡◌ {A = ℕ} (cond (test n) 1 0) 1 = ap (λ b. cond b 1 0) (ap test same ∙ second) in
            let before = some_counted n q (omega (arith, order, same)) first in
            omega (arith, step, one, before))
      ]

  none_counted : (n : ℕ) → ((r : ℕ) → r < n → test r ≡ false) → count_by test (range_with_len 0 n) ≡ 0
  none_counted zero none = refl
  none_counted (suc n) none =
      let step = count_more n in
      let here : ◌≡◌ {A = ℕ} (cond (test n) 1 0) 0 = ap (λ b. cond b 1 0) (none n (omega arith)) in
      let before = none_counted n (λ r below. none r (omega (arith, below))) in
      omega (arith, step, here, before)

  few_counted : (n : ℕ) → ((q r : ℕ) → q < r → r < n → test q ≡ true → test r ≡ true → ⊥) → count_by test (range_with_len 0 n) ≤ 1
  few_counted zero apart = omega arith
  few_counted (suc n) apart =
      let step = count_more n in
      elim (cases_Bool (test n)) [
        | inl passes ↦
            (let here : ◌≡◌ {A = ℕ} (cond (test n) 1 0) 1 = ap (λ b. cond b 1 0) passes in
            let before = none_counted n (λ r below. false_from_ne_true (test r) (λ other. apart r n below (omega arith) other passes)) in
            omega (arith, step, here, before))
        | inr fails ↦
            (let here : ◌≡◌ {A = ℕ} (cond (test n) 1 0) 0 = ap (λ b. cond b 1 0) fails in
            let before = few_counted n (λ q r order below. apart q r order (omega (arith, below))) in
            omega (arith, step, here, before))
      ]

  below-at : (n x : ℕ) → is_true_for_all_below n test ≡ true → x < n → test x ≡ true
  below-at n x each within = list_all-slice_get test (range_with_len 0 n) x x each (range-at n x within)

  each-from : (a n : ℕ) → ((x : ℕ) → x < a + n → test x ≡ true) → list_all test (range_with_len a n) ≡ true
  each-from a zero each = refl
  each-from a (suc n) each =
      and_from (test a) (list_all test (range_with_len (a + 1) n)) (each a (omega arith)) (each-from (a + 1) n (λ x within. each x (omega (arith, within))))

  each-below : (n : ℕ) → ((x : ℕ) → x < n → test x ≡ true) → is_true_for_all_below n test ≡ true
  each-below n each = each-from 0 n (λ x within. each x (omega (arith, within)))

not_both : (a b : Bool) → (a ≡ true → b ≡ true → ⊥) → not (a && b) ≡ true
not_both true true apart = absurd (apart refl refl)
not_both true false apart = refl
not_both false b apart = refl

one_alone : (a b : Bool) → not (a && b) ≡ true → a ≡ true → b ≡ true → ⊥
one_alone true true h e f = both_ways true (sym h) refl
one_alone true false h e f = both_ways false refl f
one_alone false b h e f = both_ways false refl e

module _ (p : PlantLists) (s : State) (shared : SharedSections) (exact : (x : ℕ) → x < length p.sections → is_in_shared_sections shared x ≡ is_held_by_two_routes p s x) where
  abbrev holds : ℕ → ℕ → Bool
  holds x r = route_holds p s r x

  abbrev hold_nothing_together : ℕ → ℕ → Bool
  hold_nothing_together r q = is_true_for_all_below (length p.sections) (λ x. not (route_holds p s r x && route_holds p s q x))

  abbrev are_apart : ℕ → ℕ → Bool
  are_apart r q = r == q || hold_nothing_together r q

  alone : (x r q : ℕ) → is_true_for_all_below (length p.sections) (λ y. not (is_in_shared_sections shared y)) ≡ true → x < length p.sections → r < q → q < length p.routes → holds x r ≡ true → holds x q ≡ true → ⊥
  alone x r q none within order below first second =
      let test : not (is_in_shared_sections shared x) ≡ true = below-at (λ y. not (is_in_shared_sections shared y)) (length p.sections) x none within in
      let twice = two_counted (holds x) (length p.routes) r q order below first second in
      let more : is_held_by_two_routes p s x ≡ true = grind (arith, nat_tests, twice) in
      both_ways (not (is_in_shared_sections shared x)) (ap not (exact x within ∙ more)) test

  apart : is_true_for_all_below (length p.sections) (λ y. not (is_in_shared_sections shared y)) ≡ true → (r q : ℕ) → r < length p.routes → q < length p.routes → are_apart r q ≡ true
  apart none r q here there = elim (cases_eq r q) [
    | inl same ↦ or_left (r == q) (hold_nothing_together r q) (let test : (r == q) ≡ true = grind (arith, nat_tests, same) in test)
    | inr differ ↦ or_right (r == q) (hold_nothing_together r q)
        (each-below (λ x. not (route_holds p s r x && route_holds p s q x)) (length p.sections)
        (λ x within. not_both (route_holds p s r x) (route_holds p s q x)
        (λ first second. clash x within first second differ)))
  ]
    where
      by_order : q ≤ r → (r ≡ q → ⊥) → q < r
      by_order more differ = omega (arith, more, differ)

      clash : (x : ℕ) → x < length p.sections → route_holds p s r x ≡ true → route_holds p s q x ≡ true → (r ≡ q → ⊥) → ⊥
      clash x within first second differ = elim (cases_lt r q) [
        | inl less ↦ alone x r q none within less there first second
        | inr more ↦ alone x q r none within (by_order more differ) here second first
      ]

  none : meets_v2_sections_held_once p s ≡ true → (x : ℕ) → x < length p.sections → not (is_in_shared_sections shared x) ≡ true
  none kept x within =
      let few = few_counted (holds x) (length p.routes) (λ q r order below first second. pair q r order below first second) in
      let test : is_held_by_two_routes p s x ≡ false = grind (arith, nat_tests, few) in
      not_from_false (is_in_shared_sections shared x) (exact x within ∙ test)
    where
      pair : (q r : ℕ) → q < r → r < length p.routes → holds x q ≡ true → holds x r ≡ true → ⊥
      pair q r order below first second =
          let row : is_true_for_all_below (length p.routes) (are_apart q) ≡ true = below-at (λ a. is_true_for_all_below (length p.routes) (are_apart a)) (length p.routes) q kept (omega (arith, order, below)) in
          let cell : are_apart q r ≡ true = below-at (are_apart q) (length p.routes) r row below in
          let differ : (q == r) ≡ false = grind (arith, nat_tests, order) in
          elim (either (q == r) (hold_nothing_together q r) cell) [
            | inl same ↦ both_ways (q == r) differ same
            | inr nothing ↦ one_alone (holds x q) (holds x r) (below-at (λ y. not (route_holds p s q y && route_holds p s r y)) (length p.sections) x nothing within) first second
          ]

  pub none_held_twice : is_true_for_all_below (length p.sections) (λ x. not (is_in_shared_sections shared x)) ≡ meets_v2_sections_held_once p s
  none_held_twice =
      same_truth (is_true_for_all_below (length p.sections) (λ x. not (is_in_shared_sections shared x))) (meets_v2_sections_held_once p s)
      (λ clear. each-below (λ r. is_true_for_all_below (length p.routes) (are_apart r)) (length p.routes) (λ r here. each-below (are_apart r) (length p.routes) (λ q there. apart clear r q here there)))
      (λ kept. each-below (λ x. not (is_in_shared_sections shared x)) (length p.sections) (none kept))
