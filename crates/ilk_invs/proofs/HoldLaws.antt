-- The condition of V2 holds for a state's image if and only if the state keeps V2.
use Rattle.std.proofs.Common.{◌≡◌, ℕ, zero, suc, ◌+◌, ◌-◌, ◌/◌, ◌<◌, ◌==◌, Bool, true, false, not, ◌&&◌, ◌||◌, Some, List, ◌∷◌, ◌++◌, drop, length, nat_le, slice_get, take, inl, inr, refl, sym, ◌∙◌, ap, arith}
use Rattle.std.specs.Prelude.{if◌then◌else◌}
use Rattle.std.specs.List.{enumerate_from, flat_map, list_all, range_with_len}
use Rattle.std.proofs.lemmas.Bool.{and_from, and_parts, cases_eq, eq-eqb, eqb-true, or_cases, or_left, or_right}
use Rattle.std.proofs.lemmas.List.Folds.{list_all-append, list_all-map}
use Rattle.std.proofs.lemmas.Option.{same_Some}
use Rattle.ilk_base.proofs.Truth.{same_truth, if-passes, passes-if}
use Rattle.ilk_base.specs.Each.{is_true_for_all_below}
use Rattle.ilk_base.proofs.Lists.{item_at, take-at, taken-before}
use Rattle.ilk_base.proofs.ListTests.{list_all-flat_map}
use Rattle.ilk_base.proofs.Ranges.{below_or_past, range-at, range_within}
use Rattle.ilk_base.proofs.Tested.{list_all-slice_get, all-pass}
use Rattle.ilk_base.proofs.Numbered.{enumerated, enumerated-at}
use Rattle.ilk_ir.specs.Tree.{tree_holds}
use Rattle.ilk_plant.specs.Network.{contains_section}
use Rattle.ilk_plant.specs.Plant.{IsPlant, PlantLists}
use Rattle.ilk_plant.specs.Shape.{HasShape}
use Rattle.ilk_plant.specs.TableRules.{sections_locked_for}
use Rattle.ilk_plant.specs.declared.state.RouteState.{RouteState}
use Rattle.ilk_plant.specs.declared.state.State.{State}
use Rattle.ilk_plant.specs.declared.table.Route.{Route}
use Rattle.ilk_routes.specs.Claims.{sections_outside_path}
use Rattle.ilk_model.specs.Families.{meets_v2_sections_held_once}
use Rattle.ilk_model.specs.Holding.{holds_section, is_holding_state, is_unreleased_on_path, route_holds}
use Rattle.ilk_model.proofs.Kept.{kept-on_path}
use Rattle.ilk_layout.specs.Image.{image_of}
use Rattle.ilk_invs.specs.declared.hold_family.TheConstants.{MAX_ORDERED_HOLDERS}
use Rattle.ilk_invs.specs.HoldFamilies.{at_most_one_by_halves, at_most_one_in_order, at_most_one_holder, possible_holders, is_possible_holder, none_before_if_holding, none_holding, not_held_by_both_groups, v2_sections_held_once_tree}
use Rattle.ilk_invs.proofs.PartLaws.{each_of-holds, state_of_route}
use Rattle.ilk_invs.proofs.Sections.{sections_of_route}
use Rattle.ilk_invs.proofs.Tests.{dropped-at}
use Rattle.ilk_invs.proofs.HoldingLaws.{at-dropped, before-first, dropped-known, filter-place, holder-known, none_before_if_holding-holds, none_holding-holds, not-both, not-true-false, not-where-never, passing-once, taken-known}

module _ (p : PlantLists) (plant : IsPlant p) (s : State) (shape : HasShape p s) where
  may-hold : (x r : ℕ) → r < length p.routes → route_holds p s r x ≡ true → is_possible_holder p x r ≡ true
  may-hold x r within h =
      let route = item_at p.routes r within in
      let now = state_of_route p s shape r route.0 route.1 in
      let holds : holds_section x route.0 now.0 ≡ true = (rw (route.1, now.1) at h) in
      rw route.1 (locked route.0 now.0 (and_parts (is_holding_state now.0) (contains_section x (sections_outside_path route.0) || is_unreleased_on_path route.0 now.0 x) holds).1)
    where
      locked : (route : Route) (now : RouteState) → (contains_section x (sections_outside_path route) || is_unreleased_on_path route now x) ≡ true → contains_section x (sections_locked_for route) ≡ true
      locked route now e =
          sections_of_route x route ∙ elim (or_cases (contains_section x (sections_outside_path route)) (is_unreleased_on_path route now x) e) [
            | inl beside ↦ or_right (contains_section x route.path) (contains_section x (sections_outside_path route)) beside
            | inr kept ↦ or_left (contains_section x route.path) (contains_section x (sections_outside_path route)) (kept-on_path route now x kept)
          ]

  two-in-order : (x : ℕ) (routes : List ℕ) → ((i q : ℕ) → slice_get routes i ≡ Some q → q < length p.routes) →
      list_all (tree_holds (image_of p s)) (at_most_one_in_order p x routes) ≡ true → (i j r q : ℕ) → i < j →
      slice_get routes i ≡ Some r → slice_get routes j ≡ Some q → route_holds p s r x ≡ true →
      route_holds p s q x ≡ true → ⊥
  two-in-order x routes known all i zero r q less at also one two = omega (arith, less)
  two-in-order x routes known all i (suc j) r q less at also one two =
      let place = enumerated-at 1 (drop 1 routes) j q (before-first routes j q also) in
      let each = sym (list_all-map (tree_holds (image_of p s)) (λ place. none_before_if_holding p x (take place.0 routes) place.1) (enumerate_from 1 (drop 1 routes))) ∙ all in
      let this : tree_holds (image_of p s) (none_before_if_holding p x (take (1 + j) routes) q) ≡ true =
      list_all-slice_get
      (λ place. tree_holds (image_of p s) (none_before_if_holding p x (take place.0 routes) place.1))
      (enumerate_from 1 (drop 1 routes)) j (1 + j, q) each place in
      let says = sym (none_before_if_holding-holds p plant s shape x (take (1 + j) routes) q (known (suc j) q also) (taken-known p plant s shape routes (1 + j) known)) ∙ this in
      let none = if-passes (route_holds p s q x) (list_all (λ q. not (route_holds p s q x)) (take (1 + j) routes)) says two in
      let first = list_all-slice_get (λ q. not (route_holds p s q x)) (take (1 + j) routes) i r none (take-at routes i (1 + j) r (omega (arith, less)) at) in
      not-true-false (route_holds p s r x) first one

  one-of-both : (x : ℕ) (these those : List ℕ) →
      ((i q : ℕ) → slice_get these i ≡ Some q → q < length p.routes) →
      ((i q : ℕ) → slice_get those i ≡ Some q → q < length p.routes) →
      tree_holds (image_of p s) (not_held_by_both_groups p x these those) ≡ true → (i j r q : ℕ) →
      slice_get these i ≡ Some r → slice_get those j ≡ Some q → route_holds p s r x ≡ true →
      route_holds p s q x ≡ true → ⊥
  one-of-both x these those known also_known h i j r q at also one two =
      elim (or_cases (tree_holds (image_of p s) (none_holding p x these)) (tree_holds (image_of p s) (none_holding p x those) || false) h) [
        | inl none ↦ not-true-false (route_holds p s r x) (list_all-slice_get (λ r. not (route_holds p s r x)) these i r (sym (none_holding-holds p plant s shape x these known) ∙ none) at) one
        | inr rest ↦
            elim (or_cases (tree_holds (image_of p s) (none_holding p x those)) false rest) [
              | inl none ↦ not-true-false (route_holds p s q x) (list_all-slice_get (λ q. not (route_holds p s q x)) those j q (sym (none_holding-holds p plant s shape x those also_known) ∙ none) also) two
              | inr never ↦ cc
            ]
      ]

  of-parts : (x n : ℕ) (routes : List ℕ) → ((i q : ℕ) → slice_get routes i ≡ Some q → q < length p.routes) →
      tree_holds (image_of p s) (not_held_by_both_groups p x (take n routes) (drop n routes)) ≡ true →
      ((i j r q : ℕ) → i < j → slice_get (take n routes) i ≡ Some r → slice_get (take n routes) j ≡ Some q →
      route_holds p s r x ≡ true → route_holds p s q x ≡ true → ⊥) →
      ((i j r q : ℕ) → i < j → slice_get (drop n routes) i ≡ Some r → slice_get (drop n routes) j ≡ Some q →
      route_holds p s r x ≡ true → route_holds p s q x ≡ true → ⊥) → (i j r q : ℕ) → i < j →
      slice_get routes i ≡ Some r → slice_get routes j ≡ Some q → route_holds p s r x ≡ true →
      route_holds p s q x ≡ true → ⊥
  of-parts x n routes known both early late i j r q less at also one two =
      elim (below_or_past j n) [
        | inl before ↦ early i j r q less (take-at routes i n r (omega (arith, less, before)) at) (take-at routes j n q before also) one two
        | inr past ↦
            elim (below_or_past i n) [
              | inl before ↦ one-of-both x (take n routes) (drop n routes)
                  (taken-known p plant s shape routes n known) (dropped-known p plant s shape routes n known)
                  both i (j - n) r q (take-at routes i n r before at) (at-dropped n routes j q past also) one
                  two
              | inr beyond ↦ late (i - n) (j - n) r q (omega (arith, less, past, beyond)) (at-dropped n routes i r beyond at) (at-dropped n routes j q past also) one two
            ]
      ]

  no-two : (n x : ℕ) (routes : List ℕ) → ((i q : ℕ) → slice_get routes i ≡ Some q → q < length p.routes) →
      list_all (tree_holds (image_of p s)) (at_most_one_by_halves n p x routes) ≡ true → (i j r q : ℕ) → i < j →
      slice_get routes i ≡ Some r → slice_get routes j ≡ Some q → route_holds p s r x ≡ true →
      route_holds p s q x ≡ true → ⊥
  no-two zero x routes known all i j r q less at also one two = two-in-order x routes known all i j r q less at also one two
  no-two (suc n) x routes known all i j r q less at also one two =
      by_size (nat_le (length routes) MAX_ORDERED_HOLDERS) all
      (no-two n x (take (length routes / 2) routes)
      (taken-known p plant s shape routes (length routes / 2) known))
      (no-two n x (drop (length routes / 2) routes)
      (dropped-known p plant s shape routes (length routes / 2) known))
    where
      by_size : (few : Bool) →
          list_all (tree_holds (image_of p s))
          (if few then at_most_one_in_order p x routes
          else not_held_by_both_groups p x (take (length routes / 2) routes) (drop (length routes / 2) routes)
          ∷ at_most_one_by_halves n p x (take (length routes / 2) routes)
          ++ at_most_one_by_halves n p x (drop (length routes / 2) routes)) ≡ true →
          (list_all (tree_holds (image_of p s)) (at_most_one_by_halves n p x (take (length routes / 2) routes))
          ≡ true →
          ((i j r q : ℕ) → i < j → slice_get (take (length routes / 2) routes) i ≡ Some r →
          slice_get (take (length routes / 2) routes) j ≡ Some q → route_holds p s r x ≡ true →
          route_holds p s q x ≡ true → ⊥)) →
          (list_all (tree_holds (image_of p s)) (at_most_one_by_halves n p x (drop (length routes / 2) routes))
          ≡ true →
          ((i j r q : ℕ) → i < j → slice_get (drop (length routes / 2) routes) i ≡ Some r →
          slice_get (drop (length routes / 2) routes) j ≡ Some q → route_holds p s r x ≡ true →
          route_holds p s q x ≡ true → ⊥)) → ⊥
      by_size true h early late = two-in-order x routes known h i j r q less at also one two
      by_size false h early late =
          let parts = and_parts
          (tree_holds (image_of p s)
          (not_held_by_both_groups p x (take (length routes / 2) routes) (drop (length routes / 2) routes)))
          (list_all (tree_holds (image_of p s))
          (at_most_one_by_halves n p x (take (length routes / 2) routes)
          ++ at_most_one_by_halves n p x (drop (length routes / 2) routes))) h in
          let halves = and_parts
          (list_all (tree_holds (image_of p s)) (at_most_one_by_halves n p x (take (length routes / 2) routes)))
          (list_all (tree_holds (image_of p s)) (at_most_one_by_halves n p x (drop (length routes / 2) routes)))
          (sym
          (list_all-append (tree_holds (image_of p s))
          (at_most_one_by_halves n p x (take (length routes / 2) routes))
          (at_most_one_by_halves n p x (drop (length routes / 2) routes))) ∙ parts.1) in
          of-parts x (length routes / 2) routes known parts.0 (early halves.0) (late halves.1) i j r q less at also one two

  in-order : (x : ℕ) (routes : List ℕ) → ((i q : ℕ) → slice_get routes i ≡ Some q → q < length p.routes) →
      ((i j r q : ℕ) → i < j → slice_get routes i ≡ Some r → slice_get routes j ≡ Some q →
      route_holds p s r x ≡ true → route_holds p s q x ≡ true → ⊥) →
      list_all (tree_holds (image_of p s)) (at_most_one_in_order p x routes) ≡ true
  in-order x routes known never =
      list_all-map (tree_holds (image_of p s)) (λ place. none_before_if_holding p x (take place.0 routes) place.1) (enumerate_from 1 (drop 1 routes))
      ∙ all-pass (λ place. tree_holds (image_of p s) (none_before_if_holding p x (take place.0 routes) place.1)) (enumerate_from 1 (drop 1 routes)) (λ k place there.
      let it = enumerated 1 (drop 1 routes) k place there in
      let at = dropped-at 1 routes k place.1 it.1 in
      none_before_if_holding-holds p plant s shape x (take place.0 routes) place.1 (known (1 + k) place.1 at) (taken-known p plant s shape routes place.0 known)
      ∙ passes-if (route_holds p s place.1 x) (list_all (λ q. not (route_holds p s q x)) (take place.0 routes)) (λ one.
      all-pass (λ q. not (route_holds p s q x)) (take place.0 routes) (λ j q before.
      let earlier = taken-before place.0 routes j q before in
      not-where-never (route_holds p s q x) (λ two. never j (1 + k) q place.1 (let less = earlier.0 in let same = it.0 in omega (arith, less, same)) earlier.1 at two one))))

  of-both : (x : ℕ) (these those : List ℕ) → ((i q : ℕ) → slice_get these i ≡ Some q → q < length p.routes) →
      ((i q : ℕ) → slice_get those i ≡ Some q → q < length p.routes) →
      ((i j r q : ℕ) → slice_get these i ≡ Some r → slice_get those j ≡ Some q → route_holds p s r x ≡ true →
      route_holds p s q x ≡ true → ⊥) →
      tree_holds (image_of p s) (not_held_by_both_groups p x these those) ≡ true
  of-both x these those known also_known never = by_first (tree_holds (image_of p s) (none_holding p x these)) refl
    where
      by_first : (b : Bool) → tree_holds (image_of p s) (none_holding p x these) ≡ b → tree_holds (image_of p s) (not_held_by_both_groups p x these those) ≡ true
      by_first true e = or_left (tree_holds (image_of p s) (none_holding p x these)) (tree_holds (image_of p s) (none_holding p x those) || false) e
      by_first false e =
          or_right (tree_holds (image_of p s) (none_holding p x these)) (tree_holds (image_of p s) (none_holding p x those) || false)
          (or_left (tree_holds (image_of p s) (none_holding p x those)) false
          (none_holding-holds p plant s shape x those also_known
          ∙ all-pass (λ q. not (route_holds p s q x)) those (λ j q also.
          not-where-never (route_holds p s q x) (λ two.
          let none : tree_holds (image_of p s) (none_holding p x these) ≡ true =
          none_holding-holds p plant s shape x these known
          ∙ all-pass (λ r. not (route_holds p s r x)) these (λ i r at. not-where-never (route_holds p s r x) (λ one. never i j r q at also one two)) in
          let no : false ≡ true = sym e ∙ none in
          cc))))

  by-halves : (n x : ℕ) (routes : List ℕ) → ((i q : ℕ) → slice_get routes i ≡ Some q → q < length p.routes) →
      ((i j r q : ℕ) → i < j → slice_get routes i ≡ Some r → slice_get routes j ≡ Some q →
      route_holds p s r x ≡ true → route_holds p s q x ≡ true → ⊥) →
      list_all (tree_holds (image_of p s)) (at_most_one_by_halves n p x routes) ≡ true
  by-halves zero x routes known never = in-order x routes known never
  by-halves (suc n) x routes known never =
      by_size (nat_le (length routes) MAX_ORDERED_HOLDERS)
      (by-halves n x (take (length routes / 2) routes) (taken-known p plant s shape routes (length routes / 2) known) (λ i j r q less at also one two.
      never i j r q less (taken-before (length routes / 2) routes i r at).1 (taken-before (length routes / 2) routes j q also).1 one two))
      (by-halves n x (drop (length routes / 2) routes) (dropped-known p plant s shape routes (length routes / 2) known) (λ i j r q less at also one two.
      never (length routes / 2 + i) (length routes / 2 + j) r q (omega (arith, less)) (dropped-at (length routes / 2) routes i r at) (dropped-at (length routes / 2) routes j q also) one two))
    where
      both : tree_holds (image_of p s) (not_held_by_both_groups p x (take (length routes / 2) routes) (drop (length routes / 2) routes)) ≡ true
      both =
          of-both x (take (length routes / 2) routes) (drop (length routes / 2) routes) (taken-known p plant s shape routes (length routes / 2) known) (dropped-known p plant s shape routes (length routes / 2) known) (λ i j r q at also one two.
          let here = taken-before (length routes / 2) routes i r at in
          let less = here.0 in
          never i (length routes / 2 + j) r q (omega (arith, less)) here.1 (dropped-at (length routes / 2) routes j q also) one two)

      by_size : (few : Bool) →
          list_all (tree_holds (image_of p s)) (at_most_one_by_halves n p x (take (length routes / 2) routes))
          ≡ true →
          list_all (tree_holds (image_of p s)) (at_most_one_by_halves n p x (drop (length routes / 2) routes))
          ≡ true →
          list_all (tree_holds (image_of p s))
          (if few then at_most_one_in_order p x routes
          else not_held_by_both_groups p x (take (length routes / 2) routes) (drop (length routes / 2) routes)
          ∷ at_most_one_by_halves n p x (take (length routes / 2) routes)
          ++ at_most_one_by_halves n p x (drop (length routes / 2) routes)) ≡ true
      by_size true here there = in-order x routes known never
      by_size false here there =
          and_from
          (tree_holds (image_of p s)
          (not_held_by_both_groups p x (take (length routes / 2) routes) (drop (length routes / 2) routes)))
          (list_all (tree_holds (image_of p s))
          (at_most_one_by_halves n p x (take (length routes / 2) routes)
          ++ at_most_one_by_halves n p x (drop (length routes / 2) routes))) both
          (list_all-append (tree_holds (image_of p s)) (at_most_one_by_halves n p x (take (length routes / 2) routes)) (at_most_one_by_halves n p x (drop (length routes / 2) routes))
          ∙ and_from (list_all (tree_holds (image_of p s)) (at_most_one_by_halves n p x (take (length routes / 2) routes))) (list_all (tree_holds (image_of p s)) (at_most_one_by_halves n p x (drop (length routes / 2) routes))) here there)

  apart_test : ℕ → ℕ → Bool
  apart_test r q = r == q || is_true_for_all_below (length p.sections) (λ x. not (route_holds p s r x && route_holds p s q x))

  pub v2-law : tree_holds (image_of p s) (v2_sections_held_once_tree p) ≡ meets_v2_sections_held_once p s
  unfolding apart_test
  v2-law =
      each_of-holds (image_of p s) (flat_map (at_most_one_holder p) (range_with_len 0 (length p.sections)))
      ∙ list_all-flat_map (tree_holds (image_of p s)) (at_most_one_holder p) (range_with_len 0 (length p.sections))
      ∙ same_truth (list_all (λ x. list_all (tree_holds (image_of p s)) (at_most_one_holder p x)) (range_with_len 0 (length p.sections))) (meets_v2_sections_held_once p s) forth back
    where
      forth : list_all (λ x. list_all (tree_holds (image_of p s)) (at_most_one_holder p x)) (range_with_len 0 (length p.sections)) ≡ true → meets_v2_sections_held_once p s ≡ true
      forth h =
          all-pass (λ r. is_true_for_all_below (length p.routes) (apart_test r)) (range_with_len 0 (length p.routes)) (λ i r first.
          all-pass (apart_test r) (range_with_len 0 (length p.routes)) (λ k q second.
          of_two r q (range_within (length p.routes) i r first).1 (range_within (length p.routes) k q second).1))
        where
          never : (x r q : ℕ) → (r ≡ q → ⊥) → x < length p.sections → r < length p.routes → q < length p.routes → route_holds p s r x ≡ true → route_holds p s q x ≡ true → ⊥
          never x r q apart inside one_known two_known one two =
              let all = list_all-slice_get (λ x. list_all (tree_holds (image_of p s)) (at_most_one_holder p x)) (range_with_len 0 (length p.sections)) x x h (range-at (length p.sections) x inside) in
              let first = filter-place (is_possible_holder p x) (range_with_len 0 (length p.routes)) r r (range-at (length p.routes) r one_known) (may-hold x r one_known one) in
              let second = filter-place (is_possible_holder p x) (range_with_len 0 (length p.routes)) q q (range-at (length p.routes) q two_known) (may-hold x q two_known two) in
              elim (below_or_past first.0 second.0) [
                | inl less ↦ no-two (length (possible_holders p x)) x (possible_holders p x) (holder-known p plant s shape x) all first.0 second.0 r q less first.1 second.1 one two
                | inr past ↦
                    elim (cases_eq first.0 second.0) [
                      | inl same ↦ apart (same_Some r q (sym first.1 ∙ ap (slice_get (possible_holders p x)) same ∙ second.1))
                      | inr other ↦ no-two (length (possible_holders p x)) x (possible_holders p x) (holder-known p plant s shape x) all second.0 first.0 q r (omega (arith, past, other)) second.1 first.1 two one
                    ]
              ]

          both : (x r q : ℕ) → (r ≡ q → ⊥) → x < length p.sections → r < length p.routes → q < length p.routes → (a b : Bool) → route_holds p s r x ≡ a → route_holds p s q x ≡ b → not (a && b) ≡ true
          both x r q apart inside one_known two_known true true one two = absurd (never x r q apart inside one_known two_known one two)
          both x r q apart inside one_known two_known true false one two = refl
          both x r q apart inside one_known two_known false b one two = refl

          of_two : (r q : ℕ) → r < length p.routes → q < length p.routes → apart_test r q ≡ true
          of_two r q one_known two_known =
              elim (cases_eq r q) [
                | inl same ↦ or_left (r == q) (is_true_for_all_below (length p.sections) (λ x. not (route_holds p s r x && route_holds p s q x))) (eq-eqb r q same)
                | inr apart ↦
                    or_right (r == q) (is_true_for_all_below (length p.sections) (λ x. not (route_holds p s r x && route_holds p s q x)))
                    (all-pass (λ x. not (route_holds p s r x && route_holds p s q x)) (range_with_len 0 (length p.sections)) (λ i x found.
                    both x r q apart (range_within (length p.sections) i x found).1 one_known two_known (route_holds p s r x) (route_holds p s q x) refl refl))
              ]

      back : meets_v2_sections_held_once p s ≡ true → list_all (λ x. list_all (tree_holds (image_of p s)) (at_most_one_holder p x)) (range_with_len 0 (length p.sections)) ≡ true
      back h =
          all-pass (λ x. list_all (tree_holds (image_of p s)) (at_most_one_holder p x)) (range_with_len 0 (length p.sections)) (λ i x found.
          by-halves (length (possible_holders p x)) x (possible_holders p x) (holder-known p plant s shape x) (λ j k r q less at also one two.
          never x j k r q (range_within (length p.sections) i x found).1 less at also one two))
        where
          never : (x j k r q : ℕ) → x < length p.sections → j < k → slice_get (possible_holders p x) j ≡ Some r → slice_get (possible_holders p x) k ≡ Some q → route_holds p s r x ≡ true → route_holds p s q x ≡ true → ⊥
          never x j k r q inside less at also one two =
              let r_known = holder-known p plant s shape x j r at in
              let q_known = holder-known p plant s shape x k q also in
              let apart : r ≡ q → ⊥ = (λ same. let places : j ≡ k = passing-once (is_possible_holder p x) 0 (length p.routes) j k q (at ∙ ap Some same) also in omega (arith, less, places)) in
              let row = list_all-slice_get (λ r. is_true_for_all_below (length p.routes) (apart_test r)) (range_with_len 0 (length p.routes)) r r h (range-at (length p.routes) r r_known) in
              let pair = list_all-slice_get (apart_test r) (range_with_len 0 (length p.routes)) q q row (range-at (length p.routes) q q_known) in
              elim (or_cases (r == q) (is_true_for_all_below (length p.sections) (λ x. not (route_holds p s r x && route_holds p s q x))) pair) [
                | inl same ↦ apart (eqb-true r q same)
                | inr each ↦
                    not-true-false (route_holds p s q x)
                    (not-both (route_holds p s r x) (route_holds p s q x)
                    (list_all-slice_get (λ x. not (route_holds p s r x && route_holds p s q x))
                    (range_with_len 0 (length p.sections)) x x each
                    (range-at (length p.sections) x inside)) one) two
              ]
