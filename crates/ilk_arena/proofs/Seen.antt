use Rattle.std.proofs.Common.{◌≡◌, ℕ, ◌+◌, ◌*◌, ◌/◌, ◌%◌, ◌<◌, ◌≤◌, inl, inr, Bool, true, false, ◌&&◌, cond, eqb, List, [], ◌∷◌, length, get_or, map, refl, ap, ◌∙◌, subst, arith, Option, Some, None}
use Rattle.std.proofs.lemmas.Bool.Decides.{nat_tests, eqb_tells}
use Rattle.std.proofs.lemmas.Bool.{and_parts, or_cases, or_left, or_right, ltb-true, leb-true, eqb-true, eq-eqb}
use Rattle.std.proofs.lemmas.Grind.{common_steps}
use Rattle.std.proofs.lemmas.List.FromFn.{get_or-map-range_with_len, length-map-range_with_len}
use Rattle.ilk_cnf.specs.Literal.{Literal}
use Rattle.ilk_cnf.specs.Formula.{is_lit_over}
use Rattle.ilk_arena.specs.Arena.{place, contains_reference, item_at_reference_or_default, literals_of, clause_cursor, first_of, reference_after_in_list, follows_or_heads_chain}
use Rattle.ilk_arena.specs.Words.{IsChainPath, IsItemOfList, FollowsOrHeadsChain, next_reference_in_chain, reference_unless_zero}
use Rattle.ilk_arena.specs.Linked.{lit_with_place_number, literal_places_at, literals_at, clause_cursor_at, chain_for_lit_place, lists_of}

pub stands-from : (c : ℕ) (cs : List ℕ) → contains_reference c cs ≡ true → IsItemOfList cs c
stands-from c [] h = absurd (cc)
stands-from c (x ∷ cs) h = elim (or_cases (eqb x c) (contains_reference c cs) h) [ inl e ↦ inl (eqb-true x c e) | inr r ↦ inr (stands-from c cs r) ]

pub stands-to : (c : ℕ) (cs : List ℕ) → IsItemOfList cs c → contains_reference c cs ≡ true
stands-to c [] s = absurd s
stands-to c (x ∷ cs) s = elim s [ inl e ↦ or_left (eqb x c) (contains_reference c cs) (eq-eqb x c e) | inr r ↦ or_right (eqb x c) (contains_reference c cs) (stands-to c cs r) ]

pub lit-at-place : (l : Literal) → lit_with_place_number (place l) ≡ l
lit-at-place l = go l.var l.positive
  where
    go : (v : ℕ) (b : Bool) → lit_with_place_number (place (record { var = v; positive = b })) ≡ record { var = v; positive = b }
    go v true =
        let d : (2 * v + 1) / 2 ≡ v = omega arith in
        let m : (2 * v + 1) % 2 ≡ 1 = omega arith in
        rw (d, m) refl
    go v false =
        let d : (2 * v) / 2 ≡ v = omega arith in
        let m : (2 * v) % 2 ≡ 0 = omega arith in
        rw (d, m) refl

pub place-within : (n : ℕ) (l : Literal) → is_lit_over n l ≡ true → (2 ≤ place l) × (place l < 2 * n + 2)
place-within n l h = (let p = and_parts _ _ h in go l.var l.positive (ltb-true 0 l.var p.0) (leb-true l.var n p.1))
  where
    go : (v : ℕ) (b : Bool) → 0 < v → v ≤ n → (2 ≤ cond b (2 * v + 1) (2 * v)) × (cond b (2 * v + 1) (2 * v) < 2 * n + 2)
    go v true a b = (omega arith, omega arith)
    go v false a b = (omega arith, omega arith)

pub beside-map : {A : Type 0} (f : ℕ → A) (d : A) (refs : List ℕ) (c : ℕ) → IsItemOfList refs c → item_at_reference_or_default c refs (map f refs) d ≡ f c
beside-map f d [] c s = absurd s
beside-map f d (r ∷ rs) c s =
    elim (eqb_tells r c) [
      | inl e ↦ rw e.0 (ap f e.1)
      | inr e ↦ rw e.0 (elim s [ inl q ↦ absurd (e.1 q) | inr q ↦ beside-map f d rs c q ])
    ]

pub chain-seen : (vars spare : ℕ) (ws hs refs : List ℕ) (p : ℕ) → p < length hs → get_or (lists_of vars spare ws hs refs).chains p [] ≡ chain_for_lit_place ws hs p
unfolding lists_of
chain-seen vars spare ws hs refs p h = get_or-map-range_with_len (chain_for_lit_place ws hs) 0 (length hs) p p [] h (omega arith)

pub chains-count : (vars spare : ℕ) (ws hs refs : List ℕ) → length (lists_of vars spare ws hs refs).chains ≡ length hs
unfolding lists_of
chains-count vars spare ws hs refs = length-map-range_with_len (chain_for_lit_place ws hs) 0 (length hs)

pub clause-seen : (vars spare : ℕ) (ws hs refs : List ℕ) (c : ℕ) → IsItemOfList refs c → literals_of (lists_of vars spare ws hs refs) c ≡ literals_at ws c
unfolding lists_of
clause-seen vars spare ws hs refs c s = beside-map (literals_at ws) [] refs c s

pub cursor-seen : (vars spare : ℕ) (ws hs refs : List ℕ) (c : ℕ) → IsItemOfList refs c → clause_cursor (lists_of vars spare ws hs refs) c ≡ clause_cursor_at ws c
unfolding lists_of
cursor-seen vars spare ws hs refs c s = beside-map (clause_cursor_at ws) 0 refs c s

pub references-seen : (vars spare : ℕ) (ws hs refs : List ℕ) → (lists_of vars spare ws hs refs).references ≡ refs
unfolding lists_of
references-seen vars spare ws hs refs = refl

pub vars-seen : (vars spare : ℕ) (ws hs refs : List ℕ) → (lists_of vars spare ws hs refs).vars ≡ vars
unfolding lists_of
vars-seen vars spare ws hs refs = refl

pub places-length : (ws : List ℕ) (c : ℕ) → c + 7 + get_or ws c 0 ≤ length ws → length (literal_places_at ws c) ≡ get_or ws c 0
unfolding literal_places_at
places-length ws c h = grind (arith, common_steps)

pub places-get : (ws : List ℕ) (c i : ℕ) → c + 7 + get_or ws c 0 ≤ length ws → i < get_or ws c 0 → get_or (literal_places_at ws c) i 0 ≡ get_or ws (c + 7 + i) 0
unfolding literal_places_at
places-get ws c i h l = grind (arith, common_steps)

pub first-is : (ws : List ℕ) (l k : ℕ) (cs : List ℕ) → IsChainPath ws l k cs → reference_unless_zero k ≡ first_of cs
first-is ws l k [] p = (let e : eqb k 0 ≡ true = grind (arith, nat_tests) in rw e refl)
first-is ws l k (c ∷ cs) p =
    let q : 0 < k = omega (arith, p.0, p.1) in
    let e : eqb k 0 ≡ false = grind (arith, nat_tests) in
    rw e (ap Some p.0)

pub reference_after_in_list-is : (ws : List ℕ) (l k c : ℕ) (cs : List ℕ) → IsChainPath ws l k cs → IsItemOfList cs c → reference_unless_zero (next_reference_in_chain ws l c) ≡ reference_after_in_list c cs
reference_after_in_list-is ws l k c [] p s = absurd s
reference_after_in_list-is ws l k c (x ∷ xs) p s =
    elim (eqb_tells x c) [
      | inl e ↦ rw e.0 (let P : ℕ → Type 0 = λ j. reference_unless_zero (next_reference_in_chain ws l j) ≡ first_of xs in subst P e.1 (first-is ws l (next_reference_in_chain ws l x) xs p.2))
      | inr e ↦ rw e.0 (elim s [ inl q ↦ absurd (e.1 q) | inr q ↦ reference_after_in_list-is ws l (next_reference_in_chain ws l x) c xs p.2 q ])
    ]

pub stands-reference_after_in_list-from : (before : Option ℕ) (c : ℕ) (cs : List ℕ) → follows_or_heads_chain before c cs ≡ true → FollowsOrHeadsChain before c cs
stands-reference_after_in_list-from None c [] h = absurd (cc)
stands-reference_after_in_list-from None c (x ∷ xs) h = (xs, ap (λ y. y ∷ xs) (eqb-true x c h))
stands-reference_after_in_list-from (Some b) c [] h = absurd (cc)
stands-reference_after_in_list-from (Some b) c (x ∷ xs) h =
    elim (or_cases (eqb x b && follows_or_heads_chain None c xs) (follows_or_heads_chain (Some b) c xs) h) [
      | inl p ↦ (let q = and_parts (eqb x b) (follows_or_heads_chain None c xs) p in
          let r = stands-reference_after_in_list-from None c xs q.1 in
          ([], (r.0, ap (λ y. y ∷ xs) (eqb-true x b q.0) ∙ ap (λ ys. b ∷ ys) r.1)))
      | inr p ↦ (let r = stands-reference_after_in_list-from (Some b) c xs p in (x ∷ r.0, (r.1.0, ap (λ ys. x ∷ ys) r.1.1)))
    ]
