use Rattle.std.proofs.Common.{◌≡◌, ◌≢◌, ℕ, ◌<◌, ◌≤◌, inl, inr, true, false, eqb, List, [], ◌∷◌, length, get_or, sym, subst, arith}
use Rattle.std.specs.List.{list_any, IsDistinct, AllByRecursion}
use Rattle.std.proofs.lemmas.Bool.Decides.{eqb_tells}
use Rattle.std.proofs.lemmas.Bool.{cases_order, or_cases, ne_eqb}
use Rattle.std.proofs.lemmas.Map.Steps.{length-le_from_distinct_below}
use Rattle.ilk_arena.specs.Words.{IsChainPath, AllSatisfy, IsItemOfList, HasWatch, Distinct, ChainsAreWatchPaths, AreHeadersInsideAndApart}
use Rattle.ilk_arena.specs.Linked.{chain_for_lit_place, HasWatchChains}
use Rattle.ilk_arena.proofs.Paths.{chain-is}
use Rattle.ilk_arena.proofs.ChainMoves.{each-map}

all-from : (P Q : ℕ → Type 0) (xs : List ℕ) → ((y : ℕ) → P y → Q y) → AllSatisfy P xs → AllByRecursion Q xs
all-from P Q [] f e = tt
all-from P Q (x ∷ xs) f e = (f x e.0, all-from P Q xs f e.1)

pub distinct-std : (xs : List ℕ) → Distinct xs → IsDistinct eqb xs
unfolding IsDistinct
distinct-std [] d = tt
distinct-std (x ∷ xs) d = (all-from (λ y. y ≢ x) (λ y. eqb x y ≡ false) xs (λ y n. ne_eqb x y (λ e. n (sym e))) d.0, distinct-std xs d.1)

any-below : (n q : ℕ) (xs : List ℕ) → AllSatisfy (λ c. c < n) xs → list_any (eqb q) xs ≡ true → q < n
any-below n q [] e h = absurd (cc)
any-below n q (x ∷ xs) e h =
    elim (or_cases (eqb q x) (list_any (eqb q) xs) h) [
      | inl p ↦ (elim (eqb_tells q x) [ inl s ↦ omega (arith, s.1, e.0) | inr s ↦ absurd (let f = s.0 in cc) ])
      | inr p ↦ any-below n q xs e.1 p
    ]

pub short : (n : ℕ) (xs : List ℕ) → Distinct xs → AllSatisfy (λ c. c < n) xs → length xs ≤ n
short n xs d e = length-le_from_distinct_below xs n (distinct-std xs d) (λ q h. any-below n q xs e h)

pub headers-of : (ws hs refs : List ℕ) → HasWatchChains ws hs refs → AreHeadersInsideAndApart ws (IsItemOfList refs)
headers-of ws hs refs k = record {
  room = λ c r. (k.positive c r, omega (arith, k.whole c r));
  apart = λ c d r s n. elim (cases_order c d) [
    | inl e ↦ absurd (n e)
    | inr o ↦ elim o [ inl h ↦ inl (omega (arith, k.clear c d r s h)) | inr h ↦ inr (omega (arith, k.clear d c s r h)) ]
  ];
}

pub chain_for_lit_place-is : (ws hs : List ℕ) (R : ℕ → Type 0) (cs : ℕ → List ℕ) → AreHeadersInsideAndApart ws R → ChainsAreWatchPaths ws hs R cs → (l : ℕ) → l < length hs → chain_for_lit_place ws hs l ≡ cs l
chain_for_lit_place-is ws hs R cs hd k l h =
    let below : AllSatisfy (λ c. c < length ws) (cs l) = each-map (λ c. R c × HasWatch ws c l) (λ c. c < length ws) (cs l) (λ c r. omega (arith, hd.room c r.0)) (k.held l h) in
    chain-is ws l (length ws) (get_or hs l 0) (cs l) (short (length ws) (cs l) (k.once l h) below) (k.path l h)

pub same-chains : (ws hs : List ℕ) (R : ℕ → Type 0) (cs ds : ℕ → List ℕ) → ((l : ℕ) → l < length hs → ds l ≡ cs l) → ChainsAreWatchPaths ws hs R cs → ChainsAreWatchPaths ws hs R ds
same-chains ws hs R cs ds e k = record {
  path = λ l h. (let P : List ℕ → Type 0 = λ ys. IsChainPath ws l (get_or hs l 0) ys in subst P (sym (e l h)) (k.path l h));
  held = λ l h. (let P : List ℕ → Type 0 = λ ys. AllSatisfy (λ c. R c × HasWatch ws c l) ys in subst P (sym (e l h)) (k.held l h));
  once = λ l h. (let P : List ℕ → Type 0 = λ ys. Distinct ys in subst P (sym (e l h)) (k.once l h));
}
