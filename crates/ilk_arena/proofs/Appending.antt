use Rattle.std.proofs.Common.{◌≡◌, ◌≢◌, ℕ, ◌+◌, ◌<◌, ◌≤◌, ◌⊎◌, inl, inr, List, [], ◌∷◌, ◌++◌, length, get_or, set, drop, refl, sym, ◌∙◌, subst, arith, length-append}
use Rattle.std.proofs.lemmas.List.{get_or-set_same, get_or-set_other, get_or_append_left, get_or-append-add, drop-append-le, take-append-le}
use Rattle.std.proofs.Math.Seq.{drop-append-add}
use Rattle.std.proofs.Math.ListN.{length-set}
use Rattle.std.proofs.lemmas.Bool.Decides.{eqb_tells}
use Rattle.std.proofs.lemmas.Grind.{common_steps}
use Rattle.ilk_arena.specs.Words.{link_index, next_reference_in_chain, IsChainPath, AllSatisfy, IsItemOfList, HasWatch, left, right, Distinct, ChainsAreWatchPaths, AreHeadersInsideAndApart, chains_with_one_replaced}
use Rattle.ilk_arena.specs.Linked.{literal_places_at, chain_for_lit_place, HasWatchChains}
use Rattle.ilk_arena.proofs.Paths.{frame}
use Rattle.ilk_arena.proofs.HeaderWrites.{link_index-in}
use Rattle.ilk_arena.proofs.ChainMoves.{each-map, by-pick}
use Rattle.ilk_arena.proofs.LinkedChains.{headers-of}

link_index-append : (ws xs : List ℕ) (l c : ℕ) → c + 7 ≤ length ws → link_index (ws ++ xs) l c ≡ link_index ws l c
unfolding link_index
link_index-append ws xs l c h = (let e = get_or_append_left ws xs 0 (c + 1) (omega arith) in rw e refl)

next-append : (ws xs : List ℕ) (l c : ℕ) → c + 7 ≤ length ws → next_reference_in_chain (ws ++ xs) l c ≡ next_reference_in_chain ws l c
next-append ws xs l c h =
    let e = link_index-append ws xs l c h in
    let f = get_or_append_left ws xs 0 (link_index ws l c) (grind (arith, link_index-in ws l c)) in
    rw e f

watch-append : (ws xs : List ℕ) (c l : ℕ) → c + 7 ≤ length ws → HasWatch ws c l → HasWatch (ws ++ xs) c l
watch-append ws xs c l h (left p) = left (get_or_append_left ws xs 0 (c + 1) (omega arith) ∙ p)
watch-append ws xs c l h (right p) = right (get_or_append_left ws xs 0 (c + 3) (omega arith) ∙ p)

pub watch-shrink : (ws xs : List ℕ) (c l : ℕ) → c + 7 ≤ length ws → HasWatch (ws ++ xs) c l → HasWatch ws c l
watch-shrink ws xs c l h (left p) = left (sym (get_or_append_left ws xs 0 (c + 1) (omega arith)) ∙ p)
watch-shrink ws xs c l h (right p) = right (sym (get_or_append_left ws xs 0 (c + 3) (omega arith)) ∙ p)

pub grown : (ws xs hs : List ℕ) (R S : ℕ → Type 0) (cs : ℕ → List ℕ) → AreHeadersInsideAndApart ws R → ((c : ℕ) → R c → S c) → ChainsAreWatchPaths ws hs R cs → ChainsAreWatchPaths (ws ++ xs) hs S cs
grown ws xs hs R S cs hd f k = record {
  path = λ l h. frame ws (ws ++ xs) l (get_or hs l 0) (cs l) (each-map (λ c. R c × HasWatch ws c l) (λ c. next_reference_in_chain (ws ++ xs) l c ≡ next_reference_in_chain ws l c) (cs l) (λ c r. next-append ws xs l c (hd.room c r.0).1)
      (k.held l h)) (k.path l h);
  held = λ l h. each-map (λ c. R c × HasWatch ws c l) (λ c. S c × HasWatch (ws ++ xs) c l) (cs l) (λ c r. (f c r.0, watch-append ws xs c l (hd.room c r.0).1 r.1)) (k.held l h);
  once = k.once;
}

pub push-head : (ws hs : List ℕ) (R : ℕ → Type 0) (cs : ℕ → List ℕ) (t c : ℕ) → t < length hs → R c → 0 < c →
    HasWatch ws c t → next_reference_in_chain ws t c ≡ get_or hs t 0 → AllSatisfy (λ d. d ≢ c) (cs t) → ChainsAreWatchPaths ws hs R cs →
    ChainsAreWatchPaths ws (set hs t c) R (chains_with_one_replaced cs t (c ∷ cs t))
push-head ws hs R cs t c h rc pos w e gone k =
    let n : length (set hs t c) ≡ length hs = simp length-set in
    let at : get_or (set hs t c) t 0 ≡ c = get_or-set_same hs t c 0 h in
    let P : ℕ → Type 0 = λ j. IsChainPath ws t j (cs t) in
    record {
      path = λ l i. by-pick cs t (c ∷ cs t) (length hs) (λ l ys. IsChainPath ws l (get_or (set hs t c) l 0) ys) (at, pos, subst P (sym e) (k.path t h)) (λ l m j. rw (get_or-set_other hs t l c 0 m) (k.path l j)) l (omega (arith, n));
      held = λ l i. by-pick cs t (c ∷ cs t) (length hs) (λ l ys. AllSatisfy (λ d. R d × HasWatch ws d l) ys) ((rc, w), k.held t h) (λ l m j. k.held l j) l (omega (arith, n));
      once = λ l i. by-pick cs t (c ∷ cs t) (length hs) (λ l ys. Distinct ys) (gone, k.once t h) (λ l m j. k.once l j) l (omega (arith, n));
    }

pub stands-push : (refs : List ℕ) (c d : ℕ) → IsItemOfList (refs ++ (c ∷ [])) d → IsItemOfList refs d ⊎ (c ≡ d)
stands-push [] c d s = elim s [ inl e ↦ inr e | inr r ↦ absurd r ]
stands-push (x ∷ xs) c d s = elim s [ inl e ↦ inl (inl e) | inr r ↦ elim (stands-push xs c d r) [ inl q ↦ inl (inr q) | inr q ↦ inr q ] ]

pub stands-more : (refs : List ℕ) (c d : ℕ) → IsItemOfList refs d → IsItemOfList (refs ++ (c ∷ [])) d
stands-more [] c d s = absurd s
stands-more (x ∷ xs) c d s = elim s [ inl e ↦ inl e | inr r ↦ inr (stands-more xs c d r) ]

pub stands-last : (refs : List ℕ) (c : ℕ) → IsItemOfList (refs ++ (c ∷ [])) c
stands-last [] c = inl refl
stands-last (x ∷ xs) c = inr (stands-last xs c)

abbrev pub block : ℕ → ℕ → ℕ → ℕ → ℕ → ℕ → List ℕ → List ℕ
block n a x b y k ps = n ∷ (a ∷ (x ∷ (b ∷ (y ∷ (k ∷ (0 ∷ ps))))))

pub places-append : (ws xs : List ℕ) (c : ℕ) → c + 7 + get_or ws c 0 ≤ length ws → literal_places_at (ws ++ xs) c ≡ literal_places_at ws c
unfolding literal_places_at
places-append ws xs c h =
    let e = get_or_append_left ws xs 0 c (omega arith) in
    let d = drop-append-le (c + 7) ws xs (omega arith) in
    let q : get_or ws c 0 ≤ length (drop (c + 7) ws) = grind (arith, common_steps) in
    rw (e, d) (take-append-le (get_or ws c 0) (drop (c + 7) ws) xs q)

pub places-new : (ws ps : List ℕ) (a x b y k : ℕ) → literal_places_at (ws ++ block (length ps) a x b y k ps) (length ws) ≡ ps
unfolding literal_places_at
places-new ws ps a x b y k =
    let n = length ws in
    let blk = block (length ps) a x b y k ps in
    let z : n + 0 ≡ n = omega arith in
    let e : get_or (ws ++ blk) n 0 ≡ length ps = (let P : ℕ → Type 0 = λ j. get_or (ws ++ blk) j 0 ≡ length ps in subst P z (get_or-append-add ws blk 0 0)) in
    rw (e, drop-append-add ws blk 7) (grind (arith, common_steps))

pub stands-one : (cs : ℕ → List ℕ) (t c d l : ℕ) → IsItemOfList (cs l) d ⊎ ((c ≡ d) × (l ≡ t)) → IsItemOfList (chains_with_one_replaced cs t (c ∷ cs t) l) d
stands-one cs t c d l s =
    elim (eqb_tells l t) [
      | inl e ↦ rw e.0 (elim s [ inl q ↦ inr (let P : ℕ → Type 0 = λ j. IsItemOfList (cs j) d in subst P e.1 q) | inr q ↦ inl q.0 ])
      | inr e ↦ rw e.0 (elim s [ inl q ↦ q | inr q ↦ absurd (e.1 q.1) ])
    ]

pub which : (us : List ℕ) (c a b l : ℕ) → get_or us (c + 1) 0 ≡ a → get_or us (c + 3) 0 ≡ b → HasWatch us c l → (l ≡ a) ⊎ (l ≡ b)
which us c a b l p q (left e) = inl (sym e ∙ p)
which us c a b l p q (right e) = inr (sym e ∙ q)

pub record Appended (ws hs refs ps : List ℕ) (a x b y k : ℕ) : Type 0 where
  pub size : length (ws ++ block (length ps) a x b y k ps) ≡ length ws + 7 + length ps
  pub new_len : get_or (ws ++ block (length ps) a x b y k ps) (length ws) 0 ≡ length ps
  pub new_left : get_or (ws ++ block (length ps) a x b y k ps) (length ws + 1) 0 ≡ a
  pub new_left_link : get_or (ws ++ block (length ps) a x b y k ps) (length ws + 2) 0 ≡ x
  pub new_right : get_or (ws ++ block (length ps) a x b y k ps) (length ws + 3) 0 ≡ b
  pub new_right_link : get_or (ws ++ block (length ps) a x b y k ps) (length ws + 4) 0 ≡ y
  pub new_number : get_or (ws ++ block (length ps) a x b y k ps) (length ws + 5) 0 ≡ k
  pub new_cursor : get_or (ws ++ block (length ps) a x b y k ps) (length ws + 6) 0 ≡ 0
  pub old : (d : ℕ) → IsItemOfList refs d → d < length ws
  pub kept : (d i : ℕ) → IsItemOfList refs d → i < 7 → get_or (ws ++ block (length ps) a x b y k ps) (d + i) 0 ≡ get_or ws (d + i) 0
  pub kept_len : (d : ℕ) → IsItemOfList refs d → get_or (ws ++ block (length ps) a x b y k ps) d 0 ≡ get_or ws d 0
  pub kept_places : (d : ℕ) → IsItemOfList refs d → literal_places_at (ws ++ block (length ps) a x b y k ps) d ≡ literal_places_at ws d
  pub headers : AreHeadersInsideAndApart (ws ++ block (length ps) a x b y k ps) (IsItemOfList (refs ++ (length ws ∷ [])))
  pub chains : ChainsAreWatchPaths (ws ++ block (length ps) a x b y k ps) hs (IsItemOfList (refs ++ (length ws ∷ []))) (chain_for_lit_place ws hs)
  pub absent : (l : ℕ) → l < length hs → AllSatisfy (λ d. d ≢ length ws) (chain_for_lit_place ws hs l)

pub appended : (ws hs refs ps : List ℕ) (a x b y k : ℕ) → HasWatchChains ws hs refs → Appended ws hs refs ps a x b y k
appended ws hs refs ps a x b y k li =
    let c = length ws in
    let blk = block (length ps) a x b y k ps in
    let us = ws ++ blk in
    let all = refs ++ (c ∷ []) in
    let size : length us ≡ c + 7 + length ps = length-append ws blk ∙ omega arith in
    let z : c + 0 ≡ c = omega arith in
    let hd = headers-of ws hs refs li in
    let old : (d : ℕ) → IsItemOfList refs d → d < c = λ d s. omega (arith, hd.room d s) in
    let hd2 : AreHeadersInsideAndApart us (IsItemOfList all) = record {
      room = λ d s. elim (stands-push refs c d s) [
        | inl q ↦ (li.positive d q, omega (arith, size, li.whole d q))
        | inr q ↦ (omega (arith, q, li.started), omega (arith, size, q))
      ];
      apart = λ d e s t n. elim (stands-push refs c d s) [
        | inl q ↦ elim (stands-push refs c e t) [
          | inl r ↦ hd.apart d e q r n
          | inr r ↦ inl (omega (arith, r, li.whole d q))
        ]
        | inr q ↦ elim (stands-push refs c e t) [
          | inl r ↦ inr (omega (arith, q, li.whole e r))
          | inr r ↦ absurd (n (sym q ∙ r))
        ]
      ];
    } in
    record {
      size = size;
      new_len = (let P : ℕ → Type 0 = λ j. get_or us j 0 ≡ length ps in subst P z (get_or-append-add ws blk 0 0));
      new_left = get_or-append-add ws blk 1 0;
      new_left_link = get_or-append-add ws blk 2 0;
      new_right = get_or-append-add ws blk 3 0;
      new_right_link = get_or-append-add ws blk 4 0;
      new_number = get_or-append-add ws blk 5 0;
      new_cursor = get_or-append-add ws blk 6 0;
      old = old;
      kept = λ d i s h. get_or_append_left ws blk 0 (d + i) (omega (arith, li.whole d s));
      kept_len = λ d s. get_or_append_left ws blk 0 d (old d s);
      kept_places = λ d s. places-append ws blk d (li.whole d s);
      headers = hd2;
      chains = grown ws blk hs (IsItemOfList refs) (IsItemOfList all) (chain_for_lit_place ws hs) hd (λ d s. stands-more refs c d s) li.chains;
      absent = λ l h. each-map (λ d. IsItemOfList refs d × HasWatch ws d l) (λ d. d ≢ c) (chain_for_lit_place ws hs l) (λ d r e. omega (arith, e, old d r.0)) (li.chains.held l h);
    }
