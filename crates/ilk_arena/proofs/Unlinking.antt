use Rattle.std.proofs.Common.{◌≡◌, ◌≢◌, ℕ, ◌+◌, ◌-◌, ◌<◌, ◌≤◌, ◌⊎◌, inl, inr, true, false, eqb, List, [], ◌∷◌, ◌++◌, length, get_or, set, drop, refl, sym, ap, ◌∙◌, subst, arith, Option, Some, None}
use Rattle.std.proofs.lemmas.List.{get_or-set_other, drop-set-lt, drop-set-add, take-set-le}
use Rattle.std.proofs.lemmas.Bool.Decides.{nat_tests, eqb_tells}
use Rattle.std.proofs.lemmas.Bool.{cases_eq, cases_order}
use Rattle.std.proofs.Math.ListN.{length-set}
use Rattle.ilk_arena.specs.Words.{link_index, watch_moved, words_after_unlink, heads_after_unlink, AllSatisfy, IsItemOfList, FollowsOrHeadsChain, HasWatch, left, right, Distinct, ChainsAreWatchPaths, chains_with_one_replaced}
use Rattle.ilk_arena.specs.Linked.{literal_places_at, chain_for_lit_place, HasWatchChains}
use Rattle.ilk_arena.specs.Arena.{without_reference}
use Rattle.ilk_arena.proofs.HeaderWrites.{link_index-in, moved-reads-left, moved-reads-right}
use Rattle.ilk_arena.proofs.ChainMoves.{each-back, drop-first, drop-later}
use Rattle.ilk_arena.proofs.LinkedChains.{headers-of}

without-none : (c : ℕ) (xs : List ℕ) → AllSatisfy (λ d. d ≢ c) xs → without_reference c xs ≡ xs
without-none c [] e = refl
without-none c (x ∷ xs) e =
    let n : x ≢ c = e.0 in
    let q : eqb x c ≡ false = grind (arith, nat_tests) in
    rw q (ap (λ ys. x ∷ ys) (without-none c xs e.1))

pub without-first : (c : ℕ) (post : List ℕ) → AllSatisfy (λ d. d ≢ c) post → without_reference c (c ∷ post) ≡ post
without-first c post n = (let e : eqb c c ≡ true = grind (arith, nat_tests) in rw e (without-none c post n))

without-later : (pre : List ℕ) (b c : ℕ) (post : List ℕ) → Distinct (pre ++ (b ∷ (c ∷ post))) → without_reference c (pre ++ (b ∷ (c ∷ post))) ≡ pre ++ (b ∷ post)
without-later [] b c post d =
    let n : c ≢ b = d.0.0 in
    let e : eqb b c ≡ false = grind (arith, nat_tests) in
    rw (e, without-first c post d.1.0) refl
without-later (p ∷ pre) b c post d =
    let n : c ≢ p = (each-back (λ y. y ≢ p) pre (b ∷ (c ∷ post)) d.0).1.0 in
    let e : eqb p c ≡ false = grind (arith, nat_tests) in
    rw (e, without-later pre b c post d.1) refl

pub without-gone : (c : ℕ) (xs : List ℕ) → AllSatisfy (λ d. d ≢ c) (without_reference c xs)
without-gone c [] = tt
without-gone c (x ∷ xs) =
    elim (eqb_tells x c) [ inl p ↦ rw p.0 (without-gone c xs) | inr p ↦ rw p.0 (p.1, without-gone c xs) ]

pub stands-without : (c d : ℕ) (xs : List ℕ) → d ≢ c → IsItemOfList xs d → IsItemOfList (without_reference c xs) d
stands-without c d [] n s = absurd s
stands-without c d (x ∷ xs) n s =
    elim (eqb_tells x c) [
      | inl p ↦ rw p.0 (elim s [ inl e ↦ absurd (n (sym e ∙ p.1)) | inr r ↦ stands-without c d xs n r ])
      | inr p ↦ rw p.0 (elim s [ inl e ↦ inl e | inr r ↦ inr (stands-without c d xs n r) ])
    ]

pub stands-in : (pre : List ℕ) (c : ℕ) (post : List ℕ) → IsItemOfList (pre ++ (c ∷ post)) c
stands-in [] c post = inl refl
stands-in (p ∷ pre) c post = inr (stands-in pre c post)

pub each-at : (P : ℕ → Type 0) (xs : List ℕ) (c : ℕ) → IsItemOfList xs c → AllSatisfy P xs → P c
each-at P [] c s e = absurd s
each-at P (x ∷ xs) c s e = elim s [ inl q ↦ subst P q e.0 | inr r ↦ each-at P xs c r e.1 ]

-- A clause after a write to a watch or a link.
pub record Same (ws vs : List ℕ) (d : ℕ) : Type 0 where
  pub len : get_or vs d 0 ≡ get_or ws d 0
  pub places : literal_places_at vs d ≡ literal_places_at ws d
  pub number : get_or vs (d + 5) 0 ≡ get_or ws (d + 5) 0
  pub cursor : get_or vs (d + 6) 0 ≡ get_or ws (d + 6) 0

pub same-after : (ws : List ℕ) (R : ℕ → Type 0) (c d i v : ℕ) → ((x y : ℕ) → R x → R y → x < y → x + 7 + get_or ws x 0 ≤ y) → R c → R d → c < i → i < c + 5 → Same ws (set ws i v) d
unfolding literal_places_at
same-after ws R c d i v clear rc rd lo hi =
    let apart : (i ≢ d) × (i ≢ d + 5) × (i ≢ d + 6) × ((i < d + 7) ⊎ (d + 7 + get_or ws d 0 ≤ i)) = elim (cases_order c d) [
      | inl e ↦ (omega arith, omega arith, omega arith, inl (omega arith))
      | inr o ↦ elim o [
        | inl h ↦ (let q = clear c d rc rd h in (omega arith, omega arith, omega arith, inl (omega arith)))
        | inr h ↦ (let q = clear d c rd rc h in (omega arith, omega arith, omega arith, inr (omega arith)))
      ]
    ] in
    let e : get_or (set ws i v) d 0 ≡ get_or ws d 0 = get_or-set_other ws i d v 0 (λ q. apart.0 (sym q)) in
    record {
      len = e;
      number = get_or-set_other ws i (d + 5) v 0 (λ q. apart.1 (sym q));
      cursor = get_or-set_other ws i (d + 6) v 0 (λ q. apart.2 (sym q));
      places = rw e (elim apart.3 [
        | inl h ↦ rw (drop-set-lt (d + 7) ws i v h) refl
        | inr h ↦ (let j = i - (d + 7) in
            let s : d + 7 + j ≡ i = omega arith in
            let q : drop (d + 7) (set ws i v) ≡ set (drop (d + 7) ws) j v = (let P : ℕ → Type 0 = λ k. drop (d + 7) (set ws k v) ≡ set (drop (d + 7) ws) j v in subst P s (drop-set-add (d + 7) ws j v)) in
            rw (q, take-set-le (get_or ws d 0) (drop (d + 7) ws) j v (omega arith)) refl)
      ]);
    }

-- Two blocks that differ only in the watches and links of headers.
pub record Alike (ws vs refs : List ℕ) : Type 0 where
  pub size : length vs ≡ length ws
  pub same : (d : ℕ) → IsItemOfList refs d → Same ws vs d

pub record SameWatches (ws vs refs : List ℕ) : Type 0 where
  pub left_same : (d : ℕ) → IsItemOfList refs d → get_or vs (d + 1) 0 ≡ get_or ws (d + 1) 0
  pub right_same : (d : ℕ) → IsItemOfList refs d → get_or vs (d + 3) 0 ≡ get_or ws (d + 3) 0

pub alike-set : (ws hs refs : List ℕ) (c i v : ℕ) → HasWatchChains ws hs refs → IsItemOfList refs c → c < i → i < c + 5 → Alike ws (set ws i v) refs
alike-set ws hs refs c i v k r lo hi = record {
  size = simp length-set;
  same = λ d s. same-after ws (IsItemOfList refs) c d i v k.clear r s lo hi;
}

pub other-header : (ws hs refs : List ℕ) (c d : ℕ) → HasWatchChains ws hs refs → IsItemOfList refs c → IsItemOfList refs d → c ≢ d → (c + 7 ≤ d) ⊎ (d + 7 ≤ c)
other-header ws hs refs c d k r s n = (headers-of ws hs refs k).apart c d r s n

pub same-set : (ws hs refs : List ℕ) (f b v : ℕ) → HasWatchChains ws hs refs → IsItemOfList refs b → SameWatches ws (set ws (link_index ws f b) v) refs
same-set ws hs refs f b v k r = record {
  left_same = λ d s. elim (cases_eq b d) [
    | inl e ↦ get_or-set_other ws (link_index ws f b) (d + 1) v 0 (grind (arith, link_index-in ws f b))
    | inr n ↦ (let a = other-header ws hs refs b d k r s n in get_or-set_other ws (link_index ws f b) (d + 1) v 0 (grind (arith, link_index-in ws f b)))
  ];
  right_same = λ d s. elim (cases_eq b d) [
    | inl e ↦ get_or-set_other ws (link_index ws f b) (d + 3) v 0 (grind (arith, link_index-in ws f b))
    | inr n ↦ (let a = other-header ws hs refs b d k r s n in get_or-set_other ws (link_index ws f b) (d + 3) v 0 (grind (arith, link_index-in ws f b)))
  ];
}

pub watches-to : (ws vs : List ℕ) (c l : ℕ) → get_or vs (c + 1) 0 ≡ get_or ws (c + 1) 0 → get_or vs (c + 3) 0 ≡ get_or ws (c + 3) 0 → HasWatch ws c l → HasWatch vs c l
watches-to ws vs c l a b (left p) = left (a ∙ p)
watches-to ws vs c l a b (right p) = right (b ∙ p)

pub watch-back : (ws : List ℕ) (f c t v l : ℕ) → c + 7 ≤ length ws → get_or ws (c + 1) 0 ≢ get_or ws (c + 3) 0 → HasWatch ws c f → HasWatch (watch_moved ws f c t v) c l → (l ≡ t) ⊎ (HasWatch ws c l × (l ≢ f))
watch-back ws f c t v l h n wf w =
    elim (cases_eq (get_or ws (c + 1) 0) f) [
      | inl p ↦ (let r = moved-reads-left ws f c t v h p in pick1 ws (watch_moved ws f c t v) c f t l p n r.1 r.3 w)
      | inr p ↦ (let r = moved-reads-right ws f c t v h p in pick2 ws (watch_moved ws f c t v) c f t l p n r.1 r.3 wf w)
    ]
  where
    pick1 : (ws vs : List ℕ) (c f t l : ℕ) → get_or ws (c + 1) 0 ≡ f → get_or ws (c + 1) 0 ≢ get_or ws (c + 3) 0 → get_or vs (c + 1) 0 ≡ t → get_or vs (c + 3) 0 ≡ get_or ws (c + 3) 0 → HasWatch vs c l → (l ≡ t) ⊎ (HasWatch ws c l × (l ≢ f))
    pick1 ws vs c f t l p n a b (left q) = inl (sym q ∙ a)
    pick1 ws vs c f t l p n a b (right q) = inr (right (sym b ∙ q), λ e. n (p ∙ sym e ∙ sym q ∙ b))

    pick2 : (ws vs : List ℕ) (c f t l : ℕ) → get_or ws (c + 1) 0 ≢ f →
        get_or ws (c + 1) 0 ≢ get_or ws (c + 3) 0 → get_or vs (c + 1) 0 ≡ get_or ws (c + 1) 0 →
        get_or vs (c + 3) 0 ≡ t → HasWatch ws c f → HasWatch vs c l → (l ≡ t) ⊎ (HasWatch ws c l × (l ≢ f))
    pick2 ws vs c f t l p n a b (left x) w = absurd (p x)
    pick2 ws vs c f t l p n a b (right x) (left q) = inr (left (sym a ∙ q), λ e. p (sym a ∙ q ∙ e))
    pick2 ws vs c f t l p n a b (right x) (right q) = inl (sym q ∙ b)

pub unlinked : (ws hs refs : List ℕ) (before : Option ℕ) (f c : ℕ) → HasWatchChains ws hs refs → f < length hs →
    FollowsOrHeadsChain before c (chain_for_lit_place ws hs f) →
    ChainsAreWatchPaths (words_after_unlink ws before f c) (heads_after_unlink hs ws before f c) (IsItemOfList refs)
    (chains_with_one_replaced (chain_for_lit_place ws hs) f (without_reference c (chain_for_lit_place ws hs f)))
unlinked ws hs refs None f c k h a =
    let e : without_reference c (chain_for_lit_place ws hs f) ≡ a.0 = rw a.1 (without-first c a.0 (let D : List ℕ → Type 0 = λ ys. Distinct ys in let d : Distinct (c ∷ a.0) = subst D a.1 (k.chains.once f h) in d.0)) in
    rw e (drop-first ws hs (IsItemOfList refs) (chain_for_lit_place ws hs) f c a.0 h a.1 k.chains)
unlinked ws hs refs (Some b) f c k h a =
    let D : List ℕ → Type 0 = λ ys. Distinct ys in
    let d : Distinct (a.0 ++ (b ∷ (c ∷ a.1.0))) = subst D a.1.1 (k.chains.once f h) in
    let e : without_reference c (chain_for_lit_place ws hs f) ≡ a.0 ++ (b ∷ a.1.0) = rw a.1.1 (without-later a.0 b c a.1.0 d) in
    rw e (drop-later ws hs (IsItemOfList refs) (chain_for_lit_place ws hs) f b c a.0 a.1.0 h a.1.1 (headers-of ws hs refs k) k.chains)
