use Rattle.std.proofs.Common.{◌≡◌, ◌≢◌, ℕ, ◌+◌, ◌-◌, ◌<◌, ◌≤◌, ◌⊎◌, inl, inr, true, false, eqb, List, ◌∷◌, length, get_or, set, sym, ◌∙◌, subst, arith}
use Rattle.std.proofs.lemmas.List.{get_or-set_other}
use Rattle.std.proofs.lemmas.Bool.Decides.{nat_tests, eqb_tells}
use Rattle.std.proofs.lemmas.Bool.{cases_eq, cases_lt}
use Rattle.std.proofs.Math.ListN.{length-set}
use Rattle.ilk_arena.specs.Words.{link_index, watch_moved, AllSatisfy, IsItemOfList, HasWatch, left, right, ChainsAreWatchPaths, AreHeadersInsideAndApart, chains_with_one_replaced}
use Rattle.ilk_arena.specs.Linked.{literal_places_at, chain_for_lit_place, HasWatchChains}
use Rattle.ilk_arena.specs.Arena.{without_reference}
use Rattle.ilk_arena.proofs.HeaderWrites.{link_index-in, moved-reads-left, moved-reads-right}
use Rattle.ilk_arena.proofs.ChainMoves.{push-moved}
use Rattle.ilk_arena.proofs.LinkedChains.{headers-of, chain_for_lit_place-is, same-chains}
use Rattle.ilk_arena.proofs.Unlinking.{Alike, SameWatches, same-after, watches-to, watch-back, without-gone, stands-without}

abbrev pub Clear : List ℕ → List ℕ → Type 0
Clear ws refs = (c d : ℕ) → IsItemOfList refs c → IsItemOfList refs d → c < d → c + 7 + get_or ws c 0 ≤ d

pub alike-step : (ws refs : List ℕ) (c i v : ℕ) → Clear ws refs → IsItemOfList refs c → c < i → i < c + 5 → Alike ws (set ws i v) refs
alike-step ws refs c i v k r lo hi = record {
  size = simp length-set;
  same = λ d s. same-after ws (IsItemOfList refs) c d i v k r s lo hi;
}

pub clear-of : (ws vs refs : List ℕ) → Alike ws vs refs → Clear ws refs → Clear vs refs
clear-of ws vs refs a k c d r s h = omega (arith, (a.same c r).len, k c d r s h)

pub alike-join : (ws us vs refs : List ℕ) → Alike ws us refs → Alike us vs refs → Alike ws vs refs
alike-join ws us vs refs a b = record {
  size = b.size ∙ a.size;
  same = λ d s. (let p = a.same d s in let q = b.same d s in record {
    len = q.len ∙ p.len;
    places = q.places ∙ p.places;
    number = q.number ∙ p.number;
    cursor = q.cursor ∙ p.cursor;
  });
}

pub alike-moved : (ws refs : List ℕ) (f c t v : ℕ) → Clear ws refs → IsItemOfList refs c → Alike ws (watch_moved ws f c t v) refs
alike-moved ws refs f c t v k r =
    let us = set ws (link_index ws f c - 1) t in
    let a = alike-step ws refs c (link_index ws f c - 1) t k r (grind (arith, link_index-in ws f c)) (grind (arith, link_index-in ws f c)) in
    alike-join ws us (watch_moved ws f c t v) refs a (alike-step us refs c (link_index ws f c) v (clear-of ws us refs a k) r (grind (arith, link_index-in ws f c)) (grind (arith, link_index-in ws f c)))

moved-read-far : (ws : List ℕ) (f c t v i : ℕ) → i ≢ link_index ws f c → i ≢ link_index ws f c - 1 → get_or (watch_moved ws f c t v) i 0 ≡ get_or ws i 0
moved-read-far ws f c t v i a b = get_or-set_other (set ws (link_index ws f c - 1) t) (link_index ws f c) i v 0 a ∙ get_or-set_other ws (link_index ws f c - 1) i t 0 b

pub moved-same : (ws : List ℕ) (f c t v d : ℕ) → (c + 7 ≤ d) ⊎ (d + 7 ≤ c) → (get_or (watch_moved ws f c t v) (d + 1) 0 ≡ get_or ws (d + 1) 0) × (get_or (watch_moved ws f c t v) (d + 3) 0 ≡ get_or ws (d + 3) 0)
moved-same ws f c t v d h = (
  moved-read-far ws f c t v (d + 1) (grind (arith, link_index-in ws f c)) (grind (arith, link_index-in ws f c)),
  moved-read-far ws f c t v (d + 3) (grind (arith, link_index-in ws f c)) (grind (arith, link_index-in ws f c)),
)

moved-differ : (ws : List ℕ) (f c t v : ℕ) → c + 7 ≤ length ws → (HasWatch ws c t → ⊥) → get_or (watch_moved ws f c t v) (c + 1) 0 ≢ get_or (watch_moved ws f c t v) (c + 3) 0
moved-differ ws f c t v h n e =
    elim (cases_eq (get_or ws (c + 1) 0) f) [
      | inl p ↦ (let r = moved-reads-left ws f c t v h p in n (right (sym r.3 ∙ sym e ∙ r.1)))
      | inr p ↦ (let r = moved-reads-right ws f c t v h p in n (left (sym r.1 ∙ e ∙ r.3)))
    ]

stands-two : (cs : ℕ → List ℕ) (f t c d l : ℕ) → f ≢ t → ((d ≡ c) × (l ≡ t)) ⊎ (IsItemOfList (cs l) d × ((d ≢ c) ⊎ (l ≢ f)))
    → IsItemOfList (chains_with_one_replaced (chains_with_one_replaced cs f (without_reference c (cs f))) t (c ∷ chains_with_one_replaced cs f (without_reference c (cs f)) t) l) d
stands-two cs f t c d l n (inl p) =
    elim (eqb_tells l t) [ inl e ↦ rw e.0 (inl (sym p.0)) | inr e ↦ absurd (e.1 p.1) ]
stands-two cs f t c d l n (inr s) =
    let one : IsItemOfList (chains_with_one_replaced cs f (without_reference c (cs f)) l) d = elim (eqb_tells l f) [
      | inl e ↦ (let P : ℕ → Type 0 = λ j. IsItemOfList (cs j) d in
          rw e.0 (elim s.1 [ inl q ↦ stands-without c d (cs f) q (subst P e.1 s.0) | inr q ↦ absurd (q e.1) ]))
      | inr e ↦ rw e.0 s.0
    ] in
    elim (eqb_tells l t) [
      | inl e ↦ (let P : ℕ → Type 0 = λ j. IsItemOfList (chains_with_one_replaced cs f (without_reference c (cs f)) j) d in rw e.0 (inr (subst P e.1 one)))
      | inr e ↦ rw e.0 one
    ]

pub long-of : (ws hs refs : List ℕ) (c f : ℕ) → HasWatchChains ws hs refs → IsItemOfList refs c → 2 ≤ f → HasWatch ws c f → 2 ≤ get_or ws c 0
long-of ws hs refs c f k r h w =
    elim (cases_lt (get_or ws c 0) 2) [
      | inl s ↦ absurd (go (k.left_none c r s) (k.right_none c r s) w)
      | inr s ↦ s
    ]
  where
    go : get_or ws (c + 1) 0 < 2 → get_or ws (c + 3) 0 < 2 → HasWatch ws c f → ⊥
    go a b (left p) = omega arith
    go a b (right p) = omega arith

watch-words : (ws : List ℕ) (f c t v : ℕ) (P : ℕ → Type 0) → c + 7 ≤ length ws → P t → P (get_or ws (c + 1) 0) → P (get_or ws (c + 3) 0) → P (get_or (watch_moved ws f c t v) (c + 1) 0) × P (get_or (watch_moved ws f c t v) (c + 3) 0)
watch-words ws f c t v P h pt pl pr =
    elim (cases_eq (get_or ws (c + 1) 0) f) [
      | inl p ↦ (let r = moved-reads-left ws f c t v h p in (subst P (sym r.1) pt, subst P (sym r.3) pr))
      | inr p ↦ (let r = moved-reads-right ws f c t v h p in (subst P (sym r.1) pl, subst P (sym r.3) pt))
    ]

pub record Relinked (ws hs refs us ks : List ℕ) (f t c : ℕ) : Type 0 where
  pub linked : HasWatchChains us ks refs
  pub alike : Alike ws us refs
  pub seen : (l : ℕ) → l < length hs → chain_for_lit_place us ks l
      ≡ chains_with_one_replaced (chains_with_one_replaced (chain_for_lit_place ws hs) f (without_reference c (chain_for_lit_place ws hs f))) t
      (c ∷ chains_with_one_replaced (chain_for_lit_place ws hs) f (without_reference c (chain_for_lit_place ws hs f)) t)
      l

pub relinked : (ws hs refs vs gs : List ℕ) (f t c : ℕ) → HasWatchChains ws hs refs → Alike ws vs refs →
    SameWatches ws vs refs → length gs ≡ length hs →
    ChainsAreWatchPaths vs gs (IsItemOfList refs) (chains_with_one_replaced (chain_for_lit_place ws hs) f (without_reference c (chain_for_lit_place ws hs f))) → 2 ≤ f →
    f < length hs → IsItemOfList (literal_places_at ws c) t → IsItemOfList refs c → HasWatch ws c f → f ≢ t →
    (HasWatch ws c t → ⊥) → Relinked ws hs refs (watch_moved vs f c t (get_or gs t 0)) (set gs t c) f t c
relinked ws hs refs vs gs f t c k a w g ch lf hf own rc wf ne nw =
    let v = get_or gs t 0 in
    let us = watch_moved vs f c t v in
    let ks = set gs t c in
    let lt : 2 ≤ t = k.least c t rc own in
    let ht : t < length hs = k.small c t rc own in
    let long : 2 ≤ get_or ws c 0 = long-of ws hs refs c f k rc lf wf in
    let one = chains_with_one_replaced (chain_for_lit_place ws hs) f (without_reference c (chain_for_lit_place ws hs f)) in
    let two = chains_with_one_replaced one t (c ∷ one t) in
    let clear1 : Clear vs refs = clear-of ws vs refs a k.clear in
    let hd : AreHeadersInsideAndApart vs (IsItemOfList refs) = record {
      room = λ d s. (k.positive d s, omega (arith, a.size, k.whole d s));
      apart = λ d e s r n. (headers-of ws hs refs k).apart d e s r n;
    } in
    let wv : HasWatch vs c f = watches-to ws vs c f (w.left_same c rc) (w.right_same c rc) wf in
    let nv : HasWatch vs c t → ⊥ = λ x. nw (watches-to vs ws c t (sym (w.left_same c rc)) (sym (w.right_same c rc)) x) in
    let hf2 : f < length gs = omega (arith, g) in
    let ht2 : t < length gs = omega (arith, g) in
    let gone : AllSatisfy (λ d. d ≢ c) (one f) = (let e : eqb f f ≡ true = grind (arith, nat_tests) in rw e (without-gone c (chain_for_lit_place ws hs f))) in
    let pushed : ChainsAreWatchPaths us ks (IsItemOfList refs) two = push-moved vs gs (IsItemOfList refs) one f t c hf2 ht2 ne rc wv (λ e. nv (left e)) nv gone hd ch in
    let room = hd.room c rc in
    let am : Alike vs us refs = alike-moved vs refs f c t v clear1 rc in
    let both : Alike ws us refs = alike-join ws vs us refs a am in
    let hd2 : AreHeadersInsideAndApart us (IsItemOfList refs) = record {
      room = λ d s. (k.positive d s, omega (arith, both.size, k.whole d s));
      apart = hd.apart;
    } in
    let n : length ks ≡ length hs = (simp length-set g) in
    let fam : (l : ℕ) → l < length hs → chain_for_lit_place us ks l ≡ two l = λ l h. chain_for_lit_place-is us ks (IsItemOfList refs) two hd2 pushed l (omega (arith, n)) in
    let owns : (d : ℕ) → IsItemOfList refs d → 2 ≤ get_or us d 0 → IsItemOfList (literal_places_at us d) (get_or us (d + 1) 0) × IsItemOfList (literal_places_at us d) (get_or us (d + 3) 0) = λ d s h.
    (let sm = both.same d s in
    let lg : 2 ≤ get_or ws d 0 = omega (arith, sm.len, h) in
    let L = k.left_own d s lg in
    let R = k.right_own d s lg in
    let S : ℕ → Type 0 = λ p. IsItemOfList (literal_places_at ws d) p in
    rw sm.places (elim (cases_eq d c) [
      | inl e ↦ (let Q : ℕ → Type 0 = λ j. IsItemOfList (literal_places_at ws j) (get_or us (j + 1) 0) × IsItemOfList (literal_places_at ws j) (get_or us (j + 3) 0) in
          subst Q (sym e) (watch-words vs f c t v (λ p. IsItemOfList (literal_places_at ws c) p) room.1 own (rw (w.left_same c rc) (k.left_own c rc long)) (rw (w.right_same c rc) (k.right_own c rc long))))
      | inr m ↦ (let q = moved-same vs f c t v d (hd.apart c d rc s (λ e. m (sym e))) in
          (subst S (sym (q.0 ∙ w.left_same d s)) L, subst S (sym (q.1 ∙ w.right_same d s)) R))
    ])) in
    let nones : (d : ℕ) → IsItemOfList refs d → get_or us d 0 < 2 → (get_or us (d + 1) 0 < 2) × (get_or us (d + 3) 0 < 2) = λ d s h.
    (let sm = both.same d s in
    let sh : get_or ws d 0 < 2 = omega (arith, sm.len, h) in
    let m : d ≢ c = λ e. (let B : ℕ → Type 0 = λ j. get_or ws j 0 < 2 in let x : get_or ws c 0 < 2 = subst B e sh in omega arith) in
    let q = moved-same vs f c t v d (hd.apart c d rc s (λ e. m (sym e))) in
    (omega (arith, q.0, w.left_same d s, k.left_none d s sh), omega (arith, q.1, w.right_same d s, k.right_none d s sh))) in
    record {
      linked = record {
        started = omega (arith, both.size, k.started);
        wide = omega (arith, n, k.wide);
        positive = k.positive;
        whole = λ d s. omega (arith, both.size, (both.same d s).len, k.whole d s);
        clear = clear-of ws us refs both k.clear;
        differ = λ d s. elim (cases_eq d c) [
          | inl e ↦ (let P : ℕ → Type 0 = λ j. get_or us (j + 1) 0 ≢ get_or us (j + 3) 0 in subst P (sym e) (moved-differ vs f c t v room.1 nv))
          | inr m ↦ (let q = moved-same vs f c t v d (hd.apart c d rc s (λ e. m (sym e))) in
              λ e. k.differ d s (sym (w.left_same d s) ∙ sym q.0 ∙ e ∙ q.1 ∙ w.right_same d s))
        ];
        least = λ d p s h. (let P : List ℕ → Type 0 = λ ys. IsItemOfList ys p in k.least d p s (subst P (both.same d s).places h));
        small = λ d p s h. (let P : List ℕ → Type 0 = λ ys. IsItemOfList ys p in omega (arith, n, k.small d p s (subst P (both.same d s).places h)));
        left_own = λ d s h. (owns d s h).0;
        right_own = λ d s h. (owns d s h).1;
        left_none = λ d s h. (nones d s h).0;
        right_none = λ d s h. (nones d s h).1;
        chains = same-chains us ks (IsItemOfList refs) two (chain_for_lit_place us ks) (λ l h. fam l (omega (arith, n))) pushed;
        empty = λ l h. (
            let a1 : eqb l t ≡ false = grind (arith, nat_tests) in
            let a2 : eqb l f ≡ false = grind (arith, nat_tests) in
            (rw (a1, a2) at (fam l (omega (arith, k.wide)))) ∙ k.empty l h);
        standing = λ d l s l2 h x. (let hl : l < length hs = omega (arith, n) in
            let P : List ℕ → Type 0 = λ ys. IsItemOfList ys d in
            subst P (sym (fam l hl)) (stands-two (chain_for_lit_place ws hs) f t c d l ne (elim (cases_eq d c) [
              | inl e ↦ (let W : ℕ → Type 0 = λ j. HasWatch us j l in
                  elim (watch-back vs f c t v l room.1 (λ q. k.differ c rc (sym (w.left_same c rc) ∙ q ∙ w.right_same c rc)) wv (subst W e x)) [
                    | inl q ↦ inl (e, q)
                    | inr q ↦ (let S : ℕ → Type 0 = λ j. IsItemOfList (chain_for_lit_place ws hs l) j in
                        inr (subst S (sym e) (k.standing c l rc l2 hl (watches-to vs ws c l (sym (w.left_same c rc)) (sym (w.right_same c rc)) q.0)), inr q.1))
                  ])
              | inr m ↦ (let q = moved-same vs f c t v d (hd.apart c d rc s (λ e. m (sym e))) in
                  inr (k.standing d l s l2 hl (watches-to us ws d l (sym (w.left_same d s) ∙ sym q.0) (sym (w.right_same d s) ∙ sym q.1) x), inl m))
            ])));
      };
      alike = both;
      seen = fam;
    }
