use Rattle.std.proofs.Common.{◌≡◌, ◌≢◌, ℕ, ◌+◌, ◌<◌, ◌≤◌, ◌⊎◌, inl, inr, true, false, eqb, List, [], ◌∷◌, ◌++◌, length, get_or, set, refl, sym, ◌∙◌, subst, arith}
use Rattle.std.proofs.lemmas.List.{get_or-set_other}
use Rattle.std.proofs.Math.ListN.{length-set}
use Rattle.std.proofs.lemmas.Bool.Decides.{nat_tests}
use Rattle.ilk_arena.specs.Words.{link_index, next_reference_in_chain, IsItemOfList, HasWatch, left, right, ChainsAreWatchPaths, chains_with_one_replaced}
use Rattle.ilk_arena.specs.Linked.{literal_places_at, chain_for_lit_place, HasWatchChains}
use Rattle.ilk_arena.proofs.LinkedChains.{headers-of, chain_for_lit_place-is, same-chains}
use Rattle.ilk_arena.proofs.Appending.{appended, block, places-new, push-head, stands-last, stands-one, stands-push, watch-shrink, which}

pub record Joins (ws hs refs ps ks : List ℕ) (a x b y k : ℕ) (cs : ℕ → List ℕ) : Type 0 where
  pub heads : length ks ≡ length hs
  pub chains : ChainsAreWatchPaths (ws ++ block (length ps) a x b y k ps) ks (IsItemOfList (refs ++ (length ws ∷ []))) cs
  pub differ : a ≢ b
  pub least : (p : ℕ) → IsItemOfList ps p → 2 ≤ p
  pub small : (p : ℕ) → IsItemOfList ps p → p < length hs
  pub own : 2 ≤ length ps → IsItemOfList ps a × IsItemOfList ps b
  pub none : length ps < 2 → (a < 2) × (b < 2)
  pub empty : (l : ℕ) → l < 2 → cs l ≡ []
  pub kept : (l d : ℕ) → IsItemOfList (chain_for_lit_place ws hs l) d → IsItemOfList (cs l) d
  pub joined : (l : ℕ) → 2 ≤ l → (l ≡ a) ⊎ (l ≡ b) → IsItemOfList (cs l) (length ws)

pub linked-push : (ws hs refs ps ks : List ℕ) (a x b y k : ℕ) (cs : ℕ → List ℕ) → HasWatchChains ws hs refs →
    Joins ws hs refs ps ks a x b y k cs →
    HasWatchChains (ws ++ block (length ps) a x b y k ps) ks (refs ++ (length ws ∷ [])) ×
    ((l : ℕ) → l < length hs → chain_for_lit_place (ws ++ block (length ps) a x b y k ps) ks l ≡ cs l)
linked-push ws hs refs ps ks a x b y k cs li j =
    let c = length ws in
    let us = ws ++ block (length ps) a x b y k ps in
    let all = refs ++ (c ∷ []) in
    let ap = appended ws hs refs ps a x b y k li in
    let hd = headers-of ws hs refs li in
    let nk = j.heads in
    let fam : (l : ℕ) → l < length hs → chain_for_lit_place us ks l ≡ cs l = λ l h. chain_for_lit_place-is us ks (IsItemOfList all) cs ap.headers j.chains l (omega (arith, nk)) in
    let W : ℕ → Type 0 = λ d. IsItemOfList (literal_places_at us d) (get_or us (d + 1) 0) × IsItemOfList (literal_places_at us d) (get_or us (d + 3) 0) in
    let places : literal_places_at us c ≡ ps = places-new ws ps a x b y k in
    let owns : (d : ℕ) → IsItemOfList all d → 2 ≤ get_or us d 0 → W d = λ d s h. elim (stands-push refs c d s) [
      | inl q ↦ (let lg : 2 ≤ get_or ws d 0 = omega (arith, ap.kept_len d q, h) in
          rw (ap.kept_places d q, ap.kept d 1 q (omega arith), ap.kept d 3 q (omega arith)) (li.left_own d q lg, li.right_own d q lg))
      | inr q ↦ (let L : ℕ → Type 0 = λ i. 2 ≤ get_or us i 0 in
          let lg : 2 ≤ length ps = omega (arith, subst L (sym q) h, ap.new_len) in
          subst W q (rw (places, ap.new_left, ap.new_right) (j.own lg)))
    ] in
    let N : ℕ → Type 0 = λ d. (get_or us (d + 1) 0 < 2) × (get_or us (d + 3) 0 < 2) in
    let nones : (d : ℕ) → IsItemOfList all d → get_or us d 0 < 2 → N d = λ d s h. elim (stands-push refs c d s) [
      | inl q ↦ (let sh : get_or ws d 0 < 2 = omega (arith, ap.kept_len d q, h) in
          rw (ap.kept d 1 q (omega arith), ap.kept d 3 q (omega arith)) (li.left_none d q sh, li.right_none d q sh))
      | inr q ↦ (let L : ℕ → Type 0 = λ i. get_or us i 0 < 2 in
          let sh : length ps < 2 = omega (arith, subst L (sym q) h, ap.new_len) in
          subst N q (rw (ap.new_left, ap.new_right) (j.none sh)))
    ] in (
      record {
        started = omega (arith, ap.size, li.started);
        wide = omega (arith, nk, li.wide);
        positive = λ d s. (ap.headers.room d s).0;
        whole = λ d s. elim (stands-push refs c d s) [
          | inl q ↦ omega (arith, ap.kept_len d q, ap.size, li.whole d q)
          | inr q ↦ (let P : ℕ → Type 0 = λ i. i + 7 + get_or us i 0 ≤ length us in subst P q (omega (arith, ap.size, ap.new_len)))
        ];
        clear = λ d e s t h. elim (stands-push refs c d s) [
          | inl q ↦ elim (stands-push refs c e t) [
            | inl r ↦ omega (arith, ap.kept_len d q, li.clear d e q r h)
            | inr r ↦ omega (arith, ap.kept_len d q, r, li.whole d q)
          ]
          | inr q ↦ elim (stands-push refs c e t) [ inl r ↦ absurd (omega (arith, q, ap.old e r)) | inr r ↦ absurd (omega (arith, q, r)) ]
        ];
        differ = λ d s. elim (stands-push refs c d s) [
          | inl q ↦ (let e = ap.kept d 1 q (omega arith) in let f = ap.kept d 3 q (omega arith) in λ g. li.differ d q (sym e ∙ g ∙ f))
          | inr q ↦ (let P : ℕ → Type 0 = λ i. get_or us (i + 1) 0 ≢ get_or us (i + 3) 0 in subst P q (λ g. j.differ (sym ap.new_left ∙ g ∙ ap.new_right)))
        ];
        least = λ d p s h. elim (stands-push refs c d s) [
          | inl q ↦ (let P : List ℕ → Type 0 = λ ys. IsItemOfList ys p in li.least d p q (subst P (ap.kept_places d q) h))
          | inr q ↦ (let P : List ℕ → Type 0 = λ ys. IsItemOfList ys p in let Q : ℕ → Type 0 = λ i. IsItemOfList (literal_places_at us i) p in j.least p (subst P places (subst Q (sym q) h)))
        ];
        small = λ d p s h. elim (stands-push refs c d s) [
          | inl q ↦ (let P : List ℕ → Type 0 = λ ys. IsItemOfList ys p in omega (arith, nk, li.small d p q (subst P (ap.kept_places d q) h)))
          | inr q ↦ (let P : List ℕ → Type 0 = λ ys. IsItemOfList ys p in let Q : ℕ → Type 0 = λ i. IsItemOfList (literal_places_at us i) p in omega (arith, nk, j.small p (subst P places (subst Q (sym q) h))))
        ];
        left_own = λ d s h. (owns d s h).0;
        right_own = λ d s h. (owns d s h).1;
        left_none = λ d s h. (nones d s h).0;
        right_none = λ d s h. (nones d s h).1;
        chains = same-chains us ks (IsItemOfList all) cs (chain_for_lit_place us ks) (λ l h. fam l (omega (arith, nk))) j.chains;
        empty = λ l h. fam l (omega (arith, li.wide)) ∙ j.empty l h;
        standing = λ d l s l2 h w. (let hl : l < length hs = omega (arith, nk) in
            let P : List ℕ → Type 0 = λ ys. IsItemOfList ys d in
            subst P (sym (fam l hl)) (elim (stands-push refs c d s) [
              | inl q ↦ j.kept l d (li.standing d l q l2 hl (watch-shrink ws (block (length ps) a x b y k ps) d l (hd.room d q).1 w))
              | inr q ↦ (let W : ℕ → Type 0 = λ i. HasWatch us i l in
                  let S : ℕ → Type 0 = λ i. IsItemOfList (cs l) i in
                  subst S q (j.joined l l2 (which us c a b l ap.new_left ap.new_right (subst W (sym q) w))))
            ]));
      },
      fam,
    )

pub added-long : (ws hs refs ps : List ℕ) (a b k : ℕ) → HasWatchChains ws hs refs → a ≢ b → 2 ≤ length ps →
    IsItemOfList ps a → IsItemOfList ps b → ((p : ℕ) → IsItemOfList ps p → 2 ≤ p) → ((p : ℕ) → IsItemOfList ps p → p < length hs) →
    Joins ws hs refs ps (set (set hs a (length ws)) b (length ws)) a (get_or hs a 0) b (get_or hs b 0) k
    (chains_with_one_replaced (chains_with_one_replaced (chain_for_lit_place ws hs) a (length ws ∷ chain_for_lit_place ws hs a)) b
    (length ws ∷ chains_with_one_replaced (chain_for_lit_place ws hs) a (length ws ∷ chain_for_lit_place ws hs a) b))
unfolding link_index
added-long ws hs refs ps a b k li ne long oa ob least small =
    let c = length ws in
    let x = get_or hs a 0 in
    let y = get_or hs b 0 in
    let us = ws ++ block (length ps) a x b y k ps in
    let gs = set hs a c in
    let all = refs ++ (c ∷ []) in
    let ap = appended ws hs refs ps a x b y k li in
    let ha : a < length hs = small a oa in
    let hb : b < length hs = small b ob in
    let na : next_reference_in_chain us a c ≡ x = (let e : eqb (get_or us (c + 1) 0) a ≡ true = grind (arith, nat_tests, ap.new_left) in rw e ap.new_left_link) in
    let nb : next_reference_in_chain us b c ≡ y = (let e : eqb (get_or us (c + 1) 0) b ≡ false = grind (arith, nat_tests, ap.new_left) in rw e ap.new_right_link) in
    let one = chains_with_one_replaced (chain_for_lit_place ws hs) a (c ∷ chain_for_lit_place ws hs a) in
    let step1 : ChainsAreWatchPaths us gs (IsItemOfList all) one = push-head us hs (IsItemOfList all) (chain_for_lit_place ws hs) a c ha (stands-last refs c) li.started (left ap.new_left) na (ap.absent a ha) ap.chains in
    let ng : length gs ≡ length hs = simp length-set in
    let ba : eqb b a ≡ false = grind (arith, nat_tests) in
    let hbg : get_or gs b 0 ≡ y = get_or-set_other hs a b c 0 (λ e. ne (sym e)) in
    let la : 2 ≤ a = least a oa in
    let lb : 2 ≤ b = least b ob in
    record {
      heads = simp length-set;
      chains = push-head us gs (IsItemOfList all) one b c (omega (arith, ng)) (stands-last refs c) li.started (right ap.new_right) (nb ∙ sym hbg) (rw ba (ap.absent b hb)) step1;
      differ = ne;
      least = least;
      small = small;
      own = λ h. (oa, ob);
      none = λ h. absurd (omega arith);
      empty = λ l h. (
          let e1 : eqb l b ≡ false = grind (arith, nat_tests) in
          let e2 : eqb l a ≡ false = grind (arith, nat_tests) in
          rw (e1, e2) (li.empty l h));
      kept = λ l d s. stands-one one b c d l (inl (stands-one (chain_for_lit_place ws hs) a c d l (inl s)));
      joined = λ l h w. elim w [
        | inl e ↦ stands-one one b c c l (inl (stands-one (chain_for_lit_place ws hs) a c c l (inr (refl, e))))
        | inr e ↦ stands-one one b c c l (inr (refl, e))
      ];
    }

pub added-short : (ws hs refs ps : List ℕ) (k : ℕ) → HasWatchChains ws hs refs → length ps < 2 → ((p : ℕ) → IsItemOfList ps p → 2 ≤ p) → ((p : ℕ) → IsItemOfList ps p → p < length hs) → Joins ws hs refs ps hs 0 0 1 0 k (chain_for_lit_place ws hs)
added-short ws hs refs ps k li short least small = record {
  heads = refl;
  chains = (appended ws hs refs ps 0 0 1 0 k li).chains;
  differ = λ e. absurd (omega (arith, e));
  least = least;
  small = small;
  own = λ h. absurd (omega arith);
  none = λ h. (omega arith, omega arith);
  empty = li.empty;
  kept = λ l d s. s;
  joined = λ l h w. absurd (elim w [ inl e ↦ omega (arith, e) | inr e ↦ omega (arith, e) ]);
}
