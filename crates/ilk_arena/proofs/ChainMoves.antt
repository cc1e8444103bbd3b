use Rattle.std.proofs.Common.{◌≡◌, ◌≢◌, ℕ, ◌+◌, ◌<◌, inl, inr, List, [], ◌∷◌, ◌++◌, length, get_or, set, sym, subst, arith}
use Rattle.std.proofs.lemmas.List.{get_or-set_same, get_or-set_other}
use Rattle.std.proofs.lemmas.Bool.Decides.{eqb_tells}
use Rattle.std.proofs.lemmas.Bool.{cases_eq}
use Rattle.std.proofs.Math.ListN.{length-set}
use Rattle.ilk_arena.specs.Words.{link_index, next_reference_in_chain, watch_moved, IsChainPath, AllSatisfy, HasWatch, Distinct, ChainsAreWatchPaths, AreHeadersInsideAndApart, chains_with_one_replaced}
use Rattle.ilk_arena.proofs.Paths.{frame, unlink}
use Rattle.ilk_arena.proofs.HeaderWrites.{link_index-in, next-far, next-other, next-same, watches-far, moved-far, moved-watch-far, moved-next, moved-other, moved-watch, moved-watch-other}

pub each-map : (P Q : ℕ → Type 0) (cs : List ℕ) → ((c : ℕ) → P c → Q c) → AllSatisfy P cs → AllSatisfy Q cs
each-map P Q [] f e = tt
each-map P Q (c ∷ cs) f e = (f c e.0, each-map P Q cs f e.1)

pub each-both : (P Q S : ℕ → Type 0) (cs : List ℕ) → ((c : ℕ) → P c → Q c → S c) → AllSatisfy P cs → AllSatisfy Q cs → AllSatisfy S cs
each-both P Q S [] f e h = tt
each-both P Q S (c ∷ cs) f e h = (f c e.0 h.0, each-both P Q S cs f e.1 h.1)

pub each-front : (P : ℕ → Type 0) (xs ys : List ℕ) → AllSatisfy P (xs ++ ys) → AllSatisfy P xs
each-front P [] ys e = tt
each-front P (x ∷ xs) ys e = (e.0, each-front P xs ys e.1)

pub each-back : (P : ℕ → Type 0) (xs ys : List ℕ) → AllSatisfy P (xs ++ ys) → AllSatisfy P ys
each-back P [] ys e = e
each-back P (x ∷ xs) ys e = each-back P xs ys e.1

pub each-join : (P : ℕ → Type 0) (xs ys : List ℕ) → AllSatisfy P xs → AllSatisfy P ys → AllSatisfy P (xs ++ ys)
each-join P [] ys e f = f
each-join P (x ∷ xs) ys e f = (e.0, each-join P xs ys e.1 f)

pub distinct-front : (pre : List ℕ) (x : ℕ) (post : List ℕ) → Distinct (pre ++ (x ∷ post)) → AllSatisfy (λ d. d ≢ x) pre
distinct-front [] x post d = tt
distinct-front (p ∷ pre) x post d =
    let h = each-back (λ y. y ≢ p) pre (x ∷ post) d.0 in
    (λ e. h.0 (sym e), distinct-front pre x post d.1)

pub distinct-back : (pre : List ℕ) (x : ℕ) (post : List ℕ) → Distinct (pre ++ (x ∷ post)) → AllSatisfy (λ d. d ≢ x) post
distinct-back [] x post d = d.0
distinct-back (p ∷ pre) x post d = distinct-back pre x post d.1

pub distinct-skip : (pre : List ℕ) (b c : ℕ) (post : List ℕ) → Distinct (pre ++ (b ∷ (c ∷ post))) → Distinct (pre ++ (b ∷ post))
distinct-skip [] b c post d = (d.0.1, d.1.1)
distinct-skip (p ∷ pre) b c post d =
    let h = each-back (λ y. y ≢ p) pre (b ∷ (c ∷ post)) d.0 in
    (each-join (λ y. y ≢ p) pre (b ∷ post) (each-front (λ y. y ≢ p) pre (b ∷ (c ∷ post)) d.0) (h.0, h.1.1), distinct-skip pre b c post d.1)

pub by-pick : (cs : ℕ → List ℕ) (f : ℕ) (v : List ℕ) (n : ℕ) (Q : ℕ → List ℕ → Type 0) → Q f v → ((l : ℕ) → l ≢ f → l < n → Q l (cs l)) → (l : ℕ) → l < n → Q l (chains_with_one_replaced cs f v l)
by-pick cs f v n Q same other l h =
    elim (eqb_tells l f) [ inl p ↦ (let P : ℕ → Type 0 = λ j. Q j v in rw p.0 (subst P (sym p.1) same)) | inr p ↦ rw p.0 (other l p.1 h) ]

pub drop-first : (ws hs : List ℕ) (R : ℕ → Type 0) (cs : ℕ → List ℕ) (f c : ℕ) (post : List ℕ) → f < length hs → cs f ≡ c ∷ post → ChainsAreWatchPaths ws hs R cs → ChainsAreWatchPaths ws (set hs f (next_reference_in_chain
    ws f c)) R (chains_with_one_replaced cs f post)
drop-first ws hs R cs f c post h e k =
    let x = next_reference_in_chain ws f c in
    let P : List ℕ → Type 0 = λ ys. IsChainPath ws f (get_or hs f 0) ys in
    let p : IsChainPath ws f (get_or hs f 0) (c ∷ post) = subst P e (k.path f h) in
    let E : List ℕ → Type 0 = λ ys. AllSatisfy (λ d. R d × HasWatch ws d f) ys in
    let q : AllSatisfy (λ d. R d × HasWatch ws d f) (c ∷ post) = subst E e (k.held f h) in
    let D : List ℕ → Type 0 = λ ys. Distinct ys in
    let d : Distinct (c ∷ post) = subst D e (k.once f h) in
    let n : length (set hs f x) ≡ length hs = simp length-set in
    let at : get_or (set hs f x) f 0 ≡ x = get_or-set_same hs f x 0 h in
    record {
      path = λ l i. by-pick cs f post (length hs) (λ l ys. IsChainPath ws l (get_or (set hs f x) l 0) ys) (rw at p.2) (λ l ne j. rw (get_or-set_other hs f l x 0 ne) (k.path l j)) l (omega (arith, n));
      held = λ l i. by-pick cs f post (length hs) (λ l ys. AllSatisfy (λ d. R d × HasWatch ws d l) ys) q.1 (λ l ne j. k.held l j) l (omega (arith, n));
      once = λ l i. by-pick cs f post (length hs) (λ l ys. Distinct ys) d.1 (λ l ne j. k.once l j) l (omega (arith, n));
    }

pub link-far : (ws : List ℕ) (R : ℕ → Type 0) (b f l d v : ℕ) → AreHeadersInsideAndApart ws R → R b → R d → d ≢ b → next_reference_in_chain (set ws (link_index ws f b) v) l d ≡ next_reference_in_chain ws l d
link-far ws R b f l d v k rb rd n =
    let a = k.apart b d rb rd (λ e. n (sym e)) in
    next-far ws l d (link_index ws f b) v (grind (arith, link_index-in ws f b)) (grind (arith, link_index-in ws f b)) (grind (arith, link_index-in ws f b))

pub link-watch : (ws : List ℕ) (R : ℕ → Type 0) (b f l d v : ℕ) → AreHeadersInsideAndApart ws R → R b → R d → HasWatch ws d l → HasWatch (set ws (link_index ws f b) v) d l
link-watch ws R b f l d v k rb rd w =
    elim (cases_eq d b) [
      | inl e ↦ watches-far ws d l (link_index ws f b) v (grind (arith, link_index-in ws f b)) (grind (arith, link_index-in ws f b)) w
      | inr n ↦ (let a = k.apart b d rb rd (λ e. n (sym e)) in
          watches-far ws d l (link_index ws f b) v (grind (arith, link_index-in ws f b)) (grind (arith, link_index-in ws f b)) w)
    ]

pub link-other : (ws : List ℕ) (R : ℕ → Type 0) (b f l d v : ℕ) → AreHeadersInsideAndApart ws R → R b → R d → l ≢ f → HasWatch ws b f → HasWatch ws d l → next_reference_in_chain (set ws (link_index ws f b) v) l d ≡ next_reference_in_chain ws l d
link-other ws R b f l d v k rb rd n wb wd =
    elim (cases_eq d b) [
      | inl e ↦ (let W : ℕ → Type 0 = λ j. HasWatch ws j l in
          let N : ℕ → Type 0 = λ j. next_reference_in_chain (set ws (link_index ws f b) v) l j ≡ next_reference_in_chain ws l j in
          subst N (sym e) (next-other ws b l f v n (subst W e wd) wb))
      | inr m ↦ link-far ws R b f l d v k rb rd m
    ]

pub drop-later : (ws hs : List ℕ) (R : ℕ → Type 0) (cs : ℕ → List ℕ) (f b c : ℕ) (pre post : List ℕ) →
    f < length hs → cs f ≡ pre ++ (b ∷ (c ∷ post)) → AreHeadersInsideAndApart ws R → ChainsAreWatchPaths ws hs R cs →
    ChainsAreWatchPaths (set ws (link_index ws f b) (next_reference_in_chain ws f c)) hs R (chains_with_one_replaced cs f (pre ++ (b ∷ post)))
drop-later ws hs R cs f b c pre post h e hd k =
    let x = next_reference_in_chain ws f c in
    let vs = set ws (link_index ws f b) x in
    let old = pre ++ (b ∷ (c ∷ post)) in
    let P : List ℕ → Type 0 = λ ys. IsChainPath ws f (get_or hs f 0) ys in
    let p : IsChainPath ws f (get_or hs f 0) old = subst P e (k.path f h) in
    let E : List ℕ → Type 0 = λ ys. AllSatisfy (λ d. R d × HasWatch ws d f) ys in
    let q : AllSatisfy (λ d. R d × HasWatch ws d f) old = subst E e (k.held f h) in
    let D : List ℕ → Type 0 = λ ys. Distinct ys in
    let d : Distinct old = subst D e (k.once f h) in
    let tail : AllSatisfy (λ d. R d × HasWatch ws d f) (b ∷ (c ∷ post)) = each-back (λ d. R d × HasWatch ws d f) pre (b ∷ (c ∷ post)) q in
    let rb : R b = tail.0.0 in
    let wb : HasWatch ws b f = tail.0.1 in
    let front = each-front (λ d. R d × HasWatch ws d f) pre (b ∷ (c ∷ post)) q in
    let keep : (y : ℕ) → R y × HasWatch ws y f → y ≢ b → next_reference_in_chain vs f y ≡ next_reference_in_chain ws f y = λ y r n. link-far ws R b f f y x hd rb r.0 n in
    let e1 : AllSatisfy (λ y. next_reference_in_chain vs f y ≡ next_reference_in_chain ws f y) pre = each-both (λ d. R d × HasWatch ws d f) (λ y. y ≢ b) (λ y. next_reference_in_chain vs f y ≡ next_reference_in_chain
    ws f y) pre keep front (distinct-front pre b (c ∷ post) d) in
    let e2 : AllSatisfy (λ y. next_reference_in_chain vs f y ≡ next_reference_in_chain ws f y) post = each-both (λ d. R d × HasWatch ws d f) (λ y. y ≢ b) (λ y. next_reference_in_chain vs f y ≡ next_reference_in_chain
    ws f y) post keep tail.1.1 (distinct-back pre b (c ∷ post) d).1 in
    let room = hd.room b rb in
    let at : next_reference_in_chain vs f b ≡ x = next-same ws b f x room.1 in
    let held2 : (l : ℕ) (ys : List ℕ) → AllSatisfy (λ d. R d × HasWatch ws d l) ys →
    AllSatisfy (λ d. R d × HasWatch vs d l) ys =
    λ l ys g. each-map (λ d. R d × HasWatch ws d l) (λ d. R d × HasWatch vs d l) ys
    (λ y r. (r.0, link-watch ws R b f l y x hd rb r.0 r.1)) g in
    record {
      path = by-pick cs f (pre ++ (b ∷ post)) (length hs) (λ l ys. IsChainPath vs l (get_or hs l 0) ys)
          (unlink ws vs f (get_or hs f 0) b c pre post e1 at e2 p)
          (λ l ne j. frame ws vs l (get_or hs l 0) (cs l)
          (each-map (λ d. R d × HasWatch ws d l) (λ y. next_reference_in_chain vs l y ≡ next_reference_in_chain ws l y)
          (cs l) (λ y r. link-other ws R b f l y x hd rb r.0 ne wb r.1) (k.held l j)) (k.path l j));
      held = by-pick cs f (pre ++ (b ∷ post)) (length hs) (λ l ys. AllSatisfy (λ d. R d × HasWatch vs d l) ys)
          (held2 f (pre ++ (b ∷ post))
          (each-join (λ d. R d × HasWatch ws d f) pre (b ∷ post) front (tail.0, tail.1.1)))
          (λ l ne j. held2 l (cs l) (k.held l j));
      once = by-pick cs f (pre ++ (b ∷ post)) (length hs) (λ l ys. Distinct ys) (distinct-skip pre b c post d) (λ l ne j. k.once l j);
    }

pub push-moved : (ws hs : List ℕ) (R : ℕ → Type 0) (cs : ℕ → List ℕ) (f t c : ℕ) → f < length hs →
    t < length hs → f ≢ t → R c → HasWatch ws c f → get_or ws (c + 1) 0 ≢ t → (HasWatch ws c t → ⊥) →
    AllSatisfy (λ d. d ≢ c) (cs f) → AreHeadersInsideAndApart ws R → ChainsAreWatchPaths ws hs R cs →
    ChainsAreWatchPaths (watch_moved ws f c t (get_or hs t 0)) (set hs t c) R (chains_with_one_replaced cs t (c ∷ cs t))
push-moved ws hs R cs f t c hf ht ne rc wf nt nw gone hd k =
    let v = get_or hs t 0 in
    let vs = watch_moved ws f c t v in
    let room = hd.room c rc in
    let n : length (set hs t c) ≡ length hs = simp length-set in
    let at : get_or (set hs t c) t 0 ≡ c = get_or-set_same hs t c 0 ht in
    let far : (l y : ℕ) → R y → y ≢ c → next_reference_in_chain vs l y ≡ next_reference_in_chain ws l y = λ l y r m. moved-far ws f c t v l y (hd.apart c y rc r (λ e. m (sym e))) in
    let farw : (l y : ℕ) → R y → y ≢ c → HasWatch ws y l → HasWatch vs y l = λ l y r m w. moved-watch-far ws f c t v l y (hd.apart c y rc r (λ e. m (sym e))) w in
    let absent : AllSatisfy (λ d. d ≢ c) (cs t) = each-map (λ d. R d × HasWatch ws d t) (λ d. d ≢ c) (cs t) (λ y r e. nw (let W : ℕ → Type 0 = λ j. HasWatch ws j t in subst W e r.1)) (k.held t ht) in
    let samet : AllSatisfy (λ y. next_reference_in_chain vs t y ≡ next_reference_in_chain ws t y) (cs t) = each-both (λ d. R d × HasWatch ws d t) (λ d. d ≢ c) (λ y. next_reference_in_chain vs t y ≡ next_reference_in_chain
    ws t y) (cs t) (λ y r m. far t y r.0 m) (k.held t ht) absent in
    let heldt : AllSatisfy (λ d. R d × HasWatch vs d t) (cs t) = each-both (λ d. R d × HasWatch ws d t) (λ d. d ≢ c) (λ d. R d × HasWatch vs d t) (cs t) (λ y r m. (r.0, farw t y r.0 m r.1)) (k.held t ht) absent in
    let link : next_reference_in_chain vs t c ≡ v = moved-next ws f c t v room.1 nt in
    let step : (l y : ℕ) → l ≢ t → l ≢ f → R y × HasWatch ws y l → (next_reference_in_chain vs l y ≡ next_reference_in_chain ws l y) × (R y × HasWatch vs y l) = λ l y m n r.
    elim (cases_eq y c) [
      | inl e ↦ (let W : ℕ → Type 0 = λ j. HasWatch ws j l in
          let G : ℕ → Type 0 = λ j. (next_reference_in_chain vs l j ≡ next_reference_in_chain ws l j) × (R j × HasWatch vs j l) in
          let w : HasWatch ws c l = subst W e r.1 in
          subst G (sym e) (moved-other ws f c t v l room.1 n m wf w, (rc, moved-watch-other ws f c t v l room.1 n wf w)))
      | inr q ↦ (far l y r.0 q, (r.0, farw l y r.0 q r.1))
    ] in
    let others : (l : ℕ) → l ≢ t → l < length hs → AllSatisfy (λ y. (next_reference_in_chain vs l y ≡ next_reference_in_chain ws l y) × (R y × HasWatch vs y l)) (cs l) = λ l m j.
    elim (cases_eq l f) [
      | inl e ↦ (let G : ℕ → Type 0 = λ i. AllSatisfy (λ d. d ≢ c) (cs i) in
          each-both (λ d. R d × HasWatch ws d l) (λ d. d ≢ c) (λ y. (next_reference_in_chain vs l y ≡ next_reference_in_chain ws l y) × (R y × HasWatch vs y l)) (cs l) (λ y r q. (far l y r.0 q, (r.0, farw l y r.0 q r.1))) (k.held l j)
          (subst G (sym e) gone))
      | inr n ↦ each-map (λ d. R d × HasWatch ws d l) (λ y. (next_reference_in_chain vs l y ≡ next_reference_in_chain ws l y) × (R y × HasWatch vs y l)) (cs l) (λ y r. step l y m n r) (k.held l j)
    ] in
    let P : ℕ → Type 0 = λ j. IsChainPath vs t j (cs t) in
    record {
      path =
          λ l i. by-pick cs t (c ∷ cs t) (length hs) (λ l ys. IsChainPath vs l (get_or (set hs t c) l 0) ys)
          (at, room.0, subst P (sym link) (frame ws vs t v (cs t) samet (k.path t ht)))
          (λ l m j. rw (get_or-set_other hs t l c 0 m)
          (frame ws vs l (get_or hs l 0) (cs l)
          (each-map
          (λ y. (next_reference_in_chain vs l y ≡ next_reference_in_chain ws l y) × (R y × HasWatch vs y l))
          (λ y. next_reference_in_chain vs l y ≡ next_reference_in_chain ws l y) (cs l) (λ y r. r.0)
          (others l m j)) (k.path l j))) l
          (omega (arith, n));
      held =
          λ l i. by-pick cs t (c ∷ cs t) (length hs) (λ l ys. AllSatisfy (λ d. R d × HasWatch vs d l) ys)
          ((rc, moved-watch ws f c t v room.1), heldt)
          (λ l m j. each-map
          (λ y. (next_reference_in_chain vs l y ≡ next_reference_in_chain ws l y) × (R y × HasWatch vs y l))
          (λ d. R d × HasWatch vs d l) (cs l) (λ y r. r.1) (others l m j)) l
          (omega (arith, n));
      once = λ l i. by-pick cs t (c ∷ cs t) (length hs) (λ l ys. Distinct ys) (absent, k.once t ht) (λ l m j. k.once l j) l (omega (arith, n));
    }
