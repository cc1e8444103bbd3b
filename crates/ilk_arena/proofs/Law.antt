use Rattle.std.proofs.Common.{◌≡◌, ℕ, ◌+◌, ◌*◌, ◌/◌, ◌%◌, ◌<◌, ◌≤◌, ◌⊎◌, inl, inr, true, false, cond, eqb, List, [], ◌∷◌, length, get_or, map, refl, sym, ap, ◌∙◌, subst, arith}
use Rattle.std.specs.List.{IsDistinct}
use Rattle.std.proofs.lemmas.Bool.Decides.{eqb_tells}
use Rattle.std.proofs.lemmas.Bool.{cases_lt, cases_Bool, or_left, or_right}
use Rattle.std.proofs.lemmas.List.{get_or_past, length-map}
use Rattle.ilk_cnf.specs.Literal.{Literal, same_lit, has_lit}
use Rattle.ilk_arena.specs.Arena.{place, chain_of, contains_reference, literals_of}
use Rattle.ilk_arena.specs.Chains.{EachLongClauseWatchesTwo, WatchesTwo}
use Rattle.ilk_arena.specs.Words.{IsItemOfList, HasWatch, left, right}
use Rattle.ilk_arena.specs.Linked.{lit_with_place_number, literal_places_at, chain_for_lit_place, lists_of, HasWatchChains}
use Rattle.ilk_arena.proofs.Seen.{stands-from, stands-to, lit-at-place, chain-seen, chains-count, clause-seen, references-seen, places-length}
use Rattle.ilk_arena.proofs.Unlinking.{each-at}
use Rattle.ilk_arena.proofs.LinkedChains.{distinct-std}
use Rattle.ilk_cnf.proofs.SameLiterals.{same-lit}

pub place-of-lit : (p : ℕ) → place (lit_with_place_number p) ≡ p
place-of-lit p = go (p / 2) (p % 2) (omega arith) (omega arith)
  where
    go : (q r : ℕ) → r < 2 → 2 * q + r ≡ p → cond (eqb r 1) (2 * q + 1) (2 * q) ≡ p
    go q r h e = elim (eqb_tells r 1) [ inl t ↦ rw t.0 (omega (arith, t.1)) | inr t ↦ rw t.0 (omega (arith, t.1)) ]

pub has-lit : (p : ℕ) (ps : List ℕ) → IsItemOfList ps p → has_lit (lit_with_place_number p) (map lit_with_place_number ps) ≡ true
has-lit p [] s = absurd s
has-lit p (q ∷ ps) s = elim s [
  | inl e ↦ or_left _ _ (ap (λ (x : ℕ). same_lit (lit_with_place_number p) (lit_with_place_number x)) e ∙ same-lit (lit_with_place_number p))
  | inr r ↦ or_right _ _ (has-lit p ps r)
]

pub in-chain : (ws hs refs : List ℕ) (p c : ℕ) → HasWatchChains ws hs refs → p < length hs → IsItemOfList (chain_for_lit_place ws hs p) c → IsItemOfList refs c × HasWatch ws c p
in-chain ws hs refs p c k h s = each-at (λ d. IsItemOfList refs d × HasWatch ws d p) (chain_for_lit_place ws hs p) c s (k.chains.held p h)

pub record InChain (ws hs refs : List ℕ) (l : Literal) (c : ℕ) : Type 0 where
  pub below : place l < length hs
  pub stands : IsItemOfList (chain_for_lit_place ws hs (place l)) c
  pub known : IsItemOfList refs c
  pub watches : HasWatch ws c (place l)
  pub least : 2 ≤ place l

pub chain-has : (vars spare : ℕ) (ws hs refs : List ℕ) (l : Literal) (c : ℕ) → HasWatchChains ws hs refs → contains_reference c (chain_of (lists_of vars spare ws hs refs) l) ≡ true → InChain ws hs refs l c
chain-has vars spare ws hs refs l c k h =
    elim (cases_lt (place l) (length hs)) [
      | inl b ↦ (let S : List ℕ → Type 0 = λ ys. contains_reference c ys ≡ true in
          let t : contains_reference c (chain_for_lit_place ws hs (place l)) ≡ true = subst S (chain-seen vars spare ws hs refs (place l) b) h in
          let s = stands-from c (chain_for_lit_place ws hs (place l)) t in
          let r = in-chain ws hs refs (place l) c k b s in
          record {
            below = b;
            stands = s;
            known = r.0;
            watches = r.1;
            least = elim (cases_lt (place l) 2) [
              | inl w ↦ absurd (let Q : List ℕ → Type 0 = λ ys. IsItemOfList ys c in subst Q (k.empty (place l) w) s)
              | inr w ↦ w
            ];
          })
      | inr b ↦ absurd (
          let n = chains-count vars spare ws hs refs in
          let none : chain_of (lists_of vars spare ws hs refs) l ≡ [] = get_or_past (lists_of vars spare ws hs refs).chains (place l) [] (omega (arith, n)) in
          let S : List ℕ → Type 0 = λ ys. contains_reference c ys ≡ true in
          let t : false ≡ true = subst S none h in
          cc)
    ]

pub chain-gets : (vars spare : ℕ) (ws hs refs : List ℕ) (l : Literal) (c : ℕ) → place l < length hs → IsItemOfList (chain_for_lit_place ws hs (place l)) c → contains_reference c (chain_of (lists_of vars spare ws hs refs) l) ≡ true
chain-gets vars spare ws hs refs l c b s =
    let S : List ℕ → Type 0 = λ ys. contains_reference c ys ≡ true in
    subst S (sym (chain-seen vars spare ws hs refs (place l) b)) (stands-to c (chain_for_lit_place ws hs (place l)) s)

pub clause-length : (vars spare : ℕ) (ws hs refs : List ℕ) (c : ℕ) → HasWatchChains ws hs refs → IsItemOfList refs c → length (literals_of (lists_of vars spare ws hs refs) c) ≡ get_or ws c 0
clause-length vars spare ws hs refs c k s =
    ap (λ (ls : List Literal). length ls) (clause-seen vars spare ws hs refs c s) ∙ length-map (literal_places_at ws c) lit_with_place_number ∙ places-length ws c (k.whole c s)

pub watch-gets : (vars spare : ℕ) (ws hs refs : List ℕ) (c p : ℕ) (l : Literal) → HasWatchChains ws hs refs → IsItemOfList refs c → IsItemOfList (literal_places_at ws c) p → HasWatch ws c p → l ≡ lit_with_place_number p
    → contains_reference c (chain_of (lists_of vars spare ws hs refs) l) ≡ true
watch-gets vars spare ws hs refs c p l k s o w e =
    let q : place l ≡ p = ap place e ∙ place-of-lit p in
    let h : p < length hs = k.small c p s o in
    let S : ℕ → Type 0 = λ j. IsItemOfList (chain_for_lit_place ws hs j) c in
    chain-gets vars spare ws hs refs l c (omega (arith, q)) (subst S (sym q) (k.standing c p s (k.least c p s o) h w))

pub lit-of : (p : ℕ) (l : Literal) → p ≡ place l → l ≡ lit_with_place_number p
lit-of p l e = sym (lit-at-place l) ∙ ap lit_with_place_number (sym e)

pub watches-two : (vars spare : ℕ) (ws hs refs : List ℕ) (c : ℕ) → HasWatchChains ws hs refs → IsItemOfList refs c → 2 ≤ get_or ws c 0 →
    WatchesTwo (lists_of vars spare ws hs refs) c (lit_with_place_number (get_or ws (c + 1) 0)) (lit_with_place_number (get_or ws (c + 3) 0))
watches-two vars spare ws hs refs c k s h =
    let p = get_or ws (c + 1) 0 in
    let q = get_or ws (c + 3) 0 in
    let a = lists_of vars spare ws hs refs in
    let own = k.left_own c s h in
    let own2 = k.right_own c s h in
    let H : List Literal → Type 0 = λ ls. has_lit (lit_with_place_number p) ls ≡ true in
    let H2 : List Literal → Type 0 = λ ls. has_lit (lit_with_place_number q) ls ≡ true in
    let seen = clause-seen vars spare ws hs refs c s in
    record {
      differ = λ e. k.differ c s (sym (place-of-lit p) ∙ ap place e ∙ place-of-lit q);
      first = subst H (sym seen) (has-lit p (literal_places_at ws c) own);
      second = subst H2 (sym seen) (has-lit q (literal_places_at ws c) own2);
      exactly = λ l. (
        (λ t. to l (chain-has vars spare ws hs refs l c k t).watches),
        (λ t. elim t [
          | inl e ↦ watch-gets vars spare ws hs refs c p l k s own (left refl) e
          | inr e ↦ watch-gets vars spare ws hs refs c q l k s own2 (right refl) e
        ]),
      );
    }
  where
    to : (l : Literal) → HasWatch ws c (place l) → (l ≡ lit_with_place_number (get_or ws (c + 1) 0)) ⊎ (l ≡ lit_with_place_number (get_or ws (c + 3) 0))
    to l (left e) = inl (lit-of (get_or ws (c + 1) 0) l e)
    to l (right e) = inr (lit-of (get_or ws (c + 3) 0) l e)

pub arena-law : (vars spare : ℕ) (ws hs refs : List ℕ) → HasWatchChains ws hs refs → EachLongClauseWatchesTwo (lists_of vars spare ws hs refs)
arena-law vars spare ws hs refs k =
    let a = lists_of vars spare ws hs refs in
    let from : (c : ℕ) → contains_reference c a.references ≡ true → IsItemOfList refs c = λ c t. (let S : List ℕ → Type 0 = λ ys. contains_reference c ys ≡ true in stands-from c refs (subst S (references-seen vars spare ws hs refs) t)) in
    record {
      long = λ c t n. (let s = from c t in
          let m = clause-length vars spare ws hs refs c k s in
          (lit_with_place_number (get_or ws (c + 1) 0), lit_with_place_number (get_or ws (c + 3) 0), watches-two vars spare ws hs refs c k s (omega (arith, m, n))));
      short = λ c t n l. elim (cases_Bool (contains_reference c (chain_of a l))) [
        | inl b ↦ absurd (let s = from c t in
            let m = clause-length vars spare ws hs refs c k s in
            let i = chain-has vars spare ws hs refs l c k b in
            let sh : get_or ws c 0 < 2 = omega (arith, m, n) in
            no c (place l) i.least (k.left_none c s sh) (k.right_none c s sh) i.watches)
        | inr b ↦ b
      ];
      once = λ l. elim (cases_lt (place l) (length hs)) [
        | inl b ↦ (let D : List ℕ → Type 0 = λ ys. IsDistinct eqb ys in
            subst D (sym (chain-seen vars spare ws hs refs (place l) b)) (distinct-std (chain_for_lit_place ws hs (place l)) (k.chains.once (place l) b)))
        | inr b ↦ (let D : List ℕ → Type 0 = λ ys. IsDistinct eqb ys in
            let n = chains-count vars spare ws hs refs in
            subst D (sym (get_or_past a.chains (place l) [] (omega (arith, n)))) (distinct-std [] tt))
      ];
      held = λ l c t. (let i = chain-has vars spare ws hs refs l c k t in
          let S : List ℕ → Type 0 = λ ys. contains_reference c ys ≡ true in
          subst S (sym (references-seen vars spare ws hs refs)) (stands-to c refs i.known));
    }
  where
    no : (c p : ℕ) → 2 ≤ p → get_or ws (c + 1) 0 < 2 → get_or ws (c + 3) 0 < 2 → HasWatch ws c p → ⊥
    no c p h a b (left e) = omega arith
    no c p h a b (right e) = omega arith
