use Rattle.std.proofs.Common.{◌≡◌, ◌≢◌, ℕ, suc, ◌+◌, ◌*◌, ◌<◌, ◌≤◌, inl, inr, Bool, true, false, ◌&&◌, not, ltb, leb, ◌==◌, List, [], ◌∷◌, length, get_or, map, refl, sym, ap, ◌∙◌, subst, arith, Some}
use Rattle.std.specs.List.{slice_get, position_or_len}
use Rattle.std.proofs.lemmas.Bool.Decides.{eqb_tells}
use Rattle.std.proofs.lemmas.Bool.{cases_Bool, and_parts, and_from, leb-true, not-true, not_from_false}
use Rattle.ilk_cnf.specs.Literal.{Literal, same_lit}
use Rattle.ilk_cnf.specs.Formula.{is_lit_over}
use Rattle.ilk_arena.specs.Arena.{ArenaContent, place, chain_of, contains_reference, literals_of, clause_cursor, number_of_clause, first_of, reference_after_in_list, other_watch_of}
use Rattle.ilk_arena.specs.declared.place.TheConstants.{WORD_VALUE_LIMIT}
use Rattle.ilk_arena.specs.Words.{IsItemOfList, HasWatch, left, right, next_reference_in_chain, other_watch_place, reference_unless_zero}
use Rattle.ilk_arena.specs.Linked.{lit_with_place_number, literal_places_at, chain_for_lit_place, references_in_block, lists_of, HasWatchChains, IsArenaInvariant}
use Rattle.ilk_base.proofs.Lists.{find-only}
use Rattle.ilk_arena.proofs.Blocks.{few-clauses}
use Rattle.ilk_arena.proofs.Seen.{stands-from, lit-at-place, place-within, chain-seen, clause-seen, cursor-seen, references-seen, vars-seen, first-is, reference_after_in_list-is}
use Rattle.ilk_arena.proofs.Law.{place-of-lit, InChain, chain-has, clause-length, watch-gets, lit-of}
use Rattle.ilk_arena.proofs.Relinking.{long-of}
use Rattle.ilk_cnf.proofs.SameLiterals.{same-lit, lit-is}

pub record Known (ws : List ℕ) (a : ArenaContent) (c : ℕ) : Type 0 where
  pub stands : IsItemOfList (references_in_block ws) c
  pub room : c + 7 + get_or ws c 0 ≤ length ws
  pub len : get_or ws c 0 ≡ length (literals_of a c)
  pub number : get_or ws (c + 5) 0 ≡ number_of_clause a c
  pub cursor : get_or ws (c + 6) 0 ≡ clause_cursor a c
  pub within : get_or ws (c + 6) 0 ≤ get_or ws c 0

position-at : (c : ℕ) (refs : List ℕ) → IsItemOfList refs c → slice_get refs (position_or_len (λ x. x == c) refs) ≡ Some c
position-at c [] s = absurd s
position-at c (r ∷ rs) s =
    elim (eqb_tells r c) [
      | inl e ↦ rw e.0 (ap Some e.1)
      | inr e ↦ rw e.0 (elim s [
        | inl q ↦ absurd (e.1 q)
        | inr q ↦ (let n = position_or_len (λ x. x == c) rs in
            let z : 1 + n ≡ suc n = omega arith in
            let P : ℕ → Type 0 = λ j. slice_get (r ∷ rs) j ≡ Some c in
            subst P (sym z) (position-at c rs q))
      ])
    ]

pub stands-known : (vars spare : ℕ) (ws hs : List ℕ) (a : ArenaContent) (c : ℕ) → lists_of vars spare ws hs (references_in_block ws) ≡ a → contains_reference c a.references ≡ true → IsItemOfList (references_in_block ws) c
stands-known vars spare ws hs a c e t =
    let refs = references_in_block ws in
    let rs : a.references ≡ refs = ap (λ (y : ArenaContent). y.references) (sym e) ∙ references-seen vars spare ws hs refs in
    stands-from c refs (ap (contains_reference c) (sym rs) ∙ t)

pub known : (vars spare count : ℕ) (ws hs : List ℕ) (a : ArenaContent) (c : ℕ) → IsArenaInvariant ws hs vars count → lists_of vars spare ws hs (references_in_block ws) ≡ a → contains_reference c a.references ≡ true → Known ws a c
known vars spare count ws hs a c h e t =
    let refs = references_in_block ws in
    let s = stands-known vars spare ws hs a c e t in
    record {
      stands = s;
      room = h.linked.whole c s;
      len = sym (clause-length vars spare ws hs refs c h.linked s) ∙ ap (λ (x : ArenaContent). length (literals_of x c)) e;
      number = h.laid.number (position_or_len (λ x. x == c) refs) c (position-at c refs s) ∙ ap (λ (rs : List ℕ). position_or_len (λ x. x == c) rs + 1) (sym (references-seen vars spare ws hs refs)) ∙ ap (λ (x : ArenaContent). number_of_clause x c) e;
      cursor = sym (cursor-seen vars spare ws hs refs c s) ∙ ap (λ (x : ArenaContent). clause_cursor x c) e;
      within = h.laid.cursor c s;
    }

pub record Within (ws hs : List ℕ) (a : ArenaContent) (l : Literal) : Type 0 where
  pub few : 2 * l.var + 1 < WORD_VALUE_LIMIT
  pub below : place l < length hs
  pub chain : chain_of a l ≡ chain_for_lit_place ws hs (place l)

pub within : (vars spare count : ℕ) (ws hs : List ℕ) (a : ArenaContent) (l : Literal) → IsArenaInvariant ws hs vars count → lists_of vars spare ws hs (references_in_block ws) ≡ a → is_lit_over a.vars l ≡ true → Within ws hs a l
within vars spare count ws hs a l h e t =
    let refs = references_in_block ws in
    let v : vars ≡ a.vars = sym (vars-seen vars spare ws hs refs) ∙ ap (λ (x : ArenaContent). x.vars) e in
    let fv : is_lit_over vars l ≡ true = ap (λ (n : ℕ). is_lit_over n l) v ∙ t in
    let w = place-within vars l fv in
    let p : (ltb 0 l.var ≡ true) × (leb l.var vars ≡ true) = and_parts _ _ fv in
    let b : place l < length hs = omega (arith, h.heads, w.1) in
    record {
      few = omega (arith, leb-true l.var vars p.1, h.few);
      below = b;
      chain = ap (λ (x : ArenaContent). chain_of x l) (sym e) ∙ chain-seen vars spare ws hs refs (place l) b;
    }

pub first-seen : (vars spare count : ℕ) (ws hs : List ℕ) (a : ArenaContent) (l : Literal) → IsArenaInvariant ws hs vars count → Within ws hs a l → reference_unless_zero (get_or hs (place l) 0) ≡ first_of (chain_of a l)
first-seen vars spare count ws hs a l h w = first-is ws (place l) (get_or hs (place l) 0) (chain_for_lit_place ws hs (place l)) (h.linked.chains.path (place l) w.below) ∙ ap first_of (sym w.chain)

pub watching : (vars spare : ℕ) (ws hs : List ℕ) (a : ArenaContent) (l : Literal) (c : ℕ) → HasWatchChains ws hs (references_in_block ws) → lists_of vars spare ws hs (references_in_block ws) ≡ a → contains_reference c (chain_of a l) ≡ true
    → InChain ws hs (references_in_block ws) l c
watching vars spare ws hs a l c k e t = chain-has vars spare ws hs (references_in_block ws) l c k (ap (λ (x : ArenaContent). contains_reference c (chain_of x l)) e ∙ t)

pub reference_after_in_list-seen : (vars count : ℕ) (ws hs : List ℕ) (a : ArenaContent) (l : Literal) (c : ℕ) → IsArenaInvariant ws hs vars count → Within ws hs a l → InChain ws hs (references_in_block ws) l c
    → reference_unless_zero (next_reference_in_chain ws (place l) c) ≡ reference_after_in_list c (chain_of a l)
reference_after_in_list-seen vars count ws hs a l c h w i = reference_after_in_list-is ws (place l) (get_or hs (place l) 0) c (chain_for_lit_place ws hs (place l)) (h.linked.chains.path (place l) w.below) i.stands
    ∙ ap (reference_after_in_list c) (sym w.chain)

pub record OtherWatch (ws : List ℕ) (a : ArenaContent) (c : ℕ) (l : Literal) : Type 0 where
  pub low : 2 ≤ other_watch_place ws (place l) c
  pub is : other_watch_of a c l ≡ Some (lit_with_place_number (other_watch_place ws (place l) c))

record Other (ws : List ℕ) (c f q : ℕ) : Type 0 where
  watches : HasWatch ws c q
  differs : q ≢ f
  only : (p : ℕ) → HasWatch ws c p → p ≢ f → p ≡ q

other_watch_place-is : (ws : List ℕ) (c f : ℕ) → get_or ws (c + 1) 0 ≢ get_or ws (c + 3) 0 → HasWatch ws c f → Other ws c f (other_watch_place ws f c)
other_watch_place-is ws c f n w =
    elim (eqb_tells (get_or ws (c + 1) 0) f) [
      | inl t ↦ rw t.0 (record { watches = right refl; differs = λ e. n (t.1 ∙ sym e); only = λ p v m. lefts p v m t.1 })
      | inr t ↦ rw t.0 (record { watches = left refl; differs = t.1; only = λ p v m. rights p v m t.1 w })
    ]
  where
    lefts : (p : ℕ) → HasWatch ws c p → p ≢ f → get_or ws (c + 1) 0 ≡ f → p ≡ get_or ws (c + 3) 0
    lefts p (left e) m t = absurd (m (sym e ∙ t))
    lefts p (right e) m t = sym e

    rights : (p : ℕ) → HasWatch ws c p → p ≢ f → get_or ws (c + 1) 0 ≢ f → HasWatch ws c f → p ≡ get_or ws (c + 1) 0
    rights p v m t (left e) = absurd (t e)
    rights p (left e) m t (right g) = sym e
    rights p (right e) m t (right g) = absurd (m (sym e ∙ g))

watch-place : (ws hs refs : List ℕ) (c p : ℕ) → HasWatchChains ws hs refs → IsItemOfList refs c → 2 ≤ get_or ws c 0 → HasWatch ws c p → IsItemOfList (literal_places_at ws c) p
watch-place ws hs refs c p k s h (left e) = (let S : ℕ → Type 0 = λ j. IsItemOfList (literal_places_at ws c) j in subst S e (k.left_own c s h))
watch-place ws hs refs c p k s h (right e) = (let S : ℕ → Type 0 = λ j. IsItemOfList (literal_places_at ws c) j in subst S e (k.right_own c s h))

index-of : (ps : List ℕ) (q : ℕ) → IsItemOfList ps q → (i : ℕ) × (slice_get (map lit_with_place_number ps) i ≡ Some (lit_with_place_number q))
index-of [] q s = absurd s
index-of (p ∷ ps) q s = elim s [ inl e ↦ (0, ap (λ (x : ℕ). Some (lit_with_place_number x)) e) | inr r ↦ (let t = index-of ps q r in (suc t.0, t.1)) ]

pub other_watch_place-seen : (vars spare count : ℕ) (ws hs : List ℕ) (a : ArenaContent) (l : Literal) (c : ℕ) → IsArenaInvariant ws hs vars count → lists_of vars spare ws hs (references_in_block ws) ≡ a → contains_reference c (chain_of a l) ≡ true →
    OtherWatch ws a c l
other_watch_place-seen vars spare count ws hs a l c h e t =
    let refs = references_in_block ws in
    let k = h.linked in
    let i = watching vars spare ws hs a l c k e t in
    let f = place l in
    let q = other_watch_place ws f c in
    let s = i.known in
    let L = lists_of vars spare ws hs refs in
    let lg : 2 ≤ get_or ws c 0 = long-of ws hs refs c f k s i.least i.watches in
    let o = other_watch_place-is ws c f (k.differ c s) i.watches in
    let own = watch-place ws hs refs c q k s lg o.watches in
    let x = lit_with_place_number q in
    let n = index-of (literal_places_at ws c) q own in
    let p : Literal → Bool = λ m. contains_reference c (chain_of L m) && not (same_lit l m) in
    let in-list : slice_get (literals_of L c) n.0 ≡ Some x = ap (λ (ls : List Literal). slice_get ls n.0) (clause-seen vars spare ws hs refs c s) ∙ n.1 in
    let chained : contains_reference c (chain_of L x) ≡ true = watch-gets vars spare ws hs refs c q x k s own o.watches refl in
    let apart : same_lit l x ≡ false = elim (cases_Bool (same_lit l x)) [
      | inl b ↦ absurd (o.differs (sym (place-of-lit q) ∙ ap place (sym (lit-is l x b))))
      | inr b ↦ b
    ] in
    let passes : p x ≡ true = and_from (contains_reference c (chain_of L x)) (not (same_lit l x)) chained (not_from_false (same_lit l x) apart) in
    let only : (y : Literal) → p y ≡ true → y ≡ x = λ y py. (
    let parts = and_parts (contains_reference c (chain_of L y)) (not (same_lit l y)) py in
    let w = chain-has vars spare ws hs refs y c k parts.0 in
    let differs : place y ≢ f = λ g. (
    let same : y ≡ l = sym (lit-at-place y) ∙ ap lit_with_place_number g ∙ lit-at-place l in
    let no : same_lit l y ≡ false = not-true (same_lit l y) parts.1 in
    let yes : same_lit l y ≡ true = ap (same_lit l) same ∙ same-lit l in
    absurd (cc)) in
    lit-of q y (sym (o.only (place y) w.watches differs))) in
    record {
      low = k.least c q s own;
      is = ap (λ (y : ArenaContent). other_watch_of y c l) (sym e) ∙ find-only p (literals_of L c) x n.0 in-list passes only;
    }

pub vars-are : (vars spare : ℕ) (ws hs : List ℕ) (a : ArenaContent) → lists_of vars spare ws hs (references_in_block ws) ≡ a → vars ≡ a.vars
vars-are vars spare ws hs a e = sym (vars-seen vars spare ws hs (references_in_block ws)) ∙ ap (λ (x : ArenaContent). x.vars) e

pub spare-is : (vars spare : ℕ) (ws hs refs : List ℕ) → (lists_of vars spare ws hs refs).spare ≡ spare
unfolding lists_of
spare-is vars spare ws hs refs = refl

pub spare-are : (vars spare : ℕ) (ws hs : List ℕ) (a : ArenaContent) → lists_of vars spare ws hs (references_in_block ws) ≡ a → spare ≡ a.spare
spare-are vars spare ws hs a e = sym (spare-is vars spare ws hs (references_in_block ws)) ∙ ap (λ (x : ArenaContent). x.spare) e

pub spare-change : (vars spare more : ℕ) (ws hs : List ℕ) (a : ArenaContent) → lists_of vars spare ws hs (references_in_block ws) ≡ a → lists_of vars more ws hs (references_in_block ws) ≡ record a { spare = more }
unfolding lists_of
spare-change vars spare more ws hs a e = ap (λ (x : ArenaContent). record x { spare = more }) e

pub count-fits : (vars count : ℕ) (ws hs : List ℕ) → IsArenaInvariant ws hs vars count → count < length ws
count-fits vars count ws hs h = omega (arith, h.counted, few-clauses ws (references_in_block ws) h.laid.blocks)
