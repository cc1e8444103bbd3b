use Rattle.std.proofs.Common.{◌≡◌, ◌≢◌, ℕ, ◌+◌, ◌-◌, ◌*◌, ◌<◌, ◌≤◌, ◌⊎◌, inl, inr, List, [], ◌∷◌, length, get_or, set, drop, map, replicate, refl, sym, ap, ◌∙◌, subst, arith}
use Rattle.std.proofs.lemmas.Bool.Decides.{eqb_tells}
use Rattle.std.proofs.lemmas.Bool.{cases_eq, cases_order}
use Rattle.std.proofs.lemmas.List.{get_or-set_same, get_or-set_other, drop-set-lt, drop-set-add, take-set-le, get_or-replicate, length-replicate, length-set}
use Rattle.ilk_cnf.specs.Literal.{has_distinct_vars}
use Rattle.ilk_arena.specs.Arena.{ArenaContent, set_for_reference}
use Rattle.ilk_arena.specs.declared.place.TheConstants.{WORD_VALUE_LIMIT}
use Rattle.ilk_arena.specs.Words.{IsChainPath, chain, AllSatisfy, IsItemOfList, HasWatch, left, right, Distinct, ChainsAreWatchPaths, AreHeadersInsideAndApart, next_reference_in_chain}
use Rattle.ilk_arena.specs.Linked.{lit_with_place_number, literal_places_at, literals_at, clause_cursor_at, chain_for_lit_place, IsGaplessFrom, references_in_block, lists_of, HasWatchChains, HasClausesInOrder, IsArenaInvariant}
use Rattle.ilk_arena.proofs.Blocks.{references-are, blocks-same, stands-at}
use Rattle.ilk_arena.proofs.Unlinking.{each-at}
use Rattle.ilk_arena.proofs.LinkedChains.{headers-of, chain_for_lit_place-is, same-chains}
use Rattle.ilk_arena.proofs.HeaderWrites.{next-far, watches-far}
use Rattle.ilk_arena.proofs.Paths.{frame}
use Rattle.ilk_arena.proofs.ChainMoves.{each-map}
use Rattle.ilk_arena.proofs.Updates.{arena-ext, Gives, gives-one, gives-seen, gives-as, map-same}

cursor-far : (ws hs refs : List ℕ) (c d j : ℕ) → HasWatchChains ws hs refs → IsItemOfList refs c → IsItemOfList refs d → j < 6 → c + 6 ≢ d + j
cursor-far ws hs refs c d j k r s h =
    elim (cases_eq c d) [
      | inl e ↦ omega arith
      | inr n ↦ elim ((headers-of ws hs refs k).apart c d r s n) [ inl o ↦ omega arith | inr o ↦ omega arith ]
    ]

cursor-read : (ws hs refs : List ℕ) (c d j v : ℕ) → HasWatchChains ws hs refs → IsItemOfList refs c → IsItemOfList refs d → j < 6 → get_or (set ws (c + 6) v) (d + j) 0 ≡ get_or ws (d + j) 0
cursor-read ws hs refs c d j v k r s h = get_or-set_other ws (c + 6) (d + j) v 0 (λ e. cursor-far ws hs refs c d j k r s h (sym e))

cursor-len : (ws hs refs : List ℕ) (c d v : ℕ) → HasWatchChains ws hs refs → IsItemOfList refs c → IsItemOfList refs d → get_or (set ws (c + 6) v) d 0 ≡ get_or ws d 0
cursor-len ws hs refs c d v k r s = (let z : d + 0 ≡ d = omega arith in let P : ℕ → Type 0 = λ i. get_or (set ws (c + 6) v) i 0 ≡ get_or ws i 0 in subst P z (cursor-read ws hs refs c d 0 v k r s (omega arith)))

cursor-places : (ws hs refs : List ℕ) (c d v : ℕ) → HasWatchChains ws hs refs → IsItemOfList refs c → IsItemOfList refs d → literal_places_at (set ws (c + 6) v) d ≡ literal_places_at ws d
unfolding literal_places_at
cursor-places ws hs refs c d v k r s =
    let i = c + 6 in
    let e = cursor-len ws hs refs c d v k r s in
    let apart : (i < d + 7) ⊎ (d + 7 + get_or ws d 0 ≤ i) = elim (cases_order c d) [
      | inl q ↦ inl (omega arith)
      | inr o ↦ elim o [
        | inl h ↦ inl (omega (arith, k.clear c d r s h))
        | inr h ↦ inr (omega (arith, k.clear d c s r h))
      ]
    ] in
    rw e (elim apart [
      | inl h ↦ rw (drop-set-lt (d + 7) ws i v h) refl
      | inr h ↦ (let j = i - (d + 7) in
          let t : d + 7 + j ≡ i = omega arith in
          let q : drop (d + 7) (set ws i v) ≡ set (drop (d + 7) ws) j v = (let P : ℕ → Type 0 = λ m. drop (d + 7) (set ws m v) ≡ set (drop (d + 7) ws) j v in subst P t (drop-set-add (d + 7) ws j v)) in
          rw (q, take-set-le (get_or ws d 0) (drop (d + 7) ws) j v (omega arith)) refl)
    ])

watch-back : (ws vs : List ℕ) (d l : ℕ) → get_or vs (d + 1) 0 ≡ get_or ws (d + 1) 0 → get_or vs (d + 3) 0 ≡ get_or ws (d + 3) 0 → HasWatch vs d l → HasWatch ws d l
watch-back ws vs d l a b (left p) = left (sym a ∙ p)
watch-back ws vs d l a b (right p) = right (sym b ∙ p)

pub record Turned (ws hs refs : List ℕ) (c v : ℕ) : Type 0 where
  pub linked : HasWatchChains (set ws (c + 6) v) hs refs
  pub chains : (l : ℕ) → l < length hs → chain_for_lit_place (set ws (c + 6) v) hs l ≡ chain_for_lit_place ws hs l

turned : (ws hs refs : List ℕ) (c v : ℕ) → HasWatchChains ws hs refs → IsItemOfList refs c → Turned ws hs refs c v
turned ws hs refs c v k r =
    let us = set ws (c + 6) v in
    let size : length us ≡ length ws = simp length-set in
    let far : (d j : ℕ) → IsItemOfList refs d → j < 6 → c + 6 ≢ d + j = λ d j s h. cursor-far ws hs refs c d j k r s h in
    let len : (d : ℕ) → IsItemOfList refs d → get_or us d 0 ≡ get_or ws d 0 = λ d s. cursor-len ws hs refs c d v k r s in
    let w1 : (d : ℕ) → IsItemOfList refs d → get_or us (d + 1) 0 ≡ get_or ws (d + 1) 0 = λ d s. cursor-read ws hs refs c d 1 v k r s (omega arith) in
    let w3 : (d : ℕ) → IsItemOfList refs d → get_or us (d + 3) 0 ≡ get_or ws (d + 3) 0 = λ d s. cursor-read ws hs refs c d 3 v k r s (omega arith) in
    let pl : (d : ℕ) → IsItemOfList refs d → literal_places_at us d ≡ literal_places_at ws d = λ d s. cursor-places ws hs refs c d v k r s in
    let step : (l d : ℕ) → IsItemOfList refs d → next_reference_in_chain us l d ≡ next_reference_in_chain ws l d = λ l d s. next-far ws l d (c + 6) v (far d 1 s (omega arith)) (far d 2 s (omega arith)) (far d 4 s (omega arith)) in
    let ch : ChainsAreWatchPaths us hs (IsItemOfList refs) (chain_for_lit_place ws hs) = record {
      path =
          λ l h. frame ws us l (get_or hs l 0) (chain_for_lit_place ws hs l)
          (each-map (λ d. IsItemOfList refs d × HasWatch ws d l)
          (λ d. next_reference_in_chain us l d ≡ next_reference_in_chain ws l d) (chain_for_lit_place ws hs l)
          (λ d s. step l d s.0) (k.chains.held l h))
          (k.chains.path l h);
      held = λ l h. each-map (λ d. IsItemOfList refs d × HasWatch ws d l) (λ d. IsItemOfList refs d × HasWatch us d l) (chain_for_lit_place ws hs l)
          (λ d s. (s.0, watches-far ws d l (c + 6) v (far d 1 s.0 (omega arith)) (far d 3 s.0 (omega arith)) s.1))
          (k.chains.held l h);
      once = k.chains.once;
    } in
    let hd = headers-of ws hs refs k in
    let hd2 : AreHeadersInsideAndApart us (IsItemOfList refs) = record { room = λ d s. (k.positive d s, omega (arith, size, k.whole d s)); apart = hd.apart } in
    let fam : (l : ℕ) → l < length hs → chain_for_lit_place us hs l ≡ chain_for_lit_place ws hs l = λ l h. chain_for_lit_place-is us hs (IsItemOfList refs) (chain_for_lit_place ws hs) hd2 ch l h in
    let P : (p : ℕ) → List ℕ → Type 0 = λ p ys. IsItemOfList ys p in
    record {
      chains = fam;
      linked = record {
        started = omega (arith, size, k.started);
        wide = k.wide;
        positive = k.positive;
        whole = λ d s. omega (arith, size, len d s, k.whole d s);
        clear = λ d e s t h. omega (arith, len d s, k.clear d e s t h);
        differ = λ d s e. k.differ d s (sym (w1 d s) ∙ e ∙ w3 d s);
        least = λ d p s h. k.least d p s (subst (P p) (pl d s) h);
        small = λ d p s h. k.small d p s (subst (P p) (pl d s) h);
        left_own = λ d s h. (let lg : 2 ≤ get_or ws d 0 = omega (arith, len d s, h) in rw (pl d s, w1 d s) (k.left_own d s lg));
        right_own = λ d s h. (let lg : 2 ≤ get_or ws d 0 = omega (arith, len d s, h) in rw (pl d s, w3 d s) (k.right_own d s lg));
        left_none = λ d s h. (let sh : get_or ws d 0 < 2 = omega (arith, len d s, h) in omega (arith, w1 d s, k.left_none d s sh));
        right_none = λ d s h. (let sh : get_or ws d 0 < 2 = omega (arith, len d s, h) in omega (arith, w3 d s, k.right_none d s sh));
        chains = same-chains us hs (IsItemOfList refs) (chain_for_lit_place ws hs) (chain_for_lit_place us hs) fam ch;
        empty = λ l h. fam l (omega (arith, k.wide)) ∙ k.empty l h;
        standing = λ d l s l2 h w. subst (P d) (sym (fam l h)) (k.standing d l s l2 h (watch-back ws us d l (w1 d s) (w3 d s) w));
      };
    }

rising : (ws : List ℕ) (k : ℕ) (cs : List ℕ) → IsGaplessFrom ws k cs → AllSatisfy (λ d. k ≤ d) cs × Distinct cs
rising ws k [] b = (tt, tt)
rising ws k (c ∷ cs) b =
    let r = rising ws (c + 7 + get_or ws c 0) cs b.2 in (
      (omega (arith, b.0), each-map (λ d. c + 7 + get_or ws c 0 ≤ d) (λ d. k ≤ d) cs (λ d h. omega (arith, b.0)) r.0),
      (each-map (λ d. c + 7 + get_or ws c 0 ≤ d) (λ d. d ≢ c) cs (λ d h. omega arith) r.0, r.1),
    )

cursors-set : (f g : ℕ → ℕ) (refs : List ℕ) (c v : ℕ) → Distinct refs → g c ≡ v → ((d : ℕ) → IsItemOfList refs d → d ≢ c → g d ≡ f d) → map g refs ≡ set_for_reference c refs (map f refs) v
cursors-set f g [] c v d e h = refl
cursors-set f g (r ∷ rs) c v d e h =
    elim (eqb_tells r c) [
      | inl t ↦ (let rest : map g rs ≡ map f rs = map-same g f rs (λ x s. h x (inr s) (λ q. each-at (λ y. y ≢ r) rs x s d.0 (q ∙ sym t.1))) in
          rw t.0 (ap (λ y. y ∷ map g rs) (ap g t.1 ∙ e) ∙ ap (λ ys. v ∷ ys) rest))
      | inr t ↦ rw t.0 (ap (λ y. y ∷ map g rs) (h r (inl refl) t.1) ∙ ap (λ ys. f r ∷ ys) (cursors-set f g rs c v d.1 e (λ x s. h x (inr s))))
    ]

pub record CursorSet (vars spare count : ℕ) (us hs : List ℕ) (a : ArenaContent) (c v : ℕ) : Type 0 where
  pub holds : IsArenaInvariant us hs vars count
  pub lists : lists_of vars spare us hs (references_in_block us) ≡ record a { cursors = set_for_reference c a.references a.cursors v }

pub cursor-law : (vars spare count : ℕ) (ws hs : List ℕ) (a : ArenaContent) (c v : ℕ) →
    IsArenaInvariant ws hs vars count → lists_of vars spare ws hs (references_in_block ws) ≡ a →
    IsItemOfList (references_in_block ws) c → v ≤ get_or ws c 0 → CursorSet vars spare count (set ws (c + 6) v) hs a c v
unfolding lists_of
cursor-law vars spare count ws hs a c v h e s le =
    let refs = references_in_block ws in
    let k = h.linked in
    let us = set ws (c + 6) v in
    let t = turned ws hs refs c v k s in
    let size : length us ≡ length ws = simp length-set in
    let at : get_or us (c + 6) 0 ≡ v = get_or-set_same ws (c + 6) v 0 (omega (arith, k.whole c s)) in
    let away : (d : ℕ) → d ≢ c → get_or us (d + 6) 0 ≡ get_or ws (d + 6) 0 = λ d n. get_or-set_other ws (c + 6) (d + 6) v 0 (omega arith) in
    let d : HasClausesInOrder us refs = record {
      blocks = blocks-same ws us 1 refs size (λ x q. cursor-len ws hs refs c x v k s q) h.laid.blocks;
      number = λ i x q. cursor-read ws hs refs c x 5 v k s (stands-at refs i x q) (omega arith) ∙ h.laid.number i x q;
      cursor = λ x q. elim (cases_eq x c) [
        | inl p ↦ (let P : ℕ → Type 0 = λ j. get_or us (j + 6) 0 ≤ get_or us j 0 in subst P (sym p) (omega (arith, at, cursor-len ws hs refs c c v k s s)))
        | inr p ↦ omega (arith, away x p, cursor-len ws hs refs c x v k s q, h.laid.cursor x q)
      ];
      apart = λ x q. ap (λ (ps : List ℕ). has_distinct_vars (map lit_with_place_number ps)) (cursor-places ws hs refs c x v k s q) ∙ h.laid.apart x q;
    } in
    let re : references_in_block us ≡ refs = references-are us refs d.blocks in
    let P : List ℕ → Type 0 = λ rs. HasWatchChains us hs rs in
    let Q : List ℕ → Type 0 = λ rs. HasClausesInOrder us rs in
    let L = lists_of vars spare ws hs refs in
    let chains : (lists_of vars spare us hs refs).chains ≡ L.chains = gives-one
    (lists_of vars spare us hs refs).chains L.chains (length hs) (chain_for_lit_place ws hs)
    (gives-as (lists_of vars spare us hs refs).chains (length hs) (chain_for_lit_place us hs) (chain_for_lit_place ws hs)
    (gives-seen vars spare us hs refs) t.chains)
    (gives-seen vars spare ws hs refs) in
    let clauses : map (literals_at us) refs ≡ map (literals_at ws) refs = map-same (literals_at us) (literals_at ws) refs (λ x q. ap (λ (ps : List ℕ). map lit_with_place_number ps) (cursor-places ws hs refs c x v k s q)) in
    let cursors : map (clause_cursor_at us) refs ≡ set_for_reference c refs (map (clause_cursor_at ws) refs) v = cursors-set (clause_cursor_at ws) (clause_cursor_at us) refs c v (rising ws 1 refs h.laid.blocks).1 at (λ x q n. away x n) in
    record {
      holds = record {
        few = h.few;
        addressed = omega (arith, h.addressed, size);
        heads = h.heads;
        counted = h.counted ∙ ap (λ (rs : List ℕ). length rs) (sym re);
        linked = subst P (sym re) t.linked;
        laid = subst Q (sym re) d;
      };
      lists = ap (λ (rs : List ℕ). lists_of vars spare us hs rs) re
          ∙ arena-ext (lists_of vars spare us hs refs)
          (record L { cursors = set_for_reference c L.references L.cursors v }) refl refl refl clauses cursors
          chains
          ∙ ap (λ (y : ArenaContent). record y { cursors = set_for_reference c y.references y.cursors v }) e;
    }

pub empty-holds : (vars : ℕ) → 2 * vars + 2 ≤ WORD_VALUE_LIMIT → IsArenaInvariant (0 ∷ []) (replicate (2 * vars + 2) 0) vars 0
empty-holds vars few =
    let ws : List ℕ = 0 ∷ [] in
    let hs : List ℕ = replicate (2 * vars + 2) 0 in
    let n : length hs ≡ 2 * vars + 2 = length-replicate (2 * vars + 2) 0 in
    let head : (l : ℕ) → l < length hs → get_or hs l 0 ≡ 0 = λ l h. get_or-replicate (2 * vars + 2) l 0 0 (omega (arith, n)) in
    let none : (l : ℕ) → l < length hs → chain_for_lit_place ws hs l ≡ [] = λ l h. ap (λ (k : ℕ). chain ws l 1 k) (head l h) in
    record {
      few = few;
      addressed = omega arith;
      heads = n;
      counted = refl;
      linked = record {
        started = omega arith;
        wide = omega (arith, n);
        positive = λ c s. absurd s;
        whole = λ c s. absurd s;
        clear = λ c d s t h. absurd s;
        differ = λ c s. absurd s;
        least = λ c p s h. absurd s;
        small = λ c p s h. absurd s;
        left_own = λ c s h. absurd s;
        right_own = λ c s h. absurd s;
        left_none = λ c s h. absurd s;
        right_none = λ c s h. absurd s;
        chains = record {
          path = λ l h. (let Q : List ℕ → Type 0 = λ ys. IsChainPath ws l (get_or hs l 0) ys in subst Q (sym (none l h)) (head l h));
          held = λ l h. (let Q : List ℕ → Type 0 = λ ys. AllSatisfy (λ c. IsItemOfList [] c × HasWatch ws c l) ys in subst Q (sym (none l h)) tt);
          once = λ l h. (let Q : List ℕ → Type 0 = λ ys. Distinct ys in subst Q (sym (none l h)) tt);
        };
        empty = λ l h. none l (omega (arith, n));
        standing = λ c l s a b w. absurd s;
      };
      laid = record {
        blocks = refl;
        number = λ i c s. absurd (cc);
        cursor = λ c s. absurd s;
        apart = λ c s. absurd s;
      };
    }

pub empty-lists : (vars spare : ℕ) → lists_of vars spare (0 ∷ []) (replicate (2 * vars + 2) 0) [] ≡ record { vars = vars; spare = spare; references = []; clauses = []; cursors = []; chains = replicate (2 * vars + 2) [] }
unfolding lists_of
empty-lists vars spare =
    let ws : List ℕ = 0 ∷ [] in
    let hs : List ℕ = replicate (2 * vars + 2) 0 in
    let n : length hs ≡ 2 * vars + 2 = length-replicate (2 * vars + 2) 0 in
    let e : List (List ℕ) = replicate (2 * vars + 2) [] in
    let m : length e ≡ 2 * vars + 2 = length-replicate (2 * vars + 2) [] in
    let none : (l : ℕ) → l < length hs → chain_for_lit_place ws hs l ≡ [] = λ l h. (let z : get_or hs l 0 ≡ 0 = get_or-replicate (2 * vars + 2) l 0 0 (omega (arith, n)) in ap (λ (k : ℕ). chain ws l 1 k) z) in
    let g = gives-as (lists_of vars spare ws hs []).chains (length hs) (chain_for_lit_place ws hs) (λ l. []) (gives-seen vars spare ws hs []) none in
    let r : Gives e (length hs) (λ l. []) = record { size = m ∙ sym n; item = λ p l. get_or-replicate (2 * vars + 2) p [] [] (omega (arith, n)) } in
    arena-ext (lists_of vars spare ws hs []) (record { vars = vars; spare = spare; references = []; clauses = []; cursors = []; chains = e }) refl refl refl refl refl (gives-one (lists_of vars spare ws hs []).chains e (length hs) (λ l. []) g r)
