use Rattle.std.proofs.Common.{◌≡◌, ◌≢◌, ℕ, zero, suc, ◌+◌, ◌*◌, ◌<◌, ◌≤◌, inl, inr, true, false, ltb, leb, List, [], ◌∷◌, ◌++◌, length, get_or, set, map, refl, sym, ap, ◌∙◌, subst, arith, Some, length-append}
use Rattle.std.specs.List.{slice_get}
use Rattle.std.proofs.lemmas.Bool.{cases_Bool, and_parts, leb-true, eqb-false, or_parts, not-true}
use Rattle.std.proofs.lemmas.List.{map-append, length-map}
use Rattle.ilk_base.proofs.Lists.{slice_get-push_cases}
use Rattle.ilk_cnf.specs.Literal.{Literal, has_var, has_distinct_vars}
use Rattle.ilk_cnf.specs.Formula.{is_lit_over, is_clause_over}
use Rattle.ilk_arena.specs.Arena.{ArenaContent, place, contains_reference, chains_with_first, chains_with_clause, with_clause_added}
use Rattle.ilk_arena.specs.declared.place.TheConstants.{WORD_VALUE_LIMIT}
use Rattle.ilk_arena.specs.Words.{IsItemOfList, chains_with_one_replaced}
use Rattle.ilk_arena.specs.Linked.{lit_with_place_number, literals_at, clause_cursor_at, chain_for_lit_place, references_in_block, lists_of, HasWatchChains, HasClausesInOrder, IsArenaInvariant}
use Rattle.ilk_arena.proofs.Blocks.{references-are, blocks-push, stands-at}
use Rattle.ilk_arena.proofs.Seen.{stands-from, lit-at-place, place-within, references-seen}
use Rattle.ilk_arena.proofs.Adding.{Joins, linked-push, added-long, added-short}
use Rattle.ilk_arena.proofs.Appending.{block, appended, stands-push, places-new}
use Rattle.ilk_arena.proofs.Updates.{arena-ext, Gives, gives-set, gives-one, gives-seen, gives-as, map-same}

pub round : (ls : List Literal) → map lit_with_place_number (map place ls) ≡ ls
round [] = refl
round (l ∷ ls) = ap (λ (m : Literal). m ∷ map lit_with_place_number (map place ls)) (lit-at-place l) ∙ ap (λ (ms : List Literal). l ∷ ms) (round ls)

place-of-some : (ls : List Literal) (i : ℕ) (l : Literal) → slice_get ls i ≡ Some l → IsItemOfList (map place ls) (place l)
place-of-some [] i l h = absurd (cc)
place-of-some (m ∷ ls) zero l h = (let e : m ≡ l = cc in inl (ap place e))
place-of-some (m ∷ ls) (suc i) l h = inr (place-of-some ls i l h)

places-within : (n p : ℕ) (ls : List Literal) → is_clause_over n ls ≡ true → IsItemOfList (map place ls) p → (2 ≤ p) × (p < 2 * n + 2)
places-within n p [] h s = absurd s
places-within n p (l ∷ ls) h s =
    let q = and_parts _ _ h in
    elim s [
      | inl e ↦ (let w = place-within n l q.0 in (omega (arith, e, w.0), omega (arith, e, w.1)))
      | inr r ↦ places-within n p ls q.1 r
    ]

laid-push : (ws hs refs ls : List ℕ) (a x b y k : ℕ) (clause : List Literal) → HasWatchChains ws hs refs →
    HasClausesInOrder ws refs → k ≡ length refs + 1 → ls ≡ map place clause → has_distinct_vars clause ≡ true →
    HasClausesInOrder (ws ++ block (length ls) a x b y k ls) (refs ++ (length ws ∷ []))
laid-push ws hs refs ls a x b y k clause li la ke le vd =
    let c = length ws in
    let blk = block (length ls) a x b y k ls in
    let us = ws ++ blk in
    let ap1 = appended ws hs refs ls a x b y k li in
    record {
      blocks = blocks-push ws blk 1 refs (omega (arith, ap1.new_len)) la.blocks;
      number = λ i d s. elim (slice_get-push_cases refs c d i s) [
        | inl q ↦ ap1.kept d 5 (stands-at refs i d q) (omega arith) ∙ la.number i d q
        | inr q ↦ (let P : ℕ → Type 0 = λ j. get_or us (j + 5) 0 ≡ i + 1 in subst P q.1 (ap1.new_number ∙ omega (arith, ke, q.0)))
      ];
      cursor = λ d s. elim (stands-push refs c d s) [
        | inl q ↦ omega (arith, ap1.kept d 6 q (omega arith), ap1.kept_len d q, la.cursor d q)
        | inr q ↦ (let P : ℕ → Type 0 = λ j. get_or us (j + 6) 0 ≤ get_or us j 0 in subst P q (omega (arith, ap1.new_cursor)))
      ];
      apart = λ d s. elim (stands-push refs c d s) [
        | inl q ↦ ap (λ (ps : List ℕ). has_distinct_vars (map lit_with_place_number ps)) (ap1.kept_places d q) ∙ la.apart d q
        | inr q ↦ (let P : ℕ → Type 0 = λ j. has_distinct_vars (literals_at us j) ≡ true in
            subst P q (ap (λ (ps : List ℕ). has_distinct_vars (map lit_with_place_number ps)) (places-new ws ls a x b y k ∙ le) ∙ ap has_distinct_vars (round clause) ∙ vd))
      ];
    }

pub record Grown (vars spare count : ℕ) (us ks : List ℕ) (a : ArenaContent) (ls : List Literal) (c : ℕ) : Type 0 where
  pub holds : IsArenaInvariant us ks vars (count + 1)
  pub lists : lists_of vars spare us ks (references_in_block us) ≡ with_clause_added a ls c spare

grown-by :
    (vars spare old count : ℕ) (ws hs ks : List ℕ) (x : ArenaContent) (ls : List Literal) (a al b bl : ℕ)
    (cs : ℕ → List ℕ) →
    IsArenaInvariant ws hs vars count → lists_of vars old ws hs (references_in_block ws) ≡ x → has_distinct_vars ls ≡ true →
    Joins ws hs (references_in_block ws) (map place ls) ks a al b bl (count + 1) cs →
    Gives (chains_with_clause (length ws) ls (lists_of vars old ws hs (references_in_block ws)).chains) (length hs) cs →
    length ws + length ls + 7 ≤ WORD_VALUE_LIMIT →
    Grown vars spare count (ws ++ block (length (map place ls)) a al b bl (count + 1) (map place ls)) ks x ls
    (length ws)
unfolding lists_of
grown-by vars spare old count ws hs ks x ls a al b bl cs h e vd j g fits =
    let refs = references_in_block ws in
    let ps = map place ls in
    let c = length ws in
    let all = refs ++ (c ∷ []) in
    let us = ws ++ block (length ps) a al b bl (count + 1) ps in
    let li = h.linked in
    let ap1 = appended ws hs refs ps a al b bl (count + 1) li in
    let r = linked-push ws hs refs ps ks a al b bl (count + 1) cs li j in
    let d = laid-push ws hs refs ps a al b bl (count + 1) ls li h.laid (omega (arith, h.counted)) refl vd in
    let re : references_in_block us ≡ all = references-are us all d.blocks in
    let P : List ℕ → Type 0 = λ rs. HasWatchChains us ks rs in
    let Q : List ℕ → Type 0 = λ rs. HasClausesInOrder us rs in
    let size : length all ≡ length refs + 1 = length-append refs (c ∷ []) in
    let new0 = gives-seen vars spare us ks all in
    let new1 : Gives (lists_of vars spare us ks all).chains (length hs) (chain_for_lit_place us ks) = record { size = new0.size ∙ j.heads; item = λ q l. new0.item q (omega (arith, j.heads)) } in
    let new2 = gives-as (lists_of vars spare us ks all).chains (length hs) (chain_for_lit_place us ks) cs new1 r.1 in
    let chains : (lists_of vars spare us ks all).chains ≡ chains_with_clause c ls (lists_of vars old ws hs refs).chains =
    gives-one (lists_of vars spare us ks all).chains (chains_with_clause c ls (lists_of vars old ws hs refs).chains) (length hs) cs new2 g in
    let clauses : map (literals_at us) all ≡ map (literals_at ws) refs ++ (ls ∷ []) =
    map-append (literals_at us) refs (c ∷ [])
    ∙ ap (λ (cl : List (List Literal)). cl ++ (literals_at us c ∷ []))
    (map-same (literals_at us) (literals_at ws) refs
    (λ d s. ap (λ (qs : List ℕ). map lit_with_place_number qs) (ap1.kept_places d s)))
    ∙ ap (λ (l : List Literal). map (literals_at ws) refs ++ (l ∷ []))
    (ap (λ (qs : List ℕ). map lit_with_place_number qs) (places-new ws ps a al b bl (count + 1)) ∙ round ls) in
    let cursors : map (clause_cursor_at us) all ≡ map (clause_cursor_at ws) refs ++ (0 ∷ []) =
    map-append (clause_cursor_at us) refs (c ∷ [])
    ∙ ap (λ (cu : List ℕ). cu ++ (clause_cursor_at us c ∷ []))
    (map-same (clause_cursor_at us) (clause_cursor_at ws) refs (λ d s. ap1.kept d 6 s (omega arith)))
    ∙ ap (λ (v : ℕ). map (clause_cursor_at ws) refs ++ (v ∷ [])) ap1.new_cursor in
    let L = lists_of vars old ws hs refs in
    record {
      holds = record {
        few = h.few;
        addressed = omega (arith, fits, ap1.size, length-map ls place);
        heads = j.heads ∙ h.heads;
        counted = omega (arith, h.counted, size, ap (λ (rs : List ℕ). length rs) re);
        linked = subst P (sym re) r.0;
        laid = subst Q (sym re) d;
      };
      lists = ap (λ (rs : List ℕ). lists_of vars spare us ks rs) re ∙ arena-ext (lists_of vars spare us ks all) (with_clause_added L ls c spare) refl refl refl clauses cursors chains ∙ ap (λ (y : ArenaContent). with_clause_added y ls c spare) e;
    }

front-two : (ls : List Literal) (l m : Literal) → slice_get ls 0 ≡ Some l → slice_get ls 1 ≡ Some m → (rest : List Literal) × (ls ≡ l ∷ (m ∷ rest))
front-two [] l m a b = absurd (cc)
front-two (x ∷ []) l m a b = absurd (cc)
front-two (x ∷ (y ∷ rest)) l m a b =
    let e : x ≡ l = cc in
    let f : y ≡ m = cc in
    (rest, ap (λ (z : Literal). z ∷ (y ∷ rest)) e ∙ ap (λ (z : Literal). l ∷ (z ∷ rest)) f)

places-differ : (ls : List Literal) (l m : Literal) → slice_get ls 0 ≡ Some l → slice_get ls 1 ≡ Some m → has_distinct_vars ls ≡ true → place l ≢ place m
places-differ ls l m a b vd q =
    let r = front-two ls l m a b in
    let w : has_distinct_vars (l ∷ (m ∷ r.0)) ≡ true = ap has_distinct_vars (sym r.1) ∙ vd in
    let p = and_parts _ _ w in
    let n = or_parts _ _ (not-true (has_var l.var (m ∷ r.0)) p.0) in
    let e : l ≡ m = sym (lit-at-place l) ∙ ap lit_with_place_number q ∙ lit-at-place m in
    eqb-false m.var l.var n.0 (sym (ap (λ (z : Literal). z.var) e))

abbrev pub words_long : List ℕ → List ℕ → List Literal → Literal → Literal → ℕ → List ℕ
words_long ws hs ls l m k = ws ++ block (length (map place ls)) (place l) (get_or hs (place l) 0) (place m) (get_or hs (place m) 0) k (map place ls)

abbrev pub heads_long : List ℕ → List ℕ → Literal → Literal → List ℕ
heads_long ws hs l m = set (set hs (place l) (length ws)) (place m) (length ws)

pub long-law :
    (vars spare old count : ℕ) (ws hs : List ℕ) (x : ArenaContent) (ls : List Literal) (l m : Literal) →
    IsArenaInvariant ws hs vars count → lists_of vars old ws hs (references_in_block ws) ≡ x → is_clause_over vars ls ≡ true →
    has_distinct_vars ls ≡ true → slice_get ls 0 ≡ Some l → slice_get ls 1 ≡ Some m →
    length ws + length ls + 7 ≤ WORD_VALUE_LIMIT →
    Grown vars spare count (words_long ws hs ls l m (count + 1)) (heads_long ws hs l m) x ls (length ws)
long-law vars spare old count ws hs x ls l m h e ci vd a b fits =
    let refs = references_in_block ws in
    let ps = map place ls in
    let c = length ws in
    let F = chain_for_lit_place ws hs in
    let L = lists_of vars old ws hs refs in
    let r = front-two ls l m a b in
    let ne = places-differ ls l m a b vd in
    let oa = place-of-some ls 0 l a in
    let ob = place-of-some ls 1 m b in
    let within : (p : ℕ) → IsItemOfList ps p → (2 ≤ p) × (p < 2 * vars + 2) = λ p s. places-within vars p ls ci s in
    let small : (p : ℕ) → IsItemOfList ps p → p < length hs = λ p s. omega (arith, (within p s).1, h.heads) in
    let two : 2 ≤ length ps = omega (arith, length-map ls place, ap (λ (zs : List Literal). length zs) r.1) in
    let j = added-long ws hs refs ps (place l) (place m) (count + 1) h.linked ne two oa ob (λ p s. (within p s).0) small in
    let g0 = gives-seen vars old ws hs refs in
    let la = small (place l) oa in
    let lb = small (place m) ob in
    let g1 = gives-set L.chains (length hs) F (place l) (c ∷ get_or L.chains (place l) []) (c ∷ F (place l)) g0 la (ap (λ ys. c ∷ ys) (g0.item (place l) la)) in
    let F1 = chains_with_one_replaced F (place l) (c ∷ F (place l)) in
    let C1 = chains_with_first l c L.chains in
    let g2 = gives-set C1 (length hs) F1 (place m) (c ∷ get_or C1 (place m) []) (c ∷ F1 (place m)) g1 lb (ap (λ ys. c ∷ ys) (g1.item (place m) lb)) in
    let G : List (List ℕ) → Type 0 = λ ch. Gives ch (length hs) (chains_with_one_replaced F1 (place m) (c ∷ F1 (place m))) in
    let is : chains_with_first m c C1 ≡ chains_with_clause c ls L.chains = ap (λ (zs : List Literal). chains_with_clause c zs L.chains) (sym r.1) in
    grown-by vars spare old count ws hs (heads_long ws hs l m) x ls (place l) (get_or hs (place l) 0) (place m) (get_or hs (place m) 0) (chains_with_one_replaced F1 (place m) (c ∷ F1 (place m))) h e vd j (subst G is g2) fits

abbrev pub words_short : List ℕ → List Literal → ℕ → List ℕ
words_short ws ls k = ws ++ block (length (map place ls)) 0 0 1 0 k (map place ls)

pub short-law : (vars spare old count : ℕ) (ws hs : List ℕ) (x : ArenaContent) (ls : List Literal) →
    IsArenaInvariant ws hs vars count → lists_of vars old ws hs (references_in_block ws) ≡ x → is_clause_over vars ls ≡ true →
    has_distinct_vars ls ≡ true → length ls < 2 → length ws + length ls + 7 ≤ WORD_VALUE_LIMIT →
    Grown vars spare count (words_short ws ls (count + 1)) hs x ls (length ws)
short-law vars spare old count ws hs x ls h e ci vd n fits =
    let refs = references_in_block ws in
    let ps = map place ls in
    let within : (p : ℕ) → IsItemOfList ps p → (2 ≤ p) × (p < 2 * vars + 2) = λ p s. places-within vars p ls ci s in
    let j = added-short ws hs refs ps (count + 1) h.linked (omega (arith, length-map ls place)) (λ p s. (within p s).0) (λ p s. omega (arith, (within p s).1, h.heads)) in
    let L = lists_of vars old ws hs refs in
    let G : List (List ℕ) → Type 0 = λ ch. Gives ch (length hs) (chain_for_lit_place ws hs) in
    grown-by vars spare old count ws hs hs x ls 0 0 1 0 (chain_for_lit_place ws hs) h e vd j (subst G (same ls L.chains n) (gives-seen vars old ws hs refs)) fits
  where
    same : (ls : List Literal) (ch : List (List ℕ)) → length ls < 2 → ch ≡ chains_with_clause (length ws) ls ch
    same [] ch n = refl
    same (l ∷ []) ch n = refl
    same (l ∷ (m ∷ ls)) ch n = absurd (omega arith)

pub new-reference : (vars old count : ℕ) (ws hs : List ℕ) (x : ArenaContent) → IsArenaInvariant ws hs vars count → lists_of vars old ws hs (references_in_block ws) ≡ x → contains_reference (length ws) x.references ≡ false
new-reference vars old count ws hs x h e =
    let refs = references_in_block ws in
    let rs : x.references ≡ refs = ap (λ (y : ArenaContent). y.references) (sym e) ∙ references-seen vars old ws hs refs in
    elim (cases_Bool (contains_reference (length ws) refs)) [
      | inl t ↦ absurd (let s = stands-from (length ws) refs t in omega (arith, h.linked.whole (length ws) s))
      | inr t ↦ ap (contains_reference (length ws)) rs ∙ t
    ]

clause-lit : (n : ℕ) (ls : List Literal) (i : ℕ) (l : Literal) → is_clause_over n ls ≡ true → slice_get ls i ≡ Some l → is_lit_over n l ≡ true
clause-lit n [] i l h s = absurd (cc)
clause-lit n (x ∷ xs) zero l h s = (let e : x ≡ l = cc in ap (is_lit_over n) (sym e) ∙ (and_parts _ _ h).0)
clause-lit n (x ∷ xs) (suc i) l h s = clause-lit n xs i l (and_parts _ _ h).1 s

pub lit-fits : (vars count : ℕ) (ws hs : List ℕ) (ls : List Literal) (i : ℕ) (l : Literal) → IsArenaInvariant ws hs vars count → is_clause_over vars ls ≡ true → slice_get ls i ≡ Some l → (2 * l.var + 1 < WORD_VALUE_LIMIT) × (place l < length hs)
lit-fits vars count ws hs ls i l h ci s =
    let t = clause-lit vars ls i l ci s in
    let p : (ltb 0 l.var ≡ true) × (leb l.var vars ≡ true) = and_parts _ _ t in
    (omega (arith, leb-true l.var vars p.1, h.few), omega (arith, h.heads, (place-within vars l t).1))
