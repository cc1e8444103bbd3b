use Rattle.std.proofs.Common.{◌≡◌, ◌≢◌, ℕ, zero, suc, ◌+◌, ◌<◌, ◌≤◌, inl, inr, true, false, List, [], ◌∷◌, ◌++◌, length, get_or, set, refl, sym, ap, ◌∙◌, subst, arith, Option, Some, None, IfSome}
use Rattle.std.specs.List.{slice_get}
use Rattle.std.proofs.lemmas.List.{length-set}
use Rattle.ilk_cnf.specs.Literal.{Literal}
use Rattle.ilk_cnf.specs.Formula.{is_lit_over}
use Rattle.ilk_arena.specs.Arena.{ArenaContent, place, chain_of, contains_reference, literals_of, follows_or_heads_chain, without_reference, chains_with_first, chains_after_removal_from, with_watch_moved}
use Rattle.ilk_arena.specs.Words.{IsItemOfList, FollowsOrHeadsChain, HasWatch, link_index, next_reference_in_chain, watch_moved, words_after_unlink, heads_after_unlink, chains_with_one_replaced}
use Rattle.ilk_arena.specs.Linked.{lit_with_place_number, literal_places_at, chain_for_lit_place, references_in_block, lists_of, HasWatchChains, IsArenaInvariant}
use Rattle.std.specs.Option.{option_map}
use Rattle.std.proofs.lemmas.Option.{slice_get-map, slice_get-get_or}
use Rattle.ilk_arena.proofs.HeaderWrites.{link_index-in}
use Rattle.ilk_arena.proofs.Seen.{place-within, chain-seen, clause-seen, vars-seen, places-length, places-get, stands-reference_after_in_list-from}
use Rattle.ilk_arena.proofs.Unlinking.{Alike, SameWatches, unlinked, alike-set, same-set, stands-in}
use Rattle.ilk_arena.proofs.Relinking.{relinked}
use Rattle.ilk_arena.proofs.Law.{place-of-lit, in-chain, chain-gets, clause-length}
use Rattle.ilk_arena.proofs.Updates.{Gives, gives-set, gives-one, gives-seen, gives-as, holds-alike, lists-alike}

stands-after : (before : Option ℕ) (c : ℕ) (cs : List ℕ) → FollowsOrHeadsChain before c cs → IsItemOfList cs c
stands-after None c cs a = (let P : List ℕ → Type 0 = λ ys. IsItemOfList ys c in subst P (sym a.1) (inl refl))
stands-after (Some b) c cs a = (let P : List ℕ → Type 0 = λ ys. IsItemOfList ys c in subst P (sym a.1.1) (later a.0 b c a.1.0))
  where
    later : (pre : List ℕ) (b c : ℕ) (post : List ℕ) → IsItemOfList (pre ++ (b ∷ (c ∷ post))) c
    later [] b c post = inr (inl refl)
    later (p ∷ pre) b c post = inr (later pre b c post)

before-ok : (ws hs refs : List ℕ) (before : Option ℕ) (c f : ℕ) → HasWatchChains ws hs refs → f < length hs → FollowsOrHeadsChain before c (chain_for_lit_place ws hs f) → IfSome before (λ b. b + 7 ≤ length ws)
before-ok ws hs refs None c f k h a = tt
before-ok ws hs refs (Some b) c f k h a =
    let s : IsItemOfList (chain_for_lit_place ws hs f) b = (let P : List ℕ → Type 0 = λ ys. IsItemOfList ys b in subst P (sym a.1.1) (stands-in a.0 b (c ∷ a.1.0))) in
    omega (arith, k.whole b (in-chain ws hs refs f b k h s).0)

after-alike : (ws hs refs : List ℕ) (before : Option ℕ) (c f : ℕ) → HasWatchChains ws hs refs → f < length hs →
    FollowsOrHeadsChain before c (chain_for_lit_place ws hs f) →
    Alike ws (words_after_unlink ws before f c) refs × SameWatches ws (words_after_unlink ws before f c) refs ×
    (length (heads_after_unlink hs ws before f c) ≡ length hs)
after-alike ws hs refs None c f k h a = (record { size = refl; same = λ d s. record { len = refl; places = refl; number = refl; cursor = refl } }, record { left_same = λ d s. refl; right_same = λ d s. refl }, simp length-set)
after-alike ws hs refs (Some b) c f k h a =
    let s : IsItemOfList (chain_for_lit_place ws hs f) b = (let P : List ℕ → Type 0 = λ ys. IsItemOfList ys b in subst P (sym a.1.1) (stands-in a.0 b (c ∷ a.1.0))) in
    let r = (in-chain ws hs refs f b k h s).0 in
    (alike-set ws hs refs b (link_index ws f b) (next_reference_in_chain ws f c) k r (grind (arith, link_index-in ws f b)) (grind (arith, link_index-in ws f b)), same-set ws hs refs f b (next_reference_in_chain ws f c) k r, refl)

abbrev pub words_moved : List ℕ → List ℕ → Option ℕ → ℕ → ℕ → ℕ → List ℕ
words_moved ws hs before f c t = watch_moved (words_after_unlink ws before f c) f c t (get_or (heads_after_unlink hs ws before f c) t 0)

abbrev pub heads_moved : List ℕ → List ℕ → Option ℕ → ℕ → ℕ → ℕ → List ℕ
heads_moved ws hs before f c t = set (heads_after_unlink hs ws before f c) t c

pub record Ready (ws hs : List ℕ) (a : ArenaContent) (before : Option ℕ) (c i : ℕ) (f : Literal) : Type 0 where
  pub clause_in : c + 7 ≤ length ws
  pub literal_in : c + 7 + i < length ws
  pub before_in : IfSome before (λ b. b + 7 ≤ length ws)
  pub from_in : place f < length hs
  pub to_low : 2 ≤ get_or ws (c + 7 + i) 0
  pub to_in : get_or ws (c + 7 + i) 0 < length hs
  pub known : IsItemOfList (references_in_block ws) c
  pub stands : FollowsOrHeadsChain before c (chain_for_lit_place ws hs (place f))
  pub own : IsItemOfList (literal_places_at ws c) (get_or ws (c + 7 + i) 0)
  pub is : slice_get (literals_of a c) i ≡ Some (lit_with_place_number (get_or ws (c + 7 + i) 0))

stands-place : (ps : List ℕ) (i : ℕ) → i < length ps → IsItemOfList ps (get_or ps i 0)
stands-place [] i h = absurd (omega arith)
stands-place (p ∷ ps) zero h = inl refl
stands-place (p ∷ ps) (suc i) h = inr (stands-place ps i (omega arith))

pub record LitAt (ws : List ℕ) (a : ArenaContent) (c i : ℕ) : Type 0 where
  pub room : c + 7 + i < length ws
  pub own : IsItemOfList (literal_places_at ws c) (get_or ws (c + 7 + i) 0)
  pub is : slice_get (literals_of a c) i ≡ Some (lit_with_place_number (get_or ws (c + 7 + i) 0))

pub lit-at : (vars spare : ℕ) (ws hs refs : List ℕ) (a : ArenaContent) (c i : ℕ) → HasWatchChains ws hs refs → lists_of vars spare ws hs refs ≡ a → IsItemOfList refs c → i < length (literals_of a c) → LitAt ws a c i
lit-at vars spare ws hs refs a c i k e s h =
    let w = k.whole c s in
    let m : length (literals_of a c) ≡ get_or ws c 0 = ap (λ (x : ArenaContent). length (literals_of x c)) (sym e) ∙ clause-length vars spare ws hs refs c k s in
    let lt : i < get_or ws c 0 = omega (arith, m, h) in
    let n = places-length ws c w in
    let g = places-get ws c i w lt in
    let S : ℕ → Type 0 = λ p. IsItemOfList (literal_places_at ws c) p in
    let il : i < length (literal_places_at ws c) = omega (arith, n, lt) in
    record {
      room = omega (arith, w, lt);
      own = subst S g (stands-place (literal_places_at ws c) i il);
      is = ap (λ (x : ArenaContent). slice_get (literals_of x c) i) (sym e)
          ∙ ap (λ (ls : List Literal). slice_get ls i) (clause-seen vars spare ws hs refs c s)
          ∙ slice_get-map lit_with_place_number (literal_places_at ws c) i
          ∙ ap (option_map lit_with_place_number) (slice_get-get_or (literal_places_at ws c) i 0 il)
          ∙ ap (λ (p : ℕ). Some (lit_with_place_number p)) g;
    }

pub ready :
    (vars spare count : ℕ) (ws hs : List ℕ) (a : ArenaContent) (before : Option ℕ) (c i : ℕ) (f : Literal) →
    IsArenaInvariant ws hs vars count → lists_of vars spare ws hs (references_in_block ws) ≡ a → is_lit_over a.vars f ≡ true →
    follows_or_heads_chain before c (chain_of a f) ≡ true → i < length (literals_of a c) → Ready ws hs a before c i f
ready vars spare count ws hs a before c i f h e fi af lt =
    let refs = references_in_block ws in
    let k = h.linked in
    let V : ArenaContent → Type 0 = λ x. is_lit_over x.vars f ≡ true in
    let fv : is_lit_over vars f ≡ true = ap (λ (n : ℕ). is_lit_over n f) (sym (vars-seen vars spare ws hs refs)) ∙ subst V (sym e) fi in
    let pw = place-within vars f fv in
    let fin : place f < length hs = omega (arith, h.heads, pw.1) in
    let F : List ℕ → Type 0 = λ ys. follows_or_heads_chain before c ys ≡ true in
    let ch : chain_of a f ≡ chain_for_lit_place ws hs (place f) = ap (λ (x : ArenaContent). chain_of x f) (sym e) ∙ chain-seen vars spare ws hs refs (place f) fin in
    let sa : FollowsOrHeadsChain before c (chain_for_lit_place ws hs (place f)) = stands-reference_after_in_list-from before c (chain_for_lit_place ws hs (place f)) (subst F ch af) in
    let s = (in-chain ws hs refs (place f) c k fin (stands-after before c (chain_for_lit_place ws hs (place f)) sa)).0 in
    let l = lit-at vars spare ws hs refs a c i k e s lt in
    record {
      clause_in = omega (arith, k.whole c s);
      literal_in = l.room;
      before_in = before-ok ws hs refs before c (place f) k fin sa;
      from_in = fin;
      to_low = k.least c (get_or ws (c + 7 + i) 0) s l.own;
      to_in = k.small c (get_or ws (c + 7 + i) 0) s l.own;
      known = s;
      stands = sa;
      own = l.own;
      is = l.is;
    }

pub record Moved (vars spare count : ℕ) (ws hs us ks : List ℕ) (a : ArenaContent) (c : ℕ) (f t : Literal) : Type 0 where
  pub holds : IsArenaInvariant us ks vars count
  pub lists : lists_of vars spare us ks (references_in_block us) ≡ with_watch_moved a c f t

pub rewatch-law :
    (vars spare count : ℕ) (ws hs : List ℕ) (a : ArenaContent) (before : Option ℕ) (c i p : ℕ) (f : Literal) →
    IsArenaInvariant ws hs vars count → lists_of vars spare ws hs (references_in_block ws) ≡ a →
    Ready ws hs a before c i f → is_lit_over a.vars f ≡ true → p ≡ get_or ws (c + 7 + i) 0 →
    contains_reference c (chain_of a (lit_with_place_number p)) ≡ false →
    Moved vars spare count ws hs (words_moved ws hs before (place f) c p)
    (heads_moved ws hs before (place f) c p) a c f (lit_with_place_number p)
rewatch-law vars spare count ws hs a before c i p f h e r fi pe un =
    let refs = references_in_block ws in
    let k = h.linked in
    let x = place f in
    let vs = words_after_unlink ws before x c in
    let gs = heads_after_unlink hs ws before x c in
    let us = words_moved ws hs before x c p in
    let ks = heads_moved ws hs before x c p in
    let L = lists_of vars spare ws hs refs in
    let s = r.known in
    let V : ArenaContent → Type 0 = λ y. is_lit_over y.vars f ≡ true in
    let fv : is_lit_over vars f ≡ true = ap (λ (n : ℕ). is_lit_over n f) (sym (vars-seen vars spare ws hs refs)) ∙ subst V (sym e) fi in
    let lf : 2 ≤ x = (place-within vars f fv).0 in
    let al = after-alike ws hs refs before c x k r.from_in r.stands in
    let ch = unlinked ws hs refs before x c k r.from_in r.stands in
    let S : ℕ → Type 0 = λ q. IsItemOfList (literal_places_at ws c) q in
    let own : IsItemOfList (literal_places_at ws c) p = subst S (sym pe) r.own in
    let wf : HasWatch ws c x = (in-chain ws hs refs x c k r.from_in (stands-after before c (chain_for_lit_place ws hs x) r.stands)).1 in
    let pin : p < length hs = k.small c p s own in
    let plow : 2 ≤ p = k.least c p s own in
    let pl : place (lit_with_place_number p) ≡ p = place-of-lit p in
    let nowatch : HasWatch ws c p → ⊥ = λ w. (
    let st = k.standing c p s plow pin w in
    let T : ℕ → Type 0 = λ q. IsItemOfList (chain_for_lit_place ws hs q) c in
    let b : place (lit_with_place_number p) < length hs = omega (arith, pl, pin) in
    let t = chain-gets vars spare ws hs refs (lit_with_place_number p) c b (subst T (sym pl) st) in
    let u : contains_reference c (chain_of L (lit_with_place_number p)) ≡ false = ap (λ (y : ArenaContent). contains_reference c (chain_of y (lit_with_place_number p))) e ∙ un in
    absurd (cc)) in
    let ne : x ≢ p = λ q. nowatch (let W : ℕ → Type 0 = λ j. HasWatch ws c j in subst W q wf) in
    let m = relinked ws hs refs vs gs x p c k al.0 al.1 al.2 ch lf r.from_in own s wf ne nowatch in
    let kn : length ks ≡ length hs = (simp length-set al.2) in
    let ho = holds-alike ws us hs ks vars count h m.alike kn m.linked in
    let g0 = gives-seen vars spare ws hs refs in
    let F = chain_for_lit_place ws hs in
    let g1 = gives-set L.chains (length hs) F x (without_reference c (get_or L.chains x [])) (without_reference c (F x)) g0 r.from_in (ap (without_reference c) (chain-seen vars spare ws hs refs x r.from_in)) in
    let F1 = chains_with_one_replaced F x (without_reference c (F x)) in
    let C1 = chains_after_removal_from f c L.chains in
    let g2 = gives-set C1 (length hs) F1 p (c ∷ get_or C1 p []) (c ∷ F1 p) g1 pin (ap (λ ys. c ∷ ys) (g1.item p pin)) in
    let put : chains_with_first (lit_with_place_number p) c C1 ≡ set C1 p (c ∷ get_or C1 p []) = ap (λ (q : ℕ). set C1 q (c ∷ get_or C1 q [])) pl in
    let new0 = gives-seen vars spare us ks refs in
    let new1 : Gives (lists_of vars spare us ks refs).chains (length hs) (chain_for_lit_place us ks) = record { size = new0.size ∙ kn; item = λ q l. new0.item q (omega (arith, kn)) } in
    let new2 = gives-as (lists_of vars spare us ks refs).chains (length hs) (chain_for_lit_place us ks) (chains_with_one_replaced F1 p (c ∷ F1 p)) new1 m.seen in
    let chains : (lists_of vars spare us ks refs).chains
    ≡ chains_with_first (lit_with_place_number p) c C1 = gives-one (lists_of vars spare us ks refs).chains (set C1 p (c ∷ get_or C1 p [])) (length hs) (chains_with_one_replaced F1 p (c ∷ F1 p)) new2 g2 ∙ sym put in
    record {
      holds = ho.0;
      lists = ap (λ (rs : List ℕ). lists_of vars spare us ks rs) ho.1 ∙ lists-alike vars spare ws us hs ks refs (chains_with_first (lit_with_place_number p) c C1) m.alike chains
          ∙ ap (λ (y : ArenaContent). with_watch_moved y c f (lit_with_place_number p)) e;
    }
