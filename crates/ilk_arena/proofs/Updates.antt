use Rattle.std.proofs.Common.{◌≡◌, ℕ, ◌<◌, inl, inr, List, [], ◌∷◌, length, get_or, set, map, refl, sym, ap, ◌∙◌, subst, arith}
use Rattle.std.proofs.lemmas.Bool.Decides.{eqb_tells}
use Rattle.std.proofs.lemmas.List.{get_or-set_same, get_or-set_other, length-set}
use Rattle.ilk_cnf.specs.Literal.{Literal, has_distinct_vars}
use Rattle.ilk_arena.specs.Arena.{ArenaContent}
use Rattle.ilk_arena.specs.Words.{IsItemOfList, chains_with_one_replaced}
use Rattle.ilk_arena.specs.Linked.{lit_with_place_number, literals_at, clause_cursor_at, chain_for_lit_place, references_in_block, lists_of, HasWatchChains, HasClausesInOrder, IsArenaInvariant}
use Rattle.ilk_base.proofs.Lists.{list-ext}
use Rattle.ilk_arena.proofs.Blocks.{references-are, blocks-same, stands-at}
use Rattle.ilk_arena.proofs.Seen.{chain-seen, chains-count}
use Rattle.ilk_arena.proofs.Unlinking.{Alike}

pub arena-ext : (x y : ArenaContent) → x.vars ≡ y.vars → x.spare ≡ y.spare → x.references ≡ y.references → x.clauses ≡ y.clauses → x.cursors ≡ y.cursors → x.chains ≡ y.chains → x ≡ y
arena-ext x y a b c d e f =
    let A : (v s : ℕ) (rs : List ℕ) (cl : List (List Literal)) (cu : List ℕ) (ch : List (List ℕ)) → ArenaContent = λ v s rs cl cu ch. record { vars = v; spare = s; references = rs; clauses = cl; cursors = cu; chains = ch } in
    ap (λ (v : ℕ). A v x.spare x.references x.clauses x.cursors x.chains) a
    ∙ ap (λ (s : ℕ). A y.vars s x.references x.clauses x.cursors x.chains) b
    ∙ ap (λ (rs : List ℕ). A y.vars y.spare rs x.clauses x.cursors x.chains) c
    ∙ ap (λ (cl : List (List Literal)). A y.vars y.spare y.references cl x.cursors x.chains) d
    ∙ ap (λ (cu : List ℕ). A y.vars y.spare y.references y.clauses cu x.chains) e
    ∙ ap (λ (ch : List (List ℕ)). A y.vars y.spare y.references y.clauses y.cursors ch) f

pub record Gives (chains : List (List ℕ)) (n : ℕ) (cs : ℕ → List ℕ) : Type 0 where
  pub size : length chains ≡ n
  pub item : (p : ℕ) → p < n → get_or chains p [] ≡ cs p

pub gives-set : (chains : List (List ℕ)) (n : ℕ) (cs : ℕ → List ℕ) (p : ℕ) (v w : List ℕ) → Gives chains n cs → p < n → v ≡ w → Gives (set chains p v) n (chains_with_one_replaced cs p w)
gives-set chains n cs p v w g h e = record {
  size = simp length-set g.size;
  item = λ q l. elim (eqb_tells q p) [
    | inl t ↦ (let P : ℕ → Type 0 = λ j. get_or (set chains p v) j [] ≡ w in rw t.0 (subst P (sym t.1) (get_or-set_same chains p v [] (omega (arith, g.size)) ∙ e)))
    | inr t ↦ rw t.0 (get_or-set_other chains p q v [] t.1 ∙ g.item q l)
  ];
}

pub gives-one : (xs ys : List (List ℕ)) (n : ℕ) (cs : ℕ → List ℕ) → Gives xs n cs → Gives ys n cs → xs ≡ ys
gives-one xs ys n cs a b = list-ext [] xs ys (a.size ∙ sym b.size) (λ i l. a.item i (omega (arith, a.size)) ∙ sym (b.item i (omega (arith, a.size))))

pub gives-seen : (vars spare : ℕ) (ws hs refs : List ℕ) → Gives (lists_of vars spare ws hs refs).chains (length hs) (chain_for_lit_place ws hs)
gives-seen vars spare ws hs refs = record {
  size = chains-count vars spare ws hs refs;
  item = λ p l. chain-seen vars spare ws hs refs p l;
}

pub gives-as : (xs : List (List ℕ)) (n : ℕ) (cs ds : ℕ → List ℕ) → Gives xs n cs → ((p : ℕ) → p < n → cs p ≡ ds p) → Gives xs n ds
gives-as xs n cs ds g e = record { size = g.size; item = λ p l. g.item p l ∙ e p l }

pub map-same : {A : Type 0} (f g : ℕ → A) (xs : List ℕ) → ((c : ℕ) → IsItemOfList xs c → f c ≡ g c) → map f xs ≡ map g xs
map-same f g [] e = refl
map-same f g (x ∷ xs) e =
    ap (λ y. y ∷ map f xs) (e x (inl refl)) ∙ ap (λ ys. g x ∷ ys) (map-same f g xs (λ c s. e c (inr s)))

pub laid-alike : (ws us refs : List ℕ) → HasClausesInOrder ws refs → Alike ws us refs → HasClausesInOrder us refs
laid-alike ws us refs k a = record {
  blocks = blocks-same ws us 1 refs a.size (λ c s. (a.same c s).len) k.blocks;
  number = λ i c s. (a.same c (stands-at refs i c s)).number ∙ k.number i c s;
  cursor = λ c s. (let m = a.same c s in omega (arith, m.cursor, m.len, k.cursor c s));
  apart = λ c s. ap (λ (ps : List ℕ). has_distinct_vars (map lit_with_place_number ps)) (a.same c s).places ∙ k.apart c s;
}

pub holds-alike : (ws us hs ks : List ℕ) (vars count : ℕ) → IsArenaInvariant ws hs vars count → Alike ws us (references_in_block ws) → length ks ≡ length hs → HasWatchChains us ks (references_in_block ws)
    → IsArenaInvariant us ks vars count × (references_in_block us ≡ references_in_block ws)
holds-alike ws us hs ks vars count h a n li =
    let d = laid-alike ws us (references_in_block ws) h.laid a in
    let e : references_in_block us ≡ references_in_block ws = references-are us (references_in_block ws) d.blocks in
    let P : List ℕ → Type 0 = λ rs. HasWatchChains us ks rs in
    let Q : List ℕ → Type 0 = λ rs. HasClausesInOrder us rs in (
      record {
        few = h.few;
        addressed = omega (arith, h.addressed, a.size);
        heads = n ∙ h.heads;
        counted = h.counted ∙ ap (λ (rs : List ℕ). length rs) (sym e);
        linked = subst P (sym e) li;
        laid = subst Q (sym e) d;
      },
      e,
    )

pub lists-alike : (vars spare : ℕ) (ws us hs ks refs : List ℕ) (chains : List (List ℕ)) → Alike ws us refs →
    (lists_of vars spare us ks refs).chains ≡ chains →
    lists_of vars spare us ks refs ≡ record (lists_of vars spare ws hs refs) { chains = chains }
unfolding lists_of
lists-alike vars spare ws us hs ks refs chains a e =
    arena-ext (lists_of vars spare us ks refs) (record (lists_of vars spare ws hs refs) { chains = chains }) refl refl refl
    (map-same (literals_at us) (literals_at ws) refs (λ c s. ap (λ (ps : List ℕ). map lit_with_place_number ps) (a.same c s).places))
    (map-same (clause_cursor_at us) (clause_cursor_at ws) refs (λ c s. (a.same c s).cursor))
    e
