use Rattle.std.proofs.Common.{◌≡◌, ◌≢◌, ℕ, ◌+◌, ◌-◌, ◌<◌, ◌≤◌, ◌⊎◌, inl, inr, true, false, eqb, List, length, get_or, set, refl, sym, ◌∙◌, arith}
use Rattle.std.proofs.lemmas.List.{get_or-set_same, get_or-set_other}
use Rattle.std.proofs.lemmas.Bool.Decides.{nat_tests}
use Rattle.std.proofs.lemmas.Bool.{cases_eq}
use Rattle.std.proofs.lemmas.Grind.{get_or-set_at}
use Rattle.std.proofs.Math.ListN.{length-set}
use Rattle.ilk_arena.specs.Words.{link_index, next_reference_in_chain, watch_moved, HasWatch, left, right}

pub link_index-far : (ws : List ℕ) (l c i v : ℕ) → i ≢ c + 1 → link_index (set ws i v) l c ≡ link_index ws l c
unfolding link_index
link_index-far ws l c i v n =
    let e : get_or (set ws i v) (c + 1) 0 ≡ get_or ws (c + 1) 0 = get_or-set_other ws i (c + 1) v 0 (λ q. n (sym q)) in
    rw e refl

pub link_index-in : (ws : List ℕ) (l c : ℕ) → (link_index ws l c ≡ c + 2) ⊎ (link_index ws l c ≡ c + 4)
unfolding link_index
link_index-in ws l c = grind (arith, nat_tests)

pub next-far : (ws : List ℕ) (l c i v : ℕ) → i ≢ c + 1 → i ≢ c + 2 → i ≢ c + 4 → next_reference_in_chain (set ws i v) l c ≡ next_reference_in_chain ws l c
next-far ws l c i v a b d =
    let e = link_index-far ws l c i v a in
    let f : get_or (set ws i v) (link_index ws l c) 0 ≡ get_or ws (link_index ws l c) 0 = get_or-set_other ws i (link_index ws l c) v 0 (grind (arith, link_index-in ws l c)) in
    rw e f

pub slots-apart : (ws : List ℕ) (c l m : ℕ) → l ≢ m → HasWatch ws c l → HasWatch ws c m → link_index ws l c ≢ link_index ws m c
unfolding link_index
slots-apart ws c l m n (left p) (left q) = absurd (n (sym p ∙ q))
slots-apart ws c l m n (right p) (right q) = absurd (n (sym p ∙ q))
slots-apart ws c l m n (left p) (right q) = grind (arith, nat_tests)
slots-apart ws c l m n (right p) (left q) = grind (arith, nat_tests)

pub next-other : (ws : List ℕ) (c l m v : ℕ) → l ≢ m → HasWatch ws c l → HasWatch ws c m → next_reference_in_chain (set ws (link_index ws m c) v) l c ≡ next_reference_in_chain ws l c
next-other ws c l m v n p q =
    let e : link_index (set ws (link_index ws m c) v) l c ≡ link_index ws l c = link_index-far ws l c (link_index ws m c) v (grind (arith, link_index-in ws m c)) in
    let f : get_or (set ws (link_index ws m c) v) (link_index ws l c) 0 ≡ get_or ws (link_index ws l c) 0 = get_or-set_other ws (link_index ws m c) (link_index ws l c) v 0 (slots-apart ws c l m n p q) in
    rw e f

pub next-same : (ws : List ℕ) (c l v : ℕ) → c + 7 ≤ length ws → next_reference_in_chain (set ws (link_index ws l c) v) l c ≡ v
next-same ws c l v h =
    let e : link_index (set ws (link_index ws l c) v) l c ≡ link_index ws l c = link_index-far ws l c (link_index ws l c) v (grind (arith, link_index-in ws l c)) in
    let b : link_index ws l c < length ws = grind (arith, link_index-in ws l c) in
    rw e (get_or-set_same ws (link_index ws l c) v 0 b)

pub watches-far : (ws : List ℕ) (c l i v : ℕ) → i ≢ c + 1 → i ≢ c + 3 → HasWatch ws c l → HasWatch (set ws i v) c l
watches-far ws c l i v a b (left p) = left (get_or-set_other ws i (c + 1) v 0 (λ q. a (sym q)) ∙ p)
watches-far ws c l i v a b (right p) = right (get_or-set_other ws i (c + 3) v 0 (λ q. b (sym q)) ∙ p)

pub moved-far : (ws : List ℕ) (f c t v l d : ℕ) → (c + 7 ≤ d) ⊎ (d + 7 ≤ c) → next_reference_in_chain (watch_moved ws f c t v) l d ≡ next_reference_in_chain ws l d
moved-far ws f c t v l d h =
    let us = set ws (link_index ws f c - 1) t in
    let a = next-far us l d (link_index ws f c) v (grind (arith, link_index-in ws f c)) (grind (arith, link_index-in ws f c)) (grind (arith, link_index-in ws f c)) in
    let b = next-far ws l d (link_index ws f c - 1) t (grind (arith, link_index-in ws f c)) (grind (arith, link_index-in ws f c)) (grind (arith, link_index-in ws f c)) in
    a ∙ b

pub moved-watch-far : (ws : List ℕ) (f c t v l d : ℕ) → (c + 7 ≤ d) ⊎ (d + 7 ≤ c) → HasWatch ws d l → HasWatch (watch_moved ws f c t v) d l
moved-watch-far ws f c t v l d h w =
    let us = set ws (link_index ws f c - 1) t in
    watches-far us d l (link_index ws f c) v (grind (arith, link_index-in ws f c)) (grind (arith, link_index-in ws f c)) (watches-far ws d l (link_index ws f c - 1) t (grind (arith, link_index-in ws f c)) (grind (arith, link_index-in ws f c)) w)

pub moved-reads-left : (ws : List ℕ) (f c t v : ℕ) → c + 7 ≤ length ws → get_or ws (c + 1) 0 ≡ f →
    (link_index ws f c ≡ c + 2) × (get_or (watch_moved ws f c t v) (c + 1) 0 ≡ t) ×
    (get_or (watch_moved ws f c t v) (c + 2) 0 ≡ v) ×
    (get_or (watch_moved ws f c t v) (c + 3) 0 ≡ get_or ws (c + 3) 0) ×
    (get_or (watch_moved ws f c t v) (c + 4) 0 ≡ get_or ws (c + 4) 0)
unfolding link_index
moved-reads-left ws f c t v h p =
    let s : link_index ws f c ≡ c + 2 = grind (arith, nat_tests) in
    let m : link_index ws f c - 1 ≡ c + 1 = omega (arith, s) in
    let u : length (set ws (c + 1) t) ≡ length ws = simp length-set in (
      s,
      rw s (rw (get_or-set_other (set ws (c + 2 - 1) t) (c + 2) (c + 1) v 0 (omega arith)) (grind (arith, get_or-set_at))),
      rw s (get_or-set_same (set ws (c + 2 - 1) t) (c + 2) v 0 (simp length-set (omega arith))),
      rw s (get_or-set_other (set ws (c + 2 - 1) t) (c + 2) (c + 3) v 0 (omega arith) ∙ get_or-set_other ws (c + 2 - 1) (c + 3) t 0 (omega arith)),
      rw s (get_or-set_other (set ws (c + 2 - 1) t) (c + 2) (c + 4) v 0 (omega arith) ∙ get_or-set_other ws (c + 2 - 1) (c + 4) t 0 (omega arith)),
    )

pub moved-reads-right : (ws : List ℕ) (f c t v : ℕ) → c + 7 ≤ length ws → get_or ws (c + 1) 0 ≢ f →
    (link_index ws f c ≡ c + 4) × (get_or (watch_moved ws f c t v) (c + 1) 0 ≡ get_or ws (c + 1) 0) ×
    (get_or (watch_moved ws f c t v) (c + 2) 0 ≡ get_or ws (c + 2) 0) ×
    (get_or (watch_moved ws f c t v) (c + 3) 0 ≡ t) × (get_or (watch_moved ws f c t v) (c + 4) 0 ≡ v)
unfolding link_index
moved-reads-right ws f c t v h p =
    let s : link_index ws f c ≡ c + 4 = grind (arith, nat_tests) in (
      s,
      rw s (get_or-set_other (set ws (c + 4 - 1) t) (c + 4) (c + 1) v 0 (omega arith) ∙ get_or-set_other ws (c + 4 - 1) (c + 1) t 0 (omega arith)),
      rw s (get_or-set_other (set ws (c + 4 - 1) t) (c + 4) (c + 2) v 0 (omega arith) ∙ get_or-set_other ws (c + 4 - 1) (c + 2) t 0 (omega arith)),
      rw s (rw (get_or-set_other (set ws (c + 4 - 1) t) (c + 4) (c + 3) v 0 (omega arith)) (grind (arith, get_or-set_at))),
      rw s (get_or-set_same (set ws (c + 4 - 1) t) (c + 4) v 0 (simp length-set (omega arith))),
    )

pub moved-next : (ws : List ℕ) (f c t v : ℕ) → c + 7 ≤ length ws → get_or ws (c + 1) 0 ≢ t → next_reference_in_chain (watch_moved ws f c t v) t c ≡ v
unfolding link_index
moved-next ws f c t v h n =
    elim (cases_eq (get_or ws (c + 1) 0) f) [
      | inl p ↦ (let r = moved-reads-left ws f c t v h p in let e : eqb (get_or (watch_moved ws f c t v) (c + 1) 0) t ≡ true = grind (arith, nat_tests) in rw e r.2)
      | inr p ↦ (let r = moved-reads-right ws f c t v h p in let e : eqb (get_or (watch_moved ws f c t v) (c + 1) 0) t ≡ false = grind (arith, nat_tests) in rw e r.4)
    ]

pub moved-other : (ws : List ℕ) (f c t v l : ℕ) → c + 7 ≤ length ws → l ≢ f → l ≢ t → HasWatch ws c f → HasWatch ws c l → next_reference_in_chain (watch_moved ws f c t v) l c ≡ next_reference_in_chain ws l c
unfolding link_index
moved-other ws f c t v l h n m wf wl =
    elim (cases_eq (get_or ws (c + 1) 0) f) [
      | inl p ↦ (let r = moved-reads-left ws f c t v h p in
          let e : eqb (get_or (watch_moved ws f c t v) (c + 1) 0) l ≡ false = grind (arith, nat_tests) in
          let g : eqb (get_or ws (c + 1) 0) l ≡ false = grind (arith, nat_tests) in
          rw (e, g) r.4)
      | inr p ↦ (let r = moved-reads-right ws f c t v h p in
          let q : get_or ws (c + 1) 0 ≡ l = second ws c f l n p wf wl in
          let e : eqb (get_or (watch_moved ws f c t v) (c + 1) 0) l ≡ true = grind (arith, nat_tests) in
          let g : eqb (get_or ws (c + 1) 0) l ≡ true = grind (arith, nat_tests) in
          rw (e, g) r.2)
    ]
  where
    second : (ws : List ℕ) (c f l : ℕ) → l ≢ f → get_or ws (c + 1) 0 ≢ f → HasWatch ws c f → HasWatch ws c l → get_or ws (c + 1) 0 ≡ l
    second ws c f l n p (left a) w = absurd (p a)
    second ws c f l n p (right a) (left b) = b
    second ws c f l n p (right a) (right b) = absurd (n (sym b ∙ a))

pub moved-watch : (ws : List ℕ) (f c t v : ℕ) → c + 7 ≤ length ws → HasWatch (watch_moved ws f c t v) c t
moved-watch ws f c t v h =
    elim (cases_eq (get_or ws (c + 1) 0) f) [
      | inl p ↦ left (moved-reads-left ws f c t v h p).1
      | inr p ↦ right (moved-reads-right ws f c t v h p).3
    ]

pub moved-watch-other : (ws : List ℕ) (f c t v l : ℕ) → c + 7 ≤ length ws → l ≢ f → HasWatch ws c f → HasWatch ws c l → HasWatch (watch_moved ws f c t v) c l
moved-watch-other ws f c t v l h n wf w =
    elim (cases_eq (get_or ws (c + 1) 0) f) [
      | inl p ↦ (let r = moved-reads-left ws f c t v h p in pick1 ws (watch_moved ws f c t v) c f l n p r.3 w)
      | inr p ↦ (let r = moved-reads-right ws f c t v h p in pick2 ws (watch_moved ws f c t v) c f l n p r.1 wf w)
    ]
  where
    pick1 : (ws vs : List ℕ) (c f l : ℕ) → l ≢ f → get_or ws (c + 1) 0 ≡ f → get_or vs (c + 3) 0 ≡ get_or ws (c + 3) 0 → HasWatch ws c l → HasWatch vs c l
    pick1 ws vs c f l n p r (left a) = absurd (n (sym a ∙ p))
    pick1 ws vs c f l n p r (right a) = right (r ∙ a)

    pick2 : (ws vs : List ℕ) (c f l : ℕ) → l ≢ f → get_or ws (c + 1) 0 ≢ f → get_or vs (c + 1) 0 ≡ get_or ws (c + 1) 0 → HasWatch ws c f → HasWatch ws c l → HasWatch vs c l
    pick2 ws vs c f l n p r w (left a) = left (r ∙ a)
    pick2 ws vs c f l n p r (left b) (right a) = absurd (p b)
    pick2 ws vs c f l n p r (right b) (right a) = absurd (n (sym a ∙ b))
