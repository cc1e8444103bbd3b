use Rattle.std.proofs.Common.{eqb, ◌≡◌, ◌≢◌, ◌&&◌, ◌<◌, ℕ, inl, inr, Bool, true, false, not, List, [], ◌∷◌, length, Option, Some, None, refl, sym, ap, ◌∙◌, arith}
use Rattle.std.specs.Prelude.{is_none}
use Rattle.std.specs.List.{filter}
use Rattle.std.proofs.lemmas.Bool.{and_parts, and_from, cases_Bool, or_cases, or_left, or_right, or_parts, true≢false, not-true, not_from_false, eq-eqb}
use Rattle.std.proofs.lemmas.Option.{slice_get_within, get_or_from_slice_get}
use Rattle.ilk_base.proofs.Tested.{all-pass}
use Rattle.ilk_base.proofs.Ranges.{below_or_past}
use Rattle.ilk_cnf.specs.Literal.{Literal, negated_lit, same_lit, has_lit, has_var, has_distinct_vars}
use Rattle.ilk_cnf.proofs.Gates.{negated_lit-negated_lit}
use Rattle.ilk_cnf.proofs.SameLiterals.{same-lit, lit-is}
use Rattle.ilk_log.specs.Fresh.{other_lits}
use Rattle.ilk_log.specs.Propagation.{is_saturated, is_false, is_falsified, unit_lit}
use Rattle.ilk_trail.specs.declared.entry.Entry.{Entry}
use Rattle.ilk_trail.specs.Laws.{lits_of}
use Rattle.ilk_arena.specs.Arena.{ArenaContent, chain_of, literals_of, contains_reference}
use Rattle.ilk_arena.specs.Chains.{WatchesTwo}
use Rattle.ilk_watches.specs.Chained.{AreValidNumberedClauses}
use Rattle.ilk_watches.proofs.Chained.{referred}
use Rattle.ilk_watches.specs.Watched.{AllCovered, is_satisfied}
use Rattle.ilk_watches.proofs.Entries.{entry-of-lit, true-not-false, true-somewhere}
use Rattle.ilk_watches.proofs.Finding.{lone-open}
use Rattle.ilk_watches.proofs.Others.{falsified-whole}

abbrev pub is_open : List Literal → List Literal → Bool
is_open set c = not (is_falsified set c) && is_none (unit_lit set c)

pub falsified-at : (set c : List Literal) (m : Literal) → is_falsified set c ≡ true → has_lit m c ≡ true → is_false set m ≡ true
falsified-at set [] m h k = absurd (cc)
falsified-at set (l ∷ c) m h k =
    let p = and_parts (is_false set l) (is_falsified set c) h in
    elim (or_cases (same_lit m l) (has_lit m c) k) [
      | inl s ↦ ap (is_false set) (lit-is m l s) ∙ p.0
      | inr s ↦ falsified-at set c m p.1 s
    ]

none-left : (set c : List Literal) (m : Literal) → filter (λ l. not (is_false set l)) c ≡ [] → has_lit m c ≡ true → is_false set m ≡ true
none-left set [] m h k = absurd (cc)
none-left set (l ∷ c) m h k =
    elim (cases_Bool (is_false set l)) [
      | inl t ↦ (let rest : filter (λ x. not (is_false set x)) c ≡ [] = rw t at h in
          elim (or_cases (same_lit m l) (has_lit m c) k) [
            | inl s ↦ ap (is_false set) (lit-is m l s) ∙ t
            | inr s ↦ none-left set c m rest s
          ])
      | inr t ↦ absurd (let z : l ∷ filter (λ x. not (is_false set x)) c ≡ [] = rw t at h in cc)
    ]

one-left : (set c : List Literal) (l m : Literal) → filter (λ x. not (is_false set x)) c ≡ l ∷ [] → has_lit m c ≡ true → is_false set m ≡ false → m ≡ l
one-left set [] l m h k f = absurd (cc)
one-left set (x ∷ c) l m h k f =
    elim (cases_Bool (is_false set x)) [
      | inl t ↦ (let rest : filter (λ y. not (is_false set y)) c ≡ l ∷ [] = rw t at h in
          elim (or_cases (same_lit m x) (has_lit m c) k) [
            | inl s ↦ absurd (true≢false (sym t ∙ ap (is_false set) (sym (lit-is m x s)) ∙ f))
            | inr s ↦ one-left set c l m rest s f
          ])
      | inr t ↦ (let z : x ∷ filter (λ y. not (is_false set y)) c ≡ l ∷ [] = rw t at h in
          let e : x ≡ l = cc in
          let empty : filter (λ y. not (is_false set y)) c ≡ [] = cc in
          elim (or_cases (same_lit m x) (has_lit m c) k) [
            | inl s ↦ lit-is m x s ∙ e
            | inr s ↦ absurd (true≢false (sym (none-left set c m empty s) ∙ f))
          ])
    ]

pub open-by : (set c : List Literal) (m : Literal) → has_lit m c ≡ true → is_false set m ≡ false → ((l : Literal) → has_lit l set ≡ false → ((n : Literal) → has_lit n c ≡ true → is_false set n ≡ false → n ≡ l) → ⊥) → is_open set c ≡ true
open-by set c m h f never =
    let left = filter (λ x. not (is_false set x)) c in
    and_from (not (is_falsified set c)) (is_none (unit_lit set c))
    (not_from_false (is_falsified set c)
    (elim (cases_Bool (is_falsified set c))
    [ inl t ↦ absurd (true≢false (sym (falsified-at set c m t h) ∙ f)) | inr t ↦ t ]))
    (go (unit_lit set c) refl)
  where
    go : (o : Option Literal) → unit_lit set c ≡ o → is_none o ≡ true
    go None e = refl
    go (Some l) e =
        let one = lone-open set (filter (λ x. not (is_false set x)) c) l e in
        absurd (never l one.0 (λ n k g. one-left set c l n one.1 k g))

has-satisfied : (es : List Entry) (c : List Literal) → is_satisfied es c ≡ true → (m : Literal) × (has_lit m c ≡ true) × (has_lit m (lits_of es) ≡ true)
has-satisfied es [] h = absurd (cc)
has-satisfied es (l ∷ c) h =
    elim (or_cases (has_lit l (lits_of es)) (is_satisfied es c) h) [
      | inl s ↦ (l, or_left (same_lit l l) (has_lit l c) (same-lit l), s)
      | inr s ↦ (let r = has-satisfied es c s in (r.0, or_right (same_lit r.0 l) (has_lit r.0 c) r.1, r.2))
    ]

pub satisfied-by : (es : List Entry) (c : List Literal) (m : Literal) → has_lit m c ≡ true → has_lit m (lits_of es) ≡ true → is_satisfied es c ≡ true
satisfied-by es [] m h k = absurd (cc)
satisfied-by es (l ∷ c) m h k =
    elim (or_cases (same_lit m l) (has_lit m c) h) [
      | inl s ↦ or_left (has_lit l (lits_of es)) (is_satisfied es c) (ap (λ (x : Literal). has_lit x (lits_of es)) (sym (lit-is m l s)) ∙ k)
      | inr s ↦ or_right (has_lit l (lits_of es)) (is_satisfied es c) (satisfied-by es c m s k)
    ]

pub satisfied-open : (es : List Entry) (c : List Literal) → has_distinct_vars (lits_of es) ≡ true → is_satisfied es c ≡ true → is_open (lits_of es) c ≡ true
satisfied-open es c d h =
    let r = has-satisfied es c h in
    let f = true-not-false es r.0 d r.2 in
    open-by (lits_of es) c r.0 r.1 f (λ l u only. true≢false (sym r.2 ∙ ap (λ (x : Literal). has_lit x (lits_of es)) (only r.0 r.1 f) ∙ u))

pub short-satisfied : (es : List Entry) (c : List Literal) → length c < 2 → is_open (lits_of es) c ≡ true → is_satisfied es c ≡ true
short-satisfied es [] n h = absurd (true≢false (sym h))
short-satisfied es (l ∷ []) n h =
    elim (cases_Bool (is_false (lits_of es) l)) [
      | inl t ↦ absurd (let z : false ≡ true = rw t at h in cc)
      | inr t ↦ elim (cases_Bool (has_lit l (lits_of es))) [
        | inl s ↦ or_left (has_lit l (lits_of es)) false s
        | inr s ↦ absurd (let z : false ≡ true = rw (t, s) at h in cc)
      ]
    ]
short-satisfied es (l ∷ (m ∷ c)) n h = absurd (omega arith)

pub watched-open : (a : ArenaContent) (es : List Entry) (c : ℕ) (x y : Literal) →
    has_distinct_vars (lits_of es) ≡ true → WatchesTwo a c x y →
    (is_false (lits_of es) x ≡ true → has_lit y (lits_of es) ≡ true) →
    (is_false (lits_of es) y ≡ true → has_lit x (lits_of es) ≡ true) →
    is_open (lits_of es) (literals_of a c) ≡ true
watched-open a es c x y d w fx fy =
    let set = lits_of es in
    let ls = literals_of a c in
    elim (cases_Bool (is_false set x)) [
      | inl t ↦ satisfied-open es ls d (satisfied-by es ls y w.second (fx t))
      | inr t ↦ elim (cases_Bool (is_false set y)) [
        | inl u ↦ satisfied-open es ls d (satisfied-by es ls x w.first (fy u))
        | inr u ↦ open-by set ls x w.first t (λ l n only. w.differ (only x w.first t ∙ sym (only y w.second u)))
      ]
    ]

pub other-holds : (a : ArenaContent) (es : List Entry) (c : ℕ) (x y : Literal) →
    contains_reference c a.references ≡ true → AllCovered a es (length es) → contains_reference c (chain_of a x) ≡ true →
    contains_reference c (chain_of a y) ≡ true → y ≢ x → is_false (lits_of es) x ≡ true → has_lit y (lits_of es) ≡ true
other-holds a es c x y known h sx sy ne f =
    let e = entry-of-lit es (negated_lit x) f in
    let same : negated_lit e.entry.lit ≡ x = ap negated_lit e.is ∙ negated_lit-negated_lit x in
    true-somewhere es e.entry.level y (h c known e.index e.entry y (slice_get_within es e.index e.entry e.stands) e.stands (ap (λ (l : Literal). contains_reference c (chain_of a l)) same ∙ sx) sy (λ q. ne (q ∙ same)))

pub closed-all : (a : ArenaContent) (es : List Entry) → AreValidNumberedClauses a → has_distinct_vars (lits_of es) ≡ true →
    AllCovered a es (length es) →
    ((c : ℕ) → contains_reference c a.references ≡ true → length (literals_of a c) < 2 →
    is_satisfied es (literals_of a c) ≡ true) →
    is_saturated a.clauses (lits_of es) ≡ true
closed-all a es k d h short = all-pass (is_open (lits_of es)) a.clauses (λ i x s.
    (let r = referred a i k (slice_get_within a.clauses i x s) in
    let same : literals_of a r.reference ≡ x = r.is.literals ∙ get_or_from_slice_get a.clauses i x [] s in
    ap (is_open (lits_of es)) (sym same) ∙ one r.reference r.is.known))
  where
    one : (c : ℕ) → contains_reference c a.references ≡ true → is_open (lits_of es) (literals_of a c) ≡ true
    one c known = elim (below_or_past (length (literals_of a c)) 2) [
      | inl b ↦ satisfied-open es (literals_of a c) d (short c known b)
      | inr b ↦ (let w = k.arena.long c known b in
          let x = w.0 in
          let y = w.1 in
          let sx = (w.2.exactly x).1 (inl refl) in
          let sy = (w.2.exactly y).1 (inr refl) in
          watched-open a es c x y d w.2 (λ f. other-holds a es c x y known h sx sy (λ q. w.2.differ (sym q)) f) (λ f. other-holds a es c y x known h sy sx w.2.differ f))
    ]

pub other_lits-only : (set c : List Literal) (x l : Literal) → is_falsified set (other_lits x c) ≡ true → has_lit l c ≡ true → is_false set l ≡ false → l ≡ x
other_lits-only set [] x l h k f = absurd (cc)
other_lits-only set (m ∷ c) x l h k f =
    elim (cases_Bool (same_lit x m)) [
      | inl t ↦ elim (or_cases (same_lit l m) (has_lit l c) k) [
        | inl s ↦ lit-is l m s ∙ sym (lit-is x m t)
        | inr s ↦ other_lits-only set c x l (rw t at h) s f
      ]
      | inr t ↦ (let p = and_parts (is_false set m) (is_falsified set (other_lits x c)) (rw t at h) in
          elim (or_cases (same_lit l m) (has_lit l c) k) [
            | inl s ↦ absurd (true≢false (sym p.0 ∙ ap (is_false set) (sym (lit-is l m s)) ∙ f))
            | inr s ↦ other_lits-only set c x l p.1 s f
          ])
    ]

none-open : (set c : List Literal) (x : Literal) → has_var x.var c ≡ false → is_falsified set (other_lits x c) ≡ true → filter (λ l. not (is_false set l)) c ≡ []
none-open set [] x n h = refl
none-open set (m ∷ c) x n h =
    let q = or_parts (eqb m.var x.var) (has_var x.var c) n in
    elim (cases_Bool (same_lit x m)) [
      | inl t ↦ absurd (true≢false (sym (eq-eqb m.var x.var (ap (λ (l : Literal). l.var) (sym (lit-is x m t)))) ∙ q.0))
      | inr t ↦ (let p = and_parts (is_false set m) (is_falsified set (other_lits x c)) (rw t at h) in rw p.0 (none-open set c x q.1 p.1))
    ]

pub open-true : (set c : List Literal) (x : Literal) → has_distinct_vars c ≡ true → is_falsified set (other_lits x c) ≡ true → is_open set c ≡ true → has_lit x set ≡ true
open-true set [] x d h o = absurd (true≢false (sym o))
open-true set (m ∷ c) x d h o =
    let v = and_parts (not (has_var m.var c)) (has_distinct_vars c) d in
    elim (cases_Bool (same_lit x m)) [
      | inl t ↦ (let e = lit-is x m t in
          elim (cases_Bool (is_false set m)) [
            | inl f ↦ absurd (let z = falsified-whole set x (m ∷ c) h (ap (is_false set) e ∙ f) in
                let w = and_parts (not (is_falsified set (m ∷ c))) (is_none (unit_lit set (m ∷ c))) o in
                true≢false (sym z ∙ not-true (is_falsified set (m ∷ c)) w.0))
            | inr f ↦ (let alone : has_var x.var c ≡ false = ap (λ (l : Literal). has_var l.var c) e ∙ not-true (has_var m.var c) v.0 in
                let empty = none-open set c x alone (rw t at h) in
                elim (cases_Bool (has_lit m set)) [
                  | inl s ↦ ap (λ (l : Literal). has_lit l set) e ∙ s
                  | inr s ↦ absurd (let w = and_parts (not (is_falsified set (m ∷ c))) (is_none (unit_lit set (m ∷ c))) o in
                      let z : false ≡ true = rw (f, empty, s) at w.1 in cc)
                ])
          ])
      | inr t ↦ (let p = and_parts (is_false set m) (is_falsified set (other_lits x c)) (rw t at h) in
          open-true set c x v.1 p.1 (rw p.0 at o))
    ]
