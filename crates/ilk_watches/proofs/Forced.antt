use Rattle.std.proofs.Common.{◌≡◌, ◌&&◌, ℕ, ◌<◌, ◌≤◌, true, not, zero, suc, inl, inr, List, [], ◌∷◌, ◌++◌, length, take, Some, refl, sym, ap, ◌∙◌, subst, arith}
use Rattle.std.specs.List.{slice_get, filter}
use Rattle.std.proofs.lemmas.Bool.{and_from, cases_Bool}
use Rattle.std.proofs.lemmas.List.{take-append-le}
use Rattle.std.proofs.lemmas.Option.{slice_get_within}
use Rattle.std.proofs.Math.ListN.{get_or-append}
use Rattle.std.proofs.Math.Seq.{take-append_seam}
use Rattle.ilk_base.proofs.Lists.{slice_get-push_cases, at-before}
use Rattle.ilk_cnf.specs.Literal.{Literal, same_lit, has_lit}
use Rattle.ilk_log.specs.Fresh.{other_lits}
use Rattle.ilk_log.proofs.Closed.{lone-is}
use Rattle.ilk_log.specs.Propagation.{is_false, is_falsified, unit_lit}
use Rattle.ilk_trail.specs.declared.entry.Entry.{Entry}
use Rattle.ilk_trail.specs.Laws.{lits_of}
use Rattle.ilk_watches.specs.Reasons.{HasReasons, nth_clause_or_empty, clause_forces_lit}
use Rattle.ilk_cnf.proofs.SameLiterals.{same-lit}

pub reasons-none : (cs : List (List Literal)) → HasReasons cs []
reasons-none cs = λ i e c s r. absurd (cc)

pub reasons-push : (cs : List (List Literal)) (es : List Entry) (e : Entry) → HasReasons cs es → ((c : ℕ) → e.reason ≡ Some c → clause_forces_lit cs (lits_of es) e.lit c ≡ true) → HasReasons cs (es ++ e ∷ [])
reasons-push cs es e h k = λ i x c s r.
    elim (slice_get-push_cases es e x i s) [
      | inl p ↦ (let P : List Entry → Type 0 = λ before. clause_forces_lit cs (lits_of before) x.lit c ≡ true in
          subst P (sym (take-append-le i es (e ∷ []) (before i es x p))) (h i x c p r))
      | inr p ↦ (let P : List Entry → Type 0 = λ before. clause_forces_lit cs (lits_of before) x.lit c ≡ true in
          let all : take i (es ++ e ∷ []) ≡ es = ap (λ (j : ℕ). take j (es ++ e ∷ [])) p.0 ∙ take-append_seam es (e ∷ []) in
          let Q : Entry → Type 0 = λ y. clause_forces_lit cs (lits_of es) y.lit c ≡ true in
          subst P (sym all) (subst Q p.1 (k c (ap (λ (y : Entry). y.reason) p.1 ∙ r))))
    ]
  where
    before : (i : ℕ) (es : List Entry) (x : Entry) → slice_get es i ≡ Some x → i ≤ length es
    before i es x p = (let w = slice_get_within es i x p in omega (arith, w))

pub reasons-front : (cs : List (List Literal)) (es more : List Entry) → HasReasons cs (es ++ more) → HasReasons cs es
reasons-front cs es more h = λ i x c s r.
    let P : List Entry → Type 0 = λ before. clause_forces_lit cs (lits_of before) x.lit c ≡ true in
    let w = slice_get_within es i x s in
    subst P (take-append-le i es more (omega (arith, w))) (h i x c (at-before es more i x s) r)

pub reasons-grown : (cs more : List (List Literal)) (es : List Entry) → HasReasons cs es → HasReasons (cs ++ more) es
reasons-grown cs more es h = λ i x c s r.
    (let known = h i x c s r in
    let same : nth_clause_or_empty (cs ++ more) c ≡ nth_clause_or_empty cs c = get_or-append cs more [] c (there cs (lits_of (take i es)) x.lit c known) in
    let P : List Literal → Type 0 = λ k. (has_lit x.lit k && is_falsified (lits_of (take i es)) (other_lits x.lit k)) ≡ true in
    subst P (sym same) known)
  where
    there : (cs : List (List Literal)) (set : List Literal) (l : Literal) (c : ℕ) → clause_forces_lit cs set l c ≡ true → c < length cs
    there [] set l c h = absurd (cc)
    there (k ∷ cs) set l zero h = omega arith
    there (k ∷ cs) set l (suc c) h = (let r = there cs set l c h in omega (arith, r))

filter-none-false : (set c : List Literal) → filter (λ m. not (is_false set m)) c ≡ [] → (l : Literal) → is_falsified set (other_lits l c) ≡ true
filter-none-false set [] h l = refl
filter-none-false set (m ∷ c) h l =
    elim (cases_Bool (is_false set m)) [
      | inl t ↦ (let rest = filter-none-false set c (rw t at h) l in
          elim (cases_Bool (same_lit l m)) [
            | inl s ↦ rw s rest
            | inr s ↦ rw s (and_from (is_false set m) (is_falsified set (other_lits l c)) t rest)
          ])
      | inr t ↦ absurd (let z : m ∷ filter (λ x. not (is_false set x)) c ≡ [] = rw t at h in cc)
    ]

pub record Lone (set c : List Literal) (l : Literal) : Type 0 where
  pub has : has_lit l c ≡ true
  pub others_false : is_falsified set (other_lits l c) ≡ true

one-left : (set c : List Literal) (l : Literal) → filter (λ m. not (is_false set m)) c ≡ l ∷ [] → Lone set c l
one-left set [] l h = absurd (cc)
one-left set (m ∷ c) l h =
    elim (cases_Bool (is_false set m)) [
      | inl t ↦ (let r = one-left set c l (rw t at h) in
          elim (cases_Bool (same_lit l m)) [
            | inl s ↦ record { has = rw s refl; others_false = rw s r.others_false }
            | inr s ↦ record { has = rw s r.has; others_false = rw s (and_from (is_false set m) (is_falsified set (other_lits l c)) t r.others_false) }
          ])
      | inr t ↦ (let z : m ∷ filter (λ x. not (is_false set x)) c ≡ l ∷ [] = rw t at h in
          let same : m ≡ l = cc in
          let empty : filter (λ x. not (is_false set x)) c ≡ [] = cc in
          let s : same_lit l m ≡ true = ap (same_lit l) same ∙ same-lit l in
          record { has = rw s refl; others_false = rw s (filter-none-false set c empty l) })
    ]

pub unit-forces : (cs : List (List Literal)) (set : List Literal) (c : ℕ) (l : Literal) → unit_lit set (nth_clause_or_empty cs c) ≡ Some l → clause_forces_lit cs set l c ≡ true
unit-forces cs set c l u =
    let clause = nth_clause_or_empty cs c in
    let one = one-left set clause l (lone-is set (filter (λ m. not (is_false set m)) clause) l u) in
    and_from (has_lit l clause) (is_falsified set (other_lits l clause)) one.has one.others_false
