use Rattle.std.proofs.Common.{◌≡◌, ◌&&◌, ◌+◌, ◌<◌, ℕ, Bool, true, false, not, inl, inr, List, [], ◌∷◌, length, take, Option, Some, None, refl, sym, ap, ◌∙◌, subst}
use Rattle.std.specs.Prelude.{is_none}
use Rattle.std.specs.List.{filter}
use Rattle.std.specs.Option.{option_map_or}
use Rattle.std.proofs.lemmas.Bool.{and_parts, and_from, cases_Bool, lt-ltb, not-true, not_from_false}
use Rattle.std.proofs.lemmas.List.{take_more}
use Rattle.std.proofs.lemmas.Option.{cond_some}
use Rattle.ilk_base.specs.Option.{is_some_and}
use Rattle.ilk_base.proofs.Tested.{list_all-more}
use Rattle.ilk_cnf.specs.Literal.{Literal, has_lit, has_distinct_vars, positive_lit}
use Rattle.ilk_cnf.specs.Formula.{Formula, IsFormula, is_lit_over}
use Rattle.ilk_log.specs.Fresh.{other_lits}
use Rattle.ilk_log.specs.Propagation.{is_saturated, is_false, is_falsified, only_lit_if_unset, unit_lit}
use Rattle.ilk_trail.specs.declared.entry.Entry.{Entry}
use Rattle.ilk_trail.specs.Trail.{value_of_literal}
use Rattle.ilk_trail.specs.Laws.{is_set, lits_of}
use Rattle.ilk_watches.specs.Reasons.{nth_clause_or_empty, is_conflict, clause_forces_lit}
use Rattle.ilk_watches.proofs.Forced.{unit-forces}
use Rattle.ilk_watches.proofs.Values.{value-none, value-tells}
use Rattle.ilk_watches.proofs.Within.{clause-in}
use Rattle.ilk_watches.specs.Look.{clause_state}
use Rattle.ilk_watches.specs.declared.look.ClauseState.TheVariants.{Conflict, Unit, Open}
use Rattle.ilk_cnf.proofs.SameLiterals.{is_lit_over-clause}

pub conflict-told : (set c : List Literal) → clause_state set c ≡ Conflict → is_falsified set c ≡ true
conflict-told set c h =
    elim (cases_Bool (is_falsified set c)) [
      | inl t ↦ t
      | inr f ↦ absurd (go (unit_lit set c) (rw f at h))
    ]
  where
    go : (o : Option Literal) → option_map_or Unit o Open ≡ Conflict → ⊥
    go None e = absurd (cc)
    go (Some l) e = absurd (cc)

pub conflict-is : (cs : List (List Literal)) (set : List Literal) (c : ℕ) → c < length cs → clause_state set (nth_clause_or_empty cs c) ≡ Conflict → is_conflict cs set c ≡ true
conflict-is cs set c w h = and_from _ _ (lt-ltb c (length cs) w) (conflict-told set (nth_clause_or_empty cs c) h)

pub unit-told : (set c : List Literal) (l : Literal) → clause_state set c ≡ Unit l → unit_lit set c ≡ Some l
unit-told set c l h =
    elim (cases_Bool (is_falsified set c)) [
      | inl t ↦ absurd (let z : Conflict ≡ Unit l = rw t at h in cc)
      | inr f ↦ go (unit_lit set c) (rw f at h)
    ]
  where
    go : (o : Option Literal) → option_map_or Unit o Open ≡ Unit l → o ≡ Some l
    go None e = absurd (cc)
    go (Some m) e = (let z : m ≡ l = cc in ap Some z)

pub open-told : (set c : List Literal) → clause_state set c ≡ Open → (not (is_falsified set c) && is_none (unit_lit set c)) ≡ true
open-told set c h =
    elim (cases_Bool (is_falsified set c)) [
      | inl t ↦ absurd (let z : Conflict ≡ Open = rw t at h in cc)
      | inr f ↦ rw f (go (unit_lit set c) (rw f at h))
    ]
  where
    go : (o : Option Literal) → option_map_or Unit o Open ≡ Open → is_none o ≡ true
    go None e = refl
    go (Some m) e = absurd (cc)

pub closed-more : (cs : List (List Literal)) (set : List Literal) (c : ℕ) → c < length cs → is_saturated (take c cs) set ≡ true → clause_state set (nth_clause_or_empty cs c) ≡ Open → is_saturated (take (c + 1) cs) set ≡ true
closed-more cs set c w k h =
    let test : List Literal → Bool = λ x. not (is_falsified set x) && is_none (unit_lit set x) in
    let P : List (List Literal) → Type 0 = λ xs. is_saturated xs set ≡ true in
    subst P (sym (take_more cs c [] w)) (list_all-more test (take c cs) (nth_clause_or_empty cs c) k (open-told set (nth_clause_or_empty cs c) h))

pub left-open : (set c : List Literal) (l : Literal) → filter (λ m. not (is_false set m)) c ≡ l ∷ [] → is_false set l ≡ false
left-open set [] l h = absurd (cc)
left-open set (m ∷ c) l h =
    elim (cases_Bool (is_false set m)) [
      | inl t ↦ left-open set c l (rw t at h)
      | inr f ↦ (let z : m ∷ filter (λ x. not (is_false set x)) c ≡ l ∷ [] = rw f at h in
          let same : m ≡ l = cc in
          ap (is_false set) (sym same) ∙ f)
    ]

pub lone-open : (set ls : List Literal) (l : Literal) → only_lit_if_unset set ls ≡ Some l → (has_lit l set ≡ false) × (ls ≡ l ∷ [])
lone-open set [] l h = absurd (cc)
lone-open set (m ∷ []) l h =
    let e = cond_some (not (has_lit m set)) m l h in
    (ap (λ (x : Literal). has_lit x set) (sym e.1) ∙ not-true (has_lit m set) e.0, ap (λ (x : Literal). x ∷ []) e.1)
lone-open set (m ∷ (n ∷ ls)) l h = absurd (cc)

no-value : (o : Option Bool) → is_some_and o (λ b. b) ≡ false → is_some_and o not ≡ false → o ≡ None
no-value None h k = refl
no-value (Some true) h k = absurd (cc)
no-value (Some false) h k = absurd (cc)

pub unit-unset : (es : List Entry) (c : List Literal) (l : Literal) → has_distinct_vars (lits_of es) ≡ true → unit_lit (lits_of es) c ≡ Some l → is_set es l.var ≡ false
unit-unset es c l d u =
    let set = lits_of es in
    let lone = lone-open set (filter (λ m. not (is_false set m)) c) l u in
    let t = value-tells es l d in
    value-none es l (no-value (value_of_literal es l) (sym t.stands ∙ lone.0) (sym t.denied ∙ left-open set c l lone.1))

pub forced-is : (f : Formula) (es : List Entry) (c : ℕ) (l : Literal) → IsFormula f →
    has_distinct_vars (lits_of es) ≡ true → c < length f.clauses →
    clause_state (lits_of es) (nth_clause_or_empty f.clauses c) ≡ Unit l →
    (clause_forces_lit f.clauses (lits_of es) l c ≡ true) ×
    ((is_lit_over f.vars (positive_lit l.var) && not (is_set es l.var)) ≡ true)
forced-is f es c l k d w h =
    let clause = nth_clause_or_empty f.clauses c in
    let u = unit-told (lits_of es) clause l h in
    let r = unit-forces f.clauses (lits_of es) c l u in
    let has = (and_parts (has_lit l clause) (is_falsified (lits_of es) (other_lits l clause)) r).0 in
    (r, and_from (is_lit_over f.vars (positive_lit l.var)) (not (is_set es l.var)) (is_lit_over-clause f.vars clause l (clause-in f c k w) has) (not_from_false (is_set es l.var) (unit-unset es clause l d u)))
