use Rattle.std.proofs.Common.{◌≡◌, ◌≢◌, ℕ, zero, suc, inl, inr, true, false, eqb, List, [], ◌∷◌, ◌++◌, refl, ap, ◌∙◌, arith, Some, None}
use Rattle.std.specs.List.{slice_get}
use Rattle.std.proofs.lemmas.Bool.{or_parts, or_left, or_right}
use Rattle.std.proofs.lemmas.Bool.Decides.{nat_tests, eqb_tells}
use Rattle.std.proofs.lemmas.List.Folds.{find-append}
use Rattle.ilk_base.proofs.Options.{option_or-none}
use Rattle.ilk_trail.specs.declared.entry.Entry.{Entry}
use Rattle.ilk_trail.specs.Trail.{entry_of, TrailList}
use Rattle.ilk_trail.specs.Laws.{lits_of, is_set, IsTrail}
use Rattle.ilk_cnf.specs.Literal.{has_lit, same_lit}
use Rattle.ilk_cnf.specs.Formula.{is_lit_over}
use Rattle.ilk_cnf.proofs.SameLiterals.{same-lit, is_lit_over-clause}

pub lits_of-push : (es : List Entry) (e : Entry) → lits_of (es ++ e ∷ []) ≡ lits_of es ++ e.lit ∷ []
lits_of-push [] e = refl
lits_of-push (x ∷ es) e = ap (λ ls. x.lit ∷ ls) (lits_of-push es e)

pub entry_of-unset : (es : List Entry) (v : ℕ) → is_set es v ≡ false → entry_of es v ≡ None
entry_of-unset [] v h = refl
entry_of-unset (x ∷ es) v h = (let p = or_parts (eqb x.lit.var v) _ h in rw p.0 (entry_of-unset es v p.1))

pub entry_of-other : (es : List Entry) (e : Entry) (v : ℕ) → v ≢ e.lit.var → entry_of (es ++ e ∷ []) v ≡ entry_of es v
entry_of-other es e v n =
    let q : eqb e.lit.var v ≡ false = grind (arith, nat_tests) in
    find-append (λ (x : Entry). eqb x.lit.var v) es (e ∷ []) ∙ rw q (option_or-none (entry_of es v))

pub entry_of-new : (es : List Entry) (e : Entry) → is_set es e.lit.var ≡ false → entry_of (es ++ e ∷ []) e.lit.var ≡ Some e
entry_of-new es e h =
    let q : eqb e.lit.var e.lit.var ≡ true = grind (arith, nat_tests) in
    find-append (λ (x : Entry). eqb x.lit.var e.lit.var) es (e ∷ []) ∙ rw (entry_of-unset es e.lit.var h, q) refl

pub record Found (es : List Entry) (v : ℕ) : Type 0 where
  pub place : ℕ
  pub entry : Entry
  pub stands : slice_get es place ≡ Some entry
  pub named : entry.lit.var ≡ v
  pub first : entry_of es v ≡ Some entry

pub found : (es : List Entry) (v : ℕ) → is_set es v ≡ true → Found es v
found [] v h = absurd (cc)
found (x ∷ es) v h =
    elim (eqb_tells x.lit.var v) [
      | inl p ↦ record { place = 0; entry = x; stands = refl; named = p.1; first = rw p.0 refl }
      | inr p ↦ (let r = found es v (rw p.0 at h) in
          record { place = suc r.place; entry = r.entry; stands = r.stands; named = r.named; first = rw p.0 r.first })
    ]

pub set-at : (es : List Entry) (i : ℕ) (e : Entry) → slice_get es i ≡ Some e → is_set es e.lit.var ≡ true
set-at [] i e h = absurd (cc)
set-at (x ∷ es) zero e h =
    let q : x ≡ e = cc in
    let r : eqb x.lit.var e.lit.var ≡ true = rw q (grind (arith, nat_tests)) in
    rw r refl
set-at (x ∷ es) (suc i) e h =
    elim (eqb_tells x.lit.var e.lit.var) [ inl p ↦ rw p.0 refl | inr p ↦ rw p.0 (set-at es i e h) ]

pub entry-lit : (es : List Entry) (i : ℕ) (e : Entry) → slice_get es i ≡ Some e → has_lit e.lit (lits_of es) ≡ true
entry-lit [] i e h = absurd (cc)
entry-lit (x ∷ es) zero e h =
    let q : e ≡ x = cc in
    let s : same_lit e.lit x.lit ≡ true = ap (λ (y : Entry). same_lit y.lit x.lit) q ∙ same-lit x.lit in
    or_left (same_lit e.lit x.lit) (has_lit e.lit (lits_of es)) s
entry-lit (x ∷ es) (suc i) e h = or_right (same_lit e.lit x.lit) (has_lit e.lit (lits_of es)) (entry-lit es i e h)

pub entry-within : (t : TrailList) (i : ℕ) (e : Entry) → IsTrail t → slice_get t.entries i ≡ Some e → is_lit_over t.vars e.lit ≡ true
entry-within t i e k s = is_lit_over-clause t.vars (lits_of t.entries) e.lit k.within (entry-lit t.entries i e s)
