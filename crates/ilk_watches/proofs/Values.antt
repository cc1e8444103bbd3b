use Rattle.std.proofs.Common.{◌≡◌, ◌&&◌, ◌||◌, ℕ, Bool, true, false, not, inl, inr, eqb, cond, List, [], ◌∷◌, Some, None, refl, sym, ◌∙◌, subst}
use Rattle.std.specs.Bool.{beq}
use Rattle.std.proofs.lemmas.Bool.{and_parts, cases_Bool, not-true, true≢false, ne_eqb, eqb-false, eq-eqb}
use Rattle.std.proofs.lemmas.Bool.Decides.{eqb_tells}
use Rattle.ilk_base.specs.Option.{is_some_and}
use Rattle.ilk_cnf.specs.Literal.{Literal, negated_lit, has_lit, has_var, has_distinct_vars}
use Rattle.ilk_log.specs.Propagation.{is_false}
use Rattle.ilk_trail.specs.declared.entry.Entry.{Entry}
use Rattle.ilk_trail.specs.Trail.{value_of_literal}
use Rattle.ilk_trail.specs.Laws.{is_set, lits_of}
use Rattle.ilk_cnf.proofs.SameLiterals.{has-var}

-- A literal is in the trail if and only if its value is true, and is false if and only if its value
-- is false.
pub record Tells (es : List Entry) (l : Literal) : Type 0 where
  pub stands : has_lit l (lits_of es) ≡ is_some_and (value_of_literal es l) (λ b. b)
  pub denied : is_false (lits_of es) l ≡ is_some_and (value_of_literal es l) not

pub no_lit : (l : Literal) (v : ℕ) (ls : List Literal) → l.var ≡ v → has_var v ls ≡ false → has_lit l ls ≡ false
no_lit l v ls e h =
    let P : ℕ → Type 0 = λ j. has_var j ls ≡ true in
    elim (cases_Bool (has_lit l ls)) [
      | inl t ↦ absurd (true≢false (sym (subst P e (has-var l ls t)) ∙ h))
      | inr f ↦ f
    ]

same_sign : (a b : Bool) → ((true && cond a b (not b)) || false) ≡ beq b a
same_sign true true = refl
same_sign true false = refl
same_sign false true = refl
same_sign false false = refl

other_sign : (a b : Bool) → ((true && cond (not a) b (not b)) || false) ≡ not (beq b a)
other_sign true true = refl
other_sign true false = refl
other_sign false true = refl
other_sign false false = refl

pub value-tells : (es : List Entry) (l : Literal) → has_distinct_vars (lits_of es) ≡ true → Tells es l
value-tells [] l d = record { stands = refl; denied = refl }
value-tells (x ∷ es) l d =
    let p = and_parts (not (has_var x.lit.var (lits_of es))) (has_distinct_vars (lits_of es)) d in
    let rest = value-tells es l p.1 in
    let none : has_var x.lit.var (lits_of es) ≡ false = not-true (has_var x.lit.var (lits_of es)) p.0 in
    elim (eqb_tells x.lit.var l.var) [
      | inl q ↦ (let back : eqb l.var x.lit.var ≡ true = eq-eqb l.var x.lit.var (sym q.1) in
          let same = no_lit l x.lit.var (lits_of es) (sym q.1) none in
          let other = no_lit (negated_lit l) x.lit.var (lits_of es) (sym q.1) none in
          record {
            stands = rw (q.0, back, same) (same_sign l.positive x.lit.positive);
            denied = rw (q.0, back, other) (other_sign l.positive x.lit.positive);
          })
      | inr q ↦ (let back : eqb l.var x.lit.var ≡ false = ne_eqb l.var x.lit.var (λ e. eqb-false x.lit.var l.var q.0 (sym e)) in
          record {
            stands = rw (q.0, back) rest.stands;
            denied = rw (q.0, back) rest.denied;
          })
    ]

pub value-none : (es : List Entry) (l : Literal) → value_of_literal es l ≡ None → is_set es l.var ≡ false
value-none [] l h = refl
value-none (x ∷ es) l h =
    elim (eqb_tells x.lit.var l.var) [
      | inl q ↦ absurd (let z : Some (beq x.lit.positive l.positive) ≡ None = rw q.0 at h in cc)
      | inr q ↦ rw q.0 (value-none es l (rw q.0 at h))
    ]

pub value-some : (es : List Entry) (l : Literal) (b : Bool) → value_of_literal es l ≡ Some b → is_set es l.var ≡ true
value-some [] l b h = absurd (cc)
value-some (x ∷ es) l b h =
    elim (eqb_tells x.lit.var l.var) [
      | inl q ↦ rw q.0 refl
      | inr q ↦ rw q.0 (value-some es l b (rw q.0 at h))
    ]
