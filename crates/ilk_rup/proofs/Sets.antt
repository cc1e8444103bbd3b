use Rattle.std.proofs.Common.{◌≡◌, ◌+◌, ◌++◌, ◌∷◌, [], ℕ, zero, suc, inl, inr, Bool, true, false, eqb, cond, List, Option, Some, None, length, option_map, refl, sym, ap, ◌∙◌, subst, arith}
use Rattle.std.specs.Prelude.{is_some, nat_le, slice_get}
use Rattle.std.proofs.lemmas.Bool.{and_parts, eqb-true}
use Rattle.std.proofs.lemmas.Bool.Decides.{nat_tests}
use Rattle.ilk_base.specs.Option.{is_some_and}
use Rattle.ilk_base.proofs.Lists.{slice_get-push_cases}
use Rattle.ilk_cnf.specs.Literal.{Literal, has_lit, has_distinct_vars}
use Rattle.ilk_trail.specs.declared.entry.Entry.{Entry}
use Rattle.ilk_trail.specs.Trail.{TrailList, with_decision, level_of, entries_up_to, value_of_literal}
use Rattle.ilk_trail.specs.Laws.{IsTrail, each_may_follow_level, may_follow_level, is_set, lits_of}
use Rattle.ilk_trail.proofs.Entries.{lits_of-push}
use Rattle.ilk_watches.proofs.Values.{value-tells, value-none, value-some}
use Rattle.ilk_rup.specs.LitSet.{NoEntryHasReason}

pub has_value : (es : List Entry) (l : Literal) (b : Bool) → has_distinct_vars (lits_of es) ≡ true → Some b ≡ value_of_literal es l → b ≡ has_lit l (lits_of es)
has_value es l b d e = sym ((value-tells es l d).stands ∙ ap (λ (o : Option Bool). is_some_and o (λ x. x)) (sym e))

pub no_value : (es : List Entry) (l : Literal) → has_distinct_vars (lits_of es) ≡ true → None ≡ value_of_literal es l → false ≡ has_lit l (lits_of es)
no_value es l d e = sym ((value-tells es l d).stands ∙ ap (λ (o : Option Bool). is_some_and o (λ x. x)) (sym e))

pub some_set : (es : List Entry) (l : Literal) (b : Bool) → Some b ≡ value_of_literal es l → true ≡ is_set es l.var
some_set es l b e = sym (value-some es l b (sym e))

pub none_set : (es : List Entry) (l : Literal) → None ≡ value_of_literal es l → false ≡ is_set es l.var
none_set es l e = sym (value-none es l (sym e))

pub decided_lits : (es : List Entry) (l : Literal) → lits_of (with_decision es l) ≡ lits_of es ++ l ∷ []
decided_lits es l = lits_of-push es (record { lit = l; level = level_of es + 1; reason = None })

pub decided_all : (es : List Entry) (l : Literal) → NoEntryHasReason es → NoEntryHasReason (with_decision es l)
decided_all es l h = λ i e at. elim (slice_get-push_cases es (record { lit = l; level = level_of es + 1; reason = None }) e i at) [
  | inl s ↦ h i e s
  | inr s ↦ sym (ap (λ (x : Entry). x.reason) s.1)
]

pub lits_length : (es : List Entry) → length (lits_of es) ≡ length es
lits_length [] = refl
lits_length (e ∷ es) = ap suc (lits_length es)

pub lits_at : (es : List Entry) (i : ℕ) (l : Literal) → option_map (λ (e : Entry). e.lit) (slice_get es i) ≡ Some l → slice_get (lits_of es) i ≡ Some l
lits_at [] i l h = absurd (cc)
lits_at (e ∷ es) zero l h = h
lits_at (e ∷ es) (suc i) l h = lits_at es i l h

none-below : (k : ℕ) (es : List Entry) → each_may_follow_level k es ≡ true → NoEntryHasReason es → entries_up_to 0 es ≡ []
none-below k [] c a = refl
none-below k (e ∷ es) c a =
    let p = and_parts (may_follow_level k e) (each_may_follow_level e.level es) c in
    let r = a 0 e refl in
    let q : e.level ≡ k + 1 = eqb-true e.level (k + 1) (ap (λ (o : Option ℕ). eqb e.level (cond (is_some o) k (k + 1))) (sym r) ∙ p.0) in
    let z : nat_le e.level 0 ≡ false = grind (arith, nat_tests) in
    rw z (none-below e.level es p.1 (λ i x at. a (suc i) x at))

pub none_left : (t : TrailList) → IsTrail t → NoEntryHasReason t.entries → lits_of (entries_up_to 0 t.entries) ≡ []
none_left t k a = ap lits_of (none-below 0 t.entries k.climbing a)

pub none_decided : (t : TrailList) → IsTrail t → NoEntryHasReason t.entries → NoEntryHasReason (entries_up_to 0 t.entries)
none_decided t k a = (let P : List Entry → Type 0 = λ es. NoEntryHasReason es in subst P (sym (none-below 0 t.entries k.climbing a)) (λ i e at. absurd (cc)))
