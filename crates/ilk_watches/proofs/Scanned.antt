use Rattle.std.proofs.Common.{◌≡◌, ◌⊎◌, ◌+◌, ◌≤◌, length, arith, zero, suc, is_some, ℕ, Bool, true, false, not, inl, inr, cond, drop, List, [], ◌∷◌, Option, Some, None, refl, sym, ap, ◌∙◌}
use Rattle.std.specs.List.{slice_get, filter}
use Rattle.std.specs.Option.{option_map_or}
use Rattle.std.proofs.lemmas.Bool.{cases_Bool}
use Rattle.std.proofs.lemmas.Option.{slice_get_within, get_or_from_slice_get}
use Rattle.ilk_base.proofs.Lists.{drop_at}
use Rattle.ilk_cnf.specs.Literal.{Literal, has_lit, has_distinct_vars}
use Rattle.ilk_log.specs.Propagation.{is_false, is_falsified, only_lit_if_unset}
use Rattle.ilk_trail.specs.declared.entry.Entry.{Entry}
use Rattle.ilk_trail.specs.Trail.{value_of_literal}
use Rattle.ilk_trail.specs.Laws.{lits_of}
use Rattle.ilk_watches.proofs.Values.{value-tells}
use Rattle.ilk_watches.specs.Look.{clause_state}
use Rattle.ilk_watches.specs.declared.look.ClauseState.{ClauseState}
use Rattle.ilk_watches.specs.declared.look.ClauseState.TheVariants.{Conflict, Unit, Open}

-- An unset literal, after an open one or as the first.
abbrev pub after_open : Option Literal → Literal → (Option Literal → ClauseState) → ClauseState
after_open None l next = next (Some l)
after_open (Some k) l next = Open

abbrev pub after_literal : Option Literal → Literal → Option Bool → (Option Literal → ClauseState) → ClauseState
after_literal first l None next = after_open first l next
after_literal first l (Some b) next = cond b Open (next first)

-- The result for the rest of a clause, after the one open literal before it.
abbrev pub scan : List Entry → Option Literal → List Literal → ClauseState
scan es first [] = option_map_or Unit first Conflict
scan es first (l ∷ ls) = after_literal first l (value_of_literal es l) (λ next. scan es next ls)

pub scan-next : (es : List Entry) (first : Option Literal) (clause : List Literal) (i : ℕ) (l : Literal) →
    slice_get clause i ≡ Some l →
    scan es first (drop i clause)
    ≡ after_literal first l (value_of_literal es l) (λ next. scan es next (drop (i + 1) clause))
scan-next es first clause i l e =
    ap (scan es first) (drop_at clause i l (slice_get_within clause i l e) (sym (get_or_from_slice_get clause i l l e)))

meaning : List Literal → List Literal → ClauseState
meaning set [] = Conflict
meaning set (l ∷ []) = cond (has_lit l set) Open (Unit l)
meaning set (l ∷ (m ∷ ls)) = Open

value_cases : (o : Option Bool) → (o ≡ Some true) ⊎ ((o ≡ Some false) ⊎ (o ≡ None))
value_cases None = inr (inr refl)
value_cases (Some true) = inl refl
value_cases (Some false) = inr (inl refl)

scan-one : (es : List Entry) (k : Literal) (c : List Literal) → has_distinct_vars (lits_of es) ≡ true → has_lit k (lits_of es) ≡ false → scan es (Some k) c ≡ meaning (lits_of es) (k ∷ filter (λ m. not (is_false (lits_of es) m)) c)
unfolding meaning
scan-one es k [] d u = rw u refl
scan-one es k (l ∷ c) d u =
    let t = value-tells es l d in
    elim (value_cases (value_of_literal es l)) [
      | inl v ↦ (let f : is_false (lits_of es) l ≡ false = rw v at t.denied in rw (v, f) refl)
      | inr w ↦ elim w [
        | inl v ↦ (let f : is_false (lits_of es) l ≡ true = rw v at t.denied in rw (v, f) (scan-one es k c d u))
        | inr v ↦ (let f : is_false (lits_of es) l ≡ false = rw v at t.denied in rw (v, f) refl)
      ]
    ]

open-first : (set : List Literal) (l : Literal) (ls : List Literal) → has_lit l set ≡ true → meaning set (l ∷ ls) ≡ Open
unfolding meaning
open-first set l [] h = rw h refl
open-first set l (m ∷ ls) h = refl

scan-none : (es : List Entry) (c : List Literal) → has_distinct_vars (lits_of es) ≡ true → scan es None c ≡ meaning (lits_of es) (filter (λ m. not (is_false (lits_of es) m)) c)
unfolding meaning
scan-none es [] d = refl
scan-none es (l ∷ c) d =
    let t = value-tells es l d in
    elim (value_cases (value_of_literal es l)) [
      | inl v ↦ (let f : is_false (lits_of es) l ≡ false = rw v at t.denied in
          let h : has_lit l (lits_of es) ≡ true = rw v at t.stands in
          rw (v, f) (sym (open-first (lits_of es) l (filter (λ m. not (is_false (lits_of es) m)) c) h)))
      | inr w ↦ elim w [
        | inl v ↦ (let f : is_false (lits_of es) l ≡ true = rw v at t.denied in rw (v, f) (scan-none es c d))
        | inr v ↦ (let f : is_false (lits_of es) l ≡ false = rw v at t.denied in
            let h : has_lit l (lits_of es) ≡ false = rw v at t.stands in
            rw (v, f) (scan-one es l c d h))
      ]
    ]

no_literal : List Literal → Bool
no_literal [] = true
no_literal (l ∷ ls) = false

falsified-is : (set c : List Literal) → is_falsified set c ≡ no_literal (filter (λ m. not (is_false set m)) c)
unfolding no_literal
falsified-is set [] = refl
falsified-is set (l ∷ c) =
    elim (cases_Bool (is_false set l)) [ inl t ↦ rw t (falsified-is set c) | inr f ↦ rw f refl ]

meaning-is : (set ls : List Literal) → meaning set ls ≡ cond (no_literal ls) Conflict (option_map_or Unit (only_lit_if_unset set ls) Open)
unfolding meaning no_literal
meaning-is set [] = refl
meaning-is set (l ∷ []) = elim (cases_Bool (has_lit l set)) [ inl t ↦ rw t refl | inr f ↦ rw f refl ]
meaning-is set (l ∷ (m ∷ ls)) = refl

pub scan-is : (es : List Entry) (c : List Literal) → has_distinct_vars (lits_of es) ≡ true → scan es None c ≡ clause_state (lits_of es) c
scan-is es c d =
    let set = lits_of es in
    let left = filter (λ m. not (is_false set m)) c in
    scan-none es c d ∙ meaning-is set left ∙ ap (λ (b : Bool). cond b Conflict (option_map_or Unit (only_lit_if_unset set left) Open)) (sym (falsified-is set c))

pub scan-true : (es : List Entry) (first : Option Literal) (clause : List Literal) (i : ℕ) (l : Literal) → slice_get clause i ≡ Some l → value_of_literal es l ≡ Some true → scan es first (drop i clause) ≡ Open
scan-true es first clause i l e v = scan-next es first clause i l e ∙ rw v refl

pub scan-false : (es : List Entry) (first : Option Literal) (clause : List Literal) (i : ℕ) (l : Literal) → slice_get clause i ≡ Some l → value_of_literal es l ≡ Some false → scan es first (drop i clause) ≡ scan es first (drop (i + 1) clause)
scan-false es first clause i l e v = scan-next es first clause i l e ∙ rw v refl

pub scan-second : (es : List Entry) (first : Option Literal) (clause : List Literal) (i : ℕ) (l : Literal) → slice_get clause i ≡ Some l → value_of_literal es l ≡ None → is_some first ≡ true → scan es first (drop i clause) ≡ Open
scan-second es None clause i l e v s = absurd (cc)
scan-second es (Some k) clause i l e v s = scan-next es (Some k) clause i l e ∙ rw v refl

pub scan-first : (es : List Entry) (first : Option Literal) (clause : List Literal) (i : ℕ) (l : Literal) →
    slice_get clause i ≡ Some l → value_of_literal es l ≡ None → is_some first ≡ false →
    scan es first (drop i clause) ≡ scan es (Some l) (drop (i + 1) clause)
scan-first es None clause i l e v s = scan-next es None clause i l e ∙ rw v refl
scan-first es (Some k) clause i l e v s = absurd (cc)

drop-none : (ls : List Literal) (i : ℕ) → length ls ≤ i → drop i ls ≡ []
drop-none [] zero h = refl
drop-none [] (suc i) h = refl
drop-none (l ∷ ls) zero h = absurd (omega arith)
drop-none (l ∷ ls) (suc i) h = drop-none ls i (omega arith)

pub scan-end : (es : List Entry) (first : Option Literal) (clause : List Literal) (i : ℕ) → length clause ≤ i → scan es first (drop i clause) ≡ option_map_or Unit first Conflict
scan-end es first clause i h = ap (scan es first) (drop-none clause i h)
