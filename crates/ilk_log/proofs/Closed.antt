-- The result of complete propagation bounds the literals that any hints can set.
use Rattle.std.proofs.Common.{◌≡◌, ℕ, zero, suc, inl, inr, Bool, true, false, ◌&&◌, not, cond, eqb, List, [], ◌∷◌, refl, sym, ap, ◌∙◌, subst, Option, Some, None}
use Rattle.std.specs.Prelude.{slice_get, is_none}
use Rattle.std.specs.List.{list_any, filter}
use Rattle.std.proofs.lemmas.Bool.{cases_Bool, and_parts, and_from, or_cases, eqb-true, not-true, not_from_false, true≢false}
use Rattle.std.proofs.lemmas.Option.{same_Some}
use Rattle.ilk_base.specs.Option.{◌>>=◌, is_some_and}
use Rattle.ilk_base.proofs.Options.{some-and}
use Rattle.ilk_base.proofs.Tested.{list_any-at, list_any-from, list_all-slice_get}
use Rattle.ilk_base.proofs.Options.{bind_some}
use Rattle.ilk_cnf.specs.Literal.{Literal, negated_lit, same_lit, has_lit, has_var}
use Rattle.ilk_log.specs.Propagation.{is_saturated, is_false, is_falsified, only_lit_if_unset, unit_lit, after_hint, after_hints}
use Rattle.ilk_log.specs.Derived.{negated_clause, hints_end_in_conflict}
use Rattle.ilk_log.specs.Fresh.{other_lits, LitStaysUndetermined}
use Rattle.ilk_cnf.proofs.SameLiterals.{same-lit, lit-is, has-var}

-- Propagation is complete, stated for each clause.
record IsClosed (clauses : List (List Literal)) (set : List Literal) : Type 0 where
  quiet : (i : ℕ) (c : List Literal) → slice_get clauses i ≡ Some c → is_falsified set c ≡ false
  settled : (i : ℕ) (c : List Literal) → slice_get clauses i ≡ Some c → unit_lit set c ≡ None

-- Holds if each literal of `set` is in `all`.
abbrev pub Within : List Literal → List Literal → Type 0
Within set all = (m : Literal) → has_lit m set ≡ true → has_lit m all ≡ true

filter-fewer : (p q : Literal → Bool) (c : List Literal) → ((m : Literal) → q m ≡ true → p m ≡ true) → filter p c ≡ [] → filter q c ≡ []
filter-fewer p q [] f e = refl
filter-fewer p q (m ∷ c) f e =
    elim (cases_Bool (p m)) [
      | inl t ↦ absurd (let z : m ∷ filter p c ≡ [] = rw t at e in cc)
      | inr t ↦ (let s : q m ≡ false = elim (cases_Bool (q m)) [ inl u ↦ absurd (true≢false (sym (f m u) ∙ t)) | inr u ↦ u ] in
          rw s (filter-fewer p q c f (rw t at e)))
    ]

filter-one : (p q : Literal → Bool) (c : List Literal) (l : Literal) → ((m : Literal) → q m ≡ true → p m ≡ true) → filter p c ≡ l ∷ [] → filter q c ≡ cond (q l) (l ∷ []) []
filter-one p q [] l f e = absurd (cc)
filter-one p q (m ∷ c) l f e =
    elim (cases_Bool (p m)) [
      | inl t ↦ (let z : m ∷ filter p c ≡ l ∷ [] = rw t at e in
          let x : m ≡ l = cc in
          let y : filter p c ≡ [] = cc in
          let r = filter-fewer p q c f y in
          let P : Literal → Type 0 = λ k. filter q (m ∷ c) ≡ cond (q k) (k ∷ []) [] in
          subst P x (elim (cases_Bool (q m)) [ inl u ↦ rw u (ap (λ (ls : List Literal). m ∷ ls) r) | inr u ↦ rw u r ]))
      | inr t ↦ (let s : q m ≡ false = elim (cases_Bool (q m)) [ inl u ↦ absurd (true≢false (sym (f m u) ∙ t)) | inr u ↦ u ] in
          rw s (filter-one p q c l f (rw t at e)))
    ]

none-left : (set c : List Literal) → filter (λ m. not (is_false set m)) c ≡ [] → is_falsified set c ≡ true
none-left set [] e = refl
none-left set (m ∷ c) e =
    elim (cases_Bool (is_false set m)) [
      | inl t ↦ and_from (is_false set m) (is_falsified set c) t (none-left set c (rw t at e))
      | inr t ↦ absurd (let z : m ∷ filter (λ x. not (is_false set x)) c ≡ [] = rw t at e in cc)
    ]

-- A literal that is open if more is set is open if less is.
open-more : (set all : List Literal) (m : Literal) → Within set all → not (is_false all m) ≡ true → not (is_false set m) ≡ true
open-more set all m w h =
    elim (cases_Bool (is_false set m)) [
      | inl t ↦ absurd (true≢false (sym (w (negated_lit m) t) ∙ not-true (is_false all m) h))
      | inr t ↦ not_from_false (is_false set m) t
    ]

false-more : (set all c : List Literal) → Within set all → is_falsified set c ≡ true → is_falsified all c ≡ true
false-more set all [] w f = refl
false-more set all (m ∷ c) w f =
    let p = and_parts (is_false set m) (is_falsified set c) f in
    and_from (is_false all m) (is_falsified all c) (w (negated_lit m) p.0) (false-more set all c w p.1)

pub lone-is : (set ls : List Literal) (l : Literal) → only_lit_if_unset set ls ≡ Some l → ls ≡ l ∷ []
lone-is set [] l h = absurd (cc)
lone-is set (m ∷ []) l h = elim (cases_Bool (has_lit m set)) [
  | inl t ↦ absurd (let z : None ≡ Some l = rw t at h in cc)
  | inr t ↦ (let z : Some m ≡ Some l = rw t at h in ap (λ (x : Literal). x ∷ []) (same_Some m l z))
]
lone-is set (m ∷ (n ∷ ls)) l h = absurd (cc)

unit-within : (clauses : List (List Literal)) (set all c : List Literal) (i : ℕ) (l : Literal) → IsClosed clauses all → Within set all → slice_get clauses i ≡ Some c → unit_lit set c ≡ Some l → has_lit l all ≡ true
unit-within clauses set all c i l k w at u =
    let p : Literal → Bool = λ m. not (is_false set m) in
    let q : Literal → Bool = λ m. not (is_false all m) in
    let one = lone-is set (filter p c) l u in
    let few = filter-one p q c l (λ m h. open-more set all m w h) one in
    elim (cases_Bool (has_lit l all)) [
      | inl t ↦ t
      | inr t ↦ absurd (elim (cases_Bool (is_false all l)) [
        | inl f ↦ (let none : filter q c ≡ [] = few ∙ rw f refl in
            true≢false (sym (none-left all c none) ∙ k.quiet i c at))
        | inr f ↦ (let lone : filter q c ≡ l ∷ [] = few ∙ rw f refl in
            let s : unit_lit all c ≡ Some l = ap (only_lit_if_unset all) lone ∙ rw t refl in
            let n : None ≡ Some l = sym (k.settled i c at) ∙ s in
            cc)
      ])
    ]

hint-within : (clauses : List (List Literal)) (set all next : List Literal) (h : ℕ) → IsClosed clauses all → Within set all → after_hint clauses set h ≡ Some next → Within next all
hint-within clauses set all next zero k w e = absurd (cc)
hint-within clauses set all next (suc i) k w e =
    let b = bind_some (slice_get clauses i) (λ (c : List Literal). unit_lit set c >>= (λ (l : Literal). Some (l ∷ set))) next e in
    let d = bind_some (unit_lit set b.0) (λ (l : Literal). Some (l ∷ set)) next b.2 in
    let t = unit-within clauses set all b.0 i d.0 k w b.1 d.1 in
    let q : d.0 ∷ set ≡ next = same_Some (d.0 ∷ set) next d.2 in
    let P : List Literal → Type 0 = λ xs. Within xs all in
    subst P q (λ m h. elim (or_cases (same_lit m d.0) (has_lit m set) h) [
      | inl s ↦ ap (λ (x : Literal). has_lit x all) (lit-is m d.0 s) ∙ t
      | inr r ↦ w m r
    ])

hints-taken : (clauses : List (List Literal)) (set all next : List Literal) (hints : List ℕ) → IsClosed clauses all → Within set all → after_hints clauses set hints ≡ Some next → Within next all
hints-taken clauses set all next [] k w e = (let q = same_Some set next e in let P : List Literal → Type 0 = λ xs. Within xs all in subst P q w)
hints-taken clauses set all next (h ∷ hints) k w e =
    let b = bind_some (after_hint clauses set h) (λ (mid : List Literal). after_hints clauses mid hints) next e in
    hints-taken clauses b.0 all next hints k (hint-within clauses set all b.0 h k w b.1) b.2

no-end-false : (clauses : List (List Literal)) (set all : List Literal) (hints : List ℕ) → IsClosed clauses all → Within set all → hints_end_in_conflict clauses set hints ≡ false
no-end-false clauses set all [] k w = refl
no-end-false clauses set all (zero ∷ []) k w = refl
no-end-false clauses set all (suc i ∷ []) k w =
    elim (cases_Bool (is_some_and (slice_get clauses i) (is_falsified set))) [
      | inl t ↦ absurd (let r = some-and (slice_get clauses i) (is_falsified set) t in
          true≢false (sym (false-more set all r.0 w r.2) ∙ k.quiet i r.0 r.1))
      | inr t ↦ t
    ]
no-end-false clauses set all (h ∷ (g ∷ hints)) k w =
    elim (cases_Bool (is_some_and (after_hint clauses set h) (λ next. hints_end_in_conflict clauses next (g ∷ hints)))) [
      | inl t ↦ absurd (let r = some-and (after_hint clauses set h) (λ next. hints_end_in_conflict clauses next (g ∷ hints)) t in
          true≢false (sym r.2 ∙ no-end-false clauses r.0 all (g ∷ hints) k (hint-within clauses set all r.0 h k w r.1)))
      | inr t ↦ t
    ]

has-var-at : (ls all : List Literal) (v : ℕ) → Within ls all → has_var v ls ≡ true → has_var v all ≡ true
has-var-at ls all v w h =
    let a = list_any-at (λ (l : Literal). eqb l.var v) ls h in
    among all v a.1 (eqb-true a.1.var v a.3) (w a.1 (found ls a.0 a.1 a.2))
  where
    found : (xs : List Literal) (i : ℕ) (l : Literal) → slice_get xs i ≡ Some l → has_lit l xs ≡ true
    found xs i l s = list_any-from (same_lit l) xs i l s (same-lit l)

    among : (xs : List Literal) (v : ℕ) (l : Literal) → l.var ≡ v → has_lit l xs ≡ true → has_var v xs ≡ true
    among xs v l e h = (let P : ℕ → Type 0 = λ j. has_var j xs ≡ true in subst P e (has-var l xs h))

stay-open : (clauses : List (List Literal)) (all c : List Literal) (l : Literal) → IsClosed clauses all → Within (negated_clause (other_lits l c)) all → has_var l.var all ≡ false → LitStaysUndetermined clauses c l
stay-open clauses all c l k w u = λ hints next e.
    (let n = hints-taken clauses (negated_clause (other_lits l c)) all next hints k w e in (
      elim (cases_Bool (has_var l.var next)) [
        | inl t ↦ absurd (true≢false (sym (has-var-at next all l.var n t) ∙ u))
        | inr t ↦ t
      ],
      elim (cases_Bool (list_any (is_falsified next) clauses)) [
        | inl t ↦ absurd (let a = list_any-at (is_falsified next) clauses t in true≢false (sym (false-more next all a.1 n a.3) ∙ k.quiet a.0 a.1 a.2))
        | inr t ↦ t
      ],
    ))

each-closed : (clauses : List (List Literal)) (all : List Literal) → is_saturated clauses all ≡ true → IsClosed clauses all
each-closed clauses all h =
    let test : List Literal → Bool = λ c. not (is_falsified all c) && is_none (unit_lit all c) in
    record {
      quiet = λ i c at. not-true (is_falsified all c) (and_parts (not (is_falsified all c)) (is_none (unit_lit all c)) (list_all-slice_get test clauses i c h at)).0;
      settled = λ i c at. none (unit_lit all c) (and_parts (not (is_falsified all c)) (is_none (unit_lit all c)) (list_all-slice_get test clauses i c h at)).1;
    }
  where
    none : (o : Option Literal) → is_none o ≡ true → o ≡ None
    none None h = refl
    none (Some l) h = absurd (cc)

pub no-false-end : (clauses : List (List Literal)) (set all : List Literal) (hints : List ℕ) → is_saturated clauses all ≡ true → Within set all → hints_end_in_conflict clauses set hints ≡ false
no-false-end clauses set all hints k w = no-end-false clauses set all hints (each-closed clauses all k) w

pub stays-open : (clauses : List (List Literal)) (all c : List Literal) (l : Literal) → is_saturated clauses all ≡ true → Within (negated_clause (other_lits l c)) all → has_var l.var all ≡ false → LitStaysUndetermined clauses c l
stays-open clauses all c l k w u = stay-open clauses all c l (each-closed clauses all k) w u
