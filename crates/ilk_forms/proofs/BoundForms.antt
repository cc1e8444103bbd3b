-- The forms of a bound say that the variable is at most its value.
use Rattle.std.proofs.Common.{◌≡◌, ℕ, zero, suc, ◌+◌, ◌-◌, ◌<◌, ◌≤◌, Bool, true, false, not, ◌&&◌, ◌||◌, List, [], ◌++◌, length, slice_get, Option, Some, None, inl, inr, refl, sym, ap, ◌∙◌, subst, eqb, ltb, leb, arith}
use Rattle.std.proofs.Math.Bool.{and-false}
use Rattle.std.proofs.lemmas.Option.{same_Some, cond_some}
use Rattle.std.proofs.lemmas.Bool.{and_parts, eqb-true, eq-eqb, ne_eqb, lt-ltb, le-ltb, le-leb, lt-leb, cases_eq, cases_lt}
use Rattle.ilk_base.specs.Option.{is_some_and}
use Rattle.ilk_base.proofs.Options.{bind_some, mapped-Some}
use Rattle.ilk_cnf.specs.Literal.{Literal}
use Rattle.ilk_cnf.specs.Truth.{is_true}
use Rattle.ilk_cnf.proofs.Parts.{is_true-left}
use Rattle.ilk_ir.specs.Tree.{Tree, yes, no, is, all_of, any_of, negation, Trees, none, more, tree_holds, some_holds, tree_valid, each_valid, value_valid}
use Rattle.ilk_forms.specs.declared.bound.VarUpperBound.{VarUpperBound}
use Rattle.ilk_forms.specs.Bound.{next_value_if_stated, last_if_values_consecutive, bound_from_or_of_values}

abbrev pub at_most : List ℕ → ℕ → ℕ → Bool
at_most ws v k = is_some_and (slice_get ws v) (λ w. leb w k)

-- Holds if the literal exists exactly if `had` is true, and then has the value `truth`.
abbrev pub Stands : List Bool → Option Literal → Bool → Bool → Type 0
Stands a None had truth = had ≡ false
Stands a (Some l) had truth = (had ≡ true) × (is_true a l ≡ truth)

pub stands-as : (a : List Bool) (o : Option Literal) (p q r s : Bool) → p ≡ r → q ≡ s → Stands a o p q → Stands a o r s
stands-as a None p q r s e f h = sym e ∙ h
stands-as a (Some l) p q r s e f h = (sym e ∙ h.0, h.1 ∙ f)

pub stands-left : (a b : List Bool) (o : Option Literal) (p q : Bool) → ((l : Literal) → o ≡ Some l → l.var ≤ length a) → Stands a o p q → Stands (a ++ b) o p q
stands-left a b None p q low h = h
stands-left a b (Some l) p q low h = (h.0, is_true-left a b l (low l refl) ∙ h.1)

after-is : (v c d : ℕ) (t : Tree) → next_value_if_stated v c t ≡ Some d → (t ≡ is v d) × (d ≡ c + 1)
after-is v c d yes e = absurd cc
after-is v c d no e = absurd cc
after-is v c d (is u x) e =
    let both = cond_some (eqb u v && eqb x (c + 1)) x d e in
    let parts = and_parts (eqb u v) (eqb x (c + 1)) both.0 in
    let one : u ≡ v = eqb-true u v parts.0 in
    let two : x ≡ c + 1 = eqb-true x (c + 1) parts.1 in
    let last : x ≡ d = both.1 in
    let form : is u x ≡ is v d = cc in
    (form, sym last ∙ two)
after-is v c d (all_of ts) e = absurd cc
after-is v c d (any_of ts) e = absurd cc
after-is v c d (negation t) e = absurd cc

last-low : (ts : Trees) (v c k : ℕ) → last_if_values_consecutive v c ts ≡ Some k → c ≤ k
last-low none v c k e = (let same = same_Some c k e in omega arith)
last-low (more t ts) v c k e =
    let next = bind_some (next_value_if_stated v c t) (λ d. last_if_values_consecutive v d ts) k e in
    let one = (after-is v c next.0 t next.1).1 in
    let rest = last-low ts v next.0 k next.2 in
    omega (arith, one, rest)

no_value : (o : Option ℕ) (c : ℕ) → is_some_and o (λ w. ltb c w && leb w c) ≡ false
no_value None c = refl
no_value (Some w) c =
    elim (cases_lt c w) [
      | inl above ↦ (let out = lt-leb w c above in rw out (and-false (ltb c w)))
      | inr below ↦ (let out = le-ltb c w below in rw out refl)
    ]

next_value : (o : Option ℕ) (c d k : ℕ) → d ≡ c + 1 → d ≤ k → (is_some_and o (λ w. eqb w d) || is_some_and o (λ w. ltb d w && leb w k)) ≡ is_some_and o (λ w. ltb c w && leb w k)
next_value None c d k e le = refl
next_value (Some w) c d k e le =
    elim (cases_eq w d) [
      | inl same ↦ (
          let here = eq-eqb w d same in
          let above = lt-ltb c w (omega arith) in
          let below = le-leb w k (omega arith) in
          rw (here, above, below) refl
          )
      | inr other ↦ (
          let here = ne_eqb w d other in
          elim (cases_lt c w) [
            | inl above ↦ (
                let one = lt-ltb c w above in
                let two = lt-ltb d w (omega arith) in
                rw (here, one, two) refl
                )
            | inr below ↦ (
                let one = le-ltb c w below in
                let two = le-ltb d w (omega arith) in
                rw (here, one, two) refl
                )
          ]
          )
    ]

first_value : (o : Option ℕ) (k : ℕ) → (is_some_and o (λ w. eqb w 0) || is_some_and o (λ w. ltb 0 w && leb w k)) ≡ is_some_and o (λ w. leb w k)
first_value None k = refl
first_value (Some w) k =
    elim (cases_eq w 0) [
      | inl same ↦ (
          let here = eq-eqb w 0 same in
          let below = le-leb w k (omega arith) in
          rw (here, below) refl
          )
      | inr other ↦ (
          let here = ne_eqb w 0 other in
          let above = lt-ltb 0 w (omega arith) in
          rw (here, above) refl
          )
    ]

last-holds : (ts : Trees) (ws : List ℕ) (v c k : ℕ) → last_if_values_consecutive v c ts ≡ Some k → some_holds ws ts ≡ is_some_and (slice_get ws v) (λ w. ltb c w && leb w k)
last-holds none ws v c k e = subst (λ (x : ℕ). false ≡ is_some_and (slice_get ws v) (λ w. ltb c w && leb w x)) (same_Some c k e) (sym (no_value (slice_get ws v) c))
last-holds (more t ts) ws v c k e =
    let next = bind_some (next_value_if_stated v c t) (λ d. last_if_values_consecutive v d ts) k e in
    let d = next.0 in
    let form = after-is v c d t next.1 in
    let here : tree_holds ws t ≡ is_some_and (slice_get ws v) (λ w. eqb w d) = ap (tree_holds ws) form.0 in
    let rest = last-holds ts ws v d k next.2 in
    rw (here, rest) (next_value (slice_get ws v) c d k form.1 (last-low ts v d k next.2))

last-valid : (ts : Trees) (ranges : List ℕ) (v c k : ℕ) → last_if_values_consecutive v c ts ≡ Some k → each_valid ranges ts ≡ true → value_valid ranges v c ≡ true → value_valid ranges v k ≡ true
last-valid none ranges v c k e h first = subst (λ (x : ℕ). value_valid ranges v x ≡ true) (same_Some c k e) first
last-valid (more t ts) ranges v c k e h first =
    let next = bind_some (next_value_if_stated v c t) (λ d. last_if_values_consecutive v d ts) k e in
    let form = after-is v c next.0 t next.1 in
    let parts = and_parts (tree_valid ranges t) (each_valid ranges ts) h in
    last-valid ts ranges v next.0 k next.2 parts.1 (sym (ap (tree_valid ranges) form.0) ∙ parts.0)

-- The facts that follow if the forms say that a variable is at most a value.
pub record SayBound (ts : Trees) (b : VarUpperBound) : Type 0 where
  pub some : 0 < b.most
  pub holds : (ws : List ℕ) → some_holds ws ts ≡ at_most ws b.var b.most
  pub valid : (ranges : List ℕ) → each_valid ranges ts ≡ true → value_valid ranges b.var b.most ≡ true

pub say-bound : (ts : Trees) (b : VarUpperBound) → bound_from_or_of_values ts ≡ Some b → SayBound ts b
say-bound none b e = absurd cc
say-bound (more yes ts) b e = absurd cc
say-bound (more no ts) b e = absurd cc
say-bound (more (is v zero) none) b e = absurd cc
say-bound (more (is v zero) (more t ts)) b e = subst (SayBound (more (is v zero) (more t ts))) last.2 from
  where
    bound : ℕ → VarUpperBound
    bound k = record { var = v; most = k }

    last : (k : ℕ) × (last_if_values_consecutive v 0 (more t ts) ≡ Some k) × (bound k ≡ b)
    last = mapped-Some (λ k. record { var = v; most = k }) (last_if_values_consecutive v 0 (more t ts)) b e

    some : 0 < last.0
    some =
        let next = bind_some (next_value_if_stated v 0 t) (λ d. last_if_values_consecutive v d ts) last.0 last.1 in
        let one = (after-is v 0 next.0 t next.1).1 in
        let rest = last-low ts v next.0 last.0 next.2 in
        omega (arith, one, rest)

    from : SayBound (more (is v zero) (more t ts)) (bound last.0)
    from = record {
      some = some;
      holds = λ ws. (let rest = last-holds (more t ts) ws v 0 last.0 last.1 in ap (λ (q : Bool). is_some_and (slice_get ws v) (λ w. eqb w 0) || q) rest ∙ first_value (slice_get ws v) last.0);
      valid = λ ranges h. (let parts = and_parts (value_valid ranges v 0) (each_valid ranges (more t ts)) h in last-valid (more t ts) ranges v 0 last.0 last.1 parts.1 parts.0);
    }
say-bound (more (is v (suc c)) ts) b e = absurd cc
say-bound (more (all_of us) ts) b e = absurd cc
say-bound (more (any_of us) ts) b e = absurd cc
say-bound (more (negation t) ts) b e = absurd cc

pub below : (w k : ℕ) → w < k + 2 → not (eqb w (0 + (k + 1))) ≡ leb w k
below w k less =
    elim (cases_eq w (0 + (k + 1))) [
      | inl same ↦ (
          let here = eq-eqb w (0 + (k + 1)) same in
          let out = lt-leb w k (omega arith) in
          rw (here, out) refl
          )
      | inr other ↦ (
          let here = ne_eqb w (0 + (k + 1)) other in
          let inside = le-leb w k (omega arith) in
          rw (here, inside) refl
          )
    ]
