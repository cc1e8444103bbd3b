use Rattle.std.proofs.Common.{◌≡◌, ℕ, ◌≤◌, zero, suc, inl, inr, Bool, true, false, ◌||◌, not, eqb, List, [], ◌∷◌, ◌++◌, refl, sym, ap, ◌∙◌, subst, Some, arith, length, take, reverse}
use Rattle.std.specs.List.{slice_get}
use Rattle.std.proofs.Math.Seq.{take-length}
use Rattle.std.proofs.lemmas.Bool.{and_parts, and_from, or_cases, or_parts, or_from, not-true, not_from_false, true≢false}
use Rattle.std.proofs.lemmas.List.{reverse-append}
use Rattle.std.proofs.lemmas.List.Folds.{list_any-append}
use Rattle.ilk_base.proofs.Lists.{item_at}
use Rattle.ilk_cnf.specs.Literal.{Literal, negated_lit, same_lit, has_lit, has_var, has_distinct_vars}
use Rattle.ilk_log.specs.Propagation.{is_falsified}
use Rattle.ilk_log.specs.Fresh.{other_lits}
use Rattle.ilk_watches.specs.Reasons.{nth_clause_or_empty, clause_forces_lit, HasReasons}
use Rattle.ilk_trail.specs.declared.entry.Entry.{Entry}
use Rattle.ilk_trail.specs.Trail.{TrailList, entry_of, last_level_or, level_of}
use Rattle.ilk_trail.specs.Laws.{IsTrail, lits_of, may_follow_level, each_may_follow_level}
use Rattle.ilk_trail.proofs.Entries.{lits_of-push, found, set-at}
use Rattle.ilk_trail.proofs.Levels.{last_level_or-push, each_may_follow_level-front, next-level}
use Rattle.ilk_trail.proofs.Literals.{has_distinct_vars-front}
use Rattle.ilk_learn.specs.Levels.{level_of_literal}
use Rattle.ilk_learn.proofs.Derived.{false-from, false-at}
use Rattle.ilk_cnf.proofs.SameLiterals.{lit-is}

abbrev pub top_level : List Entry → ℕ
top_level [] = 0
top_level (e ∷ es) = e.level

pub record IsLatest (clauses : List (List Literal)) (all : List Entry) (e : Entry) (es : List Entry) : Type 0 where
  pub forced : (r : ℕ) → e.reason ≡ Some r → clause_forces_lit clauses (lits_of es) e.lit r ≡ true
  pub unset : has_var e.lit.var (lits_of es) ≡ false
  pub next : may_follow_level (top_level es) e ≡ true
  pub level : level_of_literal all e.lit ≡ e.level

abbrev pub Latest : List (List Literal) → List Entry → List Entry → Type 0
Latest clauses all [] = Unit {0}
Latest clauses all (e ∷ es) = IsLatest clauses all e es × Latest clauses all es

pub latest-differ : (clauses : List (List Literal)) (all es : List Entry) → Latest clauses all es → has_distinct_vars (lits_of es) ≡ true
latest-differ clauses all [] h = refl
latest-differ clauses all (e ∷ es) h =
    and_from (not (has_var e.lit.var (lits_of es))) (has_distinct_vars (lits_of es)) (not_from_false (has_var e.lit.var (lits_of es)) h.0.unset) (latest-differ clauses all es h.1)

pub latest-level : (clauses : List (List Literal)) (all es : List Entry) (l : Literal) → Latest clauses all es → has_lit l (lits_of es) ≡ true → level_of_literal all l ≤ top_level es
latest-level clauses all [] l h k = absurd (cc)
latest-level clauses all (e ∷ es) l h k =
    elim (or_cases (same_lit l e.lit) (has_lit l (lits_of es)) k) [
      | inl x ↦ (let q : level_of_literal all l ≡ level_of_literal all e.lit = ap (level_of_literal all) (lit-is l e.lit x) in omega (arith, q, h.0.level))
      | inr x ↦ (let n = next-level (top_level es) e h.0.next in omega (arith, n.0, latest-level clauses all es l h.1 x))
    ]

or-turned : (a b : Bool) → (a || (b || false)) ≡ (b || a)
or-turned true true = refl
or-turned true false = refl
or-turned false true = refl
or-turned false false = refl

pub has-reverse : (m : Literal) (es : List Entry) → has_lit m (lits_of (reverse es)) ≡ has_lit m (lits_of es)
has-reverse m [] = refl
has-reverse m (e ∷ es) =
    let q : reverse (e ∷ es) ≡ reverse es ++ e ∷ [] = reverse-append (e ∷ []) es in
    ap (λ (xs : List Entry). has_lit m (lits_of xs)) q
    ∙ ap (has_lit m) (lits_of-push (reverse es) e)
    ∙ list_any-append (same_lit m) (lits_of (reverse es)) (e.lit ∷ [])
    ∙ or-turned (has_lit m (lits_of (reverse es))) (same_lit m e.lit)
    ∙ ap (λ (b : Bool). same_lit m e.lit || b) (has-reverse m es)

var-reverse : (v : ℕ) (es : List Entry) → has_var v (lits_of (reverse es)) ≡ has_var v (lits_of es)
var-reverse v [] = refl
var-reverse v (e ∷ es) =
    let q : reverse (e ∷ es) ≡ reverse es ++ e ∷ [] = reverse-append (e ∷ []) es in
    ap (λ (xs : List Entry). has_var v (lits_of xs)) q
    ∙ ap (has_var v) (lits_of-push (reverse es) e)
    ∙ list_any-append (λ (m : Literal). eqb m.var v) (lits_of (reverse es)) (e.lit ∷ [])
    ∙ or-turned (has_var v (lits_of (reverse es))) (eqb e.lit.var v)
    ∙ ap (λ (b : Bool). eqb e.lit.var v || b) (var-reverse v es)

pub take-one-more : {X : Type 0} (es : List X) (n : ℕ) (e : X) → slice_get es n ≡ Some e → take (suc n) es ≡ take n es ++ e ∷ []
take-one-more [] n e h = absurd (cc)
take-one-more (x ∷ es) zero e h = (let q : x ≡ e = cc in ap (λ y. y ∷ []) q)
take-one-more (x ∷ es) (suc n) e h = ap (λ ys. x ∷ ys) (take-one-more es n e h)

pub reverse-one-more : {X : Type 0} (es : List X) (n : ℕ) (e : X) → slice_get es n ≡ Some e → reverse (take (suc n) es) ≡ e ∷ reverse (take n es)
reverse-one-more es n e h = ap reverse (take-one-more es n e h) ∙ reverse-append (take n es) (e ∷ [])

pub top-reverse : (es : List Entry) (n : ℕ) → n ≤ length es → top_level (reverse (take n es)) ≡ last_level_or 0 (take n es)
top-reverse es zero h = refl
top-reverse es (suc n) h =
    let x = item_at es n (omega arith) in
    ap top_level (reverse-one-more es n x.0 x.1) ∙ sym (last_level_or-push 0 (take n es) x.0) ∙ ap (last_level_or 0) (sym (take-one-more es n x.0 x.1))

differ-front : (es : List Entry) (n : ℕ) → has_distinct_vars (lits_of es) ≡ true → has_distinct_vars (lits_of (take n es)) ≡ true
differ-front es zero h = refl
differ-front [] (suc n) h = refl
differ-front (e ∷ es) (suc n) h =
    let p = and_parts (not (has_var e.lit.var (lits_of es))) (has_distinct_vars (lits_of es)) h in
    and_from (not (has_var e.lit.var (lits_of (take n es)))) (has_distinct_vars (lits_of (take n es)))
    (not_from_false (has_var e.lit.var (lits_of (take n es)))
    (var-front es n e.lit.var (not-true (has_var e.lit.var (lits_of es)) p.0)))
    (differ-front es n p.1)
  where
    var-front : (es : List Entry) (n v : ℕ) → has_var v (lits_of es) ≡ false → has_var v (lits_of (take n es)) ≡ false
    var-front es zero v h = refl
    var-front [] (suc n) v h = refl
    var-front (e ∷ es) (suc n) v h =
        let p = or_parts (eqb e.lit.var v) (has_var v (lits_of es)) h in
        or_from (eqb e.lit.var v) (has_var v (lits_of (take n es))) p.0 (var-front es n v p.1)

each_may_follow_level-take : (k : ℕ) (es : List Entry) (n : ℕ) → each_may_follow_level k es ≡ true → each_may_follow_level k (take n es) ≡ true
each_may_follow_level-take k es zero h = refl
each_may_follow_level-take k [] (suc n) h = refl
each_may_follow_level-take k (e ∷ es) (suc n) h =
    let p = and_parts (may_follow_level k e) (each_may_follow_level e.level es) h in
    and_from (may_follow_level k e) (each_may_follow_level e.level (take n es)) p.0 (each_may_follow_level-take e.level es n p.1)

one-place : (es : List Entry) (i j : ℕ) (x y : Entry) → has_distinct_vars (lits_of es) ≡ true → slice_get es i ≡ Some x → slice_get es j ≡ Some y → x.lit.var ≡ y.lit.var → x ≡ y
one-place [] i j x y d h k e = absurd (cc)
one-place (z ∷ es) zero zero x y d h k e = cc
one-place (z ∷ es) zero (suc j) x y d h k e =
    let p = and_parts (not (has_var z.lit.var (lits_of es))) (has_distinct_vars (lits_of es)) d in
    let same : z ≡ x = cc in
    absurd (true≢false (sym (set-at es j y k) ∙ ap (λ (v : ℕ). has_var v (lits_of es)) (sym e ∙ sym (ap (λ (w : Entry). w.lit.var) same)) ∙ not-true (has_var z.lit.var (lits_of es)) p.0))
one-place (z ∷ es) (suc i) zero x y d h k e =
    let p = and_parts (not (has_var z.lit.var (lits_of es))) (has_distinct_vars (lits_of es)) d in
    let same : z ≡ y = cc in
    absurd (true≢false (sym (set-at es i x h) ∙ ap (λ (v : ℕ). has_var v (lits_of es)) (e ∙ sym (ap (λ (w : Entry). w.lit.var) same)) ∙ not-true (has_var z.lit.var (lits_of es)) p.0))
one-place (z ∷ es) (suc i) (suc j) x y d h k e =
    let p = and_parts (not (has_var z.lit.var (lits_of es))) (has_distinct_vars (lits_of es)) d in
    one-place es i j x y p.1 h k e

pub entry-at : (es : List Entry) (i : ℕ) (e : Entry) → has_distinct_vars (lits_of es) ≡ true → slice_get es i ≡ Some e → entry_of es e.lit.var ≡ Some e
entry-at es i e d h =
    let f = found es e.lit.var (set-at es i e h) in
    f.first ∙ ap Some (one-place es f.place i f.entry e d f.stands h f.named)

pub level-entry : (es : List Entry) (i : ℕ) (e : Entry) → has_distinct_vars (lits_of es) ≡ true → slice_get es i ≡ Some e → level_of_literal es e.lit ≡ e.level
level-entry es i e d h = rw (entry-at es i e d h) refl

reason-reverse : (clauses : List (List Literal)) (es : List Entry) (l : Literal) (r : ℕ) → clause_forces_lit clauses (lits_of es) l r ≡ true → clause_forces_lit clauses (lits_of (reverse es)) l r ≡ true
reason-reverse clauses es l r h =
    let d = nth_clause_or_empty clauses r in
    let p = and_parts (has_lit l d) (is_falsified (lits_of es) (other_lits l d)) h in
    and_from (has_lit l d) (is_falsified (lits_of (reverse es)) (other_lits l d)) p.0 (false-from (lits_of (reverse es)) (other_lits l d) (λ m k. has-reverse (negated_lit m) es ∙ false-at (lits_of es) (other_lits l d) m p.1 k))

latest-take : (clauses : List (List Literal)) (t : TrailList) (n : ℕ) → HasReasons clauses t.entries → IsTrail t → n ≤ length t.entries → Latest clauses t.entries (reverse (take n t.entries))
latest-take clauses t zero r k h = tt
latest-take clauses t (suc n) r k h =
    let es = t.entries in
    let x = item_at es n (omega arith) in
    let e = x.0 in
    let differ : has_distinct_vars (lits_of (take n es ++ e ∷ [])) ≡ true = ap (λ (ys : List Entry). has_distinct_vars (lits_of ys)) (sym (take-one-more es n e x.1)) ∙ differ-front es (suc n) k.once in
    let apart = has_distinct_vars-front (lits_of (take n es)) e.lit (ap has_distinct_vars (sym (lits_of-push (take n es) e)) ∙ differ) in
    let climbing : each_may_follow_level 0 (take n es ++ e ∷ []) ≡ true = ap (each_may_follow_level 0) (sym (take-one-more es n e x.1)) ∙ each_may_follow_level-take 0 es (suc n) k.climbing in
    let here : IsLatest clauses es e (reverse (take n es)) = record {
      forced = λ c q. reason-reverse clauses (take n es) e.lit c (r n e c x.1 q);
      unset = var-reverse e.lit.var (take n es) ∙ apart.1;
      next = ap (λ (l : ℕ). may_follow_level l e) (top-reverse es n (omega arith)) ∙ (each_may_follow_level-front 0 (take n es) e climbing).1;
      level = level-entry es n e k.once x.1;
    } in
    let P : List Entry → Type 0 = λ ys. Latest clauses es ys in
    subst P (sym (reverse-one-more es n e x.1)) (here, latest-take clauses t n r k (omega arith))

pub latest : (clauses : List (List Literal)) (t : TrailList) → HasReasons clauses t.entries → IsTrail t → Latest clauses t.entries (reverse t.entries)
latest clauses t r k =
    let P : List Entry → Type 0 = λ ys. Latest clauses t.entries (reverse ys) in
    subst P (take-length t.entries) (latest-take clauses t (length t.entries) r k (omega arith))

pub top-is : (es : List Entry) → top_level (reverse es) ≡ level_of es
top-is es = ap (λ (ys : List Entry). top_level (reverse ys)) (sym (take-length es)) ∙ top-reverse es (length es) (omega arith) ∙ ap (last_level_or 0) (take-length es)
