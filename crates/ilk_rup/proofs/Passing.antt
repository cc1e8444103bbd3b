use Rattle.std.proofs.Common.{◌≡◌, ◌<◌, ◌≤◌, ◌+◌, ◌++◌, ◌∷◌, [], ℕ, zero, suc, true, false, inl, inr, List, Option, Some, None, length, take, reverse, refl, sym, ap, ◌∙◌, subst, arith, add-one, option_map, get_or, append-nil, length-append}
use Rattle.std.specs.Prelude.{IsSomeAnd, nat_eq, slice_get, not, ◌==◌}
use Rattle.std.specs.List.{filter}
use Rattle.std.specs.Option.{IsSome}
use Rattle.std.proofs.lemmas.Bool.{and_from, and_parts, cases_Bool, not-true, not_from_false, true≢false}
use Rattle.std.proofs.lemmas.List.{reverse-append}
use Rattle.std.proofs.lemmas.Option.{same_Some, slice_get_within}
use Rattle.ilk_base.proofs.Lists.{take-at, taken-before}
use Rattle.ilk_base.proofs.Tested.{list_all-slice_get}
use Rattle.ilk_cnf.specs.Literal.{Literal, has_lit, has_var, has_distinct_vars}
use Rattle.ilk_cnf.specs.Formula.{Formula, IsFormula}
use Rattle.ilk_watches.specs.Reasons.{nth_clause_or_empty, clause_forces_lit}
use Rattle.ilk_log.specs.Fresh.{other_lits}
use Rattle.ilk_log.specs.Propagation.{is_falsified}
use Rattle.ilk_trail.specs.declared.entry.Entry.{Entry}
use Rattle.ilk_trail.specs.Trail.{entry_of}
use Rattle.ilk_trail.specs.Laws.{lits_of}
use Rattle.ilk_trail.proofs.Entries.{entry-lit, lits_of-push, set-at}
use Rattle.ilk_watches.proofs.Entries.{entry-of-lit, one-entry}
use Rattle.ilk_learn.proofs.Latest.{entry-at, take-one-more}
use Rattle.ilk_learn.proofs.Members.{var-of}
use Rattle.ilk_learn.proofs.Walk.{stands}
use Rattle.ilk_rup.specs.Needs.{AreNeededLitsAfterClauseExamined, HintsWorkWithoutEntry, HintsFalsifyGivenNeededLits, unit_hints_of_needed}
use Rattle.ilk_rup.proofs.Explaining.{Next, shows-skip, shows-step}
use Rattle.ilk_rup.proofs.Needing.{pushed-lit, push-old, push-new}

pub next-at : (es : List Entry) (i : ℕ) (e : Entry) → slice_get es i ≡ Some e → has_distinct_vars (lits_of es) ≡ true → Next (lits_of (take i es)) (lits_of (take (i + 1) es)) e.lit
next-at es i e at once =
    let more : lits_of (take (i + 1) es) ≡ lits_of (take i es) ++ e.lit ∷ [] = ap (λ (n : ℕ). lits_of (take n es)) (add-one i) ∙ ap lits_of (take-one-more es i e at) ∙ lits_of-push (take i es) e in
    let P : List Literal → Type 0 = λ ls. Next (lits_of (take i es)) ls e.lit in
    subst P (sym more) (record {
      kept = λ m h. push-old (lits_of (take i es)) e.lit m h;
      last = push-new (lits_of (take i es)) e.lit;
      only = λ m h. pushed-lit (lits_of (take i es)) e.lit m h;
      unset = elim (cases_Bool (has_var e.lit.var (lits_of (take i es)))) [
        | inl t ↦ absurd (let x = var-of (lits_of (take i es)) e.lit.var t in
            let y = entry-of-lit (take i es) x.0 x.2 in
            let b = taken-before i es y.index y.entry y.stands in
            let j = one-entry es y.index i y.entry e once b.1 at (ap (λ (l : Literal). l.var) y.is ∙ x.1) in
            omega (arith, b.0, j))
        | inr t ↦ t
      ];
    })

pub reason-at : (es : List Entry) (i : ℕ) (e : Entry) (l : Literal) (o : Option ℕ) → has_distinct_vars (lits_of es) ≡ true → slice_get es i ≡ Some e → e.lit ≡ l → option_map (λ (x : Entry). x.reason) (entry_of es l.var) ≡ Some o → e.reason ≡ o
reason-at es i e l o once at is h = same_Some e.reason o (sym (ap (option_map (λ (x : Entry). x.reason)) (ap (λ (y : Literal). entry_of es y.var) (sym is) ∙ entry-at es i e once at)) ∙ h)

pub some-reason : (o p : Option ℕ) (P : ℕ → Type 0) → o ≡ p → IsSomeAnd o P → IsSome p
some-reason o p P e h = (let Q : Option ℕ → Type 0 = λ x. IsSome x in subst Q e (go o h))
  where
    go : (o : Option ℕ) → IsSomeAnd o P → IsSome o
    go None h = absurd h
    go (Some x) h = refl

pub that-reason : (o : Option ℕ) (r : ℕ) (P : ℕ → Type 0) → o ≡ Some r → IsSomeAnd o P → P r
that-reason o r P e h = (let Q : Option ℕ → Type 0 = λ x. IsSomeAnd x P in subst Q e h)

pub reason-in : (cs : List (List Literal)) (set : List Literal) (l : Literal) (r : ℕ) → clause_forces_lit cs set l r ≡ true → r < length cs
reason-in cs set l r h =
    let p = and_parts (has_lit l (nth_clause_or_empty cs r)) (is_falsified set (other_lits l (nth_clause_or_empty cs r))) h in
    slice_get_within cs r (nth_clause_or_empty cs r) (stands cs r l p.0)

pub lits-taken : (es : List Entry) (i top : ℕ) (m : Literal) → i ≤ top → has_lit m (lits_of (take i es)) ≡ true → has_lit m (lits_of (take top es)) ≡ true
lits-taken es i top m le h =
    let y = entry-of-lit (take i es) m h in
    let b = taken-before i es y.index y.entry y.stands in
    ap (λ (l : Literal). has_lit l (lits_of (take top es))) (sym y.is) ∙ entry-lit (take top es) y.index y.entry (take-at es y.index top y.entry (omega (arith, b.0, le)) b.1)

pub once-taken : (es : List Entry) (top : ℕ) → has_distinct_vars (lits_of es) ≡ true → has_distinct_vars (lits_of (take top es)) ≡ true
once-taken es zero d = refl
once-taken [] (suc top) d = refl
once-taken (e ∷ es) (suc top) d =
    let p = and_parts (not (has_var e.lit.var (lits_of es))) (has_distinct_vars (lits_of es)) d in
    and_from (not (has_var e.lit.var (lits_of (take top es)))) (has_distinct_vars (lits_of (take top es))) (away e.lit.var es top p.0) (once-taken es top p.1)
  where
    away : (v : ℕ) (es : List Entry) (top : ℕ) → not (has_var v (lits_of es)) ≡ true → not (has_var v (lits_of (take top es))) ≡ true
    away v es top h = not_from_false (has_var v (lits_of (take top es))) (elim (cases_Bool (has_var v (lits_of (take top es)))) [
      | inl t ↦ absurd (let x = var-of (lits_of (take top es)) v t in
          let y = entry-of-lit (take top es) x.0 x.2 in
          true≢false (sym (ap (λ (w : ℕ). has_var w (lits_of es)) (sym (ap (λ (l : Literal). l.var) y.is ∙ x.1)) ∙ set-at es y.index y.entry (taken-before top es y.index y.entry y.stands).1) ∙ not-true (has_var v (lits_of es)) h))
      | inr t ↦ t
    ])

pub passed-skip :
    (cs : List (List Literal)) (es : List Entry) (set needed : List Literal) (i : ℕ) (e : Entry)
    (hints : List ℕ) →
    slice_get es i ≡ Some e → has_distinct_vars (lits_of es) ≡ true → has_lit e.lit needed ≡ false →
    HintsWorkWithoutEntry cs es set i needed hints needed hints
passed-skip cs es set needed i e hints at once u = λ top b le s. shows-skip cs (lits_of (take top es)) (lits_of (take i es)) (lits_of (take (i + 1) es)) set needed e.lit hints (next-at es i e at once) u s

pub passed-step :
    (f : Formula) (es : List Entry) (set needed next : List Literal) (i r : ℕ) (e : Entry) (reasons : List ℕ)
    → IsFormula f →
    slice_get es i ≡ Some e → has_distinct_vars (lits_of es) ≡ true → has_lit e.lit needed ≡ true →
    clause_forces_lit f.clauses (lits_of (take i es)) e.lit r ≡ true → has_var e.lit.var set ≡ false →
    AreNeededLitsAfterClauseExamined set (nth_clause_or_empty f.clauses r) needed next →
    HintsWorkWithoutEntry f.clauses es set i needed (reverse reasons) next (reverse (reasons ++ (r + 1) ∷ []))
passed-step f es set needed next i r e reasons k at once u reason away n = λ top b le s.
    (let cs = f.clauses in
    let p = and_parts (has_lit e.lit (nth_clause_or_empty cs r)) (is_falsified (lits_of (take i es)) (other_lits e.lit (nth_clause_or_empty cs r))) reason in
    let there = stands cs r e.lit p.0 in
    let turned : (r + 1) ∷ reverse reasons ≡ reverse (reasons ++ (r + 1) ∷ []) = sym (reverse-append reasons ((r + 1) ∷ [])) in
    let P : List ℕ → Type 0 = λ hs. HintsFalsifyGivenNeededLits cs (lits_of (take top es)) (lits_of (take i es)) set next hs in
    subst P (ap (λ (h : ℕ). h ∷ reverse reasons) (sym (add-one r)) ∙ turned)
    (shows-step cs (lits_of (take top es)) (lits_of (take i es)) (lits_of (take (i + 1) es)) set needed
    next (nth_clause_or_empty cs r) e.lit r (reverse reasons) (next-at es i e at once) u there
    (list_all-slice_get has_distinct_vars cs r (nth_clause_or_empty cs r) k.differ there) p.0 p.1 away
    (once-taken es top once) (λ m h. lits-taken es i top m (omega (arith, b)) h) n s))

pub units-more : (units : List ℕ) (ls : List Literal) (i : ℕ) (l : Literal) → slice_get ls i ≡ Some l → unit_hints_of_needed units (take (i + 1) ls) ≡ unit_hints_of_needed units (take i ls) ++ unit_hints_of_needed units (l ∷ [])
units-more units ls i l at = ap (λ (n : ℕ). unit_hints_of_needed units (take n ls)) (add-one i) ∙ ap (unit_hints_of_needed units) (take-one-more ls i l at) ∙ hints-append (take i ls) (l ∷ [])
  where
    hints-append : (xs ys : List Literal) → unit_hints_of_needed units (xs ++ ys) ≡ unit_hints_of_needed units xs ++ unit_hints_of_needed units ys
    hints-append [] ys = refl
    hints-append (x ∷ xs) ys = elim (cases_Bool (not (nat_eq (get_or units x.var 0) 0))) [
      | inl t ↦ rw t (ap (λ (hs : List ℕ). get_or units x.var 0 ∷ hs) (hints-append xs ys))
      | inr t ↦ rw t (hints-append xs ys)
    ]

pub counted-more : (units : List ℕ) (ls : List Literal) (i : ℕ) (l : Literal) → slice_get ls i ≡ Some l → ¬ (get_or units l.var 0 ≡ 0) → length (unit_hints_of_needed units (take (i + 1) ls)) ≡ length (unit_hints_of_needed units (take i ls)) + 1
counted-more units ls i l at some = ap length (units-more units ls i l at) ∙ length-append (unit_hints_of_needed units (take i ls)) (unit_hints_of_needed units (l ∷ [])) ∙ ap
    (λ (n : ℕ). length (unit_hints_of_needed units (take i ls)) + n) (one (get_or units l.var 0) some)
  where
    one : (u : ℕ) → ¬ (u ≡ 0) → length (filter (λ v. not (v == 0)) (u ∷ [])) ≡ 1
    one u h = grind arith

pub counted-same : (units : List ℕ) (ls : List Literal) (i : ℕ) (l : Literal) → slice_get ls i ≡ Some l → get_or units l.var 0 ≡ 0 → length (unit_hints_of_needed units (take (i + 1) ls)) ≡ length (unit_hints_of_needed units (take i ls))
counted-same units ls i l at none = ap length (units-more units ls i l at ∙ ap (λ (u : ℕ). unit_hints_of_needed units (take i ls) ++ filter (λ v. not (v == 0)) (u ∷ [])) none ∙ append-nil (unit_hints_of_needed units (take i ls)))
