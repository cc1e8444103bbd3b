-- The status of a hint's clause, literal by literal.
use Rattle.std.proofs.Common.{◌≡◌, ℕ, ◌+◌, ◌/◌, ◌<◌, ◌≤◌, inl, inr, Bool, true, false, cond, List, [], ◌∷◌, ◌++◌, drop, get_or, length, refl, sym, ap, ◌∙◌, subst, arith, Option, Some, None, suc, zero}
use Rattle.std.specs.Prelude.{nat_le, nat_lt, option_to_list, slice_get}
use Rattle.std.specs.Option.{option_map_or}
use Rattle.std.proofs.lemmas.Bool.{cases_Bool, and_parts, and_from, leb-true, ltb-true}
use Rattle.std.proofs.lemmas.List.{drop_more}
use Rattle.ilk_base.specs.Option.{then_some}
use Rattle.ilk_base.proofs.Tested.{list_all-slice_get}
use Rattle.ilk_cnf.specs.Literal.{Literal, has_lit}
use Rattle.ilk_cnf.specs.Code.{literal_of}
use Rattle.ilk_cnf.specs.Formula.{is_clause_over, are_clauses_over, is_lit_over}
use Rattle.ilk_log.specs.Propagation.{clause_numbered, is_false, is_falsified, only_lit_if_unset, unit_lit}
use Rattle.ilk_audit.specs.Hinted.{status_of_hinted_clause, clause_status, status_from_unfalsified, AnyUnitLitIsSettable, unfalsified_lits}
use Rattle.ilk_audit.specs.Stored.{literals_of}
use Rattle.ilk_audit.specs.Taken.{why_hints_reach_no_conflict, has_hint_left}
use Rattle.ilk_audit.specs.declared.hinted.ClauseStatus.{ClauseStatus}
use Rattle.ilk_audit.specs.declared.hinted.ClauseStatus.TheVariants.{Missing, AllFalse, OneUnset, Other}
use Rattle.ilk_audit.specs.declared.taken.Why.{Why}
use Rattle.ilk_audit.specs.declared.taken.Why.TheVariants.{BadHint, NotUnit, NotFalse}
use Rattle.ilk_audit.proofs.Derived.{none-open}
use Rattle.ilk_audit.proofs.Tables.{var-unset}

pub record AtCodes (n : ℕ) (set : List Literal) (whole : List ℕ) (lone : Option Literal) (rest : List ℕ) : Type 0 where
  pub found : status_from_unfalsified set (option_to_list lone ++ unfalsified_lits set (literals_of rest)) ≡ clause_status set (literals_of whole)
  pub within : is_clause_over n (option_to_list lone) ≡ true

open-false : (set : List Literal) (code : ℕ) (rest : List ℕ) → is_false set (literal_of code) ≡ true → unfalsified_lits set (literals_of (code ∷ rest)) ≡ unfalsified_lits set (literals_of rest)
open-false set code rest f = rw f refl

open-more : (set : List Literal) (code : ℕ) (rest : List ℕ) → is_false set (literal_of code) ≡ false → unfalsified_lits set (literals_of (code ∷ rest)) ≡ literal_of code ∷ unfalsified_lits set (literals_of rest)
open-more set code rest f = rw f refl

pub scan-false : (n : ℕ) (set : List Literal) (whole : List ℕ) (lone : Option Literal) (code : ℕ) (rest : List ℕ) → AtCodes n set whole lone (code ∷ rest) → is_false set (literal_of code) ≡ true → AtCodes n set whole lone rest
scan-false n set whole lone code rest a f = record {
  found = sym (ap (λ (ls : List Literal). status_from_unfalsified set (option_to_list lone ++ ls)) (open-false set code rest f)) ∙ a.found;
  within = a.within;
}

pub scan-open : (n : ℕ) (set : List Literal) (whole : List ℕ) (code : ℕ) (rest : List ℕ) →
    AtCodes n set whole None (code ∷ rest) → is_false set (literal_of code) ≡ false →
    is_lit_over n (literal_of code) ≡ true → AtCodes n set whole (Some (literal_of code)) rest
scan-open n set whole code rest a f within = record {
  found = sym (ap (λ (ls : List Literal). status_from_unfalsified set ls) (open-more set code rest f)) ∙ a.found;
  within = and_from (is_lit_over n (literal_of code)) true within refl;
}

pub scan-end : (n : ℕ) (set : List Literal) (whole : List ℕ) (lone : Option Literal) → AtCodes n set whole lone [] → status_from_unfalsified set (option_to_list lone) ≡ clause_status set (literals_of whole)
scan-end n set whole None a = a.found
scan-end n set whole (Some l) a = a.found

pub code-at : (n : ℕ) (codes : List ℕ) (i : ℕ) → is_clause_over n (literals_of codes) ≡ true → i < length codes → (is_lit_over n (literal_of (get_or codes i 0)) ≡ true) × (0 < get_or codes i 0 / 2) × (get_or codes i 0 / 2 ≤ n)
code-at n [] i h at = absurd (omega arith)
code-at n (c ∷ codes) zero h at =
    let p = (and_parts (is_lit_over n (literal_of c)) (is_clause_over n (literals_of codes)) h).0 in
    let q = and_parts (nat_lt 0 (c / 2)) (nat_le (c / 2) n) p in
    (p, ltb-true 0 (c / 2) q.0, leb-true (c / 2) n q.1)
code-at n (c ∷ codes) (suc i) h at = code-at n codes i (and_parts (is_lit_over n (literal_of c)) (is_clause_over n (literals_of codes)) h).1 (omega arith)

pub scan-next : (n : ℕ) (set : List Literal) (codes : List ℕ) (lone : Option Literal) (i : ℕ) → AtCodes n set codes lone (drop i codes) → i < length codes → AtCodes n set codes lone (get_or codes i 0 ∷ drop (i + 1) codes)
scan-next n set codes lone i a at = (let P : List ℕ → Type 0 = λ xs. AtCodes n set codes lone xs in subst P (drop_more codes i 0 at) a)

all-false : (set c : List Literal) → unfalsified_lits set c ≡ [] → is_falsified set c ≡ true
all-false set [] e = refl
all-false set (l ∷ c) e =
    elim (cases_Bool (is_false set l)) [
      | inl t ↦ and_from (is_false set l) (is_falsified set c) t (all-false set c (rw t at e))
      | inr f ↦ absurd (let z : l ∷ unfalsified_lits set c ≡ [] = rw f at e in cc)
    ]

some-open : (set c : List Literal) (l : Literal) (ls : List Literal) → unfalsified_lits set c ≡ l ∷ ls → is_falsified set c ≡ false
some-open set c l ls e = elim (cases_Bool (is_falsified set c)) [
  | inl t ↦ absurd (let z : l ∷ ls ≡ [] = sym e ∙ none-open set c t in cc)
  | inr f ↦ f
]

abbrev pub by_found : List (List Literal) → List Literal → List ℕ → ClauseStatus → Option Why
by_found clauses set hints Missing = Some BadHint
by_found clauses set hints AllFalse = then_some (has_hint_left hints) NotFalse
by_found clauses set hints (OneUnset l) = why_hints_reach_no_conflict clauses (l ∷ set) hints
by_found clauses set hints Other = Some NotUnit

in-clause : (clauses : List (List Literal)) (set : List Literal) (hints : List ℕ) (c ls : List Literal) →
    unfalsified_lits set c ≡ ls →
    cond (is_falsified set c) (then_some (has_hint_left hints) NotFalse)
    (option_map_or (λ l. why_hints_reach_no_conflict clauses (l ∷ set) hints) (only_lit_if_unset set ls) (Some NotUnit))
    ≡ by_found clauses set hints (status_from_unfalsified set ls)
in-clause clauses set hints c [] e = rw (all-false set c e) refl
in-clause clauses set hints c (l ∷ []) e =
    rw (some-open set c l [] e)
    (elim (cases_Bool (has_lit l set)) [
      | inl t ↦ rw t refl
      | inr f ↦ rw f refl
    ])
in-clause clauses set hints c (l ∷ (m ∷ ls)) e = rw (some-open set c l (m ∷ ls) e) refl

pub hints-found : (clauses : List (List Literal)) (set : List Literal) (h : ℕ) (hints : List ℕ) → why_hints_reach_no_conflict clauses set (h ∷ hints) ≡ by_found clauses set hints (status_of_hinted_clause clauses set h)
hints-found clauses set h hints = go (clause_numbered clauses h)
  where
    go : (o : Option (List Literal)) →
        option_map_or
        (λ c. cond (is_falsified set c) (then_some (has_hint_left hints) NotFalse)
        (option_map_or (λ l. why_hints_reach_no_conflict clauses (l ∷ set) hints) (unit_lit set c) (Some NotUnit))) o
        (Some BadHint)
        ≡ by_found clauses set hints (option_map_or (clause_status set) o Missing)
    go None = refl
    go (Some c) = in-clause clauses set hints c (unfalsified_lits set c) refl

first-open : (n : ℕ) (set c : List Literal) (l : Literal) (ls : List Literal) → unfalsified_lits set c ≡ l ∷ ls → is_clause_over n c ≡ true → (is_false set l ≡ false) × (is_lit_over n l ≡ true)
first-open n set [] l ls e w = absurd (cc)
first-open n set (m ∷ c) l ls e w =
    let p = and_parts (is_lit_over n m) (is_clause_over n c) w in
    elim (cases_Bool (is_false set m)) [
      | inl t ↦ first-open n set c l ls (rw t at e) p.1
      | inr f ↦ (let z : m ∷ unfalsified_lits set c ≡ l ∷ ls = rw f at e in
          let q : m ≡ l = cc in
          (ap (is_false set) (sym q) ∙ f, ap (is_lit_over n) (sym q) ∙ p.0))
    ]

settable-in : (n : ℕ) (set c ls : List Literal) → unfalsified_lits set c ≡ ls → is_clause_over n c ≡ true → AnyUnitLitIsSettable n set (status_from_unfalsified set ls)
settable-in n set c [] e w = tt
settable-in n set c (l ∷ []) e w =
    let p = first-open n set c l [] e w in
    by_true (has_lit l set) refl p
  where
    by_true : (b : Bool) → has_lit l set ≡ b → (is_false set l ≡ false) × (is_lit_over n l ≡ true) → AnyUnitLitIsSettable n set (cond b Other (OneUnset l))
    by_true true t p = tt
    by_true false f p = (p.1, var-unset l set f p.0)
settable-in n set c (l ∷ (m ∷ ls)) e w = tt

pub settable-at : (n : ℕ) (clauses : List (List Literal)) (set : List Literal) (h : ℕ) → are_clauses_over n clauses ≡ true → AnyUnitLitIsSettable n set (status_of_hinted_clause clauses set h)
settable-at n clauses set zero w = tt
settable-at n clauses set (suc i) w = go (slice_get clauses i) refl
  where
    go : (o : Option (List Literal)) → slice_get clauses i ≡ o → AnyUnitLitIsSettable n set (option_map_or (clause_status set) o Missing)
    go None e = tt
    go (Some c) e = settable-in n set c (unfalsified_lits set c) refl (list_all-slice_get (is_clause_over n) clauses i c w e)
