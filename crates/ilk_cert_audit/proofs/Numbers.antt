-- The numbers of a step that follows are those that a line may have.
use Rattle.std.proofs.Common.{◌≡◌, ℕ, zero, suc, ◌<◌, ◌≤◌, ◌^◌, Bool, true, ◌&&◌, List, [], ◌∷◌, length, refl, arith, Some}
use Rattle.std.specs.Prelude.{nat_lt}
use Rattle.std.specs.List.{list_all}
use Rattle.std.proofs.lemmas.Bool.{and_parts, and_from, lt-ltb}
use Rattle.std.proofs.lemmas.Option.{slice_get_within}
use Rattle.ilk_base.specs.Option.{◌>>=◌}
use Rattle.ilk_base.proofs.Options.{bind_some, some-and}
use Rattle.ilk_cnf.specs.Literal.{Literal, has_distinct_vars}
use Rattle.ilk_cnf.specs.Formula.{is_clause_over}
use Rattle.ilk_cnf.proofs.Literals.{is_clause_over-more}
use Rattle.ilk_log.specs.declared.step.Step.{Step as LogStep}
use Rattle.ilk_log.specs.Propagation.{after_hint, clause_numbered, is_falsified, unit_lit}
use Rattle.ilk_log.specs.Derived.{hints_end_in_conflict, is_derived, negated_clause}
use Rattle.ilk_log.specs.StepText.{has_writable_numbers}

abbrev fits : ℕ → Bool
fits h = nat_lt 0 h && nat_lt h (2 ^ 64)

number-fits : (clauses : List (List Literal)) (h : ℕ) (c : List Literal) → length clauses < 2 ^ 64 → clause_numbered clauses h ≡ Some c → fits h ≡ true
number-fits clauses zero c few e = absurd (cc)
number-fits clauses (suc i) c few e =
    let w = slice_get_within clauses i c e in
    and_from (nat_lt 0 (suc i)) (nat_lt (suc i) (2 ^ 64)) (lt-ltb 0 (suc i) (omega arith)) (lt-ltb (suc i) (2 ^ 64) (omega (arith, w, few)))

hints-fit : (clauses : List (List Literal)) (set : List Literal) (hints : List ℕ) → length clauses < 2 ^ 64 → hints_end_in_conflict clauses set hints ≡ true → list_all (λ h. nat_lt 0 h && nat_lt h (2 ^ 64)) hints ≡ true
hints-fit clauses set [] few e = absurd (cc)
hints-fit clauses set (h ∷ []) few e =
    let c = some-and (clause_numbered clauses h) (is_falsified set) e in
    and_from (fits h) true (number-fits clauses h c.0 few c.1) refl
hints-fit clauses set (h ∷ (k ∷ hints)) few e =
    let n = some-and (after_hint clauses set h) (λ next. hints_end_in_conflict clauses next (k ∷ hints)) e in
    let c = bind_some (clause_numbered clauses h) (λ (c : List Literal). unit_lit set c >>= (λ (l : Literal). Some (l ∷ set))) n.0 n.1 in
    and_from (fits h) (list_all fits (k ∷ hints)) (number-fits clauses h c.0 few c.1) (hints-fit clauses n.0 (k ∷ hints) few n.2)

pub derived-numbers : (n : ℕ) (clauses : List (List Literal)) (s : LogStep) → n ≤ 2 ^ 62 → length clauses < 2 ^ 64 → is_derived n clauses s ≡ true → has_writable_numbers s ≡ true
derived-numbers n clauses s most few d =
    let p = and_parts (is_clause_over n s.clause && has_distinct_vars s.clause) (hints_end_in_conflict clauses (negated_clause s.clause) s.hints) d in
    let q = and_parts (is_clause_over n s.clause) (has_distinct_vars s.clause) p.0 in
    and_from (is_clause_over (2 ^ 62) s.clause) (list_all fits s.hints) (is_clause_over-more n (2 ^ 62) s.clause most q.0) (hints-fit clauses (negated_clause s.clause) s.hints few p.1)
