-- The number of variables and clauses of a step's parts.
use Rattle.std.proofs.Common.{◌≡◌, ◌==◌, ℕ, suc, ◌+◌, ◌*◌, ◌≤◌, Bool, true, false, List, [], ◌∷◌, ◌++◌, length, take, cond, refl, ap, arith, length-append}
use Rattle.std.proofs.lemmas.List.FromFn.{length-map-range_with_len}
use Rattle.ilk_cnf.specs.Literal.{Literal, positive_lit, negative_lit}
use Rattle.ilk_ints.proofs.OneOfLaw.{one_of-vars, one_of-few}
use Rattle.ilk_ir.specs.System.{PlainRule}
use Rattle.ilk_ir.specs.declared.system.Setting.{Setting}
use Rattle.ilk_forms.specs.declared.copy.VarValueAndBoundLits.{VarValueAndBoundLits}
use Rattle.ilk_forms.specs.Size.{tree_size}
use Rattle.ilk_forms.specs.Demand.{some_lit_or_form_part}
use Rattle.ilk_forms.proofs.Few.{some_lit_or_form-few}
use Rattle.ilk_step.specs.Choice.{chosen_lits, choice_part}
use Rattle.ilk_step.specs.Rules.{settings_unless_skipped_part, rules_part}
use Rattle.ilk_step.specs.Frame.{setter_lits, value_lits_to_carry_over, equal_unless_any_true, frame_axioms}
use Rattle.ilk_step.specs.Step.{step_part}
use Rattle.ilk_step.specs.Size.{total_guard_tree_size, settings_count, value_and_bound_lits_count}

choice-few : (m n : ℕ) → ((choice_part m n).vars ≤ n + 2 * m) × (length (choice_part m n).clauses ≤ 4 * m + 1)
choice-few m n =
    let ls = chosen_lits (n + 1) m in
    let long : length ls ≡ m = length-map-range_with_len negative_lit (n + 1) m in
    let vars = one_of-vars ls (n + m) in
    let clauses = one_of-few ls (n + m) in
    (omega arith, omega arith)

settings-few : (sets : List Setting) (next : List VarValueAndBoundLits) (skip : Literal) (n : ℕ) → ((settings_unless_skipped_part next skip sets n).vars ≡ n) × (length (settings_unless_skipped_part next skip sets n).clauses ≡ length sets)
settings-few [] next skip n = (refl, refl)
settings-few (s ∷ sets) next skip n = let rest = settings-few sets next skip n in (rest.0, ap (λ (k : ℕ). suc k) rest.1)

rules-few : (rs : List PlainRule) (now next : List VarValueAndBoundLits) (k n : ℕ) → ((rules_part now next k rs n).vars ≤ n + total_guard_tree_size rs) × (length (rules_part now next k rs n).clauses ≤ 2 * total_guard_tree_size rs + settings_count rs)
rules-few [] now next k n = (omega arith, omega arith)
rules-few (r ∷ rs) now next k n =
    let skip = positive_lit k in
    let p = some_lit_or_form_part now (skip ∷ []) r.guard n in
    let q = settings_unless_skipped_part next skip r.sets p.vars in
    let rest = rules_part now next (k + 1) rs q.vars in
    let one = some_lit_or_form-few r.guard now (skip ∷ []) n in
    let guard_vars : p.vars ≤ n + tree_size r.guard = one.vars in
    let guard_clauses : length p.clauses ≤ 2 * tree_size r.guard = one.clauses in
    let two = settings-few r.sets next skip p.vars in
    let set_vars : q.vars ≡ p.vars = two.0 in
    let set_clauses : length q.clauses ≡ length r.sets = two.1 in
    let three = rules-few rs now next (k + 1) q.vars in
    let rest_vars : rest.vars ≤ q.vars + total_guard_tree_size rs = three.0 in
    let rest_clauses : length rest.clauses ≤ 2 * total_guard_tree_size rs + settings_count rs = three.1 in
    let first : length (p.clauses ++ q.clauses) ≡ length p.clauses + length q.clauses = length-append p.clauses q.clauses in
    let all : length ((p.clauses ++ q.clauses) ++ rest.clauses) ≡ length (p.clauses ++ q.clauses) + length rest.clauses = length-append (p.clauses ++ q.clauses) rest.clauses in
    (omega arith, omega arith)

equal_unless_any_true-few : (ls ms first : List Literal) → length (equal_unless_any_true first ls ms) ≤ 2 * length ls
equal_unless_any_true-few [] ms first = omega arith
equal_unless_any_true-few (l ∷ ls) [] first = omega arith
equal_unless_any_true-few (l ∷ ls) (m ∷ ms) first = let rest = equal_unless_any_true-few ls ms first in omega arith

value_lits_to_carry_over-few : (ls : List Literal) → length (value_lits_to_carry_over ls) ≤ length ls
value_lits_to_carry_over-few ls = by_case (length ls == 2)
  where
    first_few : (ls : List Literal) → length (take 1 ls) ≤ length ls
    first_few [] = omega arith
    first_few (l ∷ ls) = omega arith

    by_case : (b : Bool) → length (cond b (take 1 ls) ls) ≤ length ls
    by_case true = first_few ls
    by_case false = omega arith

frame_axioms-few : (now next : List VarValueAndBoundLits) (rs : List PlainRule) (k v : ℕ) → length (frame_axioms rs k v now next) ≤ 2 * value_and_bound_lits_count now
frame_axioms-few [] next rs k v = omega arith
frame_axioms-few (c ∷ now) [] rs k v = omega arith
frame_axioms-few (c ∷ now) (d ∷ next) rs k v =
    let first = setter_lits v k rs in
    let values = equal_unless_any_true first (value_lits_to_carry_over c.values) (value_lits_to_carry_over d.values) in
    let bounds = equal_unless_any_true first c.bounds d.bounds in
    let rest = frame_axioms rs k (v + 1) now next in
    let one : length values ≤ 2 * length (value_lits_to_carry_over c.values) = equal_unless_any_true-few (value_lits_to_carry_over c.values) (value_lits_to_carry_over d.values) first in
    let few : length (value_lits_to_carry_over c.values) ≤ length c.values = value_lits_to_carry_over-few c.values in
    let two : length bounds ≤ 2 * length c.bounds = equal_unless_any_true-few c.bounds d.bounds first in
    let three : length rest ≤ 2 * value_and_bound_lits_count now = frame_axioms-few now next rs k (v + 1) in
    let here : length (values ++ bounds) ≡ length values + length bounds = length-append values bounds in
    let all : length ((values ++ bounds) ++ rest) ≡ length (values ++ bounds) + length rest = length-append (values ++ bounds) rest in
    omega arith

pub step-few : (rs : List PlainRule) (now next : List VarValueAndBoundLits) (n : ℕ) →
    ((step_part rs now next n).vars ≤ n + 2 * length rs + total_guard_tree_size rs) ×
    (length (step_part rs now next n).clauses
    ≤ 4 * length rs + 1 + 2 * total_guard_tree_size rs + settings_count rs + 2 * value_and_bound_lits_count now)
step-few rs now next n =
    let p = choice_part (length rs) n in
    let q = rules_part now next (n + 1) rs p.vars in
    let last = frame_axioms rs (n + 1) 0 now next in
    let one = choice-few (length rs) n in
    let choice_vars : p.vars ≤ n + 2 * length rs = one.0 in
    let choice_clauses : length p.clauses ≤ 4 * length rs + 1 = one.1 in
    let two = rules-few rs now next (n + 1) p.vars in
    let rules_vars : q.vars ≤ p.vars + total_guard_tree_size rs = two.0 in
    let rules_clauses : length q.clauses ≤ 2 * total_guard_tree_size rs + settings_count rs = two.1 in
    let three : length last ≤ 2 * value_and_bound_lits_count now = frame_axioms-few now next rs (n + 1) 0 in
    let here : length (q.clauses ++ last) ≡ length q.clauses + length last = length-append q.clauses last in
    let all : length (p.clauses ++ (q.clauses ++ last)) ≡ length p.clauses + length (q.clauses ++ last) = length-append p.clauses (q.clauses ++ last) in
    (omega arith, omega arith)
