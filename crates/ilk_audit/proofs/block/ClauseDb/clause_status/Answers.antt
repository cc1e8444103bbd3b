use Rattle.std.proofs.Common.{◌≡◌, ◌≤◌, ◌-◌, ap, sym, ◌∙◌, subst, drop, length, List, ℕ, take}
use Rattle.std.specs.Prelude.{◌⊎◌, slice_get}
use Rattle.std.specs.Option.{option_map_or}
use Rattle.ilk_cnf.specs.Formula.{is_clause_over, Formula}
use Rattle.ilk_audit.specs.Codes.{codes_in}
use Rattle.ilk_audit.specs.Hinted.{status_of_hinted_clause, clause_status, AnyUnitLitIsSettable}
use Rattle.ilk_audit.specs.Stored.{split_into_clauses, literals_of}
use Rattle.ilk_audit.specs.declared.hinted.ClauseStatus.{ClauseStatus}
use Rattle.ilk_audit.specs.declared.hinted.ClauseStatus.TheVariants.{Missing}
use Rattle.ilk_audit.proofs.Blocks.{bounds-numbered, numbered, numbered-none, numbered-within}
use Rattle.ilk_audit.proofs.Scans.{settable-at}
use Rattle.ilk_audit.proofs.block.ClauseDb.clause_status.Goals as goal

pub found_between-requires-clause-ascend : goal.found_between-requires-clause-ascend
found_between-requires-clause-ascend c =
    let b = c.self.inside in
    let part = (c.in-Some.ensures {u = tt}).some in
    let before = ap (λ (xs : List ℕ). slice_get xs (c.args.number - 1)) (sym c.as_slice.ensures.value) ∙ part.1 in
    let here = ap (λ (xs : List ℕ). slice_get xs c.args.number) (sym c.as_slice.ensures.value) ∙ part.2 in
    (bounds-numbered b.bounds.items (length (codes_in b.codes)) c.args.number c.in-Some.from c.in-Some.to c.self.invariant.bounded part.0 before here).0

pub found_between-requires-clause-fit : goal.found_between-requires-clause-fit
found_between-requires-clause-fit c =
    let b = c.self.inside in
    let part = (c.in-Some.ensures {u = tt}).some in
    let before = ap (λ (xs : List ℕ). slice_get xs (c.args.number - 1)) (sym c.as_slice.ensures.value) ∙ part.1 in
    let here = ap (λ (xs : List ℕ). slice_get xs c.args.number) (sym c.as_slice.ensures.value) ∙ part.2 in
    (bounds-numbered b.bounds.items (length (codes_in b.codes)) c.args.number c.in-Some.from c.in-Some.to c.self.invariant.bounded part.0 before here).1

pub found_between-requires-clause-within : goal.found_between-requires-clause-within
found_between-requires-clause-within c =
    let b = c.self.inside in
    let part = (c.in-Some.ensures {u = tt}).some in
    let before = ap (λ (xs : List ℕ). slice_get xs (c.args.number - 1)) (sym c.as_slice.ensures.value) ∙ part.1 in
    let here = ap (λ (xs : List ℕ). slice_get xs c.args.number) (sym c.as_slice.ensures.value) ∙ part.2 in
    let is = numbered b.bounds.items (codes_in b.codes) c.args.number c.in-Some.from c.in-Some.to part.0 before here in
    let vars = c.requires ∙ ap (λ (f : Formula). f.vars) (sym c.self.view_is) in
    let clause = literals_of (take (c.in-Some.to - c.in-Some.from) (drop c.in-Some.from (codes_in b.codes))) in
    ap (λ n. is_clause_over n clause) vars ∙ numbered-within b.vars (split_into_clauses b.bounds.items (codes_in b.codes)) c.args.number clause c.self.invariant.formula.within is

pub returns-in-Some-clause-found : goal.returns-in-Some-clause-found
returns-in-Some-clause-found c =
    let b = c.self.inside in
    let part = (c.in-Some.ensures {u = tt}).some in
    let before = ap (λ (xs : List ℕ). slice_get xs (c.args.number - 1)) (sym c.as_slice.ensures.value) ∙ part.1 in
    let here = ap (λ (xs : List ℕ). slice_get xs c.args.number) (sym c.as_slice.ensures.value) ∙ part.2 in
    let is = numbered b.bounds.items (codes_in b.codes) c.args.number c.in-Some.from c.in-Some.to part.0 before here in
    c.found_between.ensures
    ∙ sym (ap (λ o. option_map_or (clause_status c.args.partial.now.set) o Missing) is)
    ∙ ap (λ (f : Formula). status_of_hinted_clause f.clauses c.args.partial.now.set c.args.number) c.self.view_is

pub returns-in-Some-clause-unit : goal.returns-in-Some-clause-unit
returns-in-Some-clause-unit c =
    let b = c.self.inside in
    let part = (c.in-Some.ensures {u = tt}).some in
    let before = ap (λ (xs : List ℕ). slice_get xs (c.args.number - 1)) (sym c.as_slice.ensures.value) ∙ part.1 in
    let here = ap (λ (xs : List ℕ). slice_get xs c.args.number) (sym c.as_slice.ensures.value) ∙ part.2 in
    let is = numbered b.bounds.items (codes_in b.codes) c.args.number c.in-Some.from c.in-Some.to part.0 before here in
    let found : c.found_between.result ≡ status_of_hinted_clause (split_into_clauses b.bounds.items (codes_in b.codes)) c.args.partial.now.set c.args.number =
    c.found_between.ensures ∙ sym (ap (λ o. option_map_or (clause_status c.args.partial.now.set) o Missing) is) in
    let vars = c.requires ∙ ap (λ (f : Formula). f.vars) (sym c.self.view_is) in
    let P : ClauseStatus → Type 0 = λ h. AnyUnitLitIsSettable c.args.partial.now.vars c.args.partial.now.set h in
    let Q : ℕ → Type 0 = λ n. AnyUnitLitIsSettable n c.args.partial.now.set (status_of_hinted_clause (split_into_clauses b.bounds.items (codes_in b.codes)) c.args.partial.now.set c.args.number) in
    subst P (sym found) (subst Q (sym vars) (settable-at b.vars (split_into_clauses b.bounds.items (codes_in b.codes)) c.args.partial.now.set c.args.number c.self.invariant.formula.within))

pub returns-in-None-clause-found : goal.returns-in-None-clause-found
returns-in-None-clause-found c =
    let b = c.self.inside in
    let N : List ℕ → Type 0 = λ xs. (c.args.number ≡ 0) ⊎ (length xs ≤ c.args.number) in
    let past = subst N c.as_slice.ensures.value (c.in-None.ensures {u = tt}).none in
    let is = numbered-none b.bounds.items (codes_in b.codes) c.args.number past in
    sym (ap (λ o. option_map_or (clause_status c.args.partial.now.set) o Missing) is)
    ∙ ap (λ (f : Formula). status_of_hinted_clause f.clauses c.args.partial.now.set c.args.number) c.self.view_is
