-- Adding a clause to a block, and looking one up.
use Rattle.std.proofs.Common.{◌≡◌, ℕ, ◌+◌, ◌-◌, ◌<◌, ◌≤◌, inl, inr, true, List, [], ◌∷◌, ◌++◌, length, map, take, drop, refl, sym, ap, ◌∙◌, subst, arith, Some, None, suc, zero}
use Rattle.std.specs.Prelude.{◌⊎◌, ◌==◌, nat_le, slice_get}
use Rattle.std.proofs.Math.Seq.{drop-append_seam}
use Rattle.std.proofs.lemmas.Bool.{and_parts, and_from, eqb-true, eq-eqb, leb-true, le-leb}
use Rattle.std.proofs.lemmas.List.{drop-append-le, take-append-le, take_all, length-drop, length-append}
use Rattle.std.proofs.lemmas.Option.{same_Some}
use Rattle.ilk_base.proofs.Tested.{list_all-more, list_all-slice_get}
use Rattle.ilk_cnf.specs.Literal.{Literal, has_distinct_vars}
use Rattle.ilk_cnf.specs.Code.{code_of}
use Rattle.ilk_cnf.specs.Formula.{is_clause_over, are_clauses_over, IsFormula}
use Rattle.ilk_log.specs.Propagation.{clause_numbered}
use Rattle.ilk_audit.specs.Codes.{codes_in, lit_codes_fit_width}
use Rattle.ilk_audit.specs.Stored.{are_nondecreasing_and_end_at, is_nondecreasing_from_to, split_into_clauses, literals_of, CodesSplitIntoValidClauses}
use Rattle.ilk_audit.specs.declared.codes.LitCodes.{LitCodes}
use Rattle.ilk_audit.proofs.Numbers.{literals_back}

is_nondecreasing_from_to-le : (from : ℕ) (bounds : List ℕ) (to : ℕ) → is_nondecreasing_from_to from bounds to ≡ true → from ≤ to
is_nondecreasing_from_to-le from [] to h = (let e = eqb-true from to h in omega (arith, e))
is_nondecreasing_from_to-le from (b ∷ bounds) to h =
    let p = and_parts (nat_le from b) (is_nondecreasing_from_to b bounds to) h in
    let here = leb-true from b p.0 in
    omega (arith, here, is_nondecreasing_from_to-le b bounds to p.1)

is_nondecreasing_from_to-push : (from : ℕ) (bounds : List ℕ) (to more : ℕ) → is_nondecreasing_from_to from bounds to ≡ true → to ≤ more → is_nondecreasing_from_to from (bounds ++ more ∷ []) more ≡ true
is_nondecreasing_from_to-push from [] to more h le =
    let e = eqb-true from to h in
    and_from (nat_le from more) (more == more) (le-leb from more (omega (arith, e))) (eq-eqb more more refl)
is_nondecreasing_from_to-push from (b ∷ bounds) to more h le =
    let p = and_parts (nat_le from b) (is_nondecreasing_from_to b bounds to) h in
    and_from (nat_le from b) (is_nondecreasing_from_to b (bounds ++ more ∷ []) more) p.0 (is_nondecreasing_from_to-push b bounds to more p.1 le)

pub bounds-push : (bounds : List ℕ) (to more : ℕ) → are_nondecreasing_and_end_at bounds to ≡ true → to ≤ more → are_nondecreasing_and_end_at (bounds ++ more ∷ []) more ≡ true
bounds-push [] to more h le = absurd (cc)
bounds-push (from ∷ bounds) to more h le = is_nondecreasing_from_to-push from bounds to more h le

is_nondecreasing_from_to-at : (from : ℕ) (bounds : List ℕ) (to i a b : ℕ) → is_nondecreasing_from_to from bounds to ≡ true → slice_get (from ∷ bounds) i ≡ Some a → slice_get (from ∷ bounds) (suc i) ≡ Some b → (a ≤ b) × (b ≤ to)
is_nondecreasing_from_to-at from [] to i a b h p q = absurd (cc)
is_nondecreasing_from_to-at from (c ∷ bounds) to zero a b h p q =
    let x : from ≡ a = same_Some from a p in
    let y : c ≡ b = same_Some c b q in
    let t = and_parts (nat_le from c) (is_nondecreasing_from_to c bounds to) h in
    let here = leb-true from c t.0 in
    let rest = is_nondecreasing_from_to-le c bounds to t.1 in
    (omega (arith, x, y, here), omega (arith, y, rest))
is_nondecreasing_from_to-at from (c ∷ bounds) to (suc i) a b h p q = is_nondecreasing_from_to-at c bounds to i a b (and_parts (nat_le from c) (is_nondecreasing_from_to c bounds to) h).1 p q

pub bounds-at : (bounds : List ℕ) (to i a b : ℕ) → are_nondecreasing_and_end_at bounds to ≡ true → slice_get bounds i ≡ Some a → slice_get bounds (suc i) ≡ Some b → (a ≤ b) × (b ≤ to)
bounds-at [] to i a b h p q = absurd (cc)
bounds-at (from ∷ bounds) to i a b h p q = is_nondecreasing_from_to-at from bounds to i a b h p q

between-same : (codes new : List ℕ) (from to : ℕ) → from ≤ to → to ≤ length codes → take (to - from) (drop from (codes ++ new)) ≡ take (to - from) (drop from codes)
between-same codes new from to le fits =
    let long : to - from ≤ length (drop from codes) = (let e = length-drop from codes in omega (arith, e)) in
    ap (take (to - from)) (drop-append-le from codes new (omega arith)) ∙ take-append-le (to - from) (drop from codes) new long

between-push : (from : ℕ) (bounds codes new : List ℕ) → is_nondecreasing_from_to from bounds (length codes) ≡ true
    → split_into_clauses (from ∷ (bounds ++ (length codes + length new) ∷ [])) (codes ++ new) ≡ split_into_clauses (from ∷ bounds) codes ++ literals_of new ∷ []
between-push from [] codes new h =
    let e : from ≡ length codes = eqb-true from (length codes) h in
    let n : length codes + length new - from ≡ length new = omega (arith, e) in
    let here : take (length codes + length new - from) (drop from (codes ++ new)) ≡ new =
    ap (λ k. take k (drop from (codes ++ new))) n ∙ ap (λ k. take (length new) (drop k (codes ++ new))) e
    ∙ ap (take (length new)) (drop-append_seam codes new) ∙ take_all (length new) new (omega arith) in
    ap (λ (xs : List ℕ). literals_of xs ∷ []) here
between-push from (b ∷ bounds) codes new h =
    let p = and_parts (nat_le from b) (is_nondecreasing_from_to b bounds (length codes)) h in
    let here = leb-true from b p.0 in
    let same = between-same codes new from b here (is_nondecreasing_from_to-le b bounds (length codes) p.1) in
    ap (λ (xs : List ℕ). literals_of xs ∷ split_into_clauses (b ∷ (bounds ++ (length codes + length new) ∷ [])) (codes ++ new)) same
    ∙ ap (λ (cs : List (List Literal)). literals_of (take (b - from) (drop from codes)) ∷ cs) (between-push b bounds codes new p.1)

pub clauses-push : (bounds codes new : List ℕ) → are_nondecreasing_and_end_at bounds (length codes) ≡ true → split_into_clauses (bounds ++ (length codes + length new) ∷ []) (codes ++ new) ≡ split_into_clauses bounds codes ++ literals_of new ∷ []
clauses-push [] codes new h = absurd (cc)
clauses-push (from ∷ bounds) codes new h = between-push from bounds codes new h

pub clause-at : (bounds codes : List ℕ) (i a b : ℕ) → slice_get bounds i ≡ Some a → slice_get bounds (suc i) ≡ Some b → slice_get (split_into_clauses bounds codes) i ≡ Some (literals_of (take (b - a) (drop a codes)))
clause-at [] codes i a b p q = absurd (cc)
clause-at (from ∷ []) codes i a b p q = absurd (cc)
clause-at (from ∷ (to ∷ bounds)) codes zero a b p q =
    let x : from ≡ a = same_Some from a p in
    let y : to ≡ b = same_Some to b q in
    ap (λ k. Some (literals_of (take (to - k) (drop k codes)))) x ∙ ap (λ k. Some (literals_of (take (k - a) (drop a codes)))) y
clause-at (from ∷ (to ∷ bounds)) codes (suc i) a b p q = clause-at (to ∷ bounds) codes i a b p q

pub clause-past : (bounds codes : List ℕ) (i : ℕ) → length bounds ≤ suc i → slice_get (split_into_clauses bounds codes) i ≡ None
clause-past [] codes i h = refl
clause-past (from ∷ []) codes i h = refl
clause-past (from ∷ (to ∷ bounds)) codes zero h = absurd (omega arith)
clause-past (from ∷ (to ∷ bounds)) codes (suc i) h = clause-past (to ∷ bounds) codes i (omega arith)

pub formula-push : (n : ℕ) (cs : List (List Literal)) (c : List Literal) → IsFormula (record { vars = n; clauses = cs }) → is_clause_over n c ≡ true → has_distinct_vars c ≡ true → IsFormula (record { vars = n; clauses = cs ++ c ∷ [] })
formula-push n cs c f within differ = record {
  numbered = f.numbered;
  within = list_all-more (is_clause_over n) cs c f.within within;
  differ = list_all-more has_distinct_vars cs c f.differ differ;
}

pub block-push : (n : ℕ) (codes more : LitCodes) (bounds : List ℕ) (c : List Literal) → CodesSplitIntoValidClauses n codes bounds → codes_in more ≡ codes_in codes ++ map code_of c → lit_codes_fit_width n more ≡ true → is_clause_over n c ≡ true →
    has_distinct_vars c ≡ true
    → CodesSplitIntoValidClauses n more (bounds ++ length (codes_in more) ∷ []) × (split_into_clauses (bounds ++ length (codes_in more) ∷ []) (codes_in more) ≡ split_into_clauses bounds (codes_in codes) ++ c ∷ [])
block-push n codes more bounds c b e f within differ =
    let m : length (codes_in more) ≡ length (codes_in codes) + length (map code_of c) = ap (λ (xs : List ℕ). length xs) e ∙ length-append (codes_in codes) (map code_of c) in
    let grown : split_into_clauses (bounds ++ length (codes_in more) ∷ []) (codes_in more) ≡ split_into_clauses bounds (codes_in codes) ++ c ∷ [] = ap (λ k. split_into_clauses (bounds ++ k ∷ []) (codes_in more)) m
    ∙ ap (λ (xs : List ℕ). split_into_clauses (bounds ++ (length (codes_in codes) + length (map code_of c)) ∷ []) xs) e
    ∙ clauses-push bounds (codes_in codes) (map code_of c) b.bounded
    ∙ ap (λ (ls : List Literal). split_into_clauses bounds (codes_in codes) ++ ls ∷ []) (literals_back c) in
    let P : List (List Literal) → Type 0 = λ cs. IsFormula (record { vars = n; clauses = cs }) in (
      record {
        formula = subst P (sym grown) (formula-push n (split_into_clauses bounds (codes_in codes)) c b.formula within differ);
        fits = f;
        bounded = bounds-push bounds (length (codes_in codes)) (length (codes_in more)) b.bounded (omega (arith, m));
      },
      grown,
    )

pub numbered : (bounds codes : List ℕ) (number a b : ℕ) → 0 < number →
    slice_get bounds (number - 1) ≡ Some a → slice_get bounds number ≡ Some b →
    clause_numbered (split_into_clauses bounds codes) number ≡ Some (literals_of (take (b - a) (drop a codes)))
numbered bounds codes zero a b some p q = absurd (omega arith)
numbered bounds codes (suc i) a b some p q =
    let e : suc i - 1 ≡ i = omega arith in
    clause-at bounds codes i a b (ap (slice_get bounds) (sym e) ∙ p) q

pub numbered-none : (bounds codes : List ℕ) (number : ℕ) → (number ≡ 0) ⊎ (length bounds ≤ number) → clause_numbered (split_into_clauses bounds codes) number ≡ None
numbered-none bounds codes zero h = refl
numbered-none bounds codes (suc i) (inl z) = absurd (omega (arith, z))
numbered-none bounds codes (suc i) (inr past) = clause-past bounds codes i past

pub bounds-numbered : (bounds : List ℕ) (to number a b : ℕ) → are_nondecreasing_and_end_at bounds to ≡ true → 0 < number → slice_get bounds (number - 1) ≡ Some a → slice_get bounds number ≡ Some b → (a ≤ b) × (b ≤ to)
bounds-numbered bounds to zero a b h some p q = absurd (omega arith)
bounds-numbered bounds to (suc i) a b h some p q =
    let e : suc i - 1 ≡ i = omega arith in
    bounds-at bounds to i a b h (ap (slice_get bounds) (sym e) ∙ p) q

pub numbered-within : (n : ℕ) (cs : List (List Literal)) (number : ℕ) (c : List Literal) → are_clauses_over n cs ≡ true → clause_numbered cs number ≡ Some c → is_clause_over n c ≡ true
numbered-within n cs zero c w e = absurd (cc)
numbered-within n cs (suc i) c w e = list_all-slice_get (is_clause_over n) cs i c w e

pub clauses-few : (bounds codes : List ℕ) → length (split_into_clauses bounds codes) ≤ length bounds
clauses-few [] codes = omega arith
clauses-few (from ∷ []) codes = omega arith
clauses-few (from ∷ (to ∷ bounds)) codes = omega (arith, clauses-few (to ∷ bounds) codes)
