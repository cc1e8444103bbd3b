-- The effect of a rule on values, variable by variable.
use Rattle.std.proofs.Common.{◌≡◌, ◌==◌, ℕ, ◌+◌, ◌<◌, zero, suc, Bool, true, false, ◌&&◌, ◌||◌, List, [], ◌∷◌, length, set, slice_get, Option, Some, None, refl, inl, inr, ◌⊎◌, sym, ap, ◌∙◌, subst, arith, eqb, ltb, length-set}
use Rattle.std.specs.List.{list_all}
use Rattle.std.proofs.lemmas.Bool.{and_parts, and_from, or_parts, or_from, or_cases, eqb-true, eqb-false, eq-eqb, ne_eqb, cases_eq, false≢true, not-true}
use Rattle.std.proofs.lemmas.Option.{slice_get_within}
use Rattle.ilk_base.specs.Option.{is_some_and, then_some}
use Rattle.ilk_base.proofs.Lists.{slice_get-set_same, slice_get-set_other, same_by_slice_get}
use Rattle.ilk_ir.specs.Tree.{tree_holds, tree_valid, is_value_of_var, value_valid}
use Rattle.ilk_ir.specs.System.{PlainRule, rule_valid, sets_distinct_vars, after_settings, after_rule, in_ranges}
use Rattle.ilk_ir.specs.declared.system.Setting.{Setting}
use Rattle.ilk_step.specs.Frame.{sets_variable}
use Rattle.ilk_ir.proofs.Ranges.{in_ranges-length}

abbrev pub kept : (ℕ → Bool) → ℕ → List ℕ → List ℕ → Bool
kept is_set v [] [] = true
kept is_set v [] (x ∷ xs) = false
kept is_set v (w ∷ ws) [] = false
kept is_set v (w ∷ ws) (x ∷ xs) = (is_set v || w == x) && kept is_set (v + 1) ws xs

abbrev pub rule_met : List ℕ → List ℕ → PlainRule → Bool
rule_met ws xs r = tree_holds ws r.guard && list_all (λ s. is_value_of_var xs s.var s.value) r.sets

pub kept-congr : (p q : ℕ → Bool) (v : ℕ) (ws xs : List ℕ) → ((u : ℕ) → p u ≡ q u) → kept p v ws xs ≡ kept q v ws xs
kept-congr p q v [] [] h = refl
kept-congr p q v [] (x ∷ xs) h = refl
kept-congr p q v (w ∷ ws) [] h = refl
kept-congr p q v (w ∷ ws) (x ∷ xs) h = let here = h v in let rest = kept-congr p q (v + 1) ws xs h in rw (here, rest) refl

kept-at : (p : ℕ → Bool) (v : ℕ) (ws xs : List ℕ) (i : ℕ) → kept p v ws xs ≡ true → p (v + i) ≡ false → slice_get ws i ≡ slice_get xs i
kept-at p v [] [] i h k = refl
kept-at p v [] (x ∷ xs) i h k = absurd (false≢true h)
kept-at p v (w ∷ ws) [] i h k = absurd (false≢true h)
kept-at p v (w ∷ ws) (x ∷ xs) zero h k =
    let here : v + 0 ≡ v = omega arith in
    let unset : p v ≡ false = ap p (sym here) ∙ k in
    elim (or_cases _ _ (and_parts _ _ h).0) [
      | inl is ↦ absurd (false≢true (sym unset ∙ is))
      | inr same ↦ ap Some (eqb-true w x same)
    ]
kept-at p v (w ∷ ws) (x ∷ xs) (suc i) h k =
    let next : v + suc i ≡ v + 1 + i = omega arith in
    kept-at p (v + 1) ws xs i (and_parts _ _ h).1 (ap p (sym next) ∙ k)

kept-from : (p : ℕ → Bool) (v : ℕ) (ws xs : List ℕ) → length ws ≡ length xs → ((i : ℕ) → p (v + i) ≡ false → slice_get ws i ≡ slice_get xs i) → kept p v ws xs ≡ true
kept-from p v [] [] long h = refl
kept-from p v [] (x ∷ xs) long h = absurd (omega arith)
kept-from p v (w ∷ ws) [] long h = absurd (omega arith)
kept-from p v (w ∷ ws) (x ∷ xs) long h =
    and_from _ _ (by_case (p v) refl) (kept-from p (v + 1) ws xs (omega arith) (λ i k. let next : v + suc i ≡ v + 1 + i = omega arith in h (suc i) (ap p next ∙ k)))
  where
    by_case : (b : Bool) → p v ≡ b → (b || w == x) ≡ true
    by_case true k = refl
    by_case false k =
        let here : v + 0 ≡ v = omega arith in
        let same : Some w ≡ Some x = h 0 (ap p here ∙ k) in
        eq-eqb w x cc

pub length-after_settings : (sets : List Setting) (ws : List ℕ) → length (after_settings ws sets) ≡ length ws
length-after_settings [] ws = refl
length-after_settings (s ∷ sets) ws = length-after_settings sets (set ws s.var s.value) ∙ length-set ws s.var s.value

unset-at : (sets : List Setting) (ws : List ℕ) (v : ℕ) → sets_variable v sets ≡ false → slice_get (after_settings ws sets) v ≡ slice_get ws v
unset-at [] ws v h = refl
unset-at (s ∷ sets) ws v h =
    let parts = or_parts _ _ h in
    unset-at sets (set ws s.var s.value) v parts.1 ∙ slice_get-set_other ws s.var v s.value (eqb-false s.var v parts.0)

has_value-at : (xs : List ℕ) (v c : ℕ) → is_value_of_var xs v c ≡ true → slice_get xs v ≡ Some c
has_value-at xs v c h = by_case (slice_get xs v) refl h
  where
    by_case : (o : Option ℕ) → slice_get xs v ≡ o → is_some_and o (λ x. x == c) ≡ true → slice_get xs v ≡ Some c
    by_case None is k = absurd (false≢true k)
    by_case (Some x) is k = is ∙ ap Some (eqb-true x c k)

met-at : (sets : List Setting) (ws xs : List ℕ) (v : ℕ) → length ws ≡ length xs →
    list_all (λ s. is_value_of_var xs s.var s.value) sets ≡ true →
    (sets_variable v sets ≡ false → slice_get ws v ≡ slice_get xs v) →
    slice_get (after_settings ws sets) v ≡ slice_get xs v
met-at [] ws xs v long met same = same refl
met-at (s ∷ sets) ws xs v long met same =
    let parts = and_parts _ _ met in
    met-at sets (set ws s.var s.value) xs v (length-set ws s.var s.value ∙ long) parts.1 (λ none. by_case (cases_eq s.var v) parts.0 none)
  where
    by_case : (s.var ≡ v) ⊎ (s.var ≡ v → ⊥) → is_value_of_var xs s.var s.value ≡ true → sets_variable v sets ≡ false → slice_get (set ws s.var s.value) v ≡ slice_get xs v
    by_case (inl e) here none =
        let at : slice_get xs s.var ≡ Some s.value = has_value-at xs s.var s.value here in
        let less : s.var < length xs = slice_get_within xs s.var s.value at in
        let put : slice_get (set ws s.var s.value) s.var ≡ Some s.value = slice_get-set_same ws s.var s.value (omega (arith, long, less)) in
        subst (λ (u : ℕ). slice_get (set ws s.var s.value) u ≡ slice_get xs u) e (put ∙ sym at)
    by_case (inr ne) here none =
        let away : eqb s.var v ≡ false = ne_eqb s.var v ne in
        slice_get-set_other ws s.var v s.value ne ∙ same (or_from _ _ away none)

value_valid-within : (ranges : List ℕ) (v c : ℕ) → value_valid ranges v c ≡ true → v < length ranges
value_valid-within ranges v c h = by_case (slice_get ranges v) refl h
  where
    by_case : (o : Option ℕ) → slice_get ranges v ≡ o → is_some_and o (λ range. ltb c range) ≡ true → v < length ranges
    by_case None is k = absurd (false≢true k)
    by_case (Some range) is k = slice_get_within ranges v range is

settings-met : (sets : List Setting) (ws ranges : List ℕ) → length ws ≡ length ranges → list_all (λ s. value_valid ranges s.var s.value) sets ≡ true → sets_distinct_vars sets ≡ true
    → list_all (λ s. is_value_of_var (after_settings ws sets) s.var s.value) sets ≡ true
settings-met [] ws ranges long valid apart = refl
settings-met (s ∷ sets) ws ranges long valid apart =
    let valids = and_parts _ _ valid in
    let aparts = and_parts _ _ apart in
    let next = set ws s.var s.value in
    let less : s.var < length ranges = value_valid-within ranges s.var s.value valids.0 in
    let here : slice_get (after_settings next sets) s.var ≡ Some s.value = unset-at sets next s.var (not-true _ aparts.0) ∙ slice_get-set_same ws s.var s.value (omega (arith, long, less)) in
    let says : is_value_of_var (after_settings next sets) s.var s.value ≡ true = ap (λ (o : Option ℕ). is_some_and o (λ x. x == s.value)) here ∙ eq-eqb s.value s.value refl in
    and_from _ _ says (settings-met sets next ranges (length-set ws s.var s.value ∙ long) valids.1 aparts.1)

pub met-after_rule : (r : PlainRule) (ws xs ranges : List ℕ) → in_ranges ws ranges ≡ true → in_ranges xs ranges ≡ true → rule_met ws xs r ≡ true → kept (λ v. sets_variable v r.sets) 0 ws xs ≡ true → after_rule r ws ≡ Some xs
met-after_rule r ws xs ranges now next met keeps =
    let parts = and_parts (tree_holds ws r.guard) (list_all (λ (s : Setting). is_value_of_var xs s.var s.value) r.sets) met in
    let long : length ws ≡ length xs = in_ranges-length ws ranges now ∙ sym (in_ranges-length xs ranges next) in
    let same : after_settings ws r.sets ≡ xs = same_by_slice_get (after_settings ws r.sets) xs
    (λ i. met-at r.sets ws xs i long parts.1
    (λ none. kept-at (λ v. sets_variable v r.sets) 0 ws xs i keeps
    (let z : 0 + i ≡ i = omega arith in ap (λ (u : ℕ). sets_variable u r.sets) z ∙ none))) in
    ap (λ (b : Bool). then_some b (after_settings ws r.sets)) parts.0 ∙ ap Some same

pub after_rule-met : (r : PlainRule) (ws xs ranges : List ℕ) → in_ranges ws ranges ≡ true → rule_valid ranges r ≡ true → after_rule r ws ≡ Some xs → (rule_met ws xs r ≡ true) × (kept (λ v. sets_variable v r.sets) 0 ws xs ≡ true)
after_rule-met r ws xs ranges now valid is = by_case (tree_holds ws r.guard) refl is
  where
    by_case : (b : Bool) → tree_holds ws r.guard ≡ b → then_some b (after_settings ws r.sets) ≡ Some xs → (rule_met ws xs r ≡ true) × (kept (λ v. sets_variable v r.sets) 0 ws xs ≡ true)
    by_case false holds k = absurd cc
    by_case true holds k =
        let parts = and_parts (tree_valid ranges r.guard && list_all (λ (s : Setting). value_valid ranges s.var s.value) r.sets) (sets_distinct_vars r.sets) valid in
        let sets_valid = (and_parts (tree_valid ranges r.guard) (list_all (λ (s : Setting). value_valid ranges s.var s.value) r.sets) parts.0).1 in
        let same : after_settings ws r.sets ≡ xs = cc in
        let met = settings-met r.sets ws ranges (in_ranges-length ws ranges now) sets_valid parts.1 in
        let keeps : kept (λ v. sets_variable v r.sets) 0 ws (after_settings ws r.sets) ≡ true = kept-from
        (λ v. sets_variable v r.sets) 0 ws (after_settings ws r.sets) (sym (length-after_settings r.sets ws))
        (λ i none. let z : 0 + i ≡ i = omega arith in
        sym (unset-at r.sets ws i (ap (λ (u : ℕ). sets_variable u r.sets) (sym z) ∙ none))) in (
          and_from _ _ holds (subst (λ (ys : List ℕ). list_all (λ s. is_value_of_var ys s.var s.value) r.sets ≡ true) same met),
          subst (λ (ys : List ℕ). kept (λ v. sets_variable v r.sets) 0 ws ys ≡ true) same keeps,
        )
