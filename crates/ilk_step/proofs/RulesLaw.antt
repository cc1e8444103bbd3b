-- The guard of a chosen rule holds in the current copy, and its settings are in the next.
use Rattle.std.proofs.Common.{◌≡◌, ℕ, ◌+◌, ◌<◌, ◌≤◌, zero, suc, Bool, true, false, not, ◌&&◌, ◌||◌, List, [], ◌∷◌, ◌++◌, length, map, slice_get, Some, refl, sym, ap, ◌∙◌, subst, arith, eqb}
use Rattle.std.proofs.Math.Bool.{and-true, or-true}
use Rattle.std.specs.List.{list_all}
use Rattle.std.proofs.lemmas.List.{append-nil}
use Rattle.std.proofs.lemmas.List.Folds.{list_all-append}
use Rattle.std.proofs.lemmas.Bool.{and_parts, and_from, lt-ltb, le-leb, leb-true, eq-eqb, ne_eqb}
use Rattle.ilk_base.proofs.Lengths.{longer}
use Rattle.ilk_cnf.specs.Literal.{Literal, positive_lit}
use Rattle.ilk_cnf.specs.Formula.{is_clause_over}
use Rattle.ilk_cnf.specs.Truth.{value, is_true}
use Rattle.ilk_cnf.specs.Extends.{ExtensionsAreExactly, PassesAndEqualsGivenValues}
use Rattle.ilk_cnf.specs.Part.{FormulaPart, and_then}
use Rattle.ilk_cnf.proofs.Literals.{is_clause_over-more, are_clauses_over-more}
use Rattle.ilk_cnf.proofs.Parts.{value-left, is_true-left}
use Rattle.ilk_cnf.proofs.Extending.{no_more_if, if_then_if}
use Rattle.ilk_ints.specs.Named.{one_hot_bits}
use Rattle.ilk_ir.specs.Tree.{is, tree_holds, tree_valid, value_valid, is_value_of_var}
use Rattle.ilk_ir.specs.System.{PlainRule, rule_valid, sets_distinct_vars}
use Rattle.ilk_ir.specs.declared.system.Setting.{Setting}
use Rattle.ilk_forms.specs.declared.copy.VarValueAndBoundLits.{VarValueAndBoundLits}
use Rattle.ilk_forms.specs.Leaf.{has_lits_within_vars, ranges_of_copy_lits}
use Rattle.ilk_forms.specs.Demand.{some_lit_or_form_part, some_lit_or_form_bits}
use Rattle.ilk_forms.proofs.Reading.{Reads, reads-more, has_lits_within_vars-more}
use Rattle.ilk_forms.proofs.DemandLaw.{PartFits, some_lit_or_form-fits, some_lit_or_form-law}
use Rattle.ilk_step.specs.Choice.{chosen_lits}
use Rattle.ilk_step.specs.Rules.{settings_unless_skipped_part, rule_unless_skipped_part, rules_part, rules_bits}
use Rattle.ilk_step.proofs.ChoiceLaw.{turned}
use Rattle.ilk_step.proofs.Firing.{rule_met}

pub then-fits : (n : ℕ) (p : FormulaPart) (q : ℕ → FormulaPart) → PartFits n p → PartFits p.vars (q p.vars) → PartFits n (and_then p q)
then-fits n p q one two =
    let first = one.low in
    let next = two.low in
    record {
      low = omega arith;
      inside = list_all-append (is_clause_over (q p.vars).vars) p.clauses (q p.vars).clauses ∙ and_from _ _ (are_clauses_over-more p.vars (q p.vars).vars p.clauses next one.inside) two.inside;
    }

pub then-law : (a e d : List Bool) (o ok : Bool) (n : ℕ) (p : FormulaPart) (q : ℕ → FormulaPart) → length a ≡ n →
    PartFits n p → PartFits p.vars (q p.vars) → ExtensionsAreExactly a p.vars p.clauses (PassesAndEqualsGivenValues o e) →
    (length (a ++ e) ≡ p.vars → ExtensionsAreExactly (a ++ e) (q p.vars).vars (q p.vars).clauses (PassesAndEqualsGivenValues ok d)) →
    ExtensionsAreExactly a (and_then p q).vars (and_then p q).clauses (PassesAndEqualsGivenValues (o && ok) (e ++ d))
then-law a e d o ok n p q size one two first next =
    if_then_if a e d o ok p.vars (q p.vars).vars p.clauses (q p.vars).clauses (rw size one.low) two.low one.inside first (λ yes. next (first.sized e (yes, refl)))

abbrev pub settings_valid : List ℕ → List Setting → Bool
settings_valid ranges sets = list_all (λ s. value_valid ranges s.var s.value) sets

pub rule_valid-guard : (ranges : List ℕ) (r : PlainRule) → rule_valid ranges r ≡ true → tree_valid ranges r.guard ≡ true
rule_valid-guard ranges r h = (and_parts (tree_valid ranges r.guard) (settings_valid ranges r.sets) (and_parts (tree_valid ranges r.guard && settings_valid ranges r.sets) (sets_distinct_vars r.sets) h).0).0

pub rule_valid-settings : (ranges : List ℕ) (r : PlainRule) → rule_valid ranges r ≡ true → settings_valid ranges r.sets ≡ true
rule_valid-settings ranges r h = (and_parts (tree_valid ranges r.guard) (settings_valid ranges r.sets) (and_parts (tree_valid ranges r.guard && settings_valid ranges r.sets) (sets_distinct_vars r.sets) h).0).1

same : (n : ℕ) → n ≤ n
same n = omega arith

pub settings-fits : (sets : List Setting) (next : List VarValueAndBoundLits) (skip : Literal) (n : ℕ) → has_lits_within_vars n next ≡ true → is_clause_over n (skip ∷ []) ≡ true → settings_valid (ranges_of_copy_lits next) sets ≡ true →
    PartFits n (settings_unless_skipped_part next skip sets n)
settings-fits [] next skip n h f k = record { low = same n; inside = refl }
settings-fits (s ∷ sets) next skip n h f k =
    let parts = and_parts (value_valid (ranges_of_copy_lits next) s.var s.value) (settings_valid (ranges_of_copy_lits next) sets) k in
    then-fits n (some_lit_or_form_part next (skip ∷ []) (is s.var s.value) n) (settings_unless_skipped_part next skip sets) (some_lit_or_form-fits (is s.var s.value) next (skip ∷ []) n h f parts.0) (settings-fits sets next skip n h f parts.1)

pub rule-fits : (r : PlainRule) (now next : List VarValueAndBoundLits) (skip : Literal) (n : ℕ) → has_lits_within_vars n now ≡ true →
    has_lits_within_vars n next ≡ true → ranges_of_copy_lits next ≡ ranges_of_copy_lits now → is_clause_over n (skip ∷ []) ≡ true →
    rule_valid (ranges_of_copy_lits now) r ≡ true → PartFits n (rule_unless_skipped_part now next skip r n)
rule-fits r now next skip n hn hx same_ranges f k =
    let p = some_lit_or_form_part now (skip ∷ []) r.guard n in
    let one = some_lit_or_form-fits r.guard now (skip ∷ []) n hn f (rule_valid-guard (ranges_of_copy_lits now) r k) in
    let sets : settings_valid (ranges_of_copy_lits next) r.sets ≡ true = ap (λ (u : List ℕ). settings_valid u r.sets) same_ranges ∙ rule_valid-settings (ranges_of_copy_lits now) r k in
    then-fits n p (settings_unless_skipped_part next skip r.sets) one (settings-fits r.sets next skip p.vars (has_lits_within_vars-more n p.vars next one.low hx) (is_clause_over-more n p.vars (skip ∷ []) one.low f) sets)

pub skip-in : (k n : ℕ) → 0 < k → k ≤ n → is_clause_over n (positive_lit k ∷ []) ≡ true
skip-in k n low high = and_from _ _ (and_from _ _ (lt-ltb 0 k low) (le-leb k n high)) refl

pub rules-fits : (rs : List PlainRule) (now next : List VarValueAndBoundLits) (k n : ℕ) → has_lits_within_vars n now ≡ true →
    has_lits_within_vars n next ≡ true → ranges_of_copy_lits next ≡ ranges_of_copy_lits now → 0 < k → k + length rs ≤ n + 1 →
    list_all (rule_valid (ranges_of_copy_lits now)) rs ≡ true → PartFits n (rules_part now next k rs n)
rules-fits [] now next k n hn hx same_ranges low high valid = record { low = same n; inside = refl }
rules-fits (r ∷ rs) now next k n hn hx same_ranges low high valid =
    let parts = and_parts (rule_valid (ranges_of_copy_lits now) r) (list_all (rule_valid (ranges_of_copy_lits now)) rs) valid in
    let p = rule_unless_skipped_part now next (positive_lit k) r n in
    let one = rule-fits r now next (positive_lit k) n hn hx same_ranges (skip-in k n low (omega arith)) parts.0 in
    let grows = one.low in
    then-fits n p (rules_part now next (k + 1) rs) one (rules-fits rs now next (k + 1) p.vars (has_lits_within_vars-more n p.vars now grows hn) (has_lits_within_vars-more n p.vars next grows hx) same_ranges (omega arith) (omega arith) parts.1)

also : (x h rest : Bool) → (((x || false) || h) && (x || rest)) ≡ (x || (h && rest))
also true h rest = refl
also false h rest = refl

pub settings-law :
    (sets : List Setting) (next : List VarValueAndBoundLits) (ranges xs : List ℕ) (skip : Literal) (a : List Bool) (n : ℕ) →
    length a ≡ n → Reads a next ranges xs → has_lits_within_vars n next ≡ true → is_clause_over n (skip ∷ []) ≡ true →
    settings_valid (ranges_of_copy_lits next) sets ≡ true →
    ExtensionsAreExactly a (settings_unless_skipped_part next skip sets n).vars (settings_unless_skipped_part next skip sets n).clauses
    (PassesAndEqualsGivenValues (is_true a skip || list_all (λ s. is_value_of_var xs s.var s.value) sets) [])
settings-law [] next ranges xs skip a n size r h f k = no_more_if a n [] (is_true a skip || true) size (sym (or-true (is_true a skip)))
settings-law (s ∷ sets) next ranges xs skip a n size r h f k =
    let parts = and_parts (value_valid (ranges_of_copy_lits next) s.var s.value) (settings_valid (ranges_of_copy_lits next) sets) k in
    let p = some_lit_or_form_part next (skip ∷ []) (is s.var s.value) n in
    let rest = settings_unless_skipped_part next skip sets n in
    let x = is_true a skip in
    let here = is_value_of_var xs s.var s.value in
    let others = list_all (λ (t : Setting). is_value_of_var xs t.var t.value) sets in
    let law = settings-law sets next ranges xs skip a n size r h f parts.1 in
    let moved : ExtensionsAreExactly (a ++ []) rest.vars rest.clauses (PassesAndEqualsGivenValues (x || others) []) = subst
    (λ (u : List Bool). ExtensionsAreExactly u rest.vars rest.clauses (PassesAndEqualsGivenValues (x || others) [])) (sym (append-nil a)) law in
    subst (λ (b : Bool). ExtensionsAreExactly a rest.vars (p.clauses ++ rest.clauses) (PassesAndEqualsGivenValues b [])) (also x here others)
    (then-law a [] [] ((x || false) || here) (x || others) n p (settings_unless_skipped_part next skip sets) size
    (some_lit_or_form-fits (is s.var s.value) next (skip ∷ []) n h f parts.0)
    (settings-fits sets next skip n h f parts.1)
    (some_lit_or_form-law (is s.var s.value) next ranges xs (skip ∷ []) a n size r f parts.0)
    (λ _. moved))

pub rule-law :
    (r : PlainRule) (now next : List VarValueAndBoundLits) (ws xs : List ℕ) (skip : Literal) (a : List Bool) (n : ℕ) →
    length a ≡ n → Reads a now (ranges_of_copy_lits now) ws → Reads a next (ranges_of_copy_lits now) xs →
    has_lits_within_vars n now ≡ true → has_lits_within_vars n next ≡ true → ranges_of_copy_lits next ≡ ranges_of_copy_lits now →
    is_clause_over n (skip ∷ []) ≡ true → rule_valid (ranges_of_copy_lits now) r ≡ true →
    ExtensionsAreExactly a (rule_unless_skipped_part now next skip r n).vars (rule_unless_skipped_part now next skip r n).clauses
    (PassesAndEqualsGivenValues (is_true a skip || rule_met ws xs r) (some_lit_or_form_bits now (skip ∷ []) r.guard a))
rule-law r now next ws xs skip a n size rn rx hn hx same_ranges f k =
    let p = some_lit_or_form_part now (skip ∷ []) r.guard n in
    let e = some_lit_or_form_bits now (skip ∷ []) r.guard a in
    let m = p.vars in
    let rest = settings_unless_skipped_part next skip r.sets m in
    let x = is_true a skip in
    let guard_valid = rule_valid-guard (ranges_of_copy_lits now) r k in
    let one = some_lit_or_form-fits r.guard now (skip ∷ []) n hn f guard_valid in
    let grows = one.low in
    let sets : settings_valid (ranges_of_copy_lits next) r.sets ≡ true = ap (λ (u : List ℕ). settings_valid u r.sets) same_ranges ∙ rule_valid-settings (ranges_of_copy_lits now) r k in
    let met = list_all (λ (s : Setting). is_value_of_var xs s.var s.value) r.sets in
    let next_in = has_lits_within_vars-more n m next grows hx in
    let skip_in = is_clause_over-more n m (skip ∷ []) grows f in
    let skip_var : skip.var ≤ length a = rw size (leb-true _ _ (and_parts _ _ (and_parts _ _ f).0).1) in
    let old : is_true (a ++ e) skip ≡ x = is_true-left a e skip skip_var in
    let second : length (a ++ e) ≡ m → ExtensionsAreExactly (a ++ e) rest.vars rest.clauses (PassesAndEqualsGivenValues (x || met) []) = λ long.
    subst (λ (b : Bool). ExtensionsAreExactly (a ++ e) rest.vars rest.clauses (PassesAndEqualsGivenValues (b || met) [])) old
    (settings-law r.sets next (ranges_of_copy_lits now) xs skip (a ++ e) m long (reads-more a e next (ranges_of_copy_lits now) xs (longer a e) rx) next_in skip_in sets) in
    let both = then-law a e [] ((x || false) || rule_guard) (x || met) n p (settings_unless_skipped_part next skip r.sets)
    size one (settings-fits r.sets next skip m next_in skip_in sets)
    (some_lit_or_form-law r.guard now (ranges_of_copy_lits now) ws (skip ∷ []) a n size rn f guard_valid) second in
    let said = subst (λ (b : Bool). ExtensionsAreExactly a rest.vars (p.clauses ++ rest.clauses) (PassesAndEqualsGivenValues b (e ++ []))) (also x rule_guard met) both in
    subst (λ (d : List Bool). ExtensionsAreExactly a rest.vars (p.clauses ++ rest.clauses) (PassesAndEqualsGivenValues (x || rule_met ws xs r) d)) (append-nil e) said
  where
    rule_guard : Bool
    rule_guard = tree_holds ws r.guard

abbrev pub all_met : List Bool → ℕ → List ℕ → List ℕ → List PlainRule → Bool
all_met a k ws xs [] = true
all_met a k ws xs (r ∷ rs) = (value a k || rule_met ws xs r) && all_met a (k + 1) ws xs rs

all_met-left : (rs : List PlainRule) (a e : List Bool) (k : ℕ) (ws xs : List ℕ) → k + length rs ≤ length a + 1 → all_met (a ++ e) k ws xs rs ≡ all_met a k ws xs rs
all_met-left [] a e k ws xs h = refl
all_met-left (r ∷ rs) a e k ws xs h =
    let here = value-left a e k (omega arith) in
    let rest = all_met-left rs a e (k + 1) ws xs (omega arith) in
    rw (here, rest) refl

pub rules-law :
    (rs : List PlainRule) (now next : List VarValueAndBoundLits) (ws xs : List ℕ) (k : ℕ) (a : List Bool) (n : ℕ) →
    length a ≡ n → Reads a now (ranges_of_copy_lits now) ws → Reads a next (ranges_of_copy_lits now) xs →
    has_lits_within_vars n now ≡ true → has_lits_within_vars n next ≡ true → ranges_of_copy_lits next ≡ ranges_of_copy_lits now → 0 < k →
    k + length rs ≤ n + 1 → list_all (rule_valid (ranges_of_copy_lits now)) rs ≡ true →
    ExtensionsAreExactly a (rules_part now next k rs n).vars (rules_part now next k rs n).clauses
    (PassesAndEqualsGivenValues (all_met a k ws xs rs) (rules_bits now k rs a))
rules-law [] now next ws xs k a n size rn rx hn hx same_ranges low high valid = no_more_if a n [] true size refl
rules-law (r ∷ rs) now next ws xs k a n size rn rx hn hx same_ranges low high valid =
    let parts = and_parts (rule_valid (ranges_of_copy_lits now) r) (list_all (rule_valid (ranges_of_copy_lits now)) rs) valid in
    let p = rule_unless_skipped_part now next (positive_lit k) r n in
    let m = p.vars in
    let e = some_lit_or_form_bits now (positive_lit k ∷ []) r.guard a in
    let rest = rules_part now next (k + 1) rs m in
    let skip_in = skip-in k n low (omega arith) in
    let one = rule-fits r now next (positive_lit k) n hn hx same_ranges skip_in parts.0 in
    let grows = one.low in
    let now_in = has_lits_within_vars-more n m now grows hn in
    let next_in = has_lits_within_vars-more n m next grows hx in
    let fits : k + 1 + length rs ≤ m + 1 = omega arith in
    let more : 0 < k + 1 = omega arith in
    let old : all_met (a ++ e) (k + 1) ws xs rs ≡ all_met a (k + 1) ws xs rs = all_met-left rs a e (k + 1) ws xs (rw size (omega arith)) in
    let second : length (a ++ e) ≡ m → ExtensionsAreExactly (a ++ e) rest.vars rest.clauses (PassesAndEqualsGivenValues (all_met a (k + 1) ws xs rs) (rules_bits now (k + 1) rs (a ++ e))) = λ long.
    subst
    (λ (b : Bool). ExtensionsAreExactly (a ++ e) rest.vars rest.clauses (PassesAndEqualsGivenValues b (rules_bits now (k + 1) rs (a ++ e))))
    old
    (rules-law rs now next ws xs (k + 1) (a ++ e) m long
    (reads-more a e now (ranges_of_copy_lits now) ws (longer a e) rn)
    (reads-more a e next (ranges_of_copy_lits now) xs (longer a e) rx) now_in next_in same_ranges more fits
    parts.1) in
    then-law a e (rules_bits now (k + 1) rs (a ++ e)) (value a k || rule_met ws xs r)
    (all_met a (k + 1) ws xs rs) n p (rules_part now next (k + 1) rs) size one
    (rules-fits rs now next (k + 1) m now_in next_in same_ranges more fits parts.1)
    (rule-law r now next ws xs (positive_lit k) a n size rn rx hn hx same_ranges skip_in parts.0) second

none_met : (rs : List PlainRule) (a : List Bool) (k r u : ℕ) (ws xs : List ℕ) → map (is_true a) (chosen_lits k (length rs)) ≡ one_hot_bits r u (length rs) → r < u → all_met a k ws xs rs ≡ true
none_met [] a k r u ws xs h less = refl
none_met (rule ∷ rs) a k r u ws xs h less =
    let here : not (value a k) ≡ eqb r u = cc in
    let away : eqb r u ≡ false = ne_eqb r u (λ e. absurd (omega arith)) in
    let skipped : value a k ≡ true = turned (value a k) (eqb r u) here ∙ ap not away in
    let others : map (is_true a) (chosen_lits (k + 1) (length rs)) ≡ one_hot_bits r (u + 1) (length rs) = cc in
    let rest = none_met rs a (k + 1) r (u + 1) ws xs others (omega arith) in
    rw (skipped, rest) refl

pub one_met : (rs : List PlainRule) (a : List Bool) (k i u : ℕ) (rule : PlainRule) (ws xs : List ℕ) →
    map (is_true a) (chosen_lits k (length rs)) ≡ one_hot_bits (u + i) u (length rs) →
    slice_get rs i ≡ Some rule → all_met a k ws xs rs ≡ rule_met ws xs rule
one_met [] a k i u rule ws xs h at = absurd cc
one_met (r ∷ rs) a k zero u rule ws xs h at =
    let here : not (value a k) ≡ eqb (u + 0) u = cc in
    let one : eqb (u + 0) u ≡ true = eq-eqb (u + 0) u (omega arith) in
    let chosen : value a k ≡ false = turned (value a k) (eqb (u + 0) u) here ∙ ap not one in
    let others : map (is_true a) (chosen_lits (k + 1) (length rs)) ≡ one_hot_bits (u + 0) (u + 1) (length rs) = cc in
    let rest = none_met rs a (k + 1) (u + 0) (u + 1) ws xs others (omega arith) in
    let this : r ≡ rule = cc in
    rw (chosen, rest) (and-true (rule_met ws xs r)) ∙ ap (rule_met ws xs) this
one_met (r ∷ rs) a k (suc i) u rule ws xs h at =
    let here : not (value a k) ≡ eqb (u + suc i) u = cc in
    let away : eqb (u + suc i) u ≡ false = ne_eqb (u + suc i) u (λ e. absurd (omega arith)) in
    let skipped : value a k ≡ true = turned (value a k) (eqb (u + suc i) u) here ∙ ap not away in
    let others : map (is_true a) (chosen_lits (k + 1) (length rs)) ≡ one_hot_bits (u + suc i) (u + 1) (length rs) = cc in
    let next : u + suc i ≡ u + 1 + i = omega arith in
    let rest = one_met rs a (k + 1) i (u + 1) rule ws xs (others ∙ ap (λ (n : ℕ). one_hot_bits n (u + 1) (length rs)) next) at in
    rw skipped rest
