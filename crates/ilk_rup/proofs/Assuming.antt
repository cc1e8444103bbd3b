use Rattle.std.proofs.Common.{◌≡◌, ◌+◌, ◌++◌, ◌∷◌, [], ℕ, inl, inr, true, Bool, List, Some, length, take, sym, ap, ◌∙◌, subst, arith, add-one}
use Rattle.std.specs.Prelude.{slice_get}
use Rattle.std.specs.List.{filter}
use Rattle.std.proofs.lemmas.List.{take-append-le}
use Rattle.std.proofs.lemmas.List.Elements.{filter-append}
use Rattle.ilk_base.proofs.Lists.{slice_get-push_cases}
use Rattle.ilk_cnf.specs.Literal.{Literal, negated_lit, has_lit, has_var}
use Rattle.ilk_cnf.proofs.Gates.{negated_lit-negated_lit}
use Rattle.ilk_cnf.proofs.SameLiterals.{has-var}
use Rattle.ilk_trail.specs.declared.entry.Entry.{Entry}
use Rattle.ilk_trail.specs.Trail.{level_of}
use Rattle.ilk_trail.specs.Laws.{is_set, lits_of}
use Rattle.ilk_trail.proofs.Levels.{last_level_or-push}
use Rattle.ilk_trail.proofs.Entries.{lits_of-push}
use Rattle.ilk_learn.proofs.Latest.{take-one-more}
use Rattle.ilk_watches.proofs.Entries.{length-kept}
use Rattle.ilk_learn.proofs.Members.{var-of}
use Rattle.ilk_rup.specs.Needs.{TrailAssumesNegatedLit, known, new_one, TrailAssumesNegatedLits}
use Rattle.ilk_rup.proofs.Needing.{push-old, push-new, pushed-lit}

set-pushed : (es : List Entry) (e : Entry) (v : ℕ) → is_set es v ≡ true → is_set (es ++ e ∷ []) v ≡ true
set-pushed es e v h =
    let x = var-of (lits_of es) v h in
    ap (λ (w : ℕ). has_var w (lits_of (es ++ e ∷ []))) (sym x.1) ∙ has-var x.0 (lits_of (es ++ e ∷ [])) (ap (has_lit x.0) (lits_of-push es e) ∙ push-old (lits_of es) e.lit x.0 x.2)

set-new : (es : List Entry) (e : Entry) → is_set (es ++ e ∷ []) e.lit.var ≡ true
set-new es e = has-var e.lit (lits_of (es ++ e ∷ [])) (ap (has_lit e.lit) (lits_of-push es e) ∙ push-new (lits_of es) e.lit)

pub assumed-next : (set : List Literal) (old mid new : List Entry) (l : Literal) → TrailAssumesNegatedLits set old mid → TrailAssumesNegatedLit l mid new → TrailAssumesNegatedLits (set ++ l ∷ []) old new
assumed-next set old mid new l k (known e h) =
    let P : List Entry → Type 0 = λ xs. TrailAssumesNegatedLits (set ++ l ∷ []) old xs in
    subst P (sym e) (record {
      kept = k.kept;
      levels = λ i x le s. (let v = k.levels i x le s in (v.0, v.1, push-old set l (negated_lit x.lit) v.2));
      low = k.low;
      covered = λ m q. elim (pushed-lit set l m q) [ inl t ↦ k.covered m t | inr is ↦ ap (λ (x : Literal). is_set mid x.var) is ∙ h ];
    })
assumed-next set old mid new l k (new_one e is lit level) =
    let P : List Entry → Type 0 = λ xs. TrailAssumesNegatedLits (set ++ l ∷ []) old xs in
    let now : level_of (mid ++ e ∷ []) ≡ e.level = last_level_or-push 0 mid e in
    subst P (sym is) (record {
      kept = take-append-le (length old) mid (e ∷ []) (length-kept old mid k.kept) ∙ k.kept;
      levels = λ i x le s. elim (slice_get-push_cases mid e x i s) [
        | inl p ↦ (let v = k.levels i x le p in (v.1 ∙ sym (now ∙ level), v.1, push-old set l (negated_lit x.lit) v.2))
        | inr p ↦ (let Q : Entry → Type 0 = λ y. (y.level ≡ level_of (mid ++ e ∷ [])) × (y.level ≡ 1) × (has_lit (negated_lit y.lit) (set ++ l ∷ []) ≡ true) in
            subst Q p.1 (sym now, level, ap (λ (y : Literal). has_lit y (set ++ l ∷ [])) (ap negated_lit lit ∙ negated_lit-negated_lit l) ∙ push-new set l))
      ];
      low = omega (arith, now, level);
      covered = λ m q. elim (pushed-lit set l m q) [
        | inl t ↦ set-pushed mid e m.var (k.covered m t)
        | inr t ↦ ap (λ (v : ℕ). is_set (mid ++ e ∷ []) v) (ap (λ (x : Literal). x.var) t ∙ sym (ap (λ (x : Literal). x.var) lit)) ∙ set-new mid e
      ];
    })

pub filter-more : (p : Literal → Bool) (ls : List Literal) (i : ℕ) (l : Literal) → slice_get ls i ≡ Some l → filter p (take (i + 1) ls) ≡ filter p (take i ls) ++ filter p (l ∷ [])
filter-more p ls i l at = ap (λ (n : ℕ). filter p (take n ls)) (add-one i) ∙ ap (filter p) (take-one-more ls i l at) ∙ filter-append p (take i ls) (l ∷ [])
