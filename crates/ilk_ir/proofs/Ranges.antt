-- Firing a rule of a valid system keeps values in range.
use Rattle.std.proofs.Common.{◌≡◌, ℕ, zero, suc, true, List, [], ◌∷◌, Some, slice_get, set, sym, ◌∙◌, length, ap, refl}
use Rattle.std.specs.List.{list_all}
use Rattle.std.proofs.lemmas.Bool.{and_parts, and_from, false≢true}
use Rattle.std.proofs.lemmas.List.Folds.{list_all-map}
use Rattle.ilk_ir.specs.Tree.{value_valid}
use Rattle.ilk_ir.specs.System.{plain_rule, plain_system, rule_valid, system_valid, in_ranges, after_settings}
use Rattle.ilk_ir.specs.declared.system.Setting.{Setting}
use Rattle.ilk_ir.specs.declared.system.Rule.{Rule}
use Rattle.ilk_ir.specs.declared.system.System.{System}
use Rattle.ilk_base.proofs.Tested.{list_all-slice_get}

pub in_ranges-set : (values ranges : List ℕ) (v c : ℕ) → in_ranges values ranges ≡ true → value_valid ranges v c ≡ true → in_ranges (set values v c) ranges ≡ true
in_ranges-set [] [] v c h k = absurd (false≢true k)
in_ranges-set [] (r ∷ ranges) v c h k = absurd (false≢true h)
in_ranges-set (x ∷ values) [] v c h k = absurd (false≢true h)
in_ranges-set (x ∷ values) (r ∷ ranges) zero c h k = and_from _ _ k (and_parts _ _ h).1
in_ranges-set (x ∷ values) (r ∷ ranges) (suc v) c h k =
    let parts = and_parts _ _ h in
    and_from _ _ parts.0 (in_ranges-set values ranges v c parts.1 k)

pub in_ranges-after_settings : (sets : List Setting) (values ranges : List ℕ) → in_ranges values ranges ≡ true → list_all (λ s. value_valid ranges s.var s.value) sets ≡ true → in_ranges (after_settings values sets) ranges ≡ true
in_ranges-after_settings [] values ranges h k = h
in_ranges-after_settings (s ∷ sets) values ranges h k =
    let parts = and_parts _ _ k in
    in_ranges-after_settings sets (set values s.var s.value) ranges (in_ranges-set values ranges s.var s.value h parts.0) parts.1

pub system_valid-rule : (s : System) (n : ℕ) (r : Rule) → system_valid (plain_system s) ≡ true → slice_get s.rules n ≡ Some r → rule_valid s.ranges (plain_rule r) ≡ true
system_valid-rule s n r valid at =
    let each = (and_parts _ _ valid).1 in
    list_all-slice_get (λ (q : Rule). rule_valid s.ranges (plain_rule q)) s.rules n r (sym (list_all-map (rule_valid s.ranges) plain_rule s.rules) ∙ each) at

pub fire-in_ranges : (s : System) (n : ℕ) (r : Rule) (values : List ℕ) → slice_get s.rules n ≡ Some r → system_valid (plain_system s) ≡ true → in_ranges values s.ranges ≡ true → in_ranges (after_settings values r.sets) s.ranges ≡ true
fire-in_ranges s n r values at valid h =
    let rule = system_valid-rule s n r valid at in
    in_ranges-after_settings r.sets values s.ranges h (and_parts _ _ (and_parts _ _ rule).0).1

pub in_ranges-length : (ws ranges : List ℕ) → in_ranges ws ranges ≡ true → length ws ≡ length ranges
in_ranges-length [] [] h = refl
in_ranges-length [] (r ∷ ranges) h = absurd (false≢true h)
in_ranges-length (w ∷ ws) [] h = absurd (false≢true h)
in_ranges-length (w ∷ ws) (r ∷ ranges) h = ap suc (in_ranges-length ws ranges (and_parts _ _ h).1)
