-- Rules are valid over the ranges of a plant if their conditions and settings are.
use Rattle.std.proofs.Common.{◌≡◌, ℕ, suc, Bool, true, ◌&&◌, Some, List, [], ◌∷◌, ◌++◌, map, slice_get, refl, ◌∙◌}
use Rattle.std.specs.List.{flat_map, list_all}
use Rattle.std.proofs.lemmas.Bool.{and_from}
use Rattle.std.proofs.lemmas.List.Folds.{list_all-append}
use Rattle.ilk_ir.specs.System.{PlainRule, rule_valid, sets_distinct_vars}
use Rattle.ilk_ir.specs.Tree.{Tree, tree_valid, value_valid}
use Rattle.ilk_ir.specs.declared.system.Setting.{Setting}
use Rattle.ilk_ir.proofs.Trees.{all_of-valid}
use Rattle.ilk_plant.specs.Plant.{PlantLists}
use Rattle.ilk_layout.specs.Variables.{ranges_of_plant}
use Rattle.ilk_behave.specs.Settings.{rule}
use Rattle.ilk_behave.proofs.SetOnce.{SetOnce, set_once-apart}

abbrev pub is_valid : PlantLists → Tree → Bool
is_valid p tree = tree_valid (ranges_of_plant p) tree

abbrev pub fits : PlantLists → Setting → Bool
fits p s = value_valid (ranges_of_plant p) s.var s.value

abbrev pub is_valid_rule : PlantLists → PlainRule → Bool
is_valid_rule p r = rule_valid (ranges_of_plant p) r

pub all-append : {X : Type 0} (f : X → Bool) (xs ys : List X) → list_all f xs ≡ true → list_all f ys ≡ true → list_all f (xs ++ ys) ≡ true
all-append f xs ys h k = list_all-append f xs ys ∙ and_from (list_all f xs) (list_all f ys) h k

pub all-cons : {X : Type 0} (f : X → Bool) (x : X) (xs : List X) → f x ≡ true → list_all f xs ≡ true → list_all f (x ∷ xs) ≡ true
all-cons f x xs h k = and_from (f x) (list_all f xs) h k

pub all-map : {X Y : Type 0} (f : Y → Bool) (g : X → Y) (xs : List X) → ((i : ℕ) (x : X) → slice_get xs i ≡ Some x → f (g x) ≡ true) → list_all f (map g xs) ≡ true
all-map f g [] each = refl
all-map f g (x ∷ xs) each = all-cons f (g x) (map g xs) (each 0 x refl) (all-map f g xs (λ i y at. each (suc i) y at))

pub all-flat_map : {X Y : Type 0} (f : Y → Bool) (g : X → List Y) (xs : List X) → ((i : ℕ) (x : X) → slice_get xs i ≡ Some x → list_all f (g x) ≡ true) → list_all f (flat_map g xs) ≡ true
all-flat_map f g [] each = refl
all-flat_map f g (x ∷ xs) each = all-append f (g x) (flat_map g xs) (each 0 x refl) (all-flat_map f g xs (λ i y at. each (suc i) y at))

pub rule-valid : (p : PlantLists) (conditions : List Tree) (sets : List Setting) → list_all (is_valid p) conditions ≡ true → list_all (fits p) sets ≡ true → SetOnce sets → is_valid_rule p (rule conditions sets) ≡ true
rule-valid p conditions sets h k once =
    and_from (tree_valid (ranges_of_plant p) (rule conditions sets).guard && list_all (fits p) sets)
    (sets_distinct_vars sets)
    (and_from (tree_valid (ranges_of_plant p) (rule conditions sets).guard) (list_all (fits p) sets)
    (all_of-valid (ranges_of_plant p) conditions ∙ h) k)
    (set_once-apart sets once)

pub one_rule-valid : (p : PlantLists) (r : PlainRule) → is_valid_rule p r ≡ true → list_all (is_valid_rule p) (r ∷ []) ≡ true
one_rule-valid p r h = all-cons (is_valid_rule p) r [] h refl

pub two_rules-valid : (p : PlantLists) (r q : PlainRule) → is_valid_rule p r ≡ true → is_valid_rule p q ≡ true → list_all (is_valid_rule p) (r ∷ q ∷ []) ≡ true
two_rules-valid p r q h k = all-cons (is_valid_rule p) r (q ∷ []) h (one_rule-valid p q k)
