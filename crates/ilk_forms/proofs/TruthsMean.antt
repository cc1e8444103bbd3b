-- All (or some) of a list of forms are as required exactly if their And (or Or) is.
use Rattle.std.proofs.Common.{◌≡◌, ℕ, Bool, true, false, not, ◌&&◌, ◌||◌, List, [], ◌++◌, cond, refl, ap, ◌∙◌}
use Rattle.std.proofs.lemmas.List.Folds.{list_all-append, list_any-append}
use Rattle.ilk_ir.specs.Tree.{Trees, none, more, tree_holds, each_holds, some_holds}
use Rattle.ilk_forms.specs.Gates.{bools_are_equal}
use Rattle.ilk_forms.proofs.GatesLaw.{gate_truth}

abbrev pub both_or_one : Bool → Bool → Bool → Bool
both_or_one all p q = cond all (p && q) (p || q)

abbrev pub forms_are : List ℕ → Bool → Bool → Trees → Bool
forms_are ws all positive none = all
forms_are ws all positive (more t ts) = both_or_one all (bools_are_equal positive (tree_holds ws t)) (forms_are ws all positive ts)

pub gate_truth-append : (all : Bool) (ps qs : List Bool) → gate_truth all (ps ++ qs) ≡ both_or_one all (gate_truth all ps) (gate_truth all qs)
gate_truth-append true ps qs = list_all-append (λ (q : Bool). q) ps qs
gate_truth-append false ps qs = list_any-append (λ (q : Bool). q) ps qs

pub none_means : (all : Bool) → gate_truth all [] ≡ all
none_means true = refl
none_means false = refl

pub all-are : (ws : List ℕ) (positive : Bool) (ts : Trees) → forms_are ws positive positive ts ≡ bools_are_equal positive (each_holds ws ts)
all-are ws true none = refl
all-are ws false none = refl
all-are ws true (more t ts) = ap (λ (b : Bool). tree_holds ws t && b) (all-are ws true ts)
all-are ws false (more t ts) = ap (λ (b : Bool). not (tree_holds ws t) || b) (all-are ws false ts) ∙ apart (tree_holds ws t) (each_holds ws ts)
  where
    apart : (p q : Bool) → (not p || not q) ≡ not (p && q)
    apart true q = refl
    apart false q = refl

pub some-are : (ws : List ℕ) (positive : Bool) (ts : Trees) → forms_are ws (not positive) positive ts ≡ bools_are_equal positive (some_holds ws ts)
some-are ws true none = refl
some-are ws false none = refl
some-are ws true (more t ts) = ap (λ (b : Bool). tree_holds ws t || b) (some-are ws true ts)
some-are ws false (more t ts) = ap (λ (b : Bool). not (tree_holds ws t) && b) (some-are ws false ts) ∙ apart (tree_holds ws t) (some_holds ws ts)
  where
    apart : (p q : Bool) → (not p && not q) ≡ not (p || q)
    apart true q = refl
    apart false q = refl

pub constant : (positive : Bool) → positive ≡ bools_are_equal positive true
constant true = refl
constant false = refl

pub other_constant : (positive : Bool) → not positive ≡ bools_are_equal positive false
other_constant true = refl
other_constant false = refl

pub turned : (positive b : Bool) → bools_are_equal (not positive) b ≡ bools_are_equal positive (not b)
turned true b = refl
turned false true = refl
turned false false = refl
