-- Used only in private contracts and proofs: the unset variables in the tree of winners of a view.
-- The tree contains a variable if it is at its leaf.
use Rattle.std.specs.Prelude.{ℕ, ◌≡◌, ◌⊎◌, ◌<◌, false, List, Some, IsTrue, slice_get}
use Rattle.ilk_trail.specs.declared.entry.Entry.{Entry}
use Rattle.ilk_trail.specs.Laws.{is_set}
use Rattle.ilk_solver.specs.Tree.{IsWinnerTree, IsVariableInTree, variable_at_top}
use Rattle.ilk_solver.specs.View.{TrailAndWeights, IsValidView, is_unset}

-- Holds if tree `new` contains each unset variable that `old` contains.
abbrev pub LosesNoUnset : List Entry → List ℕ → List ℕ → List ℕ → Type 0
LosesNoUnset entries weights old new = (v : ℕ) → is_set entries v ≡ false → IsVariableInTree weights old v → IsVariableInTree weights new v

-- Holds if the tree contains the variable of each entry above the level.
abbrev pub HasVarsSetAboveLevel : List Entry → ℕ → List ℕ → List ℕ → Type 0
HasVarsSetAboveLevel entries level weights tree = (i : ℕ) (e : Entry) → slice_get entries i ≡ Some e → level < e.level → IsVariableInTree weights tree e.lit.var

-- Holds if the variable at the top of the tree, if there is one, is unset.
abbrev pub HasNoSetTop : List Entry → List ℕ → Type 0
HasNoSetTop entries tree = (variable_at_top tree ≡ 0) ⊎ (is_set entries (variable_at_top tree) ≡ false)

-- Holds if the tree of a view contains each unset variable, and the variable at its top, if any, is
-- unset.
pub record TreeHasAllUnsetVars (view : TrailAndWeights) (tree : List ℕ) : Type 0 where
  pub is : IsValidView view
  pub won : IsWinnerTree view.weights tree
  pub stands : (v : ℕ) → IsTrue (is_unset view v) → IsVariableInTree view.weights tree v
  pub settled : HasNoSetTop view.trail.entries tree
