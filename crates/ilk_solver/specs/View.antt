use Rattle.std.specs.Prelude.{ℕ, ◌≡◌, ◌-◌, ◌&&◌, Bool, List, length, not, slice_index}
use Rattle.ilk_cnf.specs.Literal.{positive_lit}
use Rattle.ilk_cnf.specs.Formula.{is_lit_over}
use Rattle.ilk_trail.specs.declared.entry.Entry.{Entry}
use Rattle.ilk_trail.specs.Trail.{TrailList}
use Rattle.ilk_trail.specs.Laws.{IsTrail, is_set}

-- A view of a search: its trail, and the weight of each variable `v` as entry `v - 1`.
pub record TrailAndWeights : Type 0 where
  pub trail : TrailList
  pub weights : List ℕ

-- Returns whether variable `v` exists and has no value.
abbrev pub is_unset : TrailAndWeights → ℕ → Bool
is_unset view v = is_lit_over view.trail.vars (positive_lit v) && not (is_set view.trail.entries v)

abbrev pub weight_of : TrailAndWeights → ℕ → ℕ
weight_of view v = slice_index view.weights (v - 1)

abbrev pub with_trail_entries : TrailAndWeights → List Entry → TrailAndWeights
with_trail_entries view entries = record { trail = record { vars = view.trail.vars; entries = entries }; weights = view.weights }

-- Holds for every view: its trail is valid, and each variable has a weight.
pub record IsValidView (view : TrailAndWeights) : Type 0 where
  pub trail : IsTrail view.trail
  pub weighed : length view.weights ≡ view.trail.vars
