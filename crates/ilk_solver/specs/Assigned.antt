use Rattle.std.specs.Prelude.{ℕ, ◌+◌, ◌<◌, ◌≤◌, ◌≡◌, Bool, true, false, IsTrue, List, map, unwrap_or}
use Rattle.std.specs.List.{range_with_len}
use Rattle.ilk_cnf.specs.Literal.{positive_lit}
use Rattle.ilk_trail.specs.Trail.{value_of_literal}
use Rattle.ilk_trail.specs.Laws.{is_set}
use Rattle.ilk_solver.specs.View.{TrailAndWeights, is_unset}

-- Returns the values of the variables in a view, with `false` for an unset one.
abbrev pub assignment_of : TrailAndWeights → List Bool
assignment_of view = map (λ v. unwrap_or (value_of_literal view.trail.entries (positive_lit (v + 1))) false) (range_with_len 0 view.trail.vars)

-- Holds if every variable has a value.
abbrev pub AllSet : TrailAndWeights → Type 0
AllSet view = (v : ℕ) → 0 < v → v ≤ view.trail.vars → is_set view.trail.entries v ≡ true

-- Holds if some variable has no value.
abbrev pub SomeUnset : TrailAndWeights → Type 0
SomeUnset view = (v : ℕ) × IsTrue (is_unset view v)
