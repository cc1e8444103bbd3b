use Rattle.std.proofs.Common.{◌≡◌, ◌+◌, map, false}
use Rattle.std.specs.Prelude.{unwrap_or}
use Rattle.std.specs.List.{range_with_len}
use Rattle.ilk_cnf.specs.Literal.{positive_lit}
use Rattle.ilk_trail.specs.Trail.{value_of_literal}
use Rattle.ilk_solver.proofs.assigned.assignment.Given as goal

abbrev pub invariant-loop-v : goal.invariant-loop-v
invariant-loop-v l = l.values ≡ map (λ v. unwrap_or (value_of_literal l.view.trail.entries (positive_lit (v + 1))) false) (range_with_len 0 l.v)
