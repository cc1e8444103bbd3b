use Rattle.std.proofs.Common.{◌≡◌, ◌&&◌, ◌==◌, not, [], filter, slice_index_or}
use Rattle.std.specs.List.{range_with_len}
use Rattle.ilk_tablegen.specs.Flags.{any_section_flagged}
use Rattle.ilk_tablegen.proofs.routes.conflicts_by_flags.Given as goal

abbrev pub invariant-loop-k : goal.invariant-loop-k
invariant-loop-k l =
    l.conflicts ≡ filter (λ k. not (k == l.n) && any_section_flagged (slice_index_or l.other-items k []) l.path) (range_with_len 0 l.k)
