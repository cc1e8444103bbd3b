use Rattle.std.proofs.Common.{◌≡◌, ◌++◌, drop, map}
use Rattle.std.specs.List.{enumerate_from, flat_map}
use Rattle.ilk_ir.specs.Form.{tree_of}
use Rattle.ilk_invs.specs.HoldFamilies.{path_lock_matches_seen}
use Rattle.ilk_invs.proofs.lock_family.push_locks_on_path.Given as goal

abbrev pub invariant-loop-i : goal.invariant-loop-i
invariant-loop-i l =
    map tree_of l.forms.items ++ flat_map (λ place. path_lock_matches_seen l.plant l.r place.0 place.1) (enumerate_from l.i (drop l.i l.path))
    ≡ map tree_of l.initial.forms.items ++ flat_map (λ place. path_lock_matches_seen l.plant l.r place.0 place.1) (enumerate_from 0 l.path)
