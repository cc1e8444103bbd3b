-- Locks of sections.
use Rattle.std.specs.Prelude.{ℕ, List, if◌then◌else◌}
use Rattle.ilk_plant.specs.Network.{contains_section}
use Rattle.ilk_plant.specs.declared.state.Hold.{Hold}
use Rattle.ilk_base.specs.Numbered.{map_numbered}

-- The locks of all sections after those of `sections` become `hold`.
abbrev pub with_locks : List Hold → List ℕ → Hold → List Hold
with_locks locks sections hold = map_numbered (λ x lock. if contains_section x sections then hold else lock) locks
