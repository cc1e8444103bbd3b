-- The last of some sections.
use Rattle.std.proofs.Common.{◌≡◌, ℕ, ◌-◌, ◌≤◌, None, Some, List, get_or, length, arith}
use Rattle.std.proofs.lemmas.Option.{slice_get-get_or}
use Rattle.ilk_base.proofs.Lists.{last_or-at}
use Rattle.ilk_plant.specs.Network.{last_of}

pub last_at : (sections : List ℕ) (d : ℕ) → 1 ≤ length sections → last_of sections ≡ Some (get_or sections (length sections - 1) d)
last_at sections d some =
    last_or-at None sections (length sections - 1) (get_or sections (length sections - 1) d) (omega (arith, some)) (slice_get-get_or sections (length sections - 1) d (omega (arith, some)))
