-- A point section is a section.
use Rattle.std.proofs.Common.{◌≡◌, ℕ, ◌<◌, Option, Some, None, length, slice_get, refl}
use Rattle.std.specs.Prelude.{IsTrue}
use Rattle.std.proofs.lemmas.Bool.{false≢true}
use Rattle.std.proofs.lemmas.Option.{slice_get_within}
use Rattle.ilk_base.specs.Option.{is_some_and}
use Rattle.ilk_plant.specs.Network.{is_point}
use Rattle.ilk_plant.specs.Plant.{PlantLists, is_point_section}
use Rattle.ilk_plant.specs.declared.network.Section.{Section}

pub subject_known : (p : PlantLists) (x : ℕ) → IsTrue (is_point_section p x) → x < length p.sections
subject_known p x known = by_section (slice_get p.sections x) refl known
  where
    by_section : (o : Option Section) → slice_get p.sections x ≡ o → IsTrue (is_some_and o is_point) → x < length p.sections
    by_section None at known = absurd (false≢true known)
    by_section (Some section) at known = slice_get_within p.sections x section at
