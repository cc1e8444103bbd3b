-- Numbers of known names.
use Rattle.std.proofs.Common.{◌≡◌, ℕ, ◌<◌, Bool, true, ◌&&◌, Option, Some, None, List, length, bytes_eq, option_map, arith}
use Rattle.std.specs.List.{list_any}
use Rattle.std.proofs.lemmas.Bool.Decides.{nat_tests}
use Rattle.ilk_plant.specs.Draft.{number_or_len, numbered_section}
use Rattle.ilk_plant.specs.Name.{Name}
use Rattle.ilk_plant.specs.Network.{board_on}
use Rattle.ilk_plant.specs.declared.network.Dir.{Dir}
use Rattle.ilk_plant.specs.declared.network.Dir.TheVariants.{Up, Down}
use Rattle.ilk_plant.specs.declared.draft.KindDraft.{KindDraft}
use Rattle.ilk_plant.specs.declared.draft.KindDraft.TheVariants.{Linear as LinearDraft, Point as PointDraft}
use Rattle.ilk_base.proofs.Tested.{prefix-within}
use Rattle.std.proofs.lemmas.Bool.{and_parts}

pub number_of-known : (names : List Name) (name : Name) → list_any (bytes_eq name) names ≡ true → number_or_len names name < length names
number_of-known names name h =
    let within = prefix-within (bytes_eq name) names h in grind (arith, nat_tests, within)

abbrev pub is_known : List Name → Option Name → Bool
is_known names None = true
is_known names (Some name) = list_any (bytes_eq name) names

abbrev pub boards_known : List Name → KindDraft → Bool
boards_known names (LinearDraft down up board_down board_up) = is_known names board_down && is_known names board_up
boards_known names (PointDraft stem plus minus faces) = true

number-if : (names : List Name) (name : Option Name) (n : ℕ) → is_known names name ≡ true → option_map (number_or_len names) name ≡ Some n → n < length names
number-if names None n h e = cc
number-if names (Some name) n h e =
    let same : number_or_len names name ≡ n = cc in rw same at (number_of-known names name h)

pub board_on-known : (names boards : List Name) (kind : KindDraft) (d : Dir) (m : ℕ) → boards_known boards kind ≡ true → board_on (numbered_section names boards kind) d ≡ Some m → m < length boards
board_on-known names boards (LinearDraft down up board_down board_up) Down m h e = number-if boards board_down m (and_parts _ _ h).0 e
board_on-known names boards (LinearDraft down up board_down board_up) Up m h e = number-if boards board_up m (and_parts _ _ h).1 e
board_on-known names boards (PointDraft stem plus minus faces) d m h e = cc
