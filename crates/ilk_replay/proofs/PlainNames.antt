-- The names of a plant contain no space and no line feed, and are UTF-8.
use Rattle.std.proofs.Common.{◌≡◌, ℕ, zero, suc, ◌<◌, true, false, All, Option, Some, None, List, [], ◌∷◌, get_or, length, refl, arith, subst, sym}
use Rattle.std.specs.List.{list_all}
use Rattle.std.specs.Str.{IsAscii, IsUtf8, bytes_eq}
use Rattle.std.proofs.lemmas.Bool.Decides.{nat_tests}
use Rattle.std.proofs.lemmas.List.Quantifiers.{position-Some}
use Rattle.std.proofs.lemmas.Slice.Eq.{bytes_eq-Decides}
use Rattle.std.proofs.lemmas.Str.{IsUtf8-from_ascii}
use Rattle.std.proofs.lemmas.Bool.{and_parts}
use Rattle.ilk_plant.specs.declared.limits.TheConstants.{MAX_NAME}
use Rattle.ilk_plant.specs.Name.{IsName, is_name_character, is_between}
use Rattle.ilk_plant.specs.Plant.{IsPlant, PlantLists, first_number_named}
use Rattle.ilk_lines.specs.Lines.{Bytes}
use Rattle.ilk_lines.specs.Written.{LacksByte}
use Rattle.ilk_lines.proofs.Lacking.{lacks_failing}

pub record HasPlainNames (p : PlantLists) : Type 0 where
  pub routes : All (LacksByte 10) p.route_names
  pub boards : All (LacksByte 10) p.board_names
  pub sections : All (LacksByte 10) p.section_names
  pub section_words : All (LacksByte 32) p.section_names

name-lacks : (c : ℕ) → is_name_character c ≡ false → (name : Bytes) → IsName name → LacksByte c name
name-lacks c other name is = lacks_failing is_name_character c name other (and_parts (is_between 1 MAX_NAME (length name)) (list_all is_name_character name) is).1

each-lacks : (c : ℕ) → is_name_character c ≡ false → (names : List Bytes) → All IsName names → All (LacksByte c) names
each-lacks c other names is k d within = name-lacks c other (get_or names k d) (is k d within)

pub plain_names : (p : PlantLists) → IsPlant p → HasPlainNames p
plain_names p plant = record {
  routes = each-lacks 10 refl p.route_names plant.route_names_allowed;
  boards = each-lacks 10 refl p.board_names plant.board_names_allowed;
  sections = each-lacks 10 refl p.section_names plant.section_names_allowed;
  section_words = each-lacks 32 refl p.section_names plant.section_names_allowed;
}

character-ascii : (c : ℕ) → is_name_character c ≡ true → c < 128
character-ascii c h = grind (arith, nat_tests)

ascii : (name : Bytes) → list_all is_name_character name ≡ true → IsAscii name
ascii [] h i = omega arith
ascii (c ∷ name) h zero = character-ascii c (and_parts (is_name_character c) (list_all is_name_character name) h).0
ascii (c ∷ name) h (suc i) = ascii name (and_parts (is_name_character c) (list_all is_name_character name) h).1 i

name-utf8 : (name : Bytes) → IsName name → IsUtf8 name
name-utf8 name is = IsUtf8-from_ascii name (ascii name (and_parts (is_between 1 MAX_NAME (length name)) (list_all is_name_character name) is).1)

pub no_utf8-unnamed : (names : List Bytes) (name : Bytes) → All IsName names → (IsUtf8 name → ⊥) → None ≡ first_number_named names name
no_utf8-unnamed names name is none = by_first (first_number_named names name) refl
  where
    by_first : (o : Option ℕ) → first_number_named names name ≡ o → None ≡ o
    by_first None e = refl
    by_first (Some i) e =
        let found : (i < length names) × (bytes_eq name (get_or names i name) ≡ true) × ((k : ℕ) → k < i → bytes_eq name (get_or names k name) ≡ false) = position-Some (bytes_eq name) names i name e in
        let same : name ≡ get_or names i name = (bytes_eq-Decides name (get_or names i name)).0 found.1 in
        absurd (none (subst IsUtf8 (sym same) (name-utf8 (get_or names i name) (is i name found.0))))
