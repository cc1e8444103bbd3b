-- A plant has at most twice as many boards as sections, each with a known name.
use Rattle.std.proofs.Common.{◌≡◌, ℕ, ◌≤◌, ◌+◌, ◌*◌, true, Option, Some, None, List, [], ◌∷◌, ◌++◌, length, map, bytes_eq, refl, sym, subst, arith, length-append}
use Rattle.std.specs.List.{list_all}
use Rattle.std.proofs.lemmas.List.{length-map, map-append}
use Rattle.std.proofs.lemmas.List.Folds.{list_any-append}
use Rattle.std.proofs.lemmas.Slice.Eq.{bytes_eq-Decides}
use Rattle.ilk_plant.proofs.KnownNames.{boards_known, is_known}
use Rattle.ilk_plant.specs.Draft.{NamedBoard, boards_of_sections_from, boards_on, names_of_boards, section_board_if_named}
use Rattle.ilk_plant.specs.Name.{Name}
use Rattle.ilk_plant.specs.declared.limits.TheConstants.{MAX_BOARDS, MAX_SECTIONS}
use Rattle.ilk_plant.specs.declared.network.Dir.{Dir}
use Rattle.ilk_plant.specs.declared.network.Dir.TheVariants.{Up, Down}
use Rattle.ilk_plant.specs.declared.draft.KindDraft.{KindDraft}
use Rattle.ilk_plant.specs.declared.draft.KindDraft.TheVariants.{Linear as LinearDraft, Point as PointDraft}
use Rattle.ilk_plant.specs.declared.draft.SectionDraft.{SectionDraft}
use Rattle.ilk_base.proofs.Tested.{list_all-weaken}
use Rattle.ilk_base.proofs.Truth.{or-true}
use Rattle.std.proofs.lemmas.Bool.{and_parts}

abbrev pub names_in : List NamedBoard → List Name
names_in boards = map (λ named. named.name) boards

known-after : (front names : List Name) (name : Option Name) → is_known names name ≡ true → is_known (front ++ names) name ≡ true
known-after front names None h = refl
known-after front names (Some name) h = rw (list_any-append (bytes_eq name) front names, h) (or-true _)

known-before : (names back : List Name) (name : Option Name) → is_known names name ≡ true → is_known (names ++ back) name ≡ true
known-before names back None h = refl
known-before names back (Some name) h = rw (list_any-append (bytes_eq name) names back, h) refl

board-own : (x : ℕ) (d : Dir) (name : Option Name) → is_known (names_in (section_board_if_named x d name)) name ≡ true
board-own x d None = refl
board-own x d (Some name) =
    let mine : bytes_eq name name ≡ true = (bytes_eq-Decides name name).1 refl in rw mine refl

boards-own : (x : ℕ) (kind : KindDraft) → boards_known (names_in (boards_on x kind)) kind ≡ true
boards-own x (LinearDraft down up board_down board_up) =
    rw (
      map-append _ (section_board_if_named x Down board_down) (section_board_if_named x Up board_up),
      known-before (names_in (section_board_if_named x Down board_down))
          (names_in (section_board_if_named x Up board_up)) board_down (board-own x Down board_down),
      known-after (names_in (section_board_if_named x Down board_down))
          (names_in (section_board_if_named x Up board_up)) board_up (board-own x Up board_up),
    ) refl
boards-own x (PointDraft stem plus minus faces) = refl

boards-before : (names back : List Name) (kind : KindDraft) → boards_known names kind ≡ true → boards_known (names ++ back) kind ≡ true
boards-before names back (LinearDraft down up board_down board_up) h =
    let parts = and_parts _ _ h in rw (known-before names back board_down parts.0, known-before names back board_up parts.1) refl
boards-before names back (PointDraft stem plus minus faces) h = refl

boards-after : (front names : List Name) (kind : KindDraft) → boards_known names kind ≡ true → boards_known (front ++ names) kind ≡ true
boards-after front names (LinearDraft down up board_down board_up) h =
    let parts = and_parts _ _ h in rw (known-after front names board_down parts.0, known-after front names board_up parts.1) refl
boards-after front names (PointDraft stem plus minus faces) h = refl

pub boards_of_sections_from-known : (x : ℕ) (sections : List SectionDraft) → list_all (λ section. boards_known (names_in (boards_of_sections_from x sections)) section.kind) sections ≡ true
boards_of_sections_from-known x [] = refl
boards_of_sections_from-known x (section ∷ rest) =
    let front : List Name = names_in (boards_on x section.kind) in
    let back : List Name = names_in (boards_of_sections_from (x + 1) rest) in
    let P : List Name → Type 0 = λ names. list_all (λ s. boards_known names s.kind) (section ∷ rest) ≡ true in
    subst P (sym (map-append (λ named. named.name) (boards_on x section.kind) (boards_of_sections_from (x + 1) rest)))
    (rw (boards-before front back section.kind (boards-own x section.kind))
    (list_all-weaken (λ s. boards_known back s.kind) (λ s. boards_known (front ++ back) s.kind) (λ s known. boards-after front back s.kind known) rest (boards_of_sections_from-known (x + 1) rest)))

length-boards_on : (x : ℕ) (kind : KindDraft) → length (boards_on x kind) ≤ 2
length-boards_on x (LinearDraft down up None None) = omega arith
length-boards_on x (LinearDraft down up None (Some b)) = omega arith
length-boards_on x (LinearDraft down up (Some b) None) = omega arith
length-boards_on x (LinearDraft down up (Some b) (Some c)) = omega arith
length-boards_on x (PointDraft stem plus minus faces) = omega arith

length-boards_of_sections_from : (x : ℕ) (sections : List SectionDraft) → length (boards_of_sections_from x sections) ≤ 2 * length sections
length-boards_of_sections_from x [] = omega arith
length-boards_of_sections_from x (section ∷ rest) =
    omega (arith, length-append (boards_on x section.kind) (boards_of_sections_from (x + 1) rest), length-boards_on x section.kind, length-boards_of_sections_from (x + 1) rest)

pub few-boards : (sections : List SectionDraft) → length sections ≤ MAX_SECTIONS → length (names_of_boards sections) ≤ MAX_BOARDS
few-boards sections few =
    rw (length-map (boards_of_sections_from 0 sections) (λ named. named.name)) (omega (arith, length-boards_of_sections_from 0 sections))
