-- The boards of a plant: their number, and that each section's boards are among them.
use Rattle.std.proofs.Common.{◌≡◌, ℕ, zero, suc, ◌<◌, ◌+◌, Bool, true, false, ◌&&◌, not, Option, Some, None, List, [], ◌∷◌, length, map, slice_get, option_map, option_to_list, is_none, ◌↔◌, inl, inr, refl, sym, ◌∙◌, subst, arith, ap}
use Rattle.std.proofs.lemmas.List.{length-map}
use Rattle.std.proofs.lemmas.Option.{same_Some, slice_get-map, slice_get_within, option_and_then_some}
use Rattle.ilk_plant.proofs.NamesDiffer.{number_of-own}
use Rattle.ilk_plant.proofs.Rules.{KeepsNetworkRules}
use Rattle.ilk_plant.proofs.KnownNames.{board_on-known, boards_known}
use Rattle.ilk_plant.specs.Draft.{NamedBoard, boards_of_sections_from, boards_on, names_of_boards, names_of_sections, number_or_len, plant_from_drafts, numbered_section, section_board_if_named}
use Rattle.ilk_plant.specs.Name.{Name}
use Rattle.ilk_plant.specs.declared.broken.Rule.TheVariants.{N8}
use Rattle.ilk_plant.specs.Network.{neighbours_on, board_on}
use Rattle.ilk_plant.specs.NetworkRules.{has_board_without_neighbour, has_neighbour_if_board}
use Rattle.ilk_plant.specs.Plant.{board_of, next_to}
use Rattle.ilk_base.proofs.Once.{EachOnce}
use Rattle.ilk_plant.specs.declared.network.Dir.{Dir}
use Rattle.ilk_plant.specs.declared.network.Dir.TheVariants.{Up, Down}
use Rattle.ilk_plant.specs.declared.network.Section.{Section}
use Rattle.ilk_plant.specs.declared.draft.KindDraft.{KindDraft}
use Rattle.ilk_plant.specs.declared.draft.KindDraft.TheVariants.{Linear as LinearDraft, Point as PointDraft}
use Rattle.ilk_plant.specs.declared.draft.NetDraft.{NetDraft}
use Rattle.ilk_plant.specs.declared.draft.SectionDraft.{SectionDraft}
use Rattle.ilk_plant.specs.declared.draft.TableDraft.{TableDraft}
use Rattle.ilk_base.proofs.Lists.{at-before, at-either, at-past, map-at}
use Rattle.ilk_base.proofs.Options.{mapped-Some}
use Rattle.ilk_base.proofs.Tested.{list_all-slice_get}
use Rattle.std.proofs.lemmas.Bool.{and_parts}
use Rattle.ilk_plant.proofs.FewBoards.{boards_of_sections_from-known}

plant_from_drafts-at : {P : Type 0} (sections : List SectionDraft) (names boards : List Name) (x : ℕ) (k : Section) →
    slice_get (map (λ section. numbered_section names boards section.kind) sections) x ≡ Some k →
    ((section : SectionDraft) → slice_get sections x ≡ Some section →
    k ≡ numbered_section names boards section.kind → P) → P
plant_from_drafts-at sections names boards x k e f =
    by_draft sections names boards x k (slice_get sections x) refl (sym (slice_get-map (λ section. numbered_section names boards section.kind) sections x) ∙ e) f
  where
    by_draft :
        {P : Type 0} (sections : List SectionDraft) (names boards : List Name) (x : ℕ) (k : Section)
        (o : Option SectionDraft) →
        slice_get sections x ≡ o →
        option_map (λ section. numbered_section names boards section.kind) (slice_get sections x) ≡ Some k →
        ((section : SectionDraft) → slice_get sections x ≡ Some section →
        k ≡ numbered_section names boards section.kind → P) → P
    by_draft sections names boards x k None at e f = let bad : None ≡ Some k = rw at at e in cc
    by_draft sections names boards x k (Some section) at e f =
        let same : Some (numbered_section names boards section.kind) ≡ Some k = rw at at e in f section at cc

pub boards-plant_from_drafts : (net : NetDraft) (table : TableDraft) (x m : ℕ) (d : Dir) → board_of (plant_from_drafts net table) x d ≡ Some m → m < length (plant_from_drafts net table).boards
boards-plant_from_drafts net table x m d e =
    rw (length-map (boards_of_sections_from 0 net.sections) (λ named. named.board), ← length-map (boards_of_sections_from 0 net.sections) (λ named. named.name))
    (option_and_then_some (λ k. board_on k d) (slice_get (plant_from_drafts net table).sections x) m e (λ k at e1.
    plant_from_drafts-at net.sections (names_of_sections net.sections) (names_of_boards net.sections) x k at (λ section there same.
    let on_numbered : board_on (numbered_section (names_of_sections net.sections) (names_of_boards net.sections) section.kind) d ≡ Some m = rw same at e1 in
    board_on-known (names_of_sections net.sections) (names_of_boards net.sections) section.kind d m
    (list_all-slice_get (λ s. boards_known (names_of_boards net.sections) s.kind) net.sections x section
    (boards_of_sections_from-known 0 net.sections) there) on_numbered)))

abbrev board_drafted : KindDraft → Dir → Option Name
board_drafted (LinearDraft down up board_down board_up) Down = board_down
board_drafted (LinearDraft down up board_down board_up) Up = board_up
board_drafted (PointDraft stem plus minus faces) d = None

abbrev named_on : ℕ → Dir → Name → NamedBoard
named_on x d name = record { name = name; board = record { section = x; dir = d } }

named-listed : (x : ℕ) (kind : KindDraft) (d : Dir) (name : Name) → board_drafted kind d ≡ Some name → (k : ℕ) × (slice_get (boards_on x kind) k ≡ Some (named_on x d name))
named-listed x (LinearDraft down up board_down board_up) Down name e =
    (zero, at-before (section_board_if_named x Down board_down) (section_board_if_named x Up board_up) zero (named_on x Down name) (named-at x Down board_down name e))
  where
    named-at : (x : ℕ) (d : Dir) (o : Option Name) (name : Name) → o ≡ Some name → slice_get (section_board_if_named x d o) 0 ≡ Some (named_on x d name)
    named-at x d o name e = rw e refl
named-listed x (LinearDraft down up board_down board_up) Up name e =
    (length (section_board_if_named x Down board_down) + zero, at-past (section_board_if_named x Down board_down) (section_board_if_named x Up board_up) zero (named_on x Up name) (named-at x Up board_up name e))
  where
    named-at : (x : ℕ) (d : Dir) (o : Option Name) (name : Name) → o ≡ Some name → slice_get (section_board_if_named x d o) 0 ≡ Some (named_on x d name)
    named-at x d o name e = rw e refl
named-listed x (PointDraft stem plus minus faces) d name e = cc

named-drafted : (x : ℕ) (kind : KindDraft) (k : ℕ) (named : NamedBoard) → slice_get (boards_on x kind) k ≡ Some named → (named.board.section ≡ x) × (board_drafted kind named.board.dir ≡ Some named.name)
named-drafted x (LinearDraft down up board_down board_up) k named e =
    elim (at-either (section_board_if_named x Down board_down) (section_board_if_named x Up board_up) k named e) [
      | inl h ↦ let here = named-of x Down board_down h.0 named h.1 in
          let P : NamedBoard → Type 0 = λ n. (n.board.section ≡ x) × (board_drafted (LinearDraft down up board_down board_up) n.board.dir ≡ Some n.name) in
          subst P here.2 (refl, here.1)
      | inr h ↦ let here = named-of x Up board_up h.0 named h.1 in
          let P : NamedBoard → Type 0 = λ n. (n.board.section ≡ x) × (board_drafted (LinearDraft down up board_down board_up) n.board.dir ≡ Some n.name) in
          subst P here.2 (refl, here.1)
    ]
  where
    named-of : (x : ℕ) (d : Dir) (o : Option Name) (k : ℕ) (named : NamedBoard) → slice_get (section_board_if_named x d o) k ≡ Some named → (name : Name) × (o ≡ Some name) × (named_on x d name ≡ named)
    named-of x d None k named e = cc
    named-of x d (Some name) zero named e = (name, refl, same_Some _ _ e)
    named-of x d (Some name) (suc k) named e = cc
named-drafted x (PointDraft stem plus minus faces) k named e = cc

drafts-listed :
    (first : ℕ) (sections : List SectionDraft) (x i : ℕ) (section : SectionDraft) (d : Dir) (name : Name) →
    x ≡ first + i → slice_get sections i ≡ Some section → board_drafted section.kind d ≡ Some name →
    (k : ℕ) × (slice_get (boards_of_sections_from first sections) k ≡ Some (named_on x d name))
drafts-listed first [] x i section d name n at e = cc
drafts-listed first (section ∷ rest) x zero other d name n at e =
    let same : section ≡ other = cc in
    let named : board_drafted section.kind d ≡ Some name = rw same e in
    let here : first ≡ x = omega (arith, n) in
    let there = named-listed first section.kind d name named in
    let listed : slice_get (boards_on first section.kind) there.0 ≡ Some (named_on x d name) = there.1 ∙ ap (λ n. Some (named_on n d name)) here in
    (there.0, at-before (boards_on first section.kind) (boards_of_sections_from (first + 1) rest) there.0 (named_on x d name) listed)
drafts-listed first (section ∷ rest) x (suc i) other d name n at e =
    let there = drafts-listed (first + 1) rest x i other d name (omega (arith, n)) at e in
    (length (boards_on first section.kind) + there.0, at-past (boards_on first section.kind) (boards_of_sections_from (first + 1) rest) there.0 (named_on x d name) there.1)

listed-drafts : (first : ℕ) (sections : List SectionDraft) (k : ℕ) (named : NamedBoard) →
    slice_get (boards_of_sections_from first sections) k ≡ Some named →
    (i : ℕ) × (section : SectionDraft) × (slice_get sections i ≡ Some section) ×
    (named.board.section ≡ first + i) × (board_drafted section.kind named.board.dir ≡ Some named.name)
listed-drafts first [] k named e = cc
listed-drafts first (section ∷ rest) k named e =
    elim (at-either (boards_on first section.kind) (boards_of_sections_from (first + 1) rest) k named e) [
      | inl h ↦ let here = named-drafted first section.kind h.0 named h.1 in
          (zero, section, refl, here.0 ∙ omega arith, here.1)
      | inr h ↦ let there = listed-drafts (first + 1) rest h.0 named h.1 in
          (suc there.0, there.1, there.2, there.3 ∙ omega arith, there.4)
    ]

board_on-drafted : (names boards : List Name) (kind : KindDraft) (d : Dir) → board_on (numbered_section names boards kind) d ≡ option_map (number_or_len boards) (board_drafted kind d)
board_on-drafted names boards (LinearDraft down up board_down board_up) Down = refl
board_on-drafted names boards (LinearDraft down up board_down board_up) Up = refl
board_on-drafted names boards (PointDraft stem plus minus faces) d = refl

board-drafted : (net : NetDraft) (table : TableDraft) (x m : ℕ) (d : Dir) →
    board_of (plant_from_drafts net table) x d ≡ Some m →
    (section : SectionDraft) × (name : Name) × (slice_get net.sections x ≡ Some section) ×
    (board_drafted section.kind d ≡ Some name) × (number_or_len (names_of_boards net.sections) name ≡ m)
board-drafted net table x m d e =
    option_and_then_some (λ k. board_on k d) (slice_get (plant_from_drafts net table).sections x) m e (λ k at on.
    plant_from_drafts-at net.sections (names_of_sections net.sections) (names_of_boards net.sections) x k at (λ section there same.
    let on_numbered : board_on (numbered_section (names_of_sections net.sections) (names_of_boards net.sections) section.kind) d ≡ Some m = rw same at on in
    let named = mapped-Some (number_or_len (names_of_boards net.sections)) (board_drafted section.kind d) m (sym (board_on-drafted (names_of_sections net.sections) (names_of_boards net.sections) section.kind d) ∙ on_numbered) in
    (section, named.0, there, named.1, named.2)))

board-listed : (net : NetDraft) (table : TableDraft) → EachOnce (names_of_boards net.sections) → (x m : ℕ) (d : Dir) → board_of (plant_from_drafts net table) x d ≡ Some m
    → slice_get (plant_from_drafts net table).boards m ≡ Some (record { section = x; dir = d })
board-listed net table once x m d e =
    let drafted = board-drafted net table x m d e in
    let name : Name = drafted.1 in
    let listed = drafts-listed 0 net.sections x x drafted.0 d name (omega arith) drafted.2 drafted.3 in
    let named : slice_get (names_of_boards net.sections) listed.0 ≡ Some name = slice_get-map (λ n. n.name) (boards_of_sections_from 0 net.sections) listed.0 ∙ ap (option_map (λ n. n.name)) listed.1 in
    let same : listed.0 ≡ m = sym (number_of-own (names_of_boards net.sections) name listed.0 once named) ∙ drafted.4 in
    let there : slice_get (plant_from_drafts net table).boards listed.0 ≡ Some (record { section = x; dir = d }) = slice_get-map (λ n. n.board) (boards_of_sections_from 0 net.sections) listed.0 ∙ ap (option_map (λ n. n.board)) listed.1 in
    rw same at there

listed-board : (net : NetDraft) (table : TableDraft) → EachOnce (names_of_boards net.sections) → (x m : ℕ) (d : Dir) → slice_get (plant_from_drafts net table).boards m ≡ Some (record { section = x; dir = d })
    → board_of (plant_from_drafts net table) x d ≡ Some m
listed-board net table once x m d e =
    let listed = map-at (λ n. n.board) (boards_of_sections_from 0 net.sections) m (record { section = x; dir = d }) e in
    let drafted = listed-drafts 0 net.sections m listed.0 listed.1 in
    let here : drafted.0 ≡ x = sym (drafted.3 ∙ omega arith) ∙ ap (λ b. b.section) listed.2 in
    let there : slice_get net.sections x ≡ Some drafted.1 = rw here at drafted.2 in
    let direction : listed.0.board.dir ≡ d = ap (λ b. b.dir) listed.2 in
    let given : board_drafted drafted.1.kind d ≡ Some listed.0.name = rw direction at drafted.4 in
    let named : slice_get (names_of_boards net.sections) m ≡ Some listed.0.name = slice_get-map (λ n. n.name) (boards_of_sections_from 0 net.sections) m ∙ ap (option_map (λ n. n.name)) listed.1 in
    let number : number_or_len (names_of_boards net.sections) listed.0.name ≡ m = number_of-own (names_of_boards net.sections) listed.0.name m once named in
    let numbered_there : slice_get (plant_from_drafts net table).sections x
    ≡ Some
    (numbered_section (names_of_sections net.sections) (names_of_boards net.sections) drafted.1.kind) =
    slice_get-map
    (λ section. numbered_section (names_of_sections net.sections) (names_of_boards net.sections)
    section.kind) net.sections x
    ∙ ap
    (option_map
    (λ section. numbered_section (names_of_sections net.sections)
    (names_of_boards net.sections) section.kind)) there in
    let on :
    board_on
    (numbered_section (names_of_sections net.sections) (names_of_boards net.sections) drafted.1.kind)
    d ≡ Some m =
    board_on-drafted (names_of_sections net.sections) (names_of_boards net.sections) drafted.1.kind d
    ∙ ap (option_map (number_or_len (names_of_boards net.sections))) given ∙ ap Some number in
    rw numbered_there on

pub boards-agree : (net : NetDraft) (table : TableDraft) → EachOnce (names_of_boards net.sections) →
    (x m : ℕ) (d : Dir) →
    (board_of (plant_from_drafts net table) x d ≡ Some m) ↔
    (slice_get (plant_from_drafts net table).boards m ≡ Some (record { section = x; dir = d }))
boards-agree net table once x m d = (board-listed net table once x m d, listed-board net table once x m d)

pub boards-lead : (net : NetDraft) (table : TableDraft) → KeepsNetworkRules net → (x m : ℕ) (d : Dir) → board_of (plant_from_drafts net table) x d ≡ Some m → 0 < length (next_to (plant_from_drafts net table) x d)
boards-lead net table rules x m d e =
    let drafted = board-drafted net table x m d e in
    let kept = rules 7 N8 refl x (slice_get_within net.sections x drafted.0 drafted.2) in
    let there : slice_get (plant_from_drafts net table).sections x
    ≡ Some
    (numbered_section (names_of_sections net.sections) (names_of_boards net.sections) drafted.0.kind) =
    slice_get-map
    (λ section. numbered_section (names_of_sections net.sections) (names_of_boards net.sections)
    section.kind) net.sections x
    ∙ ap
    (option_map
    (λ section. numbered_section (names_of_sections net.sections)
    (names_of_boards net.sections) section.kind)) drafted.2 in
    rw there (by_kind drafted.0 drafted.0.kind d drafted.1 drafted.2 refl kept drafted.3)
  where
    end-given : (names : List Name) (o board : Option Name) (name : Name) → board ≡ Some name → has_neighbour_if_board o board ≡ true → 0 < length (option_to_list (option_map (number_or_len names) o))
    end-given names None board name e h = let bad : is_none (Some name) ≡ true = rw e at h in cc
    end-given names (Some given) board name e h = omega arith

    not-not : (b : Bool) → not b ≡ false → b ≡ true
    not-not true h = refl
    not-not false h = cc

    by_kind : (section : SectionDraft) (kind : KindDraft) (d : Dir) (name : Name) →
        slice_get net.sections x ≡ Some section → section.kind ≡ kind → has_board_without_neighbour net x ≡ false →
        board_drafted kind d ≡ Some name →
        0
        < length
        (neighbours_on
        (numbered_section (names_of_sections net.sections) (names_of_boards net.sections) kind) d)
    by_kind section (LinearDraft down up board_down board_up) Down name at is h given =
        let kept : not (has_neighbour_if_board down board_down && has_neighbour_if_board up board_up) ≡ false = rw (at, is) at h in
        end-given (names_of_sections net.sections) down board_down name given (and_parts _ _ (not-not _ kept)).0
    by_kind section (LinearDraft down up board_down board_up) Up name at is h given =
        let kept : not (has_neighbour_if_board down board_down && has_neighbour_if_board up board_up) ≡ false = rw (at, is) at h in
        end-given (names_of_sections net.sections) up board_up name given (and_parts _ _ (not-not _ kept)).1
    by_kind section (PointDraft stem plus minus faces) d name at is h given = cc
