-- The draft of a numbered network is that network: each name is the name at its number.
use Rattle.std.proofs.Common.{◌≡◌, ℕ, suc, ◌+◌, ◌<◌, Option, Some, None, List, [], ◌∷◌, length, map, option_map, slice_get, refl, ◌∙◌, ap, arith}
use Rattle.std.specs.List.{enumerate_from}
use Rattle.std.proofs.lemmas.List.{length-map}
use Rattle.std.proofs.lemmas.Option.{get_or_from_slice_get, slice_get-map}
use Rattle.ilk_base.proofs.Lists.{at-before, at-past}
use Rattle.ilk_plant.proofs.Boards.{boards-plant_from_drafts}
use Rattle.ilk_plant.proofs.NamesDiffer.{first_number_named-at, first_number_named-below}
use Rattle.ilk_plant.proofs.Neighbours.{end-number}
use Rattle.ilk_plant.proofs.Rules.{KeepsNetworkRules}
use Rattle.ilk_plant.specs.Draft.{boards_of_sections_from, names_of_boards, names_of_sections, number_or_len, plant_from_drafts, numbered_section}
use Rattle.ilk_plant.specs.Name.{Name}
use Rattle.ilk_plant.specs.Network.{board_on}
use Rattle.ilk_plant.specs.NetworkRules.{End, ends_from_optional_neighbour, ends_of_draft, ends_of}
use Rattle.ilk_plant.specs.Plant.{PlantLists, board_of}
use Rattle.ilk_plant.specs.declared.draft.KindDraft.{KindDraft}
use Rattle.ilk_plant.specs.declared.draft.KindDraft.TheVariants.{Linear as LinearDraft, Point as PointDraft}
use Rattle.ilk_plant.specs.declared.draft.NetDraft.{NetDraft}
use Rattle.ilk_plant.specs.declared.draft.SectionDraft.{SectionDraft}
use Rattle.ilk_plant.specs.declared.draft.TableDraft.{TableDraft}
use Rattle.ilk_plant.specs.declared.network.Dir.{Dir}
use Rattle.ilk_plant.specs.declared.network.Dir.TheVariants.{Up, Down}
use Rattle.ilk_plant.specs.declared.network.Section.{Section}
use Rattle.ilk_tablegen.specs.NetworkDraft.{kind_draft, section_draft, network_draft}
use Rattle.ilk_tablegen.specs.Table.{nth_name_or_empty}

abbrev ComesBack : List Name → Name → Type 0
ComesBack names name = nth_name_or_empty names (number_or_len names name) ≡ name

known-back : (names : List Name) (name : Name) → number_or_len names name < length names → ComesBack names name
known-back names name less =
    let at : slice_get names (number_or_len names name) ≡ Some name = (first_number_named-at names name (number_or_len names name) (first_number_named-below names name (number_or_len names name) refl less)).1 in
    get_or_from_slice_get names (number_or_len names name) name [] at

option-back : (names : List Name) (o : Option Name) → ((name : Name) → o ≡ Some name → ComesBack names name) → option_map (nth_name_or_empty names) (option_map (number_or_len names) o) ≡ o
option-back names None back = refl
option-back names (Some name) back = ap Some (back name refl)

module _ (net : NetDraft) (table : TableDraft) (rules : KeepsNetworkRules net) where
  abbrev sections : List Name
  sections = names_of_sections net.sections

  abbrev boards : List Name
  boards = names_of_boards net.sections

  abbrev q : PlantLists
  q = plant_from_drafts net table

  abbrev number : SectionDraft → Section
  number section = numbered_section sections boards section.kind

  end-back : (x : ℕ) (section : SectionDraft) → slice_get net.sections x ≡ Some section → (k : ℕ) (end : End) → slice_get (ends_of_draft section.kind) k ≡ Some end → ComesBack sections end.name
  end-back x section at k end e =
      let here : ends_of net x ≡ ends_of_draft section.kind = rw at refl in
      let known = end-number net rules x k (number_or_len sections end.name) end (ap (λ l. slice_get l k) here ∙ e) refl in
      known-back sections end.name known.1

  board-back : (x : ℕ) (section : SectionDraft) → slice_get net.sections x ≡ Some section → (d : Dir) (name : Name) → board_on (number section) d ≡ Some (number_or_len boards name) → ComesBack boards name
  board-back x section at d name e =
      let there : slice_get q.sections x ≡ Some (number section) = slice_get-map number net.sections x ∙ ap (option_map number) at in
      let on : board_of q x d ≡ Some (number_or_len boards name) = rw there e in
      let less = boards-plant_from_drafts net table x (number_or_len boards name) d on in
      let count = length-map (boards_of_sections_from 0 net.sections) (λ named. named.board) in
      let named = length-map (boards_of_sections_from 0 net.sections) (λ named. named.name) in
      known-back boards name (omega (arith, less, count, named))

  kind-back : (kind : KindDraft) →
      ((k : ℕ) (end : End) → slice_get (ends_of_draft kind) k ≡ Some end → ComesBack sections end.name) →
      ((d : Dir) (name : Name) →
      board_on (numbered_section sections boards kind) d ≡ Some (number_or_len boards name) →
      ComesBack boards name) →
      kind_draft q (numbered_section sections boards kind) ≡ kind
  kind-back (LinearDraft down up board_down board_up) end-named board-named =
      λ i. LinearDraft (option-back sections down at-down i) (option-back sections up at-up i) (option-back boards board_down (on Down board_down refl) i) (option-back boards board_up (on Up board_up refl) i)
    where
      first : (d : Dir) (o : Option Name) (name : Name) → o ≡ Some name → slice_get (ends_from_optional_neighbour d o) 0 ≡ Some (record { side = d; name = name })
      first d o name e = rw e refl

      at-down : (name : Name) → down ≡ Some name → ComesBack sections name
      at-down name e =
          end-named 0 (record { side = Down; name = name }) (at-before (ends_from_optional_neighbour Down down) (ends_from_optional_neighbour Up up) 0 (record { side = Down; name = name }) (first Down down name e))

      at-up : (name : Name) → up ≡ Some name → ComesBack sections name
      at-up name e =
          end-named (length (ends_from_optional_neighbour Down down) + 0) (record { side = Up; name = name })
          (at-past (ends_from_optional_neighbour Down down) (ends_from_optional_neighbour Up up) 0 (record { side = Up; name = name }) (first Up up name e))

      on : (d : Dir) (o : Option Name) → board_on (numbered_section sections boards (LinearDraft down up board_down board_up)) d ≡ option_map (number_or_len boards) o → (name : Name) → o ≡ Some name → ComesBack boards name
      on d o is name e = board-named d name (is ∙ ap (option_map (number_or_len boards)) e)
  kind-back (PointDraft stem plus minus faces) end-named board-named =
      λ i. PointDraft (end-named 0 _ refl i) (end-named 1 _ refl i) (end-named 2 _ refl i) faces

  section-back : (x : ℕ) (section : SectionDraft) → slice_get net.sections x ≡ Some section → section_draft q x (number section) ≡ section
  section-back x section at =
      λ i. record { name = name-at i; kind = kind-back section.kind (end-back x section at) (board-back x section at) i }
    where
      name-at : nth_name_or_empty sections x ≡ section.name
      name-at =
          get_or_from_slice_get sections x section.name [] (slice_get-map (λ (s : SectionDraft). s.name) net.sections x ∙ ap (option_map (λ (s : SectionDraft). s.name)) at)

  sections-back : (k : ℕ) (rest : List SectionDraft) →
      ((i : ℕ) (section : SectionDraft) → slice_get rest i ≡ Some section →
      slice_get net.sections (k + i) ≡ Some section) →
      map (λ place. section_draft q place.0 place.1) (enumerate_from k (map number rest)) ≡ rest
  sections-back k [] stand = refl
  sections-back k (section ∷ rest) stand =
      let here : k ≡ k + 0 = omega arith in
      let first : slice_get net.sections k ≡ Some section = ap (slice_get net.sections) here ∙ stand 0 section refl in
      ap (λ s. s ∷ map (λ place. section_draft q place.0 place.1) (enumerate_from (k + 1) (map number rest))) (section-back k section first)
      ∙ ap (λ l. section ∷ l) (sections-back (k + 1) rest (λ i other at. let place : k + 1 + i ≡ k + suc i = omega arith in ap (slice_get net.sections) place ∙ stand (suc i) other at))

  pub network-back : network_draft q ≡ net
  network-back =
      ap (λ l. record { sections = l }) (sections-back 0 net.sections (λ i section at. let place : 0 + i ≡ i = omega arith in ap (slice_get net.sections) place ∙ at))
