-- The line written for an event is read back.
use Rattle.std.proofs.Common.{◌≡◌, ℕ, ◌<◌, true, Option, Some, None, List, [], codes, get_or, length, slice_get, unwrap_or, refl, sym, ap, ◌∙◌, arith}
use Rattle.std.specs.Option.{option_or}
use Rattle.std.proofs.lemmas.Option.{slice_get-get_or, slice_get_within}
use Rattle.ilk_lines.specs.Lines.{Bytes}
use Rattle.ilk_lines.specs.Written.{LacksByte, join_word_and_rest}
use Rattle.ilk_lines.proofs.LineWords.{first_back}
use Rattle.ilk_plant.proofs.NamesDiffer.{first_number_named-own}
use Rattle.ilk_base.specs.Option.{◌>>=◌, is_some_and, then_some}
use Rattle.ilk_plant.specs.Network.{is_point}
use Rattle.ilk_plant.specs.Plant.{IsPlant, PlantLists, first_number_named, is_point_section}
use Rattle.ilk_plant.proofs.Once.{names_differ-places}
use Rattle.ilk_plant.specs.Once.{names_differ}
use Rattle.ilk_plant.specs.declared.network.Section.{Section}
use Rattle.ilk_model.specs.declared.event.Event.{Event}
use Rattle.ilk_model.specs.declared.event.Event.TheVariants.{Mark, Allocate, Lock, Sense, Release, Finish, Throw, Settle, Enter, Head, Tail, Leave, Cancel}
use Rattle.ilk_replay.specs.EventLine.{event_from_line, event_from_keyword_and_name, point_named}
use Rattle.ilk_replay.specs.EventSubjects.{event_with_keyword_and_subject}
use Rattle.ilk_replay.specs.RunText.{event_line, name_at_index_or_empty}
use Rattle.ilk_replay.specs.Writable.{IsEventSubjectOfPlant}
use Rattle.ilk_replay.specs.declared.event_line.Subject.{Subject}
use Rattle.ilk_replay.specs.declared.event_line.Subject.TheVariants.{Route, Point, Section as AtSection}
use Rattle.ilk_replay.proofs.Written.{of_point, of_section}

pub named_back : (names : List Bytes) (i : ℕ) → names_differ names ≡ true → i < length names → first_number_named names (name_at_index_or_empty names i) ≡ Some i
named_back names i once within =
    let here : slice_get names i ≡ Some (get_or names i []) = slice_get-get_or names i [] within in
    first_number_named-own names (name_at_index_or_empty names i) i (names_differ-places names once) (here ∙ ap Some (sym (ap (λ (o : Option Bytes). unwrap_or o []) here)))

no_event : {X : Type 0} (o : Option X) (word : Bytes) (about : X → Subject) → ((x : X) → event_with_keyword_and_subject word (about x) ≡ None) → (o >>= (λ x. event_with_keyword_and_subject word (about x))) ≡ None
no_event None word about none = refl
no_event (Some x) word about none = none x

route_back : (p : PlantLists) (word : Bytes) (r : ℕ) (event : Event) → IsPlant p → r < length p.routes → event_with_keyword_and_subject word (Route r) ≡ Some event → event_from_keyword_and_name p word (name_at_index_or_empty p.route_names r)
    ≡ Some event
route_back p word r event plant within tells =
    let named = plant.routes_named in
    let name : Bytes = name_at_index_or_empty p.route_names r in
    let first : first_number_named p.route_names name ≡ Some r = named_back p.route_names r plant.route_names_differ (omega arith) in
    ap (λ (o : Option ℕ). option_or (o >>= (λ x. event_with_keyword_and_subject word (Route x))) (option_or (of_point p word name) (of_section p word name))) first
    ∙ ap (λ (o : Option Event). option_or o (option_or (of_point p word name) (of_section p word name))) tells

found_point : (p : PlantLists) (x : ℕ) → is_point_section p x ≡ true → (section : Section) × (slice_get p.sections x ≡ Some section) × (is_point section ≡ true)
found_point p x e = by_section (slice_get p.sections x) refl e
  where
    by_section : (o : Option Section) → slice_get p.sections x ≡ o → is_some_and o is_point ≡ true → (section : Section) × (slice_get p.sections x ≡ Some section) × (is_point section ≡ true)
    by_section None this that = cc
    by_section (Some section) this that = (section, this, that)

point_back : (p : PlantLists) (word : Bytes) (x : ℕ) (event : Event) → IsPlant p →
    is_point_section p x ≡ true → ((r : ℕ) → event_with_keyword_and_subject word (Route r) ≡ None) →
    event_with_keyword_and_subject word (Point x) ≡ Some event → event_from_keyword_and_name p word (name_at_index_or_empty p.section_names x) ≡ Some event
point_back p word x event plant at none tells =
    let named = plant.sections_named in
    let name : Bytes = name_at_index_or_empty p.section_names x in
    let found = found_point p x at in
    let within = slice_get_within p.sections x found.0 found.1 in
    let first : first_number_named p.section_names name ≡ Some x = named_back p.section_names x plant.section_names_differ (omega arith) in
    let point : point_named p name ≡ Some x =
    ap (λ (o : Option ℕ). o >>= (λ y. slice_get p.sections y >>= (λ section. then_some (is_point section) y))) first
    ∙ ap (λ (o : Option Section). o >>= (λ section. then_some (is_point section) x)) found.1 ∙ ap (λ b. then_some b x) found.2 in
    ap (λ (o : Option Event). option_or o (option_or (of_point p word name) (of_section p word name))) (no_event (first_number_named p.route_names name) word Route none)
    ∙ ap (λ (o : Option ℕ). option_or (o >>= (λ y. event_with_keyword_and_subject word (Point y))) (of_section p word name)) point
    ∙ ap (λ (o : Option Event). option_or o (of_section p word name)) tells

section_back : (p : PlantLists) (word : Bytes) (x : ℕ) (event : Event) → IsPlant p → x < length p.sections →
    ((r : ℕ) → event_with_keyword_and_subject word (Route r) ≡ None) → ((y : ℕ) → event_with_keyword_and_subject word (Point y) ≡ None) →
    event_with_keyword_and_subject word (AtSection x) ≡ Some event → event_from_keyword_and_name p word (name_at_index_or_empty p.section_names x) ≡ Some event
section_back p word x event plant within none none_point tells =
    let named = plant.sections_named in
    let name : Bytes = name_at_index_or_empty p.section_names x in
    let first : first_number_named p.section_names name ≡ Some x = named_back p.section_names x plant.section_names_differ (omega arith) in
    ap (λ (o : Option Event). option_or o (option_or (of_point p word name) (of_section p word name))) (no_event (first_number_named p.route_names name) word Route none)
    ∙ ap (λ (o : Option Event). option_or o (of_section p word name)) (no_event (point_named p name) word Point none_point)
    ∙ ap (λ (o : Option ℕ). o >>= (λ y. event_with_keyword_and_subject word (AtSection y))) first ∙ tells

told_back : (p : PlantLists) (word name : Bytes) (event : Event) → LacksByte 32 word → event_from_keyword_and_name p word name ≡ Some event → event_from_line p (join_word_and_rest word name) ≡ Some event
told_back p word name event lacks tells = ap (λ (o : Option (Bytes × Bytes)). o >>= (λ words. event_from_keyword_and_name p words.0 words.1)) (first_back word name lacks) ∙ tells

pub event_back : (p : PlantLists) → IsPlant p → (event : Event) → IsEventSubjectOfPlant p event → event_from_line p (event_line p event) ≡ Some event
event_back p plant (Mark r) about = told_back p (codes "mark") _ (Mark r) refl (route_back p (codes "mark") r (Mark r) plant about refl)
event_back p plant (Allocate r) about = told_back p (codes "allocate") _ (Allocate r) refl (route_back p (codes "allocate") r (Allocate r) plant about refl)
event_back p plant (Lock r) about = told_back p (codes "lock") _ (Lock r) refl (route_back p (codes "lock") r (Lock r) plant about refl)
event_back p plant (Sense r) about = told_back p (codes "sense") _ (Sense r) refl (route_back p (codes "sense") r (Sense r) plant about refl)
event_back p plant (Release r) about = told_back p (codes "release") _ (Release r) refl (route_back p (codes "release") r (Release r) plant about refl)
event_back p plant (Finish r) about = told_back p (codes "finish") _ (Finish r) refl (route_back p (codes "finish") r (Finish r) plant about refl)
event_back p plant (Cancel r) about = told_back p (codes "cancel") _ (Cancel r) refl (route_back p (codes "cancel") r (Cancel r) plant about refl)
event_back p plant (Throw x) about = told_back p (codes "throw") _ (Throw x) refl (point_back p (codes "throw") x (Throw x) plant about (λ r. refl) refl)
event_back p plant (Settle x) about = told_back p (codes "settle") _ (Settle x) refl (point_back p (codes "settle") x (Settle x) plant about (λ r. refl) refl)
event_back p plant (Enter x) about = told_back p (codes "enter") _ (Enter x) refl (section_back p (codes "enter") x (Enter x) plant about (λ r. refl) (λ y. refl) refl)
event_back p plant (Head x) about = told_back p (codes "head") _ (Head x) refl (section_back p (codes "head") x (Head x) plant about (λ r. refl) (λ y. refl) refl)
event_back p plant (Tail x) about = told_back p (codes "tail") _ (Tail x) refl (section_back p (codes "tail") x (Tail x) plant about (λ r. refl) (λ y. refl) refl)
event_back p plant (Leave x) about = told_back p (codes "leave") _ (Leave x) refl (section_back p (codes "leave") x (Leave x) plant about (λ r. refl) (λ y. refl) refl)
