-- The next event of a drive is enabled, automatic or the next command, and the state before it has
-- no hazard.
use Rattle.std.proofs.Common.{unwrap_or, ◌≡◌, ℕ, ◌+◌, ◌*◌, ◌≤◌, Bool, true, false, ◌||◌, Option, Some, None, List, [], ◌∷◌, ◌++◌, length, map, is_none, is_some, ◌⊎◌, inl, inr, refl, sym, ap, ◌∙◌, subst, arith}
use Rattle.std.specs.List.{list_any}
use Rattle.std.specs.Option.{option_or}
use Rattle.std.proofs.lemmas.Option.{cond_some, option_and_then_some, same_Some}
use Rattle.ilk_base.specs.Option.{◌>>=◌, then_some}
use Rattle.ilk_base.proofs.Options.{none-of, or_cases, some-is}
use Rattle.ilk_base.proofs.Tested.{find-at, list_any-none}
use Rattle.ilk_lines.specs.Reading.{indices_of_list}
use Rattle.ilk_plant.specs.Plant.{IsPlant, PlantLists}
use Rattle.ilk_plant.specs.Shape.{HasShape}
use Rattle.ilk_plant.specs.Sound.{IsAcyclic}
use Rattle.ilk_plant.specs.declared.state.State.{State}
use Rattle.ilk_model.specs.Event.{next}
use Rattle.ilk_model.specs.Hazard.{hazard}
use Rattle.ilk_model.specs.Run.{next_from_hazard_free}
use Rattle.ilk_model.specs.declared.event.Event.{Event}
use Rattle.ilk_model.specs.declared.event.Event.TheVariants.{Allocate, Lock, Sense, Release, Finish, Throw, Settle, Head, Tail, Leave}
use Rattle.ilk_model.specs.declared.hazards.HazardAt.{HazardAt}
use Rattle.ilk_drive.specs.Commands.{is_command}
use Rattle.ilk_drive.specs.Drive.{StateAndCommandsLeft, DriveStep, automatic_events, command_step, automatic_step, first_automatic, next_step_unless_hazard}
use Rattle.ilk_drive.specs.Progress.{IsStepOrUnchanged, state_after_first_automatic}
use Rattle.ilk_drive.proofs.Lowers.{lowers, raises}
use Rattle.ilk_drive.proofs.Potential.{left}

none-either : (c d e : Bool) → (c || d) ≡ false → (d ≡ false → e ≡ false) → (c || e) ≡ false
none-either true d e h more = cc
none-either false d e h more = more h

none-joined : (f : Event → Bool) (xs ys : List Event) → list_any f xs ≡ false → list_any f ys ≡ false → list_any f (xs ++ ys) ≡ false
none-joined f [] ys a b = b
none-joined f (x ∷ xs) ys a b = none-either (f x) (list_any f xs) (list_any f (xs ++ ys)) a (λ rest. none-joined f xs ys rest b)

none-mapped : (f : Event → Bool) (g : ℕ → Event) → ((x : ℕ) → f (g x) ≡ false) → (xs : List ℕ) → list_any f (map g xs) ≡ false
none-mapped f g none [] = refl
none-mapped f g none (x ∷ xs) = ap (λ (b : Bool). b || list_any f (map g xs)) (none x) ∙ none-mapped f g none xs

own-more : (front : List Event) (event : ℕ → Event) (xs : List ℕ) → ((x : ℕ) → is_command (event x) ≡ false) → list_any is_command front ≡ false → list_any is_command (front ++ map event xs) ≡ false
own-more front event xs own rest = none-joined is_command front (map event xs) rest (none-mapped is_command event own xs)

pub automatic-own : (p : PlantLists) → list_any is_command (automatic_events p) ≡ false
automatic-own p =
    let rs = indices_of_list p.routes in
    let xs = indices_of_list p.sections in
    let e1 = none-mapped is_command Allocate (λ x. refl) rs in
    let f1 : List Event = map Allocate rs in
    let f2 : List Event = f1 ++ map Lock rs in
    let f3 : List Event = f2 ++ map Sense rs in
    let f4 : List Event = f3 ++ map Release rs in
    let f5 : List Event = f4 ++ map Finish rs in
    let f6 : List Event = f5 ++ map Throw xs in
    let f7 : List Event = f6 ++ map Settle xs in
    let f8 : List Event = f7 ++ map Head xs in
    let f9 : List Event = f8 ++ map Tail xs in
    own-more f9 Leave xs (λ x. refl) (
    own-more f8 Tail xs (λ x. refl) (
    own-more f7 Head xs (λ x. refl) (
    own-more f6 Settle xs (λ x. refl) (
    own-more f5 Throw xs (λ x. refl) (
    own-more f4 Finish rs (λ x. refl) (
    own-more f3 Release rs (λ x. refl) (
    own-more f2 Sense rs (λ x. refl) (
    own-more f1 Lock rs (λ x. refl) e1))))))))

pub first-own : (p : PlantLists) (s : State) (event : Event) → first_automatic p s ≡ Some event → is_command event ≡ false
first-own p s event e =
    let found = find-at (λ event. is_some (next p s event)) (automatic_events p) event e in
    list_any-none is_command (automatic_events p) found.0 event (automatic-own p) found.1

pub record LeadsBy (p : PlantLists) (m after : StateAndCommandsLeft) (event : Event) : Type 0 where
  pub calm : hazard p m.state ≡ None
  pub goes : next p m.state event ≡ Some after.state
  pub how : ((is_command event ≡ false) × (after.commands ≡ m.commands)) ⊎ (m.commands ≡ event ∷ after.commands)

calm-of : (o : Option HazardAt) → is_none o ≡ true → o ≡ None
calm-of None h = refl
calm-of (Some at) h = cc

pub leads-by : (p : PlantLists) (m after : StateAndCommandsLeft) (event : Event) → next_step_unless_hazard p m ≡ Some (event, after) → LeadsBy p m after event
leads-by p m after event e =
    option_and_then_some {A = StateAndCommandsLeft} _ (then_some (is_none (hazard p m.state)) m) (event, after) e (λ safe is_safe taken.
    let passed = cond_some (is_none (hazard p m.state)) m safe is_safe in
    let calm : hazard p m.state ≡ None = calm-of (hazard p m.state) passed.0 in
    let same : m ≡ safe = passed.1 in
    let taken_here : option_or (automatic_step p m) (command_step p m) ≡ Some (event, after) = subst (λ (v : StateAndCommandsLeft). option_or (automatic_step p v) (command_step p v) ≡ Some (event, after)) (sym same) taken in
    or_cases (LeadsBy p m after event) (automatic_step p m) (command_step p m) (event, after) taken_here
    (λ own. by_own calm own)
    (λ given. by_given calm m.commands refl given))
  where
    by_own : hazard p m.state ≡ None → automatic_step p m ≡ Some (event, after) → LeadsBy p m after event
    by_own calm own =
        option_and_then_some {A = Event} _ (first_automatic p m.state) (event, after) own (λ first found rest.
        option_and_then_some {A = State} _ (next p m.state first) (event, after) rest (λ t goes made.
        let pair = same_Some _ _ made in
        let one : first ≡ event = ap (λ (x : DriveStep). x.0) pair in
        let there : record m { state = t } ≡ after = ap (λ (x : DriveStep). x.1) pair in
        record {
          calm = calm;
          goes = ap (next p m.state) (sym one) ∙ goes ∙ ap (λ (x : StateAndCommandsLeft). Some x.state) there;
          how = inl (ap is_command (sym one) ∙ first-own p m.state first found, ap (λ (x : StateAndCommandsLeft). x.commands) (sym there));
        }))

    by_given : hazard p m.state ≡ None → (commands : List Event) → m.commands ≡ commands → command_step p m ≡ Some (event, after) → LeadsBy p m after event
    by_given calm commands these given = by_list calm commands these (subst (λ (cs : List Event). command_step p (record m { commands = cs }) ≡ Some (event, after)) these given)
      where
        by_list : hazard p m.state ≡ None → (commands : List Event) → m.commands ≡ commands → command_step p (record m { commands = commands }) ≡ Some (event, after) → LeadsBy p m after event
        by_list calm [] these given = cc
        by_list calm (command ∷ later) these given =
            option_and_then_some {A = State} _ (next p m.state command) (event, after) given (λ t goes made.
            let pair = same_Some _ _ made in
            let one : command ≡ event = ap (λ (x : DriveStep). x.0) pair in
            let there : record { state = t; commands = later; number = m.number + 1 } ≡ after = ap (λ (x : DriveStep). x.1) pair in
            record {
              calm = calm;
              goes = ap (next p m.state) (sym one) ∙ goes ∙ ap (λ (x : StateAndCommandsLeft). Some x.state) there;
              how = inr (these ∙ ap (λ (c : Event). c ∷ later) one ∙ ap (λ (cs : List Event). event ∷ cs) (ap (λ (x : StateAndCommandsLeft). x.commands) there));
            })

-- The events that a drive still allows: the potential of the state, plus 512 per command.
abbrev pub allows : PlantLists → StateAndCommandsLeft → ℕ
allows p m = left p m.state + 512 * length m.commands

pub next_step_unless_hazard-lowers : (p : PlantLists) → IsPlant p → IsAcyclic p → (m after : StateAndCommandsLeft) (event : Event) → HasShape p m.state → LeadsBy p m after event → allows p after + 1 ≤ allows p m
next_step_unless_hazard-lowers p plant never m after event shape by = elim by.how [
  | inl own ↦
      let less = lowers p plant never m.state after.state shape event own.0 by.goes in
      let same : length after.commands ≡ length m.commands = ap length own.1 in
      omega (arith, less, same)
  | inr given ↦
      let less = raises p plant never m.state after.state shape event by.goes in
      let one : length m.commands ≡ length after.commands + 1 = ap length given ∙ length-more event after.commands in
      omega (arith, less, one)
]
  where
    length-more : (x : Event) (xs : List Event) → length (x ∷ xs) ≡ length xs + 1
    length-more x xs = omega arith

pub next_step_unless_hazard-next_from_hazard_free : (p : PlantLists) (m after : StateAndCommandsLeft) (event : Event) → LeadsBy p m after event → next_from_hazard_free p m.state event ≡ Some after.state
next_step_unless_hazard-next_from_hazard_free p m after event by =
    ap (λ (o : Option HazardAt). then_some (is_none o) m.state >>= (λ safe. next p safe event)) by.calm ∙ by.goes

pub came : (taken : Option DriveStep) (m after : StateAndCommandsLeft) (o : Option Event) (event : Event) → IsStepOrUnchanged taken m after o → o ≡ Some event → taken ≡ Some (event, after)
came taken m after o event comes is = subst (IsStepOrUnchanged taken m after) is comes

pub next_step_unless_hazard-own : (p : PlantLists) (m : StateAndCommandsLeft) (event : Event) (new : State) → hazard p m.state ≡ None → first_automatic p m.state ≡ Some event → new ≡ state_after_first_automatic p m.state →
    next_step_unless_hazard p m ≡ Some (event, record m { state = new })
next_step_unless_hazard-own p m event new calm first is =
    let found = find-at (λ e. is_some (next p m.state e)) (automatic_events p) event first in
    let goes = some-is (next p m.state event) found.2 in
    let same : new ≡ goes.0 = is ∙ ap (λ (o : Option Event). unwrap_or (o >>= next p m.state) m.state) first ∙ ap (λ (o : Option State). unwrap_or o m.state) goes.1 in
    let one : automatic_step p m ≡ (next p m.state event >>= (λ t. Some (event, record m { state = t }))) = ap (λ (o : Option Event). o >>= (λ e. next p m.state e >>= (λ t. Some (e, record m { state = t })))) first in
    let two : automatic_step p m ≡ Some (event, record m { state = goes.0 }) = one ∙ ap (λ (o : Option State). o >>= (λ t. Some (event, record m { state = t }))) goes.1 in
    let open_ : next_step_unless_hazard p m ≡ option_or (automatic_step p m) (command_step p m) = ap (λ (o : Option HazardAt). then_some (is_none o) m >>= (λ safe. option_or (automatic_step p safe) (command_step p safe))) calm in
    open_ ∙ ap (λ (o : Option DriveStep). option_or o (command_step p m)) two ∙ ap (λ (t : State). Some (event, record m { state = t })) (sym same)

pub command-refused : (p : PlantLists) (m : StateAndCommandsLeft) (command : Event) (later : List Event) → m.commands ≡ command ∷ later → is_some (next p m.state command) ≡ false → command_step p m ≡ None
command-refused p m command later these none =
    let given : command_step p m ≡ command_step p (record m { commands = command ∷ later }) = ap (λ (cs : List Event). command_step p (record m { commands = cs })) these in
    given ∙ ap (λ (o : Option State). o >>= (λ t. Some (command, record { state = t; commands = later; number = m.number + 1 }))) (none-of (next p m.state command) none)
