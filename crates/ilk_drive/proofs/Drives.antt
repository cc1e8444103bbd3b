-- A scenario has one drive. Its events are a run, they are few, and they are read and replayed as a
-- run.
use Rattle.std.proofs.Common.{◌≡◌, ℕ, zero, suc, ◌*◌, ◌≤◌, Bool, true, false, Option, Some, None, List, [], ◌∷◌, ◌++◌, length, replicate, refl, sym, ap, ◌∙◌, subst, arith}
use Rattle.std.specs.Prelude.{if◌then◌else◌, ◌≢◌}
use Rattle.std.proofs.lemmas.List.{append_assoc, append-nil}
use Rattle.std.proofs.lemmas.Option.{same_Some}
use Rattle.ilk_base.specs.Option.{◌>>=◌}
use Rattle.ilk_plant.proofs.Shapes.{start-shape}
use Rattle.ilk_plant.specs.Plant.{IsPlant, PlantLists, point_count}
use Rattle.ilk_plant.specs.Shape.{HasShape}
use Rattle.ilk_plant.specs.Sound.{IsAcyclic}
use Rattle.ilk_plant.specs.Start.{free_route_state, plus_point_state, start}
use Rattle.ilk_plant.specs.declared.state.State.{State}
use Rattle.ilk_plant.specs.declared.table.Route.{Route}
use Rattle.ilk_model.specs.Hazard.{hazard}
use Rattle.ilk_model.specs.Run.{run}
use Rattle.ilk_model.specs.declared.event.Event.{Event}
use Rattle.ilk_model.specs.declared.hazards.HazardAt.{HazardAt}
use Rattle.ilk_replay.proofs.Enabled.{run-about}
use Rattle.ilk_replay.proofs.OfPlant.{written-run_from_lines}
use Rattle.ilk_replay.specs.RunText.{run_text}
use Rattle.ilk_replay.specs.Seen.{replay_result}
use Rattle.ilk_replay.specs.Told.{run_from_text, run_from_start}
use Rattle.ilk_replay.specs.Writable.{IsWritableRunOfPlant}
use Rattle.ilk_replay.specs.declared.seen.Seen.TheVariants.{NoHazard, Hazard as SeenHazard}
use Rattle.ilk_replay.specs.declared.told.Tale.TheVariants.{Told as IsTold}
use Rattle.ilk_strict.proofs.Invariant.{forever-safe}
use Rattle.ilk_strict.specs.IsStrict.{IsStrict}
use Rattle.ilk_drive.specs.Drive.{IsDriveFrom, IsDriveOf, StateAndCommandsLeft, DriveStep, initial_drive_state, is_done_empty_and_free, final_state_outcome, next_step_unless_hazard}
use Rattle.ilk_drive.specs.Progress.{IsStepOrUnchanged}
use Rattle.ilk_drive.specs.Told.{IsRunFromStart, IsOutcomeWithoutHazard, replay_result_of_outcome}
use Rattle.ilk_drive.specs.declared.outcome.Driven.{Driven}
use Rattle.ilk_drive.specs.declared.outcome.Rest.{Rest}
use Rattle.ilk_drive.specs.declared.outcome.Rest.TheVariants.{Driven as IsDriven, Stuck, Hazard}
use Rattle.ilk_drive.proofs.Potential.{left, points_left, routes_left}
use Rattle.ilk_model.proofs.Shape.{next-shape}
use Rattle.ilk_drive.proofs.Turns.{allows, leads-by, next_step_unless_hazard-lowers, next_step_unless_hazard-next_from_hazard_free}

-- Holds if the drive ends after these events: there is no next event, and the result is `rest`.
pub record EndsAt (p : PlantLists) (m : StateAndCommandsLeft) (events : List Event) (rest : Rest) : Type 0 where
  pub last : StateAndCommandsLeft
  pub ran : run p m.state events ≡ Some last.state
  pub ends : next_step_unless_hazard p last ≡ None
  pub rests : rest ≡ final_state_outcome p last

pub ends-at : (p : PlantLists) (events : List Event) (m : StateAndCommandsLeft) (rest : Rest) → IsDriveFrom p m events rest → EndsAt p m events rest
ends-at p [] m rest drives = record { last = m; ran = refl; ends = drives.0; rests = drives.1 }
ends-at p (event ∷ later) m rest drives =
    let after = drives.0 in
    let more = ends-at p later after rest drives.2 in
    let by = leads-by p m after event drives.1 in
    record {
      last = more.last;
      ran = ap (λ (o : Option State). o >>= (λ t. run p t later)) (next_step_unless_hazard-next_from_hazard_free p m after event by) ∙ more.ran;
      ends = more.ends;
      rests = more.rests;
    }

pub drives-few : (p : PlantLists) → IsPlant p → IsAcyclic p → (events : List Event) (m : StateAndCommandsLeft) (rest : Rest) → HasShape p m.state → IsDriveFrom p m events rest → length events ≤ allows p m
drives-few p plant never [] m rest shape drives = omega arith
drives-few p plant never (event ∷ later) m rest shape drives =
    let after = drives.0 in
    let by = leads-by p m after event drives.1 in
    let more = drives-few p plant never later after rest (next-shape p plant m.state after.state event shape by.goes) drives.2 in
    let less = next_step_unless_hazard-lowers p plant never m after event shape by in
    omega (arith, more, less)

drives-one : (p : PlantLists) (a b : List Event) (m : StateAndCommandsLeft) (r q : Rest) → IsDriveFrom p m a r → IsDriveFrom p m b q → (a ≡ b) × (r ≡ q)
drives-one p [] [] m r q x y = (refl, x.1 ∙ sym y.1)
drives-one p [] (f ∷ b) m r q x y = let bad : ◌≡◌ {A = Option DriveStep} None (Some (f, y.0)) = sym x.0 ∙ y.1 in cc
drives-one p (e ∷ a) [] m r q x y = let bad : ◌≡◌ {A = Option DriveStep} None (Some (e, x.0)) = sym y.0 ∙ x.1 in cc
drives-one p (e ∷ a) (f ∷ b) m r q x y =
    let pair : ◌≡◌ {A = DriveStep} (e, x.0) (f, y.0) = same_Some _ _ (sym x.1 ∙ y.1) in
    let one : e ≡ f = ap (λ (t : DriveStep). t.0) pair in
    let there : x.0 ≡ y.0 = ap (λ (t : DriveStep). t.1) pair in
    let rest = drives-one p a b y.0 r q (subst (λ (n : StateAndCommandsLeft). IsDriveFrom p n a r) there x.2) y.2 in
    (ap (λ (v : Event). v ∷ a) one ∙ ap (λ (vs : List Event). f ∷ vs) rest.0, rest.1)

pub drive-one : (p : PlantLists) (scene : List Event) (a b : Driven) → IsDriveOf p scene a → IsDriveOf p scene b → a ≡ b
drive-one p scene a b x y =
    let same = drives-one p a.events b.events (initial_drive_state p scene) a.rest b.rest x y in
    let first : record { rest = a.rest; events = a.events } ≡ record { rest = b.rest; events = a.events } = ap (λ (r : Rest). record { rest = r; events = a.events }) same.1 in
    first ∙ ap (λ (es : List Event). record { rest = b.rest; events = es }) same.0

pub drive-run : (p : PlantLists) (scene : List Event) (driven : Driven) → IsDriveOf p scene driven → IsRunFromStart p driven.events
drive-run p scene driven drives = let end = ends-at p driven.events (initial_drive_state p scene) driven.rest drives in (end.last.state, end.ran)

routes-at_rest : (routes : List Route) → routes_left routes (replicate (length routes) free_route_state) ≡ 0
routes-at_rest [] = refl
routes-at_rest (route ∷ routes) = let rest = routes-at_rest routes in omega (arith, rest)

points-at_rest : (n : ℕ) → points_left (replicate n plus_point_state) ≡ 0
points-at_rest zero = refl
points-at_rest (suc n) = let rest = points-at_rest n in omega (arith, rest)

pub start-at_rest : (p : PlantLists) → left p (start p) ≡ 0
start-at_rest p =
    let routes = routes-at_rest p.routes in
    let points = points-at_rest (point_count p) in
    omega (arith, routes, points)

pub drive-few : (p : PlantLists) → IsPlant p → IsAcyclic p → (scene : List Event) (driven : Driven) → IsDriveOf p scene driven → length driven.events ≤ 512 * length scene
drive-few p plant never scene driven drives =
    let few = drives-few p plant never driven.events (initial_drive_state p scene) driven.rest (start-shape p) drives in
    let none = start-at_rest p in
    omega (arith, few, none)

rest-calm : (p : PlantLists) (m : StateAndCommandsLeft) → hazard p m.state ≡ None → final_state_outcome p m ≡ (if is_done_empty_and_free m then IsDriven else Stuck m.number)
rest-calm p m calm = rw calm refl

rest-hazard : (p : PlantLists) (m : StateAndCommandsLeft) (at : HazardAt) → hazard p m.state ≡ Some at → final_state_outcome p m ≡ Hazard at
rest-hazard p m at there = rw there refl

seen-calm : (p : PlantLists) (s t : State) (events : List Event) → run p s events ≡ Some t → hazard p t ≡ None → replay_result p s events ≡ NoHazard
seen-calm p s t events ran calm = rw ran (rw calm refl)

seen-hazard : (p : PlantLists) (s t : State) (events : List Event) (at : HazardAt) → run p s events ≡ Some t → hazard p t ≡ Some at → replay_result p s events ≡ SeenHazard at
seen-hazard p s t events at ran there = rw ran (rw there refl)

seen-without : (b : Bool) (n : ℕ) → replay_result_of_outcome (if b then IsDriven else Stuck n) ≡ NoHazard
seen-without true n = refl
seen-without false n = refl

pub drive-seen : (p : PlantLists) (scene : List Event) (driven : Driven) → IsDriveOf p scene driven → replay_result p (start p) driven.events ≡ replay_result_of_outcome driven.rest
drive-seen p scene driven drives = by_hazard (hazard p end.last.state) refl
  where
    end : EndsAt p (initial_drive_state p scene) driven.events driven.rest
    end = ends-at p driven.events (initial_drive_state p scene) driven.rest drives

    by_hazard : (o : Option HazardAt) → hazard p end.last.state ≡ o → replay_result p (start p) driven.events ≡ replay_result_of_outcome driven.rest
    by_hazard None e =
        let shown : replay_result p (start p) driven.events ≡ NoHazard = seen-calm p (start p) end.last.state driven.events end.ran e in
        let rests : driven.rest ≡ (if is_done_empty_and_free end.last then IsDriven else Stuck end.last.number) = end.rests ∙ rest-calm p end.last e in
        shown ∙ sym (ap replay_result_of_outcome rests ∙ seen-without (is_done_empty_and_free end.last) end.last.number)
    by_hazard (Some at) e =
        let shown : replay_result p (start p) driven.events ≡ SeenHazard at = seen-hazard p (start p) end.last.state driven.events at end.ran e in
        let rests : driven.rest ≡ Hazard at = end.rests ∙ rest-hazard p end.last at e in
        shown ∙ sym (ap replay_result_of_outcome rests)

calm-rests : (b : Bool) (n : ℕ) (at : HazardAt) → (if b then IsDriven else Stuck n) ≢ Hazard at
calm-rests true n at e = cc
calm-rests false n at e = cc

pub drive-safe : (p : PlantLists) → IsPlant p → IsStrict p → (scene : List Event) (driven : Driven) → IsDriveOf p scene driven → IsOutcomeWithoutHazard driven.rest
drive-safe p plant strict scene driven drives at e =
    let end = ends-at p driven.events (initial_drive_state p scene) driven.rest drives in
    let meets = forever-safe p plant strict driven.events end.last.state end.ran in
    let rests : driven.rest ≡ (if is_done_empty_and_free end.last then IsDriven else Stuck end.last.number) = end.rests ∙ rest-calm p end.last meets.no_hazard in
    calm-rests (is_done_empty_and_free end.last) end.last.number at (sym rests ∙ e)

pub drive-writable : (p : PlantLists) (scene : List Event) (driven : Driven) → IsDriveOf p scene driven → IsWritableRunOfPlant p (run_from_start p driven.events)
drive-writable p scene driven drives =
    let ran = drive-run p scene driven drives in
    record { shape = start-shape p; start = λ e. refl; events = run-about p (start p) ran.0 driven.events ran.1 }

pub drive-read : (p : PlantLists) → IsPlant p → (scene : List Event) (driven : Driven) → IsDriveOf p scene driven → run_from_text p (run_text p (run_from_start p driven.events)) ≡ IsTold (run_from_start p driven.events)
drive-read p plant scene driven drives = written-run_from_lines p plant (run_from_start p driven.events) (drive-writable p scene driven drives)

pub drives-more :
    (p : PlantLists) (first m after : StateAndCommandsLeft) (events new later : List Event) (event : Event) (rest : Rest) →
    ((more : List Event) (r : Rest) → IsDriveFrom p m more r → IsDriveFrom p first (events ++ more) r) →
    next_step_unless_hazard p m ≡ Some (event, after) → new ≡ events ++ event ∷ [] → IsDriveFrom p after later rest →
    IsDriveFrom p first (new ++ later) rest
drives-more p first m after events new later event rest before taken grown drives =
    let whole : IsDriveFrom p first (events ++ event ∷ later) rest = before (event ∷ later) rest (after, taken, drives) in
    let same : events ++ event ∷ later ≡ new ++ later = sym (append_assoc events (event ∷ []) later) ∙ ap (λ (es : List Event). es ++ later) (sym grown) in
    subst (λ (es : List Event). IsDriveFrom p first es rest) same whole

pub drives-end :
    (p : PlantLists) (scene : List Event) (m after : StateAndCommandsLeft) (events : List Event) (o : Option Event)
    (rest : Rest) →
    ((more : List Event) (r : Rest) → IsDriveFrom p m more r → IsDriveFrom p (initial_drive_state p scene) (events ++ more) r) →
    IsStepOrUnchanged (next_step_unless_hazard p m) m after o → o ≡ None → rest ≡ final_state_outcome p after →
    IsDriveOf p scene (record { rest = rest; events = events })
drives-end p scene m after events o rest before comes none is =
    let ends : (next_step_unless_hazard p m ≡ None) × (after ≡ m) = subst (IsStepOrUnchanged (next_step_unless_hazard p m) m after) none comes in
    let whole : IsDriveFrom p (initial_drive_state p scene) (events ++ []) rest = before [] rest (ends.0, is ∙ ap (final_state_outcome p) ends.1) in
    subst (λ (es : List Event). IsDriveFrom p (initial_drive_state p scene) es rest) (append-nil events) whole
