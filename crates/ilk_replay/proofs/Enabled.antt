-- An enabled event has a subject in the plant, and so have all events of a run.
use Rattle.std.proofs.Common.{◌≡◌, ℕ, ◌<◌, Bool, true, false, All, Option, Some, List, [], ◌∷◌, length, position, slice_get, refl, ◌∙◌, ap}
use Rattle.std.specs.Prelude.{IsTrue, option_and_then}
use Rattle.std.proofs.lemmas.List.Elements.{All-nil, All-cons}
use Rattle.std.proofs.lemmas.Option.{slice_get_within}
use Rattle.ilk_base.specs.Option.{is_some_and, then_some}
use Rattle.ilk_base.proofs.Options.{bind_some}
use Rattle.ilk_plant.specs.Network.{is_point}
use Rattle.ilk_plant.specs.Plant.{PlantLists, inward_direction_if_border, is_point_section, point_number}
use Rattle.ilk_plant.specs.declared.network.Section.{Section}
use Rattle.ilk_plant.specs.declared.state.State.{State}
use Rattle.ilk_plant.specs.declared.state.Train.{Train}
use Rattle.ilk_motion.specs.Ahead.{ahead}
use Rattle.ilk_motion.specs.Body.{has_head_at}
use Rattle.ilk_model.specs.Event.{next}
use Rattle.ilk_model.specs.Run.{run, next_from_hazard_free}
use Rattle.ilk_model.specs.declared.event.Event.{Event}
use Rattle.ilk_model.specs.declared.event.Event.TheVariants.{Mark, Allocate, Lock, Sense, Release, Finish, Throw, Settle, Enter, Head, Tail, Leave, Cancel}
use Rattle.ilk_replay.specs.Writable.{IsEventSubjectOfPlant}

item-named : {A B : Type 0} (items : List A) (i : ℕ) (f : A → Option B) (y : B) → option_and_then f (slice_get items i) ≡ Some y → i < length items
item-named items i f y e = let found = bind_some (slice_get items i) f y e in slice_get_within items i found.0 found.1

passes : {A : Type 0} (b : Bool) (x y : A) → then_some b x ≡ Some y → b ≡ true
passes true x y e = refl
passes false x y e = cc

point-named : {B : Type 0} (p : PlantLists) (x : ℕ) (f : ℕ → Option B) (y : B) → option_and_then f (point_number p x) ≡ Some y → IsTrue (is_point_section p x)
point-named p x f y e =
    let numbered = bind_some (point_number p x) f y e in
    let found = bind_some (slice_get p.sections x) _ numbered.0 numbered.1 in
    ap (λ (o : Option Section). is_some_and o is_point) found.1 ∙ passes (is_point found.0) _ _ found.2

pub enabled-about : (p : PlantLists) (s t : State) (event : Event) → next p s event ≡ Some t → IsEventSubjectOfPlant p event
enabled-about p s t (Mark r) e = item-named p.routes r _ t e
enabled-about p s t (Allocate r) e = item-named p.routes r _ t e
enabled-about p s t (Lock r) e = item-named p.routes r _ t e
enabled-about p s t (Sense r) e = item-named p.routes r _ t e
enabled-about p s t (Release r) e = item-named p.routes r _ t e
enabled-about p s t (Finish r) e = item-named p.routes r _ t e
enabled-about p s t (Throw x) e = point-named p x _ t e
enabled-about p s t (Settle x) e = point-named p x _ t e
enabled-about p s t (Enter x) e = let inward = bind_some (inward_direction_if_border p x) _ t e in item-named p.sections x _ inward.0 inward.1
enabled-about p s t (Head x) e =
    let first = bind_some {A = ℕ} (position (has_head_at x) s.trains) _ t e in
    let train = bind_some {A = Train} (slice_get s.trains first.0) _ t first.2 in
    let next_section = bind_some {A = ℕ} (ahead p s x train.0.dir) _ t train.2 in
    item-named p.sections x _ next_section.0 next_section.1
enabled-about p s t (Tail x) e = item-named p.sections x _ t e
enabled-about p s t (Leave x) e = item-named p.sections x _ t e
enabled-about p s t (Cancel r) e = item-named p.routes r _ t e

pub run-about : (p : PlantLists) (s t : State) (events : List Event) → run p s events ≡ Some t → All (IsEventSubjectOfPlant p) events
run-about p s t [] e = All-nil (IsEventSubjectOfPlant p)
run-about p s t (event ∷ rest) e =
    let led = bind_some (next_from_hazard_free p s event) (λ u. run p u rest) t e in
    let safe = bind_some _ (λ u. next p u event) led.0 led.1 in
    All-cons (IsEventSubjectOfPlant p) event rest (enabled-about p safe.0 led.0 event safe.2) (run-about p led.0 t rest led.2)
