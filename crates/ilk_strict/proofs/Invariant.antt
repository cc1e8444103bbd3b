-- For a strict table, the initial state meets the invariant, each event keeps it, and so every run
-- from the start ends in a state that meets it.
use Rattle.std.proofs.Common.{◌≡◌, ℕ, Bool, true, Some, List, [], ◌∷◌, IfOk, OnErr, OnOk, unwrap_or, Result, Ok, Err, is_none, length, refl, sym, ap, ◌∙◌, subst}
use Rattle.std.proofs.lemmas.Option.{cond_some, option_and_then_some, same_Some}
use Rattle.std.specs.declared.alloc.AllocError.{AllocError}
use Rattle.ilk_base.proofs.Lists.{copied}
use Rattle.ilk_plant.specs.Plant.{IsPlant, PlantLists}
use Rattle.ilk_plant.specs.Start.{free_route_state, start}
use Rattle.ilk_plant.specs.declared.state.Aspect.TheVariants.{Open, Closed}
use Rattle.ilk_plant.specs.declared.state.Mode.TheVariants.{Free, Allocating, Locked}
use Rattle.ilk_plant.specs.declared.state.RouteState.{RouteState}
use Rattle.ilk_plant.specs.declared.state.State.{State}
use Rattle.ilk_plant.specs.declared.table.Route.{Route}
use Rattle.ilk_plant.proofs.Shapes.{start-shape}
use Rattle.ilk_plant.proofs.Steps.{after_step}
use Rattle.ilk_model.specs.Event.{next}
use Rattle.ilk_model.specs.Hazard.{hazard}
use Rattle.ilk_model.specs.Holding.{is_holding_state}
use Rattle.ilk_model.specs.Meets.{Meets}
use Rattle.ilk_model.specs.Run.{run, next_from_hazard_free}
use Rattle.ilk_model.specs.declared.event.Event.{Event}
use Rattle.ilk_strict.specs.IsStrict.{IsStrict}
use Rattle.ilk_strict.proofs.BoardFacts.{open-from, points-from, protected-from}
use Rattle.ilk_strict.proofs.RouteFacts.{alone-from, counts_right, holds-cases, locked-holds, locks-from, vacant-from}
use Rattle.ilk_strict.proofs.Reading.{RouteIn, all_routes_pass_test-from}
use Rattle.ilk_strict.proofs.TrainFacts.{keeps-of, meets-from, wrong-from}
use Rattle.ilk_strict.proofs.EventsKeep.{keeps-next}

pub meets-next : (p : PlantLists) → IsPlant p → IsStrict p → (s t : State) (event : Event) → Meets p s → next p s event ≡ Some t → Meets p t
meets-next p plant strict s t event meets e = meets-from p t (keeps-next p plant strict s t event (keeps-of p s meets) e)

pub meets-run : (p : PlantLists) → IsPlant p → IsStrict p → (events : List Event) (s t : State) → Meets p s → run p s events ≡ Some t → Meets p t
meets-run p plant strict [] s t meets e = subst (Meets p) (same_Some s t e) meets
meets-run p plant strict (event ∷ rest) s t meets e =
    option_and_then_some (λ u. run p u rest) (next_from_hazard_free p s event) t e (λ u first later.
    option_and_then_some (λ safe. next p safe event) _ u first (λ safe is_safe after.
    let same : s ≡ safe = (cond_some (is_none (hazard p s)) s safe is_safe).1 in
    let leads : next p s event ≡ Some u = ap (λ (v : State). next p v event) same ∙ after in
    meets-run p plant strict rest u t (meets-next p plant strict s u event meets leads) later))

start-free : (p : PlantLists) (r : ℕ) (route : Route) (now : RouteState) → RouteIn p (start p) r route now → free_route_state ≡ now
start-free p r route now it = copied (length p.routes) r free_route_state now it.state

start-mode : (p : PlantLists) (r : ℕ) (route : Route) (now : RouteState) → RouteIn p (start p) r route now → now.mode ≡ Free
start-mode p r route now it = ap (λ (v : RouteState). v.mode) (sym (start-free p r route now it))

start-holds_none : (p : PlantLists) (r : ℕ) (route : Route) (now : RouteState) → RouteIn p (start p) r route now → is_holding_state now ≡ true → ⊥
start-holds_none p r route now it holds =
    let none : is_holding_state free_route_state ≡ true = subst (λ (v : RouteState). is_holding_state v ≡ true) (sym (start-free p r route now it)) holds in cc

pub start-meets : (p : PlantLists) → Meets p (start p)
start-meets p = meets-from p (start p) (record {
  shape = start-shape p;
  v1 = all_routes_pass_test-from p (start p) counts_right (start-shape p).routes (λ r route now it. subst (λ (v : RouteState). counts_right route v ≡ true) (start-free p r route now it) refl);
  v2 = alone-from p (start p) (λ r route now it q other its that x within first second. absurd (start-holds_none p r route now it (holds-cases route now x first).0));
  v3 = locks-from p (start p) (start-shape p).routes (λ r route now it holds. absurd (start-holds_none p r route now it holds));
  v4 = vacant-from p (start p) (start-shape p).routes (λ r route now it mode i x at. refl);
  v5 = open-from p (start p) (λ m within shown. let bad : Closed ≡ Open = copied (length p.boards) m Closed Open shown in cc);
  v6 = points-from p (start p) (start-shape p).routes (λ r route now it k listed at. (
    λ mode on. (let bad : Free ≡ Allocating = sym (start-mode p r route now it) ∙ mode in cc),
    λ mode kept. absurd (start-holds_none p r route now it (locked-holds now mode)),
  ));
  v7 = refl;
  v8 = refl;
  v9 = protected-from p (start p) (start-shape p).routes (λ r route now it mode k m at. let bad : Free ≡ Locked = sym (start-mode p r route now it) ∙ mode in cc);
  one_train = λ x within. refl;
  right_point = λ x within. wrong-from p (start p) x (λ stem plus minus faces section i train at. cc);
})

pub forever-safe : (p : PlantLists) → IsPlant p → IsStrict p → (events : List Event) (t : State) → run p (start p) events ≡ Some t → Meets p t
forever-safe p plant strict events t e = meets-run p plant strict events (start p) t (start-meets p) e

pub begun_meets : (p : PlantLists) (r : Result State AllocError) → IfOk r (λ s. s ≡ start p) → IfOk r (Meets p)
begun_meets p (Ok s) e = subst (Meets p) (sym e) (start-meets p)
begun_meets p (Err e) h = tt

pub advanced_meets : (p : PlantLists) (s new : State) (event : Event) (r : Result Bool AllocError) → IsPlant p → IsStrict p → Meets p s → OnOk r (new ≡ unwrap_or (next p s event) s) → OnErr r (new ≡ s) → Meets p new
advanced_meets p s new event r plant strict meets done undone =
    after_step (Meets p) r (next p s event) s new meets (λ t e. meets-next p plant strict s t event meets e) done undone
