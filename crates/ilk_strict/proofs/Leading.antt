-- A route still leads a train's head if another route changes, or none.
use Rattle.std.proofs.Common.{◌≡◌, ℕ, true, false, Option, Some, None, List, inl, inr, ◌⊎◌, length, slice_get, nat_lt, refl, sym, ◌∙◌, ap, subst}
use Rattle.std.specs.List.{last_or}
use Rattle.std.proofs.lemmas.Bool.{and_left, both_ways, cases_eq}
use Rattle.ilk_base.proofs.ListTests.{last-at}
use Rattle.ilk_plant.specs.ColumnRules.{has_no_board}
use Rattle.ilk_plant.specs.Network.{contains_section}
use Rattle.ilk_plant.specs.Plant.{IsPlant, PlantLists, next_to}
use Rattle.ilk_plant.specs.Shape.{HasShape}
use Rattle.ilk_plant.specs.declared.network.Dir.{Dir}
use Rattle.ilk_plant.specs.declared.state.Aspect.{Aspect}
use Rattle.ilk_plant.specs.declared.state.Aspect.TheVariants.{Closed}
use Rattle.ilk_plant.specs.declared.state.Mode.TheVariants.{Locked}
use Rattle.ilk_plant.specs.declared.state.RouteState.{RouteState}
use Rattle.ilk_plant.specs.declared.state.State.{State}
use Rattle.ilk_plant.specs.declared.state.Train.{Train}
use Rattle.ilk_plant.specs.declared.table.Route.{Route}
use Rattle.ilk_plant.proofs.InLists.{section-from}
use Rattle.ilk_model.specs.Families.{meets_v7_heads_have_routes}
use Rattle.ilk_model.specs.Holding.{is_locked_or_occupied, continues_without_board}
use Rattle.ilk_strict.specs.IsStrict.{IsStrict}
use Rattle.ilk_strict.proofs.After.{before-change, one-state, other-stays, same-occupied}
use Rattle.ilk_model.proofs.RouteFrames.{ChangesRoute}
use Rattle.ilk_strict.proofs.RouteFacts.{idle}
use Rattle.ilk_strict.proofs.TrainFacts.{IsLedBy, Keeps, head-led, heads-from, led-route_locked_or_occupied}

pub board-not_plain : (p : PlantLists) (d : Dir) (x : ℕ) → has_no_board p d x ≡ false → continues_without_board p d x ≡ false
board-not_plain p d x board = and_left (has_no_board p d x) (nat_lt 0 (length (next_to p x d))) board

last-within : (xs : List ℕ) (x : ℕ) (o : Option ℕ) → last_or o xs ≡ Some x → (o ≡ Some x) ⊎ (contains_section x xs ≡ true)
last-within xs x o e = elim (last-at o xs x e) [ inl none ↦ inl none | inr found ↦ inr (section-from xs found.0 x found.1) ]

pub head-within : (xs : List ℕ) (x : ℕ) → last_or None xs ≡ Some x → contains_section x xs ≡ true
head-within xs x e = elim (last-within xs x None e) [ inl none ↦ cc | inr found ↦ found ]

module _ (p : PlantLists) (plant : IsPlant p) (strict : IsStrict p) (s t : State) (keeps : Keeps p s) (shape : HasShape p t) (n : ℕ) where
  pub not-leading : (route : Route) (now new : RouteState) → ChangesRoute p s t n route now new → is_locked_or_occupied now ≡ false → (d : Dir) (x : ℕ) → (led : IsLedBy p s d x) → led.r ≡ n → ⊥
  not-leading route now new changes idle d x led same =
      let is = one-state p s led.r n led.route route led.now now led.it (before-change p s t n route now new changes) same in
      let leading = led-route_locked_or_occupied s led.route led.now led.mode in
      both_ways (is_locked_or_occupied now) idle (subst (λ (v : RouteState). is_locked_or_occupied v ≡ true) is.1 leading)

  other-leads : (route : Route) (now new : RouteState) → ChangesRoute p s t n route now new →
      t.trains ≡ s.trains → (d : Dir) (x : ℕ) → (led : IsLedBy p s d x) → (led.r ≡ n → ⊥) →
      (led.now.mode ≡ Locked → slice_get s.boards led.route.source ≡ Some Closed →
      slice_get t.boards led.route.source ≡ Some Closed) → IsLedBy p t d x
  other-leads route now new changes trains d x led apart stay = record {
    r = led.r;
    route = led.route;
    now = led.now;
    it = other-stays p s t n route now new changes led.r led.route led.now apart led.it;
    i = led.i;
    at = led.at;
    runs = led.runs;
    mode = elim led.mode [ inl occupied ↦ inl occupied | inr closed ↦ inr (closed.0, stay closed.0 closed.1) ];
    seen = led.seen;
    later = λ j y less at. same-occupied s t trains y ∙ led.later j y less at;
  }

  pub changed : (route : Route) (now new : RouteState) → ChangesRoute p s t n route now new →
      t.trains ≡ s.trains →
      ((d : Dir) (x : ℕ) → (led : IsLedBy p s d x) → (led.r ≡ n → ⊥) → led.now.mode ≡ Locked →
      slice_get s.boards led.route.source ≡ Some Closed →
      slice_get t.boards led.route.source ≡ Some Closed) →
      ((d : Dir) (x : ℕ) → continues_without_board p d x ≡ true → (led : IsLedBy p s d x) → led.r ≡ n → IsLedBy p t d x) →
      meets_v7_heads_have_routes p t ≡ true
  changed route now new changes trains stay mine =
      heads-from p t shape (λ i train x at last plain.
      let led = head-led p s keeps.v7 i train x (sym (ap (λ (l : List Train). slice_get l i) trains) ∙ at) last plain in
      elim (cases_eq led.r n) [
        | inl same ↦ mine train.dir x plain led same
        | inr apart ↦ other-leads route now new changes trains train.dir x led apart (stay train.dir x led apart)
      ])

  pub idle-changed : (route : Route) (now new : RouteState) → ChangesRoute p s t n route now new → t.trains ≡ s.trains → t.boards ≡ s.boards → is_locked_or_occupied now ≡ false → meets_v7_heads_have_routes p t ≡ true
  idle-changed route now new changes trains boards idle =
      changed route now new changes trains
      (λ d x led apart mode closed. ap (λ (l : List Aspect). slice_get l led.route.source) boards ∙ closed)
      (λ d x plain led same. absurd (not-leading route now new changes idle d x led same))
