use Rattle.std.proofs.Common.{◌≡◌, refl, sym, ap}
use Rattle.ilk_plant.specs.declared.state.State.{State}

pub record SameLists (s t : State) : Type 0 where
  pub routes : t.routes ≡ s.routes
  pub points : t.points ≡ s.points
  pub boards : t.boards ≡ s.boards
  pub locks : t.locks ≡ s.locks
  pub trains : t.trains ≡ s.trains

pub same-lists : (s t : State) → s ≡ t → SameLists s t
same-lists s t e =
    let back = sym e in
    record {
      routes = ap (λ (u : State). u.routes) back;
      points = ap (λ (u : State). u.points) back;
      boards = ap (λ (u : State). u.boards) back;
      locks = ap (λ (u : State). u.locks) back;
      trains = ap (λ (u : State). u.trains) back;
    }
