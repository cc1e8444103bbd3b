-- Properties that a step keeps, from its clauses.
use Rattle.std.proofs.Common.{◌≡◌, Bool, Option, Some, None, Result, Ok, Err, OnOk, OnErr, unwrap_or, subst, sym, refl}
use Rattle.std.specs.declared.alloc.AllocError.{AllocError}
use Rattle.ilk_plant.specs.declared.state.State.{State}

pub after_step : (P : State → Type 0) (r : Result Bool AllocError) (next : Option State) (old new : State) → P old → ((t : State) → next ≡ Some t → P t) → OnOk r (new ≡ unwrap_or next old) → OnErr r (new ≡ old) → P new
after_step P (Ok b) None old new h f ok err = subst P (sym ok) h
after_step P (Ok b) (Some t) old new h f ok err = subst P (sym ok) (f t refl)
after_step P (Err e) next old new h f ok err = subst P (sym err) h

-- The same for a step without allocation.
pub after_turn : (P : State → Type 0) (next : Option State) (old new : State) → P old → ((t : State) → next ≡ Some t → P t) → new ≡ unwrap_or next old → P new
after_turn P None old new h f e = subst P (sym e) h
after_turn P (Some t) old new h f e = subst P (sym e) (f t refl)
