use Rattle.std.proofs.Common.{◌≡◌, None, sym, subst, ◌∙◌}
use Rattle.ilk_plant.specs.declared.state.State.{State}
use Rattle.ilk_drive.specs.Drive.{first_automatic}
use Rattle.ilk_drive.proofs.Covered.{none-covered}
use Rattle.ilk_drive.proofs.Found.{after-none}
use Rattle.ilk_drive.proofs.driving.do_automatic.Goals as goal

pub returns-clause-first : goal.returns-clause-first
returns-clause-first c =
    sym (subst (λ (u : State). first_automatic c.args.plant.now u ≡ None) c.loop-place.invariant.same (none-covered c.args.plant.now c.loop-place.s c.loop-place.candidates c.loop-place.invariant.covers c.in_default.ensures.none))

pub returns-clause-next : goal.returns-clause-next
returns-clause-next c = c.loop-place.invariant.same ∙ after-none c.args.plant.now c.args.s.now (sym (returns-clause-first c))
