use Rattle.std.proofs.Common.{◌≡◌, true, false, Some, ◌||◌, ◌==◌, List, slice_get, is_some, sym, ◌∙◌, subst}
use Rattle.ilk_model.specs.Event.{next}
use Rattle.ilk_model.specs.declared.event.Event.{Event}
use Rattle.ilk_drive.proofs.Covered.{covers-on, done-is, none-before, stays-covered}
use Rattle.ilk_drive.proofs.Found.{first-is, got-at}
use Rattle.ilk_drive.proofs.driving.try_place.Goals as goal
use Rattle.ilk_base.specs.Numbers.{has_number}

pub returns-then-not-branch-clause-covers : goal.returns-then-not-branch-clause-covers
returns-then-not-branch-clause-covers c =
    let there : slice_get c.args.automatic.now.events c.args.place ≡ Some c.in-Some.event.now = got-at
    c.as_slice.result.now c.args.automatic.now.events c.args.place c.in-Some.event.now c.as_slice.ensures
    c.in-Some.ensures.lookup.3.0 c.in-Some.ensures.lookup.1 in
    let at = subst (λ (es : List Event). slice_get es c.args.place ≡ Some c.in-Some.event.now) c.requires.all.events there in
    let none : is_some (next c.args.plant.now c.args.s.now c.in-Some.event.now) ≡ false = sym c.in_ok-apply.ensures.answer ∙ c.if-not-branch.true in
    stays-covered c.args.plant.now c.args.s.now c.apply.new.s c.in-Some.event.now c.args.place c.args.candidates.now c.requires.covers at none c.in_ok-apply.ensures.next

pub returns-clause-first : goal.returns-clause-first
returns-clause-first c =
    let there : slice_get c.args.automatic.now.events c.args.place ≡ Some c.in-Some.event.now = got-at
    c.as_slice.result.now c.args.automatic.now.events c.args.place c.in-Some.event.now c.as_slice.ensures
    c.in-Some.ensures.lookup.3.0 c.in-Some.ensures.lookup.1 in
    let at = subst (λ (es : List Event). slice_get es c.args.place ≡ Some c.in-Some.event.now) c.requires.all.events there in
    let enabled : is_some (next c.args.plant.now c.args.s.now c.in-Some.event.now) ≡ true = sym c.in_ok-apply.ensures.answer ∙ c.if-not-branch.false in
    first-is c.args.plant.now c.args.s.now c.args.place c.in-Some.event.now at enabled (none-before c.args.plant.now c.args.s.now c.args.place c.args.candidates.now c.requires.covers c.requires.least)

pub returns-clause-covers : goal.returns-clause-covers
returns-clause-covers c =
    let there : slice_get c.args.automatic.now.events c.args.place ≡ Some c.in-Some.event.now = got-at
    c.as_slice.result.now c.args.automatic.now.events c.args.place c.in-Some.event.now c.as_slice.ensures
    c.in-Some.ensures.lookup.3.0 c.in-Some.ensures.lookup.1 in
    let enabled : is_some (next c.args.plant.now c.args.s.now c.in-Some.event.now) ≡ true = sym c.in_ok-apply.ensures.answer ∙ c.if-not-branch.false in
    covers-on c.args.plant.now c.prove_is_plant.ensures c.args.s.now c.apply.new.s c.requires.shape c.in-Some.event.now (done-is _ c.args.s.now c.apply.new.s enabled c.in_ok-apply.ensures.next)
    (λ j. c.args.place == j || has_number j c.args.candidates.now) c.requires.covers c.at.result.now c.push_all.new.candidates
    (c.requires.all.woken c.args.place c.in-Some.event.now c.at.result.now there c.at.ensures)
    (λ j h. c.in_ok-push_all.ensures.kept j (c.in_ok-push.ensures j ∙ h)) c.in_ok-push_all.ensures.added
