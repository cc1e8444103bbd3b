use Rattle.std.proofs.Common.{◌≡◌, Some, slice_get, length, get_or, arith, sym, ap, ◌∙◌, subst, List}
use Rattle.std.proofs.lemmas.Option.{slice_get-get_or, slice_get_within}
use Rattle.ilk_model.specs.declared.event.Event.{Event}
use Rattle.ilk_model.specs.declared.event.Event.TheVariants.{Mark}
use Rattle.ilk_drive.proofs.Held.{pushed-added, pushed-kept, woken-more}
use Rattle.ilk_drive.proofs.waking.indices_enabled_by.Goals as goal

pub loop-place-preserved : goal.loop-place-preserved
loop-place-preserved c =
    let other : Event = get_or c.as_slice-other-items.result.now c.loop-place.place (Mark 0) in
    let here : slice_get c.args.automatic.now c.loop-place.place ≡ Some other = subst
    (λ (xs : List Event). slice_get xs c.loop-place.place ≡ Some other) c.as_slice-other-items.ensures
    (slice_get-get_or c.as_slice-other-items.result.now c.loop-place.place (Mark 0) (omega arith)) in
    woken-more c.args.plant.now c.args.event other c.args.automatic.now c.loop-place.place c.may_enable_automatic.result
    c.loop-place.places c.push_if.new.self here c.may_enable_automatic.ensures c.loop-place.invariant
    (pushed-kept c.may_enable_automatic.result c.loop-place.place c.loop-place.places c.push_if.new.self c.in_ok-push_if.ensures.ok)
    (pushed-added c.may_enable_automatic.result c.loop-place.place c.loop-place.places c.push_if.new.self c.in_ok-push_if.ensures.ok)

pub returns : goal.returns
returns c j other at may =
    let there = sym (ap (λ (xs : List Event). slice_get xs j) c.requires) in
    let within = slice_get_within c.args.automatic.now j other (ap (λ (xs : List Event). slice_get xs j) c.requires ∙ at) in
    let long = ap (λ (xs : List Event). length xs) c.as_slice-other-items.ensures in
    c.loop-place.invariant j other (omega (arith, within, long)) (ap (λ (xs : List Event). slice_get xs j) c.requires ∙ at) may
