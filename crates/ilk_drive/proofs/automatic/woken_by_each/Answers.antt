use Rattle.std.proofs.Common.{◌≡◌, Some, List, ℕ, [], ◌∷◌, length, slice_get, get_or, ap, subst, arith}
use Rattle.std.proofs.lemmas.List.{length-append}
use Rattle.std.proofs.lemmas.Option.{slice_get-get_or}
use Rattle.ilk_model.specs.declared.event.Event.{Event}
use Rattle.ilk_model.specs.declared.event.Event.TheVariants.{Mark}
use Rattle.ilk_drive.proofs.Covered.{wakes-more}
use Rattle.ilk_drive.proofs.automatic.woken_by_each.Goals as goal

pub loop-event-preserved : goal.loop-event-preserved
loop-event-preserved c =
    let event : Event = get_or c.as_slice-event-items.result.now c.loop-event.event-index (Mark 0) in
    let here : slice_get c.args.events.now c.loop-event.event-index ≡ Some event = subst
    (λ (xs : List Event). slice_get xs c.loop-event.event-index ≡ Some event)
    c.as_slice-event-items.ensures
    (slice_get-get_or c.as_slice-event-items.result.now c.loop-event.event-index (Mark 0) (omega arith))
    in
    let grown = c.in_ok-push.ensures.ok in
    let more = ap (λ (l : List (List ℕ)). length l) grown in
    let both = length-append c.loop-event.woken (c.in_ok-indices_enabled_by.field-0 ∷ []) in
    let long = c.loop-event.invariant.long in
    record {
      long = omega (arith, more, both, long);
      woken = wakes-more c.args.plant.now c.args.events.now c.loop-event.woken c.push.new.self c.loop-event.event-index event c.in_ok-indices_enabled_by.field-0 long here c.in_ok-indices_enabled_by.ensures grown c.loop-event.invariant.woken;
    }
