use Rattle.std.proofs.Common.{◌++◌, ◌∷◌, [], ◌∙◌, ap, arith, flat_map}
use Rattle.std.specs.Prelude.{string_bytes}
use Rattle.std.proofs.lemmas.List.{take_all}
use Rattle.ilk_replay.proofs.run_writing.push_events.Goals as goal
use Rattle.ilk_replay.specs.RunText.{event_line}

pub returns : goal.returns
returns c =
    c.loop-event.invariant
    ∙ ap
    (λ events. string_bytes c.args.text.now
    ++ flat_map (λ event. event_line c.args.plant.now event ++ 10 ∷ []) events)
    (take_all c.loop-event.event-index c.as_slice-event-items.result.now
    (omega (arith, c.loop-event-test.false))
    ∙ c.as_slice-event-items.ensures)
