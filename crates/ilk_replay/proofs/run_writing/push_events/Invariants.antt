use Rattle.std.proofs.Common.{◌≡◌, ◌++◌, ◌∷◌, [], flat_map, take}
use Rattle.std.specs.Prelude.{string_bytes}
use Rattle.ilk_replay.proofs.run_writing.push_events.Given as goal
use Rattle.ilk_replay.specs.RunText.{event_line}

abbrev pub invariant-loop-event : goal.invariant-loop-event
invariant-loop-event l =
    string_bytes l.text ≡ string_bytes l.initial.text ++ flat_map (λ event. event_line l.plant event ++ 10 ∷ []) (take l.event-index l.event-items)
