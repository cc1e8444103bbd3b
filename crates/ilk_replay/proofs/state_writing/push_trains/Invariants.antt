use Rattle.std.proofs.Common.{◌≡◌, ◌++◌, ◌∷◌, [], flat_map, take}
use Rattle.std.specs.Prelude.{string_bytes}
use Rattle.ilk_replay.proofs.state_writing.push_trains.Given as goal
use Rattle.ilk_replay.specs.RunText.{train_line}

abbrev pub invariant-loop-train : goal.invariant-loop-train
invariant-loop-train l =
    string_bytes l.text ≡ string_bytes l.initial.text ++ flat_map (λ train. train_line l.plant train ++ 10 ∷ []) (take l.train-index l.train-items)
