use Rattle.std.proofs.Common.{◌++◌, ◌∷◌, [], ◌∙◌, ap, arith, flat_map}
use Rattle.std.specs.Prelude.{string_bytes}
use Rattle.std.proofs.lemmas.List.{take_all}
use Rattle.ilk_replay.proofs.state_writing.push_trains.Goals as goal
use Rattle.ilk_replay.specs.RunText.{train_line}

pub returns : goal.returns
returns c =
    c.loop-train.invariant
    ∙ ap
    (λ trains. string_bytes c.args.text.now
    ++ flat_map (λ train. train_line c.args.plant.now train ++ 10 ∷ []) trains)
    (take_all c.loop-train.train-index c.as_slice-train-items.result.now
    (omega (arith, c.loop-train-test.false))
    ∙ c.as_slice-train-items.ensures)
