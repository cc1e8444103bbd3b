use Rattle.std.proofs.Common.{◌++◌, ◌∷◌, ◌∙◌, ap, arith, flat_map}
use Rattle.std.specs.Prelude.{string_bytes}
use Rattle.std.proofs.lemmas.List.{take_all}
use Rattle.ilk_replay.proofs.state_writing.push_names.Goals as goal
use Rattle.ilk_replay.specs.RunText.{name_at_index_or_empty}

pub returns : goal.returns
returns c =
    c.loop-x.invariant
    ∙ ap (λ body. string_bytes c.args.text.now ++ flat_map (λ x. 32 ∷ name_at_index_or_empty c.args.plant.now.section_names x) body) (take_all c.loop-x.x-index c.args.body.now (omega (arith, c.loop-x-test.false)))
