use Rattle.std.proofs.Common.{◌≡◌, ◌+◌, ◌<◌, ◌∙◌, ap, get_or, ℕ}
use Rattle.std.specs.Int.{bit_at}
use Rattle.ilk_plant.specs.Network.{contains_section}
use Rattle.ilk_plant.specs.declared.state.Train.{Train}
use Rattle.ilk_model.proofs.SharedSections.{bit, seen_after, shared_after}
use Rattle.ilk_model.proofs.shared.shared_from.Goals as goal

pub loop-train-preserved : goal.loop-train-preserved
loop-train-preserved c =
    let trains = c.as_slice-train-items.result.now in
    let i = c.loop-train.train-index in
    let from = c.args.from in
    let train = c.train-item.result in
    let own : (x : ℕ) → x < 128 → bit_at c.section_bits_from-body.result x ≡ bit (contains_section (from + x) (get_or trains i train).body) =
    λ x below. c.section_bits_from-body.ensures x below ∙ ap (λ sections. bit (contains_section (from + x) sections)) c.as_slice.ensures ∙ ap (λ (t : Train). bit (contains_section (from + x) t.body)) c.train-item.is in
    record {
      seen =
          λ x below. seen_after (λ (t : Train). contains_section (from + x) t.body) trains i train
          c.loop-train-test.true x c.loop-train.seen c.loop-train.shared c.section_bits_from-body.result
          (c.loop-train.invariant.seen x below) (c.loop-train.invariant.shared x below) (own x below);
      shared =
          λ x below. shared_after (λ (t : Train). contains_section (from + x) t.body) trains i train
          c.loop-train-test.true x c.loop-train.seen c.loop-train.shared c.section_bits_from-body.result
          (c.loop-train.invariant.seen x below) (c.loop-train.invariant.shared x below) (own x below);
    }
