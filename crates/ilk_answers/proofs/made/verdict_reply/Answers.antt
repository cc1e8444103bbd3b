use Rattle.std.proofs.Common.{ℕ, Global, Vec, ap, ◌∙◌}
use Rattle.ilk_answers.proofs.Written.{demo-told}
use Rattle.ilk_answers.proofs.made.verdict_reply.Goals as goal

pub returns : goal.returns
returns c =
    let found = c.in_ok-found.ensures in
    demo-told c.args.n c.args.depth c.args.conflicts c.args.plant.now c.in_ok-found.found.verdict
    c.in_ok-text.text _ _ c.requires.plant c.prove_is_plant.ensures c.stations_break_no_rule.ensures.columns
    c.requires.some_depth found.right found.lasts found.certified c.in_ok-text.ensures
    c.verdict_status.ensures c.from_certificate.ensures
    (c.from_bytes.ensures ∙ ap (λ (v : Vec ℕ Global). v.items) c.into_bytes.ensures.value ∙ c.in_ok-line.ensures)
