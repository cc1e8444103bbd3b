use Rattle.std.proofs.Common.{◌∙◌, ◌∷◌, ◌++◌, [], ap}
use Rattle.ilk_tablegen.proofs.Enumerated.{made-more_at}
use Rattle.ilk_tablegen.specs.NetworkDraft.{section_draft}
use Rattle.ilk_tablegen.proofs.network.network_draft.Goals as goal

pub loop-x-preserved : goal.loop-x-preserved
loop-x-preserved c =
    made-more_at (λ numbered. section_draft c.args.plant.now numbered.0 numbered.1) c.args.plant.now.sections
    c.loop-x.x c.section.result.now c.loop-x.sections c.push.new.self c.section.ensures c.loop-x.invariant
    (c.in_ok-push.ensures.ok ∙ ap (λ s. c.loop-x.sections ++ s ∷ []) c.in_ok-section_draft.ensures)
