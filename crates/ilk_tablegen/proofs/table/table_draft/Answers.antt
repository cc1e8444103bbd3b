use Rattle.std.proofs.Common.{◌∙◌, ◌∷◌, ◌++◌, [], ap}
use Rattle.ilk_tablegen.specs.Table.{route_draft}
use Rattle.ilk_tablegen.proofs.Enumerated.{made-more}
use Rattle.ilk_tablegen.proofs.table.table_draft.Goals as goal

pub loop-n-preserved : goal.loop-n-preserved
loop-n-preserved c =
    made-more (λ numbered. route_draft c.args.plant.now numbered.0 numbered.1)
    c.as_slice-route-items.result.now c.loop-n.n c.route-item.result c.loop-n.drafts c.push.new.self
    c.loop-n-test.true c.loop-n.invariant
    (c.in_ok-push.ensures.ok
    ∙ ap (λ r. c.loop-n.drafts ++ r ∷ [])
    (c.in_ok-route_draft.ensures ∙ ap (route_draft c.args.plant.now c.loop-n.n) c.route-item.is))
