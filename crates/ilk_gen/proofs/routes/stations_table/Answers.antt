use Rattle.std.proofs.Common.{List, ap, ◌∙◌}
use Rattle.ilk_plant.specs.declared.draft.RouteDraft.{RouteDraft}
use Rattle.ilk_plant.specs.declared.draft.TableDraft.{TableDraft}
use Rattle.ilk_gen.proofs.WrittenConflicts.{conflicts-written}
use Rattle.ilk_gen.proofs.routes.stations_table.Goals as goal

pub returns : goal.returns
returns c =
    let made = rw c.new-routes.ensures at c.in_ok-push_routes.ensures in
    ap {B = TableDraft} (λ (routes : List RouteDraft). record { routes = routes }) (made ∙ conflicts-written c.args.n c.requires.some c.requires.few)
