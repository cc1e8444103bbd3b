use Rattle.std.proofs.Common.{◌≡◌, ap, ap₂, ◌∙◌, length}
use Rattle.std.proofs.lemmas.List.{length-map}
use Rattle.std.proofs.lemmas.Result.{IfOk-weaker}
use Rattle.ilk_gen.proofs.making.stations_plant.Goals as goal
use Rattle.ilk_plant.specs.Draft.{plant_from_drafts}
use Rattle.ilk_plant.specs.Plant.{PlantLists}
use Rattle.ilk_plant.specs.TableRules.{table_rules_broken}
use Rattle.ilk_plant.specs.declared.draft.NetDraft.{NetDraft}
use Rattle.ilk_plant.specs.declared.draft.TableDraft.{TableDraft}

sections-of : (p : PlantLists) (net : NetDraft) (table : TableDraft) → p ≡ plant_from_drafts net table → length p.sections ≡ length net.sections
sections-of p net table e = ap (λ (q : PlantLists). length q.sections) e ∙ length-map net.sections _

routes-of : (p : PlantLists) (net : NetDraft) (table : TableDraft) → p ≡ plant_from_drafts net table → length p.routes ≡ length table.routes
routes-of p net table e = ap (λ (q : PlantLists). length q.routes) e ∙ length-map table.routes _

pub make-requires-clause-routes : goal.make-requires-clause-routes
make-requires-clause-routes c = ap₂ table_rules_broken c.in_ok-net.ensures c.in_ok-table.ensures ∙ c.stations_break_no_rule.ensures.table

pub returns-clause-plant : goal.returns-clause-plant
returns-clause-plant c = IfOk-weaker c.make.result _ _ (λ plant e. e ∙ ap₂ plant_from_drafts c.in_ok-net.ensures c.in_ok-table.ensures) c.make.ensures

pub returns-clause-sections : goal.returns-clause-sections
returns-clause-sections c =
    let counted = ap (λ (net : NetDraft). length net.sections) c.in_ok-net.ensures ∙ c.stations_section_and_route_counts.ensures.sections in
    IfOk-weaker c.make.result _ _ (λ plant e. sections-of plant c.in_ok-net.net c.in_ok-table.table e ∙ counted) c.make.ensures

pub returns-clause-routes : goal.returns-clause-routes
returns-clause-routes c =
    let counted = ap (λ (table : TableDraft). length table.routes) c.in_ok-table.ensures ∙ c.stations_section_and_route_counts.ensures.routes in
    IfOk-weaker c.make.result _ _ (λ plant e. routes-of plant c.in_ok-net.net c.in_ok-table.table e ∙ counted) c.make.ensures
