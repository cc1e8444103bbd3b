use Rattle.std.proofs.Common.{◌≡◌, IfOk, List, sym, ap, ◌∙◌, subst}
use Rattle.ilk_plant.specs.Draft.{plant_from_drafts}
use Rattle.ilk_plant.specs.Plant.{PlantLists}
use Rattle.ilk_plant.specs.Sound.{AreSoundDrafts}
use Rattle.ilk_plant.specs.declared.draft.RouteDraft.{RouteDraft}
use Rattle.ilk_plant.specs.declared.draft.TableDraft.{TableDraft}
use Rattle.ilk_tablegen.specs.Rules.{no_routes}
use Rattle.ilk_answers.specs.Answer.{ok_unless_refusals, refusals_if_any_broken_rules}
use Rattle.ilk_answers.specs.Stages.{borders_without_board_if_strict}
use Rattle.ilk_answers.proofs.checks.check_bare.Goals as goal

pub from_numbered-requires : goal.from_numbered-requires
from_numbered-requires c =
    let table : List RouteDraft → TableDraft = λ routes. record { routes = routes } in
    let bare : AreSoundDrafts c.args.net.now no_routes = c.network_without_routes_makes_plant.ensures c.args.net.now c.requires.limits c.requires.network in
    record {
      net = c.args.net.now;
      table = table c.new.result;
      sound = subst (λ routes. AreSoundDrafts c.args.net.now (table routes)) (sym c.new.ensures) bare;
      same = c.in_ok-drafts.ensures;
    }

pub returns : goal.returns
returns c =
    let table : List RouteDraft → TableDraft = λ routes. record { routes = routes } in
    let is : c.in_ok-from_numbered.field-0 ≡ plant_from_drafts c.args.net.now no_routes = c.in_ok-from_numbered.ensures ∙ c.in_ok-drafts.ensures ∙ ap (λ routes. plant_from_drafts c.args.net.now (table routes)) c.new.ensures in
    let Found : PlantLists → Type 0 = λ p. IfOk c.check_plant_borders.result (λ found. found ≡ ok_unless_refusals (refusals_if_any_broken_rules (borders_without_board_if_strict c.args.columns p)) p) in
    subst Found is c.check_plant_borders.ensures
