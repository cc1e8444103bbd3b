use Rattle.std.proofs.Common.{◌≡◌, None, Ok, sym, ap, ◌∙◌}
use Rattle.ilk_plant.specs.TableRules.{plant_table_rules_broken}
use Rattle.ilk_answers.proofs.Checked.{columns-alone, let-through, none-broken}
use Rattle.ilk_answers.specs.Answer.{refusals_if_any_broken_rules}
use Rattle.ilk_answers.proofs.checks.check_routes.Goals as goal

pub from_numbered-requires : goal.from_numbered-requires
from_numbered-requires c =
    let asked : (refusals_if_any_broken_rules (plant_table_rules_broken c.in_ok-drafts.drafts) ≡ None) ×
    (c.in-Ok.drafts ≡ c.in_ok-drafts.drafts) =
    let-through c.check_numbered_table-found.result _ _ _ c.unless_broken.result
    c.check_numbered_table-found.ensures c.unless_broken.ensures.answered
    c.unless_broken.ensures.wanting (c.in_ok-drafts-2.was ∙ ap Ok c.in-Ok.is) in
    record {
      net = c.args.net.now;
      table = c.args.table.now;
      sound = record {
        limits = c.requires.limits;
        network = c.requires.network;
        routes = sym (ap plant_table_rules_broken c.in_ok-drafts.ensures) ∙ none-broken _ asked.0;
      };
      same = asked.1 ∙ c.in_ok-drafts.ensures;
    }

pub returns-in_ok-from_numbered-in-Ok : goal.returns-in_ok-from_numbered-in-Ok
returns-in_ok-from_numbered-in-Ok c =
    let asked : (refusals_if_any_broken_rules (plant_table_rules_broken c.in_ok-drafts.drafts) ≡ None) ×
    (c.in-Ok.drafts ≡ c.in_ok-drafts.drafts) =
    let-through c.check_numbered_table-found.result _ _ _ c.unless_broken.result
    c.check_numbered_table-found.ensures c.unless_broken.ensures.answered
    c.unless_broken.ensures.wanting (c.in_ok-drafts-2.was ∙ ap Ok c.in-Ok.is) in
    columns-alone c.args.columns (plant_table_rules_broken c.in_ok-drafts.drafts) _ c.in_ok-from_numbered-in-Ok.field-0 _
    c.check_plant.result (ap plant_table_rules_broken c.in_ok-drafts.ensures) asked.0
    (c.in_ok-from_numbered-in-Ok.ensures ∙ asked.1 ∙ c.in_ok-drafts.ensures) c.check_plant.ensures
