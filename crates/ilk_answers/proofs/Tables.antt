-- A table that is printed is right.
use Rattle.std.proofs.Common.{◌≡◌, ℕ, Bool, true, false, if◌then◌else◌, Option, None, Result, Ok, Err, List, [], length, nat_lt, refl, sym, ap, ◌∙◌, subst}
use Rattle.ilk_plant.specs.ColumnRules.{broken_for_column_rule, column_rules_broken}
use Rattle.ilk_plant.specs.Draft.{plant_from_drafts}
use Rattle.ilk_plant.specs.Kept.{IsAcyclicFromSoundDrafts}
use Rattle.ilk_plant.specs.NetworkRules.{network_rules_broken}
use Rattle.ilk_plant.specs.Plant.{PlantLists}
use Rattle.ilk_plant.specs.Sound.{AreSoundDrafts}
use Rattle.ilk_plant.specs.declared.broken.Rule.TheVariants.{C7}
use Rattle.ilk_plant.specs.declared.draft.NetDraft.{NetDraft}
use Rattle.ilk_plant.specs.declared.draft.TableDraft.{TableDraft}
use Rattle.ilk_plant.proofs.Sound.{sound-IsPlant}
use Rattle.ilk_net_read.specs.Fault.{rule_fault_at_place}
use Rattle.ilk_net_read.specs.declared.fault.Form.TheVariants.{F1}
use Rattle.ilk_net_read.specs.declared.fault.FormFault.{FormFault}
use Rattle.ilk_net_read.specs.declared.fault.Place.TheVariants.{Document}
use Rattle.ilk_table_read.specs.Table.{net_and_table_drafts_from_text}
use Rattle.ilk_tablegen.proofs.FoundSound.{drafted-back, found-sound}
use Rattle.ilk_tablegen.specs.NetworkDraft.{network_draft}
use Rattle.ilk_tablegen.specs.Rules.{KeepsRulesButC7, no_routes}
use Rattle.ilk_tablegen.specs.Table.{generation_result}
use Rattle.ilk_tablegen.specs.declared.walks.Walks.{Walks}
use Rattle.ilk_tablegen.specs.declared.walks.Walks.TheVariants.{Routes, TooLong, TooMany}
use Rattle.ilk_forever.proofs.StrictForever.{clean-forever}
use Rattle.ilk_words.specs.declared.command.ColumnRuleMode.{ColumnRuleMode}
use Rattle.ilk_words.specs.declared.command.ColumnRuleMode.TheVariants.{Strict}
use Rattle.ilk_words.specs.declared.command.ConfCommand.TheVariants.{Plain}
use Rattle.ilk_words.specs.declared.command.ConfCommandWithoutExtra.TheVariants.{Table}
use Rattle.ilk_words.specs.declared.lengths.TheConstants.{MAX_CONFIGURATION_BYTES}
use Rattle.ilk_words.specs.declared.plan.CheckedRuleStages.TheVariants.{Network}
use Rattle.ilk_answers.specs.Answer.{AnswersOnPlantOrRefuses, refusals_from_form_fault, plant_or_refusals_of_conf, plant_of_drafts, refusals_if_any_broken_rules}
use Rattle.ilk_answers.specs.Stages.{borders_without_board_if_strict, first_broken_stage_rules}
use Rattle.ilk_answers.specs.Strict.{ReplyHasTableOfConf}
use Rattle.ilk_answers.specs.Tables.{ReplyHasValidNetworkTable, AnswersTableOrWhyNone, conf_v2_text_with_table, generated_routes_reply}
use Rattle.ilk_answers.specs.declared.refusals.Refusals.{Refusals}
use Rattle.ilk_answers.specs.declared.reply.Reply.{Reply}
use Rattle.ilk_answers.specs.declared.status.Status.TheVariants.{Good, Refused as IsRefused}
use Rattle.ilk_answers.proofs.Checked.{first-none, later-none, none-broken, not-refused}

good-routes : (p : PlantLists) (made : Reply) (found : Walks) → generation_result p ≡ found → made ≡ generated_routes_reply p found → made.status ≡ Good → (table : TableDraft) × (generation_result p ≡ Routes table) ×
    (made ≡ generated_routes_reply p (Routes table))
good-routes p made (Routes table) is same good = (table, is, same)
good-routes p made (TooLong m) is same good =
    let refused : IsRefused ≡ Good = ap (λ (r : Reply). r.status) (sym same) ∙ good in absurd (cc)
good-routes p made TooMany is same good =
    let refused : IsRefused ≡ Good = ap (λ (r : Reply). r.status) (sym same) ∙ good in absurd (cc)

network-table : (columns : ColumnRuleMode) (net : NetDraft) (made : Reply) → network_rules_broken net ≡ [] →
    borders_without_board_if_strict columns (plant_from_drafts net no_routes) ≡ [] → IsAcyclicFromSoundDrafts (plant_from_drafts net no_routes) →
    AnswersTableOrWhyNone (plant_from_drafts net no_routes) made → made.status ≡ Good → ReplyHasValidNetworkTable columns net made
network-table columns net made kept borders sound told good =
    let bare : PlantLists = plant_from_drafts net no_routes in
    let back : network_draft bare ≡ net = drafted-back net no_routes kept in
    let found : (table : TableDraft) × (generation_result bare ≡ Routes table) × (made ≡ generated_routes_reply bare (Routes table)) = good-routes bare made (generation_result bare) refl told.reply good in
    let is : KeepsRulesButC7 bare found.0 = found-sound bare sound.plant sound.walks sound.drafts found.0 found.1 in
    let drafts : AreSoundDrafts net found.0 = subst (λ n. AreSoundDrafts n found.0) back is.sound in
    let alone : column_rules_broken (plant_from_drafts net found.0) ≡ broken_for_column_rule bare C7 = subst (λ n. column_rules_broken (plant_from_drafts n found.0) ≡ broken_for_column_rule bare C7) back is.columns in
    let none : columns ≡ Strict → column_rules_broken (plant_from_drafts net found.0) ≡ [] = λ strict. alone ∙ subst (λ c. borders_without_board_if_strict c bare ≡ []) strict borders in
    record {
      table = found.0;
      routes = found.1;
      text = conf_v2_text_with_table bare found.0;
      report = ap (λ (r : Reply). r.report) found.2;
      read = subst (λ n. net_and_table_drafts_from_text (conf_v2_text_with_table bare found.0) ≡ Ok (n, found.0)) back (told.read found.0 found.1);
      network_kept = drafts.network;
      table_kept = drafts.routes;
      columns_kept = alone;
      strict = none;
      safe = λ strict. clean-forever (plant_from_drafts net found.0) (sound-IsPlant net found.0 drafts) (none strict);
    }

pub table-right :
    (columns : ColumnRuleMode) (conf : List ℕ) (found : Result PlantLists Refusals) (extra : Option (List ℕ))
    (made : Reply) →
    found ≡ plant_or_refusals_of_conf (Network columns) conf → (sound : (p : PlantLists) → found ≡ Ok p → IsAcyclicFromSoundDrafts p) →
    AnswersOnPlantOrRefuses (Plain Table) found extra made → made.status ≡ Good → ReplyHasTableOfConf columns conf made
table-right columns conf (Err refusals) extra made known sound told good =
    let refused : IsRefused ≡ Good = ap (λ (r : Reply). r.status) (sym told) ∙ good in absurd (cc)
table-right columns conf (Ok p) extra made known sound told good = of_length (nat_lt MAX_CONFIGURATION_BYTES (length conf)) (sym known)
  where
    of_drafts : (drafts : Result (NetDraft × TableDraft) FormFault) → net_and_table_drafts_from_text conf ≡ drafts → plant_of_drafts (Network columns) drafts ≡ Ok p → ReplyHasTableOfConf columns conf made
    of_drafts (Err fault) is e = absurd (cc)
    of_drafts (Ok (net, other)) is e =
        let kept : (refusals_if_any_broken_rules (first_broken_stage_rules (Network columns) net other) ≡ None)
        × (p ≡ plant_from_drafts net no_routes) = not-refused (refusals_if_any_broken_rules (first_broken_stage_rules (Network columns) net other)) (plant_from_drafts net no_routes) p e in
        let none : first_broken_stage_rules (Network columns) net other ≡ [] = none-broken (first_broken_stage_rules (Network columns) net other) kept.0 in
        record {
          net = net;
          other = other;
          read = is;
          table = network-table columns net made (first-none (network_rules_broken net) _ none) (later-none (network_rules_broken net) _ none) (subst IsAcyclicFromSoundDrafts kept.1 (sound p refl)) (subst (λ q. AnswersTableOrWhyNone q made)
              kept.1 told) good;
        }

    of_length : (b : Bool) → (if b then Err (refusals_from_form_fault (rule_fault_at_place F1 Document)) else plant_of_drafts (Network columns) (net_and_table_drafts_from_text conf)) ≡ Ok p → ReplyHasTableOfConf columns conf made
    of_length true e = absurd (cc)
    of_length false e = of_drafts (net_and_table_drafts_from_text conf) refl e
