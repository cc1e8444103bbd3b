-- The answer to arguments, a configuration and an extra input. These are judged in the order:
-- arguments, rules of the configuration, length of the extra input, the command's own question. An
-- input is `None` if its source doesn't expose its bytes to contracts.
use Rattle.std.specs.Prelude.{ℕ, ◌≡◌, ◌++◌, Bool, true, false, Option, Some, None, IfSome, Result, Ok, Err, List, [], ◌∷◌, length, flat_map, nat_le, nat_lt, is_ok, option_map, if◌then◌else◌}
use Rattle.ilk_base.specs.Option.{◌>>=◌}
use Rattle.ilk_plant.specs.Plant.{PlantLists}
use Rattle.ilk_plant.specs.Draft.{plant_from_drafts}
use Rattle.ilk_plant.specs.declared.broken.Broken.{Broken}
use Rattle.ilk_plant.specs.declared.draft.NetDraft.{NetDraft}
use Rattle.ilk_plant.specs.declared.draft.TableDraft.{TableDraft}
use Rattle.ilk_net_read.specs.Fault.{rule_fault_at_place}
use Rattle.ilk_net_read.specs.declared.fault.Form.TheVariants.{F1}
use Rattle.ilk_net_read.specs.declared.fault.FormFault.{FormFault}
use Rattle.ilk_net_read.specs.declared.fault.Place.TheVariants.{Document, Extra}
use Rattle.ilk_table_read.specs.Table.{net_and_table_drafts_from_text}
use Rattle.ilk_replay.specs.Seen.{replay_result}
use Rattle.ilk_replay.specs.Told.{run_from_text}
use Rattle.ilk_replay.specs.declared.seen.Seen.{Seen}
use Rattle.ilk_replay.specs.declared.seen.Seen.TheVariants.{NotARun, NoHazard, Hazard}
use Rattle.ilk_replay.specs.declared.told.Tale.{Tale}
use Rattle.ilk_replay.specs.declared.told.Tale.TheVariants.{Told as IsTold, Bad}
use Rattle.ilk_words.specs.Plan.{CommandPlan, extra_limit, plan_of, stages_of}
use Rattle.ilk_words.specs.declared.command.Command.{Command}
use Rattle.ilk_words.specs.declared.command.Command.TheVariants.{Conf, Stations}
use Rattle.ilk_words.specs.declared.command.ConfCommand.{ConfCommand}
use Rattle.ilk_words.specs.declared.command.ConfCommand.TheVariants.{Plain, WithExtra}
use Rattle.ilk_words.specs.declared.command.ExtraCommand.{ExtraCommand}
use Rattle.ilk_words.specs.declared.command.ExtraCommand.TheVariants.{Audit, Replay, Rup, Drive}
use Rattle.ilk_words.specs.declared.command.ConfCommandWithoutExtra.{ConfCommandWithoutExtra}
use Rattle.ilk_words.specs.declared.command.ConfCommandWithoutExtra.TheVariants.{Check, Verify, Table, Export}
use Rattle.ilk_words.specs.declared.command.StationsCommand.{StationsCommand}
use Rattle.ilk_words.specs.declared.command.StationsCommand.TheVariants.{Make, Demo}
use Rattle.ilk_words.specs.declared.lengths.TheConstants.{MAX_CONFIGURATION_BYTES}
use Rattle.ilk_words.specs.declared.plan.CheckedRuleStages.{CheckedRuleStages}
use Rattle.ilk_answers.specs.Audits.{AnswersAudit}
use Rattle.ilk_answers.specs.Drives.{AnswersScenarioText}
use Rattle.ilk_answers.specs.Made.{AnswersDemoWithRightVerdict, stations_conf_reply}
use Rattle.ilk_answers.specs.Refutations.{AnswersRefutationText}
use Rattle.ilk_answers.specs.Tables.{AnswersTableOrWhyNone}
use Rattle.ilk_answers.specs.Verdicts.{ReplyHasQueryFormulaText, AnswersWithRightVerdict, query_from_kind_and_length}
use Rattle.ilk_answers.specs.Report.{clean_line, hazard_line, no_hazard_line, first_non_run_event_message, first_bad_line_message, reply}
use Rattle.ilk_answers.specs.Stages.{table_unless_network_only, first_broken_stage_rules}
use Rattle.ilk_answers.specs.Refusal.{refusal_line}
use Rattle.ilk_answers.specs.declared.refusals.Refusal.{Refusal}
use Rattle.ilk_answers.specs.declared.refusals.Refusal.TheVariants.{Form as FormRefusal, Rule as RuleRefusal}
use Rattle.ilk_answers.specs.declared.refusals.Refusals.{Refusals}
use Rattle.ilk_answers.specs.declared.reply.Reply.{Reply}
use Rattle.ilk_answers.specs.declared.status.Status.TheVariants.{Good, Refused as IsRefused, Rejected, Usage}

abbrev pub refused : Refusal → Reply
refused refusal = reply IsRefused (refusal_line refusal)

-- The refusals with only one reason, a fault of the form.
abbrev pub refusals_from_form_fault : FormFault → Refusals
refusals_from_form_fault fault = record { first = FormRefusal fault; rest = [] }

-- The broken rules as refusals, or `None` if there are none.
abbrev pub refusals_if_any_broken_rules : List Broken → Option Refusals
refusals_if_any_broken_rules [] = None
refusals_if_any_broken_rules (first ∷ rest) = Some (record { first = RuleRefusal first; rest = rest })

-- `Err` with the refusals, if there are any, otherwise `Ok x`.
abbrev pub ok_unless_refusals : {A : Type 0} → Option Refusals → A → Result A Refusals
ok_unless_refusals None x = Ok x
ok_unless_refusals (Some refusals) x = Err refusals

-- The plant of two drafts. It is refusals instead if the form has a fault, or the drafts break a
-- rule of these stages.
abbrev pub plant_of_drafts : CheckedRuleStages → Result (NetDraft × TableDraft) FormFault → Result PlantLists Refusals
plant_of_drafts stages (Err fault) = Err (refusals_from_form_fault fault)
plant_of_drafts stages (Ok (net, table)) =
    ok_unless_refusals (refusals_if_any_broken_rules (first_broken_stage_rules stages net table)) (plant_from_drafts net (table_unless_network_only stages table))

-- The plant of a configuration, or its refusals. More than `MAX_CONFIGURATION_BYTES` bytes break
-- F1.
abbrev pub plant_or_refusals_of_conf : CheckedRuleStages → List ℕ → Result PlantLists Refusals
plant_or_refusals_of_conf stages conf =
    if nat_lt MAX_CONFIGURATION_BYTES (length conf) then Err (refusals_from_form_fault (rule_fault_at_place F1 Document)) else plant_of_drafts stages (net_and_table_drafts_from_text conf)

-- The plant of the configuration or its refusals; `None` if the plan reads no configuration or its
-- bytes are not exposed.
abbrev pub plant_or_refusals_if_exposed : CommandPlan → Option (List ℕ) → Option (Result PlantLists Refusals)
plant_or_refusals_if_exposed plan conf = do
  stages ← plan.stages
  option_map (plant_or_refusals_of_conf stages) conf

abbrev pub refusal_lines_of_broken_rules : List Broken → List ℕ
refusal_lines_of_broken_rules found = flat_map (λ b. refusal_line (RuleRefusal b)) found

-- The reply to a refused configuration: `check` lists all refusals, every other command the first.
abbrev pub refused_conf_reply : ConfCommand → Refusals → Reply
refused_conf_reply (Plain Check) refusals = reply IsRefused (refusal_line refusals.first ++ refusal_lines_of_broken_rules refusals.rest)
refused_conf_reply _ refusals = refused refusals.first

-- The reply to the outcome of a replay. Its status is `Good` only if the run ends in a hazard.
abbrev pub replay_outcome_reply : PlantLists → Seen → Reply
replay_outcome_reply p (NotARun at) = reply Rejected (first_non_run_event_message at)
replay_outcome_reply p NoHazard = reply Rejected no_hazard_line
replay_outcome_reply p (Hazard at) = reply Good (hazard_line p at)

-- The reply to a run text that was parsed: the outcome of its replay, or its first bad line.
abbrev pub replay_or_bad_line_reply : PlantLists → Tale → Reply
replay_or_bad_line_reply p (Bad line) = reply Rejected (first_bad_line_message line)
replay_or_bad_line_reply p (IsTold run) = replay_outcome_reply p (replay_result p run.first run.events)

-- Holds if a reply answers a command on plant `p`.
abbrev pub AnswersConfCommandWithoutExtra : ConfCommandWithoutExtra → PlantLists → Reply → Type 0
AnswersConfCommandWithoutExtra Check p made = made ≡ reply Good clean_line
AnswersConfCommandWithoutExtra (Verify depth conflicts cert) p made = AnswersWithRightVerdict p depth conflicts made
AnswersConfCommandWithoutExtra Table p made = AnswersTableOrWhyNone p made
AnswersConfCommandWithoutExtra (Export kind number) p made = ReplyHasQueryFormulaText p (query_from_kind_and_length kind number) made

-- Holds if a reply answers a command on plant `p` and the bytes `extra`.
abbrev pub AnswersExtraCommand : ExtraCommand → PlantLists → List ℕ → Reply → Type 0
AnswersExtraCommand Audit p extra made = AnswersAudit p extra made
AnswersExtraCommand Replay p extra made = made ≡ replay_or_bad_line_reply p (run_from_text p extra)
AnswersExtraCommand (Rup kind number) p extra made = AnswersRefutationText p kind number extra made
AnswersExtraCommand Drive p extra made = AnswersScenarioText p extra made

-- Holds if a reply answers `make` or `demo` on a generated line of `stations` stations.
abbrev pub AnswersMakeOrDemo : ℕ → StationsCommand → Reply → Type 0
AnswersMakeOrDemo stations Make made = made ≡ stations_conf_reply stations
AnswersMakeOrDemo stations (Demo depth conflicts cert) made = AnswersDemoWithRightVerdict stations depth conflicts made

-- Holds if a reply answers a command on plant `p` and an extra input. If the first argument is
-- false, the input is too long, and the reply has to refuse it by F1.
abbrev pub AnswersOrRefusesTooLong : Bool → ExtraCommand → PlantLists → List ℕ → Reply → Type 0
AnswersOrRefusesTooLong false command p extra made = made ≡ refused (FormRefusal (rule_fault_at_place F1 Extra))
AnswersOrRefusesTooLong true command p extra made = AnswersExtraCommand command p extra made

-- Holds if a reply answers a command on plant `p` and the extra input, if the command reads one. If
-- an input is read but not exposed, any reply will do.
abbrev pub AnswersOnPlantIfExtraExposed : ConfCommand → PlantLists → Option (List ℕ) → Reply → Type 0
AnswersOnPlantIfExtraExposed (Plain command) p extra made = AnswersConfCommandWithoutExtra command p made
AnswersOnPlantIfExtraExposed (WithExtra file command) p extra made =
    IfSome extra (λ x. AnswersOrRefusesTooLong (nat_le (length x) (extra_limit command)) command p x made)

-- Holds if a reply answers a command on a plant and the extra input. If there are refusals instead
-- of a plant, it has to refuse by them.
abbrev pub AnswersOnPlantOrRefuses : ConfCommand → Result PlantLists Refusals → Option (List ℕ) → Reply → Type 0
AnswersOnPlantOrRefuses command (Err refusals) extra made = made ≡ refused_conf_reply command refusals
AnswersOnPlantOrRefuses command (Ok p) extra made = AnswersOnPlantIfExtraExposed command p extra made

-- Holds if a reply answers these inputs: the command that the arguments give, the configuration and
-- the extra input. If a configuration is read but not exposed, any reply will do. Without a
-- command, it has to be the usage error.
abbrev pub IsAnswerTo : Option Command → Option (List ℕ) → Option (List ℕ) → Reply → Type 0
IsAnswerTo None conf extra made = made ≡ reply Usage []
IsAnswerTo (Some (Conf columns command)) conf extra made =
    IfSome conf (λ bytes. AnswersOnPlantOrRefuses command (plant_or_refusals_of_conf (stages_of columns command) bytes) extra made)
IsAnswerTo (Some (Stations stations command)) conf extra made = AnswersMakeOrDemo stations command made

-- The plan of a command; without a command nothing is read and no certificate is written.
abbrev pub command_plan_or_empty : Option Command → CommandPlan
command_plan_or_empty None = record { stages = None; extra = None; certifies = false }
command_plan_or_empty (Some command) = plan_of command

-- Returns whether the extra input is reached, which needs a configuration that gives a plant;
-- `None` if that is unknown.
abbrev pub is_extra_reached_if_exposed : CommandPlan → Option (List ℕ) → Option Bool
is_extra_reached_if_exposed plan conf = option_map is_ok (plant_or_refusals_if_exposed plan conf)

-- The maximum number of bytes of the configuration, or `None` if the plan reads none.
abbrev pub max_conf_bytes_if_read : CommandPlan → Option ℕ
max_conf_bytes_if_read plan = option_map (λ stages. MAX_CONFIGURATION_BYTES) plan.stages
