-- The meaning of the answers with strict columns. A configuration that breaks at most C4, C5, C6
-- and C8 is safe for runs of any length.
use Rattle.std.specs.Prelude.{ℕ, ◌≡◌, ◌≢◌, ◌⊎◌, ◌++◌, ◌==◌, Bool, IsTrue, Option, Some, IfOk, IfSome, Ok, List, [], ◌∷◌, codes, decimal}
use Rattle.std.specs.List.{list_all, list_any, starts_with}
use Rattle.ilk_lines.specs.Lines.{Bytes, lines_of}
use Rattle.ilk_plant.specs.Plant.{IsPlant, PlantLists}
use Rattle.ilk_engine.specs.CertificateOf.{IsCertificateTextOfVerdict}
use Rattle.ilk_forever.specs.Forever.{AlwaysKeepsInvariant}
use Rattle.ilk_engine.specs.declared.verdict.Verdict.TheVariants.{Safe}
use Rattle.ilk_words.specs.declared.command.ColumnRuleMode.TheVariants.{Strict, Free}
use Rattle.ilk_words.specs.declared.command.Command.{Command}
use Rattle.ilk_words.specs.declared.command.ColumnRuleMode.{ColumnRuleMode}
use Rattle.ilk_words.specs.declared.command.Command.TheVariants.{Conf}
use Rattle.ilk_words.specs.declared.command.ConfCommand.TheVariants.{Plain, WithExtra}
use Rattle.ilk_words.specs.declared.command.ExtraCommand.TheVariants.{Drive}
use Rattle.ilk_words.specs.declared.command.ConfCommandWithoutExtra.TheVariants.{Check, Verify, Table}
use Rattle.ilk_words.specs.declared.plan.CheckedRuleStages.TheVariants.{All}
use Rattle.ilk_plant.specs.declared.draft.NetDraft.{NetDraft}
use Rattle.ilk_plant.specs.declared.draft.TableDraft.{TableDraft}
use Rattle.ilk_table_read.specs.Table.{net_and_table_drafts_from_text}
use Rattle.ilk_answers.specs.Answer.{IsAnswerTo, plant_or_refusals_of_conf}
use Rattle.ilk_answers.specs.Tables.{ReplyHasValidNetworkTable}
use Rattle.ilk_answers.specs.declared.reply.Reply.{Reply}
use Rattle.ilk_answers.specs.declared.status.Status.TheVariants.{Good, Refused, Spent, Unsafe}

-- Holds if a configuration breaks no rule, not even one of the columns, and `p` is its plant.
abbrev pub IsStrictlyCleanWithPlant : List ℕ → PlantLists → Type 0
IsStrictlyCleanWithPlant conf p = plant_or_refusals_of_conf (All Strict) conf ≡ Ok p

-- Holds if a configuration breaks no rule, not even one of the columns, and its plant is safe: runs
-- of any length from the initial state keep the invariant.
pub record IsCleanAndKeepsInvariant (conf : List ℕ) : Type 0 where
  pub plant : PlantLists
  pub clean : IsStrictlyCleanWithPlant conf plant
  pub safe : AlwaysKeepsInvariant plant

-- Holds if a configuration is refused even with free columns, or its plant is valid.
abbrev pub FreeColumnPlantIsValid : List ℕ → Type 0
FreeColumnPlantIsValid conf = IfOk (plant_or_refusals_of_conf (All Free) conf) IsPlant

-- The beginnings of the report lines that refuse by a rule which safety doesn't need: C4, C5, C6
-- and C8.
abbrev pub harmless_refusal_beginnings : List Bytes
harmless_refusal_beginnings = codes "refused C4 " ∷ codes "refused C5 " ∷ codes "refused C6 " ∷ codes "refused C8 " ∷ []

-- Returns whether a line starts with one of the texts `beginnings`.
abbrev pub has_one_of_beginnings : List Bytes → Bytes → Bool
has_one_of_beginnings beginnings line = list_any (λ beginning. starts_with ◌==◌ line beginning) beginnings

-- Returns whether each line of a report starts with one of the texts `beginnings`.
abbrev pub lines_have_beginnings : List Bytes → Bytes → Bool
lines_have_beginnings beginnings report = list_all (has_one_of_beginnings beginnings) (lines_of report)

-- Holds if each line of a report starts with one of the texts `beginnings`.
pub record LinesHaveBeginnings (beginnings : List Bytes) (report : Bytes) : Type 0 where
  pub each : IsTrue (lines_have_beginnings beginnings report)

-- Holds if a configuration breaks at most column rules, and its plant is safe for runs of any
-- length.
pub record HasSafePlantDespiteColumns (conf : List ℕ) : Type 0 where
  pub plant : PlantLists
  pub read : plant_or_refusals_of_conf (All Free) conf ≡ Ok plant
  pub safe : AlwaysKeepsInvariant plant

-- Holds if a reply reports `safe k=1` for plant `p`, with the certificate of that verdict.
pub record ReplyCertifiesSafeAtOne (p : PlantLists) (depth conflicts : ℕ) (made : Reply) : Type 0 where
  pub status : made.status ≡ Good
  pub report : made.report ≡ codes "safe k=" ++ decimal 1 ++ 10 ∷ []
  pub certificate : IsCertificateTextOfVerdict p depth conflicts (Safe 1) made.certificate

-- Holds if a reply reports `safe k=1` with its certificate, or that all conflicts are spent.
abbrev pub SaysSafeAtOneOrSpent : PlantLists → ℕ → ℕ → Reply → Type 0
SaysSafeAtOneOrSpent p depth conflicts made = ReplyCertifiesSafeAtOne p depth conflicts made ⊎ (made.status ≡ Spent)

-- Holds if a reply of `drive` with strict columns is right on the configuration and reports no
-- hazard. The scenario is the extra input, if that is exposed, otherwise some text.
pub record DriveReportsNoHazard (run conf : List ℕ) (extra : Option (List ℕ)) (made : Reply) : Type 0 where
  pub scenario : List ℕ
  pub whole : IfSome extra (λ bytes. scenario ≡ bytes)
  pub answer : IsAnswerTo (Some (Conf Strict (WithExtra run Drive))) (Some conf) (Some scenario) made
  pub safe : made.status ≢ Unsafe

-- Holds if the configuration breaks no rule of the form (F), and a reply has the valid table of its
-- network's routes.
pub record ReplyHasTableOfConf (columns : ColumnRuleMode) (conf : List ℕ) (made : Reply) : Type 0 where
  pub net : NetDraft
  pub other : TableDraft
  pub read : net_and_table_drafts_from_text conf ≡ Ok (net, other)
  pub table : ReplyHasValidNetworkTable columns net made

-- Holds if a reply has these five guarantees, all but `table` for strict columns. `conf` and
-- `extra` are `None` if the bytes of that input aren't exposed to contracts.
pub record ReplyHasStrictGuarantees (asked : Option Command) (conf extra : Option (List ℕ)) (made : Reply) : Type 0 where
  -- If `check` returns `Good`, the plant is safe for runs of any length.
  pub check : asked ≡ Some (Conf Strict (Plain Check)) → made.status ≡ Good → IfSome conf IsCleanAndKeepsInvariant
  -- If `check` refuses only by C4, C5, C6 and C8, the plant is safe for runs of any length.
  pub deviations : asked ≡ Some (Conf Strict (Plain Check)) → made.status ≡ Refused → LinesHaveBeginnings harmless_refusal_beginnings made.report → IfSome conf HasSafePlantDespiteColumns
  -- If no rule is broken, `verify` reports `safe k=1` or spent conflicts.
  pub verify : (depth conflicts : ℕ) (cert : List ℕ) → asked ≡ Some (Conf Strict (Plain (Verify depth conflicts cert))) → (bytes : List ℕ) (p : PlantLists) → conf ≡ Some bytes → IsStrictlyCleanWithPlant bytes p →
      SaysSafeAtOneOrSpent p depth conflicts made
  -- If `table` returns `Good`, its table breaks no rule but C7. With strict columns it breaks none,
  -- and its plant is safe for runs of any length.
  pub table : (columns : ColumnRuleMode) → asked ≡ Some (Conf columns (Plain Table)) → made.status ≡ Good → IfSome conf (λ bytes. ReplyHasTableOfConf columns bytes made)
  -- `drive` reports no hazard.
  pub drive : (run bytes : List ℕ) → asked ≡ Some (Conf Strict (WithExtra run Drive)) → conf ≡ Some bytes → DriveReportsNoHazard run bytes extra made
