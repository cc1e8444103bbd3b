use Rattle.std.specs.Prelude.{ℕ, Bool, true, false, Option, Some, None}
use Rattle.ilk_words.specs.declared.command.ColumnRuleMode.{ColumnRuleMode}
use Rattle.ilk_words.specs.declared.command.Command.{Command}
use Rattle.ilk_words.specs.declared.command.Command.TheVariants.{Conf, Stations}
use Rattle.ilk_words.specs.declared.command.ConfCommand.{ConfCommand}
use Rattle.ilk_words.specs.declared.command.ConfCommand.TheVariants.{Plain, WithExtra}
use Rattle.ilk_words.specs.declared.command.ExtraCommand.{ExtraCommand}
use Rattle.ilk_words.specs.declared.command.ExtraCommand.TheVariants.{Audit, Replay, Rup, Drive}
use Rattle.ilk_words.specs.declared.command.ConfCommandWithoutExtra.TheVariants.{Verify, Table}
use Rattle.ilk_words.specs.declared.command.StationsCommand.{StationsCommand}
use Rattle.ilk_words.specs.declared.command.StationsCommand.TheVariants.{Make, Demo}
use Rattle.ilk_words.specs.declared.lengths.TheConstants.{MAX_CERTIFICATE_BYTES, MAX_REFUTATION_BYTES, MAX_RUN_TEXT_BYTES, MAX_SCENARIO_BYTES}
use Rattle.ilk_words.specs.declared.plan.CheckedRuleStages.{CheckedRuleStages}
use Rattle.ilk_words.specs.declared.plan.CheckedRuleStages.TheVariants.{All, Network}

-- What a command reads, checks and writes.
pub record CommandPlan : Type 0 where
  -- The rules checked on the configuration, or `None` if none is read.
  pub stages : Option CheckedRuleStages
  -- The maximum number of bytes of a second input, or `None` if there is none.
  pub extra : Option ℕ
  -- Whether a certificate may be written.
  pub certifies : Bool

-- The rules that a command checks on its configuration.
abbrev pub stages_of : ColumnRuleMode → ConfCommand → CheckedRuleStages
stages_of columns (Plain Table) = Network columns
stages_of columns _ = All columns

-- The maximum number of bytes of an extra input.
abbrev pub extra_limit : ExtraCommand → ℕ
extra_limit Audit = MAX_CERTIFICATE_BYTES
extra_limit Replay = MAX_RUN_TEXT_BYTES
extra_limit (Rup query number) = MAX_REFUTATION_BYTES
extra_limit Drive = MAX_SCENARIO_BYTES

-- The maximum number of bytes of the extra input, or `None` if there is none.
abbrev pub limit_if_extra : ConfCommand → Option ℕ
limit_if_extra (Plain command) = None
limit_if_extra (WithExtra file command) = Some (extra_limit command)

-- Returns whether a command on a configuration may write a certificate.
abbrev pub may_certify : ConfCommand → Bool
may_certify (Plain (Verify depth conflicts cert)) = true
may_certify _ = false

-- Returns whether a command on a generated line may write a certificate.
abbrev pub may_certify_stations : StationsCommand → Bool
may_certify_stations Make = false
may_certify_stations (Demo depth conflicts cert) = true

-- What each command reads, checks and writes.
abbrev pub plan_of : Command → CommandPlan
plan_of (Conf columns command) = record {
  stages = Some (stages_of columns command);
  extra = limit_if_extra command;
  certifies = may_certify command;
}
plan_of (Stations stations command) = record {
  stages = None;
  extra = None;
  certifies = may_certify_stations command;
}
