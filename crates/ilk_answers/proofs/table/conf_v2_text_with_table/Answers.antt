use Rattle.std.proofs.Common.{sym, subst}
use Rattle.ilk_plant.specs.Limits.{WithinLimits}
use Rattle.ilk_answers.proofs.table.conf_v2_text_with_table.Goals as goal

pub configuration_json-requires-clause-limits : goal.configuration_json-requires-clause-limits
configuration_json-requires-clause-limits c =
    subst (λ net. WithinLimits net c.args.table.now) (sym c.in_ok-net.ensures) (c.generated_drafts_break_only_c7.ensures.drafts c.args.table.now c.requires).sound.limits
