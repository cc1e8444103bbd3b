use Rattle.std.proofs.Common.{ap, ap₂, sym, subst₂, ◌∙◌}
use Rattle.std.proofs.lemmas.Result.{IfOk-weaker}
use Rattle.ilk_plant.specs.Limits.{WithinLimits}
use Rattle.ilk_net_read.specs.declared.version.Version.TheVariants.{First}
use Rattle.ilk_conf_write.specs.ConfigurationText.{configuration_text, table_fits_version}
use Rattle.ilk_gen.proofs.ComputedLimits.{unprotected-by}
use Rattle.ilk_gen.proofs.making.stations.Goals as goal

pub configuration_json-requires-clause-limits : goal.configuration_json-requires-clause-limits
configuration_json-requires-clause-limits c =
    subst₂ WithinLimits (sym c.in_ok-net.ensures) (sym c.in_ok-table.ensures) c.stations_break_no_rule.ensures.limits

pub configuration_json-requires-clause-version : goal.configuration_json-requires-clause-version
configuration_json-requires-clause-version c =
    ap (table_fits_version First) c.in_ok-table.ensures ∙ unprotected-by c.args.n c.requires.some c.requires.few

pub returns : goal.returns
returns c =
    IfOk-weaker c.configuration_json.result _ _ (λ text e. e ∙ ap₂ (configuration_text First) c.in_ok-net.ensures c.in_ok-table.ensures) c.configuration_json.ensures.text
