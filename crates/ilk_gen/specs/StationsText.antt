use Rattle.std.specs.Prelude.{ℕ, List}
use Rattle.ilk_net_read.specs.declared.version.Version.TheVariants.{First}
use Rattle.ilk_conf_write.specs.ConfigurationText.{configuration_text}
use Rattle.ilk_gen.specs.StationRoutes.{stations_table}
use Rattle.ilk_gen.specs.Stations.{stations_net}

-- The configuration of `n` stations as a text, in version 1.
abbrev pub stations_text : ℕ → List ℕ
stations_text n = configuration_text First (stations_net n) (stations_table n)
