use Rattle.std.proofs.Common.{◌≡◌, ℕ, ◌≤◌, true, Some, Ok, refl, ltb}
use Rattle.std.specs.Fmt.{digits}
use Rattle.std.specs.List.{list_all}
use Rattle.ilk_base.proofs.Ascii.{ascii}
use Rattle.ilk_gen.proofs.Reading.{read_as}
use Rattle.ilk_gen.proofs.Sixteen.{any_of_sixteen}
use Rattle.ilk_gen.specs.StationRoutes.{stations_table}
use Rattle.ilk_gen.specs.Stations.{stations_net}
use Rattle.ilk_gen.specs.StationsText.{stations_text}
use Rattle.ilk_conf_write.specs.ConfigurationText.{configuration_value}
use Rattle.ilk_net_read.specs.Network.{network_from_conf_value}
use Rattle.ilk_net_read.specs.declared.version.Version.TheVariants.{First}
use Rattle.ilk_table_read.specs.Table.{net_and_table_drafts_from_text, table_draft_from_conf_value}
use Rattle.serde_json.proofs.OnLiterals.{serde_json_on_literals}
use Rattle.serde_json.specs.Data.{Data}
use Rattle.serde_json.specs.Read.{read}

abbrev stations_value : ℕ → Data
stations_value n = configuration_value First (stations_net n) (stations_table n)

ascii-text : (n : ℕ) → 1 ≤ n → n ≤ 16 → list_all (λ b. ltb b 128) (stations_text n) ≡ true
unfolding digits serde_json_on_literals
ascii-text = any_of_sixteen (λ n. list_all (λ b. ltb b 128) (stations_text n) ≡ true) refl refl refl refl refl refl refl refl refl refl refl refl refl refl refl refl

value-read : (n : ℕ) → 1 ≤ n → n ≤ 16 → read (stations_text n) ≡ Some (stations_value n)
unfolding digits serde_json_on_literals
value-read = any_of_sixteen (λ n. read (stations_text n) ≡ Some (stations_value n)) refl refl refl refl refl refl refl refl refl refl refl refl refl refl refl refl

network-read : (n : ℕ) → 1 ≤ n → n ≤ 16 → network_from_conf_value (stations_value n) ≡ Ok (stations_net n)
unfolding digits
network-read = any_of_sixteen (λ n. network_from_conf_value (stations_value n) ≡ Ok (stations_net n)) refl refl refl refl refl refl refl refl refl refl refl refl refl refl refl refl

table-read : (n : ℕ) → 1 ≤ n → n ≤ 16 → table_draft_from_conf_value (stations_value n) ≡ Ok (stations_table n)
unfolding digits
table-read = any_of_sixteen (λ n. table_draft_from_conf_value (stations_value n) ≡ Ok (stations_table n)) refl refl refl refl refl refl refl refl refl refl refl refl refl refl refl refl

pub stations-read : (n : ℕ) → 1 ≤ n → n ≤ 16 → net_and_table_drafts_from_text (stations_text n) ≡ Ok (stations_net n, stations_table n)
stations-read n some few =
    read_as (stations_text n) (stations_value n) (stations_net n) (stations_table n) (ascii (stations_text n) (ascii-text n some few)) (value-read n some few) (network-read n some few) (table-read n some few)
