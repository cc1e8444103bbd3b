use Rattle.std.proofs.Common.{◌≡◌, ℕ, ◌+◌, ◌*◌, ◌≤◌, true, length, refl}
use Rattle.std.specs.Fmt.{digits}
use Rattle.ilk_gen.proofs.Rules.{has_limits}
use Rattle.ilk_gen.proofs.Sixteen.{any_of_sixteen}
use Rattle.ilk_gen.specs.StationRoutes.{stations_table}
use Rattle.ilk_gen.specs.Stations.{stations_net}
use Rattle.ilk_conf_write.specs.ConfigurationText.{table_fits_version}
use Rattle.ilk_net_read.specs.declared.version.Version.TheVariants.{First}

pub limits-kept-by : (n : ℕ) → 1 ≤ n → n ≤ 16 → has_limits (stations_net n) (stations_table n) ≡ true
unfolding digits
limits-kept-by = any_of_sixteen (λ n. has_limits (stations_net n) (stations_table n) ≡ true) refl refl refl refl refl refl refl refl refl refl refl refl refl refl refl refl

pub sections-counted : (n : ℕ) → 1 ≤ n → n ≤ 16 → length (stations_net n).sections ≡ 5 * n + 1
unfolding digits
sections-counted = any_of_sixteen (λ n. length (stations_net n).sections ≡ 5 * n + 1) refl refl refl refl refl refl refl refl refl refl refl refl refl refl refl refl

pub routes-counted : (n : ℕ) → 1 ≤ n → n ≤ 16 → length (stations_table n).routes ≡ 8 * n
unfolding digits
routes-counted = any_of_sixteen (λ n. length (stations_table n).routes ≡ 8 * n) refl refl refl refl refl refl refl refl refl refl refl refl refl refl refl refl

pub unprotected-by : (n : ℕ) → 1 ≤ n → n ≤ 16 → table_fits_version First (stations_table n) ≡ true
unfolding digits
unprotected-by = any_of_sixteen (λ n. table_fits_version First (stations_table n) ≡ true) refl refl refl refl refl refl refl refl refl refl refl refl refl refl refl refl
