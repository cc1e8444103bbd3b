-- The versions of a configuration's form.
use Rattle.std.specs.Prelude.{ℕ, Option, Some, None, ◌==◌, if◌then◌else◌}
use Rattle.ilk_net_read.specs.declared.version.Version.{Version}
use Rattle.ilk_net_read.specs.declared.version.Version.TheVariants.{First, Second}

-- Returns the version with this number, 1 or 2. Returns `None` for any other number.
abbrev pub version_from_number : ℕ → Option Version
version_from_number n = if n == 1 then Some First else (if n == 2 then Some Second else None)
