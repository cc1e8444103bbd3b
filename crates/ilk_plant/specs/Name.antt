-- Names: texts of letters, digits, `_` and `-`.
use Rattle.std.specs.Prelude.{ℕ, Bool, true, Option, Some, None, List, ◌&&◌, ◌||◌, ◌==◌, IsTrue, length, nat_le}
use Rattle.std.specs.List.{list_all}
use Rattle.ilk_plant.specs.declared.limits.TheConstants.{MAX_NAME}

-- The bytes of a name.
abbrev pub Name : Type 0
Name = List ℕ

-- Returns whether `n` is at least `low` and at most `high`.
abbrev pub is_between : ℕ → ℕ → ℕ → Bool
is_between low high n = nat_le low n && nat_le n high

-- Returns whether a byte is allowed in a name: `A` to `Z`, `a` to `z`, `0` to `9`, `_` or `-`.
abbrev pub is_name_character : ℕ → Bool
is_name_character c = is_between 65 90 c || is_between 97 122 c || is_between 48 57 c || c == 95 || c == 45

-- Returns whether a text is allowed as a name: 1 to `MAX_NAME` characters, each allowed.
abbrev pub is_name : Name → Bool
is_name text = is_between 1 MAX_NAME (length text) && list_all is_name_character text

-- Returns whether an optional text is `None` or allowed as a name.
abbrev pub is_name_if_given : Option Name → Bool
is_name_if_given None = true
is_name_if_given (Some text) = is_name text

-- Holds if a text is allowed as a name.
abbrev pub IsName : Name → Type 0
IsName text = IsTrue (is_name text)
