use Rattle.std.specs.Prelude.{Bool, false, Option, Some, None, option_and_then, if◌then◌else◌}

-- `x ← o` in a `do` block: `x` is the value of `o`. If `o` has none, the whole has none.
infixl 10 ◌>>=◌
abbrev pub ◌>>=◌ : {A B : Type 0} → Option A → (A → Option B) → Option B
o >>= f = option_and_then f o

-- The value `x` if `b` is true, otherwise `None`.
abbrev pub then_some : {A : Type 0} → Bool → A → Option A
then_some b x = if b then Some x else None

-- Returns whether the option has a value and the value passes the test.
abbrev pub is_some_and : {A : Type 0} → Option A → (A → Bool) → Bool
is_some_and None test = false
is_some_and (Some x) test = test x
