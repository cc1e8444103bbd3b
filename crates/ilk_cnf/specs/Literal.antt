use Rattle.std.specs.Prelude.{ℕ, Bool, true, false, List, [], ◌∷◌, ◌==◌, ◌&&◌, not, if◌then◌else◌}
use Rattle.std.specs.List.{list_any}

-- A variable, from 1, with a sign. A positive literal is true if the variable is; a negative one,
-- if it isn't.
pub record Literal : Type 0 where
  pub var : ℕ
  pub positive : Bool

-- Returns the literal that is true if variable `v` is.
abbrev pub positive_lit : ℕ → Literal
positive_lit v = record { var = v; positive = true }

-- Returns the literal that is true if variable `v` is false.
abbrev pub negative_lit : ℕ → Literal
negative_lit v = record { var = v; positive = false }

-- Returns the opposite literal of the same variable.
abbrev pub negated_lit : Literal → Literal
negated_lit l = record { var = l.var; positive = not l.positive }

-- Returns whether two literals are equal.
abbrev pub same_lit : Literal → Literal → Bool
same_lit l m = (l.var == m.var) && (if l.positive then m.positive else not m.positive)

-- Returns whether the list has literal `l`.
abbrev pub has_lit : Literal → List Literal → Bool
has_lit l ls = list_any (same_lit l) ls

-- Returns whether the list has a literal of variable `v`.
abbrev pub has_var : ℕ → List Literal → Bool
has_var v ls = list_any (λ l. l.var == v) ls

-- Returns whether the literals are over different variables: none has two of them.
abbrev pub has_distinct_vars : List Literal → Bool
has_distinct_vars [] = true
has_distinct_vars (l ∷ ls) = not (has_var l.var ls) && has_distinct_vars ls
