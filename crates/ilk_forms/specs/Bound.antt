-- An Or of the equations v = 0, v = 1, .., v = k says that variable v is at most k. A copy (time
-- frame) may have one literal for that bound.
use Rattle.std.specs.Prelude.{ℕ, zero, ◌+◌, ◌-◌, ◌==◌, nat_lt, Bool, ◌&&◌, ◌||◌, List, length, Option, Some, None, option_map, option_and_then, slice_get, if◌then◌else◌}
use Rattle.ilk_base.specs.Option.{is_some_and}
use Rattle.ilk_cnf.specs.Literal.{Literal, negated_lit}
use Rattle.ilk_ints.specs.Named.{bound_count}
use Rattle.ilk_ir.specs.Tree.{Tree, is, Trees, none, more}
use Rattle.ilk_forms.specs.declared.copy.VarValueAndBoundLits.{VarValueAndBoundLits}
use Rattle.ilk_forms.specs.declared.bound.VarUpperBound.{VarUpperBound}

-- Returns `c` + 1 if the form is the equation `v` = `c` + 1; otherwise `None`.
abbrev pub next_value_if_stated : ℕ → ℕ → Tree → Option ℕ
next_value_if_stated v c (is u d) = if (u == v) && (d == c + 1) then Some d else None
next_value_if_stated v c _ = None

-- Returns the last value if the forms are the equations `v` = `c` + 1, `v` = `c` + 2 and so on, or
-- `c` if there are no forms; otherwise `None`.
abbrev pub last_if_values_consecutive : ℕ → ℕ → Trees → Option ℕ
last_if_values_consecutive v c none = Some c
last_if_values_consecutive v c (more t ts) = option_and_then (λ d. last_if_values_consecutive v d ts) (next_value_if_stated v c t)

-- Returns the bound "v is at most k" if the forms, at least two, are the equations v = 0, v = 1,
-- .., v = k; otherwise `None`.
abbrev pub bound_from_or_of_values : Trees → Option VarUpperBound
bound_from_or_of_values (more (is v zero) (more t ts)) = option_map (λ k. record { var = v; most = k }) (last_if_values_consecutive v 0 (more t ts))
bound_from_or_of_values _ = None

-- Returns the literal for "at most `k`" among one variable's literals, for `k` from 1 on. For the
-- second-greatest value it is the negated literal of the greatest value. Otherwise it is the
-- bound's own literal, or `None` if there is none.
abbrev pub bound_lit_of_var : VarValueAndBoundLits → ℕ → Option Literal
bound_lit_of_var column k =
    if k + 2 == length column.values
    then option_map negated_lit (slice_get column.values (k + 1))
    else slice_get column.bounds (k - 1)

-- Returns the literal of a copy that says that variable `v` is at most `k`, or `None` if it has
-- none.
abbrev pub bound_lit : List VarValueAndBoundLits → ℕ → ℕ → Option Literal
bound_lit columns v k = option_and_then (λ column. bound_lit_of_var column k) (slice_get columns v)

-- Returns the copy's literal for the bound (v is at most k) that an Or of these forms states.
-- Returns `None` if they state none, or the copy has no literal for it.
abbrev pub bound_lit_stated_by_or : List VarValueAndBoundLits → Trees → Option Literal
bound_lit_stated_by_or columns ts = option_and_then (λ b. bound_lit columns b.var b.most) (bound_from_or_of_values ts)

-- Returns whether a copy of variables with these ranges has a literal for "variable `v` is at most
-- `k`".
abbrev pub copy_has_bound_lit : List ℕ → ℕ → ℕ → Bool
copy_has_bound_lit ranges v k = is_some_and (slice_get ranges v) (λ range. (k + 2 == range) || nat_lt (k - 1) (bound_count range))

-- Returns whether an Or of these forms states a bound (v is at most k) for which a copy with these
-- ranges has a literal.
abbrev pub has_bound_lit_for_or : List ℕ → Trees → Bool
has_bound_lit_for_or ranges ts = is_some_and (bound_from_or_of_values ts) (λ b. copy_has_bound_lit ranges b.var b.most)
