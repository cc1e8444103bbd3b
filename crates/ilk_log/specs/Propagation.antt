-- Propagation over a list of clauses, by hints: each names a clause that forces its one unset
-- literal, because all others are false. `set` are the true literals.
use Rattle.std.specs.Prelude.{ℕ, zero, suc, Bool, List, [], ◌∷◌, ◌&&◌, Option, Some, None, is_none, not, slice_get}
use Rattle.std.specs.List.{filter, list_all}
use Rattle.ilk_base.specs.Option.{◌>>=◌, then_some}
use Rattle.ilk_cnf.specs.Literal.{Literal, negated_lit, has_lit}

-- Returns whether literal `l` is false: its opposite is in `set`.
abbrev pub is_false : List Literal → Literal → Bool
is_false set l = has_lit (negated_lit l) set

-- Returns whether every literal of clause `c` is false.
abbrev pub is_falsified : List Literal → List Literal → Bool
is_falsified set c = list_all (is_false set) c

-- Returns the only literal of a list, if it isn't in `set`. Returns `None` for other lists.
abbrev pub only_lit_if_unset : List Literal → List Literal → Option Literal
only_lit_if_unset set [] = None
only_lit_if_unset set (l ∷ []) = then_some (not (has_lit l set)) l
only_lit_if_unset set (l ∷ (m ∷ ls)) = None

-- Returns the literal that clause `c` forces: unset, with all others false. Returns `None` if there
-- is none.
abbrev pub unit_lit : List Literal → List Literal → Option Literal
unit_lit set c = only_lit_if_unset set (filter (λ l. not (is_false set l)) c)

-- Returns the clause with number `h`, from 1, or `None` if there is none.
abbrev pub clause_numbered : List (List Literal) → ℕ → Option (List Literal)
clause_numbered clauses zero = None
clause_numbered clauses (suc i) = slice_get clauses i

-- Returns the true literals after hint `h`, with the literal that clause `h` forces added. Returns
-- `None` if it forces none.
abbrev pub after_hint : List (List Literal) → List Literal → ℕ → Option (List Literal)
after_hint clauses set h = do
  c ← clause_numbered clauses h
  l ← unit_lit set c
  Some (l ∷ set)

-- Returns the true literals after all hints in turn, or `None` if one of them names a clause that
-- forces no literal.
abbrev pub after_hints : List (List Literal) → List Literal → List ℕ → Option (List Literal)
after_hints clauses set [] = Some set
after_hints clauses set (h ∷ hints) = do
  next ← after_hint clauses set h
  after_hints clauses next hints

-- Returns whether propagation is complete: no clause is false or forces a literal.
abbrev pub is_saturated : List (List Literal) → List Literal → Bool
is_saturated clauses set = list_all (λ c. not (is_falsified set c) && is_none (unit_lit set c)) clauses
