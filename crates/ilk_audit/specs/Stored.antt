-- For proofs: set literals and clauses, as they are stored in fields.
use Rattle.std.specs.Prelude.{ℕ, ◌≡◌, ◌==◌, ◌&&◌, ◌+◌, ◌-◌, ◌*◌, ◌≤◌, ◌^◌, Bool, false, List, [], ◌∷◌, length, map, take, drop, nat_le, slice_get, Some, IsTrue}
use Rattle.ilk_cnf.specs.Literal.{Literal, has_distinct_vars}
use Rattle.ilk_cnf.specs.Code.{code_of, literal_of}
use Rattle.ilk_cnf.specs.Formula.{is_clause_over, is_lit_over, IsFormula}
use Rattle.ilk_log.specs.Propagation.{is_false}
use Rattle.ilk_audit.specs.Codes.{lit_codes_fit_width, codes_in}
use Rattle.ilk_audit.specs.declared.codes.LitCodes.{LitCodes}

-- The number of variables, and the literals that are set to true, the last one set first.
pub record VarCountAndTrueLits : Type 0 where
  pub vars : ℕ
  pub set : List Literal

-- Holds if the set literals are over the variables 1 to `vars`, each over another one.
pub record AssignsVarsAtMostOnce (p : VarCountAndTrueLits) : Type 0 where
  pub few : p.vars ≤ 2 ^ 62
  pub within : IsTrue (is_clause_over p.vars p.set)
  pub once : IsTrue (has_distinct_vars p.set)

-- Holds if the table has for each literal, at the number that encodes it, whether it is false.
pub record IsFalseLitTable (falses : List Bool) (p : VarCountAndTrueLits) : Type 0 where
  pub partial : AssignsVarsAtMostOnce p
  pub long : length falses ≡ 2 * p.vars + 2
  pub tells : (l : Literal) → IsTrue (is_lit_over p.vars l) → slice_get falses (code_of l) ≡ Some (is_false p.set l)

-- The literals that these numbers encode.
abbrev pub literals_of : List ℕ → List Literal
literals_of codes = map literal_of codes

-- The clauses into which the bounds, given first, split a list of encoded literals.
abbrev pub split_into_clauses : List ℕ → List ℕ → List (List Literal)
split_into_clauses [] codes = []
split_into_clauses (from ∷ []) codes = []
split_into_clauses (from ∷ (to ∷ bounds)) codes = literals_of (take (to - from) (drop from codes)) ∷ split_into_clauses (to ∷ bounds) codes

-- Returns whether `from` and the bounds after it ascend, not strictly, and end in `to`.
abbrev pub is_nondecreasing_from_to : ℕ → List ℕ → ℕ → Bool
is_nondecreasing_from_to from [] to = from == to
is_nondecreasing_from_to from (b ∷ bounds) to = nat_le from b && is_nondecreasing_from_to b bounds to

-- Returns whether the bounds ascend, not strictly, and end in `to`. False if there are none.
abbrev pub are_nondecreasing_and_end_at : List ℕ → ℕ → Bool
are_nondecreasing_and_end_at [] to = false
are_nondecreasing_and_end_at (from ∷ bounds) to = is_nondecreasing_from_to from bounds to

-- Holds if the bounds split the encoded literals into clauses over the variables 1 to `vars`, none
-- with a variable twice.
pub record CodesSplitIntoValidClauses (vars : ℕ) (codes : LitCodes) (bounds : List ℕ) : Type 0 where
  pub formula : IsFormula (record { vars = vars; clauses = split_into_clauses bounds (codes_in codes) })
  pub fits : IsTrue (lit_codes_fit_width vars codes)
  pub bounded : IsTrue (are_nondecreasing_and_end_at bounds (length (codes_in codes)))
