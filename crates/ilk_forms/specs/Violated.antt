-- The demand that a form fails. The parts of And at its top, or else the form itself, are instances
-- (conditions); one clause says that some instance is violated.
use Rattle.std.specs.Prelude.{ℕ, Bool, true, List, [], length, map}
use Rattle.ilk_cnf.specs.Literal.{negated_lit}
use Rattle.ilk_cnf.specs.Part.{FormulaPart, and_then}
use Rattle.ilk_ir.specs.Tree.{Tree}
use Rattle.ilk_forms.specs.declared.copy.VarValueAndBoundLits.{VarValueAndBoundLits}
use Rattle.ilk_forms.specs.Gates.{gates_part, gate_values}
use Rattle.ilk_forms.specs.Gathered.{LitsWithGates, form_to_and_or_lits}
use Rattle.ilk_forms.specs.Demand.{one_clause_part}

-- The instances of form `t`, after the first `n` variables: for each a literal that says that it is
-- satisfied.
abbrev pub one_lit_per_instance : List VarValueAndBoundLits → Tree → ℕ → LitsWithGates
one_lit_per_instance columns t n = form_to_and_or_lits columns true true t [] n

-- The formula part, after the first `n` variables, that says that form `t` fails for the copy.
abbrev pub form_fails_part : List VarValueAndBoundLits → Tree → ℕ → FormulaPart
form_fails_part columns t n =
    and_then (gates_part (one_lit_per_instance columns t n).gates n) (one_clause_part (map negated_lit (one_lit_per_instance columns t n).lits))

-- The truth values of the new variables of `form_fails_part`, after assignment `a`.
abbrev pub form_fails_bits : List VarValueAndBoundLits → Tree → List Bool → List Bool
form_fails_bits columns t a = gate_values a (one_lit_per_instance columns t (length a)).gates
