-- Clauses that say that some given literal is true, or a form holds for a copy (time frame).
use Rattle.std.specs.Prelude.{ℕ, Bool, true, false, not, List, [], ◌∷◌, ◌++◌, length, Option, Some, None}
use Rattle.ilk_cnf.specs.Literal.{Literal}
use Rattle.ilk_cnf.specs.Part.{FormulaPart, empty_part, and_then}
use Rattle.ilk_ir.specs.Tree.{Tree, yes, no, is, all_of, any_of, negation, Trees, none, more}
use Rattle.ilk_forms.specs.declared.copy.VarValueAndBoundLits.{VarValueAndBoundLits}
use Rattle.ilk_forms.specs.declared.gates.AndGate.{AndGate}
use Rattle.ilk_forms.specs.Leaf.{value_lit}
use Rattle.ilk_forms.specs.Bound.{bound_lit_stated_by_or}
use Rattle.ilk_forms.specs.Gates.{with_sign, gates_part, gate_values}
use Rattle.ilk_forms.specs.Gathered.{LitsWithGates, forms_to_and_or_lits}

-- A formula part, and the new gates in it.
pub record PartWithGates : Type 0 where
  pub part : FormulaPart
  pub gates : List AndGate

-- The formula part that adds the clause `ls` and no variable to the first `n` variables.
abbrev pub one_clause_part : List Literal → ℕ → FormulaPart
one_clause_part ls n = record { vars = n; clauses = ls ∷ [] }

-- Nothing added to the first `n` variables.
abbrev pub no_demand : ℕ → PartWithGates
no_demand n = record { part = empty_part n; gates = [] }

-- The clause `ls` added to the first `n` variables.
abbrev pub literal_clause_demand : List Literal → ℕ → PartWithGates
literal_clause_demand ls n = record { part = one_clause_part ls n; gates = [] }

-- The formula part, after the first `n` variables, with the gates of `g`, and one clause: some
-- literal of `first` or of `g` is true.
abbrev pub some_lit_demand_with_gates : List Literal → LitsWithGates → ℕ → PartWithGates
some_lit_demand_with_gates first g n = record { part = and_then (gates_part g.gates n) (one_clause_part (first ++ g.lits)); gates = g.gates }

-- The clause that some literal of `first`, or the given literal `l` (negated unless `positive`), is
-- true. If no literal is given, the demand `d`.
abbrev pub literal_clause_demand_or : List Literal → Bool → Option Literal → ℕ → PartWithGates → PartWithGates
literal_clause_demand_or first positive (Some l) n d = literal_clause_demand (first ++ with_sign positive l ∷ []) n
literal_clause_demand_or first positive None n d = d

-- Demand `d`, then demand `e`, which is given the gates of `d` and the number of variables after
-- it.
abbrev pub then_demand : PartWithGates → (List AndGate → ℕ → PartWithGates) → PartWithGates
then_demand d e = record { part = and_then d.part (λ m. (e d.gates m).part); gates = d.gates ++ (e d.gates d.part.vars).gates }

-- The demand, after the first `n` variables, that some literal of `first` is true, or the form
-- holds (`positive`) or fails (otherwise) for the copy. The gates `known` precede it.
abbrev mutual
  pub demand_of : List VarValueAndBoundLits → List Literal → Bool → Tree → List AndGate → ℕ → PartWithGates
  demand_of columns first true yes known n = no_demand n
  demand_of columns first false yes known n = literal_clause_demand first n
  demand_of columns first true no known n = literal_clause_demand first n
  demand_of columns first false no known n = no_demand n
  demand_of columns first positive (is v c) known n = literal_clause_demand (first ++ with_sign positive (value_lit columns v c) ∷ []) n
  demand_of columns first true (all_of ts) known n = demand_each columns first true ts known n
  demand_of columns first false (all_of ts) known n = some_lit_demand_with_gates first (forms_to_and_or_lits columns false false ts known n) n
  demand_of columns first true (any_of ts) known n =
      literal_clause_demand_or first true (bound_lit_stated_by_or columns ts) n (some_lit_demand_with_gates first (forms_to_and_or_lits columns false true ts known n) n)
  demand_of columns first false (any_of ts) known n =
      literal_clause_demand_or first false (bound_lit_stated_by_or columns ts) n (demand_each columns first false ts known n)
  demand_of columns first positive (negation t) known n = demand_of columns first (not positive) t known n

  pub demand_each : List VarValueAndBoundLits → List Literal → Bool → Trees → List AndGate → ℕ → PartWithGates
  demand_each columns first positive none known n = no_demand n
  demand_each columns first positive (more t ts) known n =
      then_demand (demand_of columns first positive t known n) (λ gates m. demand_each columns first positive ts (known ++ gates) m)

-- The formula part, after the first `n` variables, that says: some literal of `first` is true, or
-- form `t` holds for the copy. No gate is known before it.
abbrev pub some_lit_or_form_part : List VarValueAndBoundLits → List Literal → Tree → ℕ → FormulaPart
some_lit_or_form_part columns first t n = (demand_of columns first true t [] n).part

-- The truth values of the new variables of `some_lit_or_form_part`, after assignment `a`.
abbrev pub some_lit_or_form_bits : List VarValueAndBoundLits → List Literal → Tree → List Bool → List Bool
some_lit_or_form_bits columns first t a = gate_values a (demand_of columns first true t [] (length a)).gates
