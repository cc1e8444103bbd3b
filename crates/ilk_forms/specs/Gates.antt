-- Gates: new variables with literals that are true exactly if all of some earlier literals are. An
-- Or is such a gate of the opposite literals.
use Rattle.std.specs.Prelude.{ℕ, ◌+◌, ◌-◌, ◌^◌, ◌==◌, Bool, List, [], ◌∷◌, ◌++◌, ◌&&◌, ◌≡◌, flat_map, length, map, min, not, Option, Some, None, option_map, if◌then◌else◌}
use Rattle.std.specs.List.{find, list_all}
use Rattle.ilk_cnf.specs.Literal.{Literal, negated_lit, has_lit}
use Rattle.ilk_cnf.specs.Formula.{is_lit_over, is_clause_over}
use Rattle.ilk_cnf.specs.Part.{FormulaPart, and_gate_clauses}
use Rattle.ilk_cnf.specs.Truth.{is_true}
use Rattle.ilk_forms.specs.declared.gates.AndGate.{AndGate}

-- Returns whether two truth values are equal.
abbrev pub bools_are_equal : Bool → Bool → Bool
bools_are_equal p q = if p then q else not q

-- Returns literal `l` if `positive`, otherwise its negation.
abbrev pub with_sign : Bool → Literal → Literal
with_sign positive l = if positive then l else negated_lit l

-- The formula part that adds the variables of these gates after the first `n` variables, and for
-- each gate the clauses that its literal is true exactly if all of its literals are.
abbrev pub gates_part : List AndGate → ℕ → FormulaPart
gates_part gates n = record { vars = n + length gates; clauses = flat_map (λ g. and_gate_clauses g.lit g.lits) gates }

-- The truth value of a gate's variable under assignment `a`, which has all of its literals.
abbrev pub gate_value : List Bool → AndGate → Bool
gate_value a g = bools_are_equal g.lit.positive (list_all (is_true a) g.lits)

-- The truth values of the variables of gates that follow assignment `a`.
abbrev pub gate_values : List Bool → List AndGate → List Bool
gate_values a [] = []
gate_values a (g ∷ gates) = gate_value a g ∷ gate_values (a ++ gate_value a g ∷ []) gates

-- Holds if, under assignment `a`, each gate's literal is true exactly if all of its literals are.
abbrev pub GatesHold : List Bool → List AndGate → Type 0
GatesHold a [] = Unit {0}
GatesHold a (g ∷ gates) = (is_true a g.lit ≡ list_all (is_true a) g.lits) × GatesHold a gates

-- Returns whether two lists have the same literals, in any order.
abbrev pub have_same_lits_in_any_order : List Literal → List Literal → Bool
have_same_lits_in_any_order ls ms = list_all (λ l. has_lit l ms) ls && list_all (λ m. has_lit m ls) ms

-- The least of `m` and the literals' variables.
abbrev pub min_with_least_var : ℕ → List Literal → ℕ
min_with_least_var m [] = m
min_with_least_var m (l ∷ ls) = min_with_least_var (min m l.var) ls

-- The least variable of the literals, or the greatest number of 64 bits if there is none.
abbrev pub least_var : List Literal → ℕ
least_var ls = min_with_least_var (2 ^ 64 - 1) ls

-- The literal of the first gate with these literals, or `None` if there is none. The least variable
-- is compared first, because that is quick.
abbrev pub lit_of_known_gate : List AndGate → List Literal → Option Literal
lit_of_known_gate gates ls = option_map (λ g. g.lit) (find (λ g. (g.least == least_var ls) && have_same_lits_in_any_order ls g.lits) gates)

-- New gates, and one result literal.
pub record LitWithGates : Type 0 where
  pub gates : List AndGate
  pub lit : Literal

-- The literals that are all true exactly if `ls` are (`all`), or if none of them is (otherwise).
abbrev pub lits_negated_unless_all : Bool → List Literal → List Literal
lits_negated_unless_all all ls = if all then ls else map negated_lit ls

-- The gate of these literals after the first `n` variables, with the positive literal of its
-- variable (`positive`) or the negative one.
abbrev pub and_gate_from_lits : Bool → List Literal → ℕ → AndGate
and_gate_from_lits positive ls n = record { lits = ls; lit = record { var = n + 1; positive = positive }; least = least_var ls }

-- A new gate for an And (`all`) or Or (otherwise) of literals, after the first `n` variables. Its
-- variable is true exactly if all of them are, or at least one is.
abbrev pub new_gate : Bool → List Literal → ℕ → AndGate
new_gate all ls n = and_gate_from_lits all (lits_negated_unless_all all ls) n

-- The literal for an And (`all`) or Or (otherwise) by the gate given; if none is given, by a new
-- gate.
abbrev pub lit_or_new_gate : Bool → List Literal → ℕ → Option Literal → LitWithGates
lit_or_new_gate all ls n (Some l) = record { gates = []; lit = with_sign all l }
lit_or_new_gate all ls n None = record { gates = new_gate all ls n ∷ []; lit = with_sign all (new_gate all ls n).lit }

-- One literal in place of several, true exactly if all are (`all`), or at least one is (otherwise).
-- A single literal represents itself. Otherwise a known gate of the same literals does, and without
-- one a new gate.
abbrev pub combined_lit : List AndGate → Bool → List Literal → ℕ → LitWithGates
combined_lit known all (l ∷ []) n = record { gates = []; lit = l }
combined_lit known all ls n = lit_or_new_gate all ls n (lit_of_known_gate known (lits_negated_unless_all all ls))

-- Returns whether all literals of the gates are over the variables 1 to `n`.
abbrev pub gates_within : ℕ → List AndGate → Bool
gates_within n gates = list_all (λ g. is_lit_over n g.lit && is_clause_over n g.lits) gates
