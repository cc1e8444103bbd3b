-- Literals that represent a form over a copy (time frame): it holds if all, or if some, are true.
use Rattle.std.specs.Prelude.{ℕ, ◌+◌, Bool, true, false, not, List, [], ◌∷◌, ◌++◌, length, Option, Some, None, if◌then◌else◌}
use Rattle.ilk_cnf.specs.Literal.{Literal}
use Rattle.ilk_ir.specs.Tree.{Tree, yes, no, is, all_of, any_of, negation, Trees, none, more}
use Rattle.ilk_forms.specs.declared.copy.VarValueAndBoundLits.{VarValueAndBoundLits}
use Rattle.ilk_forms.specs.declared.gates.AndGate.{AndGate}
use Rattle.ilk_forms.specs.Leaf.{value_lit}
use Rattle.ilk_forms.specs.Bound.{bound_lit_stated_by_or}
use Rattle.ilk_forms.specs.Gates.{bools_are_equal, with_sign, LitWithGates, combined_lit}

-- New gates, and result literals.
pub record LitsWithGates : Type 0 where
  pub gates : List AndGate
  pub lits : List Literal

-- No gate and no literal.
abbrev pub no_lits : LitsWithGates
no_lits = record { gates = []; lits = [] }

-- No gate, and literal `l`, negated unless `positive`.
abbrev pub one_lit : Bool → Literal → LitsWithGates
one_lit positive l = record { gates = []; lits = with_sign positive l ∷ [] }

-- The given literal, negated unless `positive`. If none is given, `g`.
abbrev pub optional_lit_or : Bool → Option Literal → LitsWithGates → LitsWithGates
optional_lit_or positive (Some l) g = one_lit positive l
optional_lit_or positive None g = g

-- The gates and literals of `g`, then those of `h`, which is given the gates of `g` and their
-- number.
abbrev pub append_lits : LitsWithGates → (List AndGate → ℕ → LitsWithGates) → LitsWithGates
append_lits g h = record { gates = g.gates ++ (h g.gates (length g.gates)).gates; lits = g.lits ++ (h g.gates (length g.gates)).lits }

-- The gates of `g`, with one literal in place of its several: true exactly if all are (`all`), or
-- at least one is (otherwise). The gates `known` and the first `n` variables precede `g`.
abbrev pub combine_lits_into_one : List AndGate → ℕ → Bool → LitsWithGates → LitWithGates
combine_lits_into_one known n all g =
    record {
      gates = g.gates ++ (combined_lit (known ++ g.gates) all g.lits (n + length g.gates)).gates;
      lit = (combined_lit (known ++ g.gates) all g.lits (n + length g.gates)).lit;
    }

-- The gates of `g`, and its literal, negated unless `positive`.
abbrev pub signed_lit_as_lits_with_gates : Bool → LitWithGates → LitsWithGates
signed_lit_as_lits_with_gates positive g = record { gates = g.gates; lits = with_sign positive g.lit ∷ [] }

-- The literals of `g` for use in an And (`outer`) or an Or (otherwise). `inner` says in the same
-- way what `g` is. If both agree, the literals stay. Otherwise one literal replaces them.
abbrev pub keep_lits_if_same_gate : List AndGate → ℕ → Bool → Bool → LitsWithGates → LitsWithGates
keep_lits_if_same_gate known n outer inner g =
    if bools_are_equal outer inner then g else signed_lit_as_lits_with_gates true (combine_lits_into_one known n inner g)

-- Returns whether the form is the negation of an And or Or. The negation of such a form, a double
-- negation, is a mark: it stands for one literal, and no And or Or around it takes its parts in.
abbrev pub is_negation_of_and_or_or : Tree → Bool
is_negation_of_and_or_or (negation (all_of ts)) = true
is_negation_of_and_or_or (negation (any_of ts)) = true
is_negation_of_and_or_or _ = false

-- Literals that represent the form, or its negation unless `positive`. That formula holds exactly
-- if all of them (`all`), or some (otherwise), are true. The gates `known` and the first `n`
-- variables precede the new gates.
abbrev mutual
  pub form_to_and_or_lits : List VarValueAndBoundLits → Bool → Bool → Tree → List AndGate → ℕ → LitsWithGates
  form_to_and_or_lits columns all positive yes known n = keep_lits_if_same_gate known n all positive no_lits
  form_to_and_or_lits columns all positive no known n = keep_lits_if_same_gate known n all (not positive) no_lits
  form_to_and_or_lits columns all positive (is v c) known n = one_lit positive (value_lit columns v c)
  form_to_and_or_lits columns all positive (all_of ts) known n =
      keep_lits_if_same_gate known n all positive (forms_to_and_or_lits columns positive positive ts known n)
  form_to_and_or_lits columns all positive (any_of ts) known n =
      optional_lit_or positive (bound_lit_stated_by_or columns ts) (keep_lits_if_same_gate known n all (not positive) (forms_to_and_or_lits columns (not positive) positive ts known n))
  form_to_and_or_lits columns all positive (negation t) known n =
      if is_negation_of_and_or_or t
      then signed_lit_as_lits_with_gates positive (combine_lits_into_one known n true (form_to_and_or_lits columns true false t known n))
      else form_to_and_or_lits columns all (not positive) t known n

  pub forms_to_and_or_lits : List VarValueAndBoundLits → Bool → Bool → Trees → List AndGate → ℕ → LitsWithGates
  forms_to_and_or_lits columns all positive none known n = no_lits
  forms_to_and_or_lits columns all positive (more t ts) known n =
      append_lits (form_to_and_or_lits columns all positive t known n) (λ gates m. forms_to_and_or_lits columns all positive ts (known ++ gates) (n + m))
