-- The assignments that extend an earlier one and satisfy a part of a formula. `E` says which values
-- may continue it.
use Rattle.std.specs.Prelude.{ℕ, ◌≡◌, Bool, true, List, ◌++◌, length}
use Rattle.ilk_cnf.specs.Literal.{Literal}
use Rattle.ilk_cnf.specs.Part.{FormulaPart, clauses_from_lists}
use Rattle.ilk_cnf.specs.Truth.{satisfies}

-- Holds if the assignments of m variables that begin with `a` and satisfy the clauses `cs` are
-- exactly those that continue with values in `E`.
pub record ExtensionsAreExactly (a : List Bool) (m : ℕ) (cs : List (List Literal)) (E : List Bool → Type 0) : Type 0 where
  pub sized : (b : List Bool) → E b → length (a ++ b) ≡ m
  pub all_satisfy : (b : List Bool) → E b → satisfies (a ++ b) cs ≡ true
  pub only : (b : List Bool) → length (a ++ b) ≡ m → satisfies (a ++ b) cs ≡ true → E b

-- Holds if the assignments that begin with `a` and satisfy part `p` are exactly those that continue
-- with values in `E`.
abbrev pub PartExtensionsAreExactly : List Bool → FormulaPart → (List Bool → Type 0) → Type 0
PartExtensionsAreExactly a p E = ExtensionsAreExactly a p.vars (clauses_from_lists p.clauses) E

-- Holds if the values `b` are exactly `e`.
abbrev pub EqualsGivenValues : List Bool → List Bool → Type 0
EqualsGivenValues e b = b ≡ e

-- Holds if the test `ok` passes and the values `b` are exactly `e`.
abbrev pub PassesAndEqualsGivenValues : Bool → List Bool → List Bool → Type 0
PassesAndEqualsGivenValues ok e b = (ok ≡ true) × (b ≡ e)

-- Holds if the values `d` are those of one part, allowed by `E`, followed by those of the next. `F`
-- says which of these are allowed after the first.
abbrev pub AreValuesOfConsecutiveParts : (E : List Bool → Type 0) → ((b : List Bool) → E b → List Bool → Type 0) → List Bool → Type 0
AreValuesOfConsecutiveParts E F d = (b : List Bool) × (c : List Bool) × (d ≡ b ++ c) × (e : E b) × F b e c
