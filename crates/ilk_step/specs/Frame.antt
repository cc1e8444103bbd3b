-- The frame axioms: a variable that the chosen rule doesn't set keeps its value.
use Rattle.std.specs.Prelude.{ℕ, ◌+◌, ◌==◌, Bool, List, [], ◌∷◌, ◌++◌, length, take, if◌then◌else◌}
use Rattle.std.specs.List.{list_any}
use Rattle.ilk_cnf.specs.Literal.{Literal, negative_lit, negated_lit}
use Rattle.ilk_cnf.specs.Part.{FormulaPart}
use Rattle.ilk_ir.specs.System.{PlainRule}
use Rattle.ilk_ir.specs.declared.system.Setting.{Setting}
use Rattle.ilk_forms.specs.declared.copy.VarValueAndBoundLits.{VarValueAndBoundLits}

abbrev pub sets_variable : ℕ → List Setting → Bool
sets_variable v sets = list_any (λ s. s.var == v) sets

-- For each rule that sets variable `v`, the literal that is true if the rule is chosen. The
-- variables that choose a rule begin at `k`.
abbrev pub setter_lits : ℕ → ℕ → List PlainRule → List Literal
setter_lits v k [] = []
setter_lits v k (r ∷ rs) = if sets_variable v r.sets then negative_lit k ∷ setter_lits v (k + 1) rs else setter_lits v (k + 1) rs

-- The clauses that say: a literal of `first` is true, or the second and third lists have equal
-- values at each index.
abbrev pub equal_unless_any_true : List Literal → List Literal → List Literal → List (List Literal)
equal_unless_any_true first [] ms = []
equal_unless_any_true first (l ∷ ls) [] = []
equal_unless_any_true first (l ∷ ls) (m ∷ ms) =
    (first ++ negated_lit l ∷ m ∷ []) ∷ (first ++ l ∷ negated_lit m ∷ []) ∷ equal_unless_any_true first ls ms

-- The literals of a variable's values that frame axioms carry over. If there are only two values,
-- the first literal is enough.
abbrev pub value_lits_to_carry_over : List Literal → List Literal
value_lits_to_carry_over values = if length values == 2 then take 1 values else values

-- The clauses that say: a literal of `first` is true, or the variable has the same value before the
-- step (`now`) and after it (`next`).
abbrev pub frame_axiom : List Literal → VarValueAndBoundLits → VarValueAndBoundLits → List (List Literal)
frame_axiom first now next =
    equal_unless_any_true first (value_lits_to_carry_over now.values) (value_lits_to_carry_over next.values) ++ equal_unless_any_true first now.bounds next.bounds

-- The clauses that each variable is set by the chosen rule or has the same value before and after
-- the step.
abbrev pub frame_axioms : List PlainRule → ℕ → ℕ → List VarValueAndBoundLits → List VarValueAndBoundLits → List (List Literal)
frame_axioms rs k v [] next = []
frame_axioms rs k v (c ∷ now) [] = []
frame_axioms rs k v (c ∷ now) (d ∷ next) = frame_axiom (setter_lits v k rs) c d ++ frame_axioms rs k (v + 1) now next

-- The part of a formula that adds the frame axioms of all variables to `n` variables, and no
-- variable.
abbrev pub frame_axioms_part : List PlainRule → ℕ → List VarValueAndBoundLits → List VarValueAndBoundLits → ℕ → FormulaPart
frame_axioms_part rs k now next n = record { vars = n; clauses = frame_axioms rs k 0 now next }
