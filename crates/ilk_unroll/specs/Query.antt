-- The formula of a query: a copy (time frame) of the system's values for each moment of a run, the
-- steps between them, and the demands. Each part depends only on the ranges, the rules or its form,
-- and on its first variable.
use Rattle.std.specs.Prelude.{ℕ, zero, suc, List, [], ◌∷◌, ◌++◌, slice_index_or, if◌then◌else◌}
use Rattle.ilk_cnf.specs.Formula.{Formula}
use Rattle.ilk_cnf.specs.Part.{FormulaPart, empty_part, and_then, with_part}
use Rattle.ilk_ir.specs.System.{PlainRule, PlainSystem}
use Rattle.ilk_forms.specs.declared.copy.VarValueAndBoundLits.{VarValueAndBoundLits}
use Rattle.ilk_forms.specs.Copy.{FormulaPartAndAllVarLits, copy_part}
use Rattle.ilk_forms.specs.Demand.{some_lit_or_form_part}
use Rattle.ilk_forms.specs.Violated.{form_fails_part}
use Rattle.ilk_step.specs.Step.{step_part}
use Rattle.ilk_unroll.specs.Goal.{PlainGoalForms, CopyDemand, query_step_count, demands_of}
use Rattle.ilk_unroll.specs.declared.queries.Wanted.{Wanted}

-- A formula part, and the literals of each copy that it adds (`tables`).
pub record PartWithCopyLits : Type 0 where
  pub part : FormulaPart
  pub tables : List (List VarValueAndBoundLits)

-- Puts one copy before the later ones: its clauses and literals come before theirs, its variables
-- after theirs.
abbrev pub prepend_copy_part : FormulaPartAndAllVarLits → PartWithCopyLits → PartWithCopyLits
prepend_copy_part one later =
    record {
      part = record { vars = one.part.vars; clauses = one.part.clauses ++ later.part.clauses };
      tables = one.columns ∷ later.tables;
    }

-- The formula part with `count` copies, from the first moment to the last, after the first `n`
-- variables. Their variables are in reverse order: the last copy has the lowest.
abbrev pub copies_part : List ℕ → ℕ → ℕ → PartWithCopyLits
copies_part ranges zero n = record { part = empty_part n; tables = [] }
copies_part ranges (suc count) n = prepend_copy_part (copy_part ranges (copies_part ranges count n).part.vars) (copies_part ranges count n)

-- The formula part with a step from each copy to the next, after the first `n` variables.
abbrev pub steps_part : List PlainRule → List (List VarValueAndBoundLits) → ℕ → FormulaPart
steps_part rules [] n = empty_part n
steps_part rules (now ∷ []) n = empty_part n
steps_part rules (now ∷ next ∷ tables) n = and_then (step_part rules now next n) (steps_part rules (next ∷ tables))

-- The literals of copy number `j`, or none if there is no such copy.
abbrev pub copy_lits_at : List (List VarValueAndBoundLits) → ℕ → List VarValueAndBoundLits
copy_lits_at tables j = slice_index_or tables j []

-- The formula part, after the first `n` variables, that says that the form of demand `d` holds, or
-- fails, in its copy.
abbrev pub one_demand_part : List (List VarValueAndBoundLits) → CopyDemand → ℕ → FormulaPart
one_demand_part tables d n =
    if d.holds then some_lit_or_form_part (copy_lits_at tables d.copy) [] d.form n else form_fails_part (copy_lits_at tables d.copy) d.form n

-- The formula part with all demands, after the first `n` variables.
abbrev pub demands_part : List (List VarValueAndBoundLits) → List CopyDemand → ℕ → FormulaPart
demands_part tables [] n = empty_part n
demands_part tables (d ∷ ds) n = and_then (one_demand_part tables d n) (demands_part tables ds)

-- The formula part of query `q`: a copy for the first values and one after each step, the steps,
-- and the query's demands.
abbrev pub query_part : PlainSystem → PlainGoalForms → Wanted → FormulaPart
query_part s g q = after (copies_part s.ranges (suc (query_step_count q)) 0)
  where
    after : PartWithCopyLits → FormulaPart
    after copies = and_then copies.part (λ m. and_then (steps_part s.rules copies.tables m) (demands_part copies.tables (demands_of g q)))

-- The whole formula of query `q`: its copies, steps and demands.
abbrev pub query_formula : PlainSystem → PlainGoalForms → Wanted → Formula
query_formula s g q = with_part (record { vars = 0; clauses = [] }) (query_part s g q)
