use Rattle.std.proofs.Common.{ℕ, ◌+◌, ◌*◌, ◌≤◌, Bool, true, false, not, List, [], ◌∷◌, ◌++◌, length, Option, Some, None, arith, length-append}
use Rattle.ilk_cnf.specs.Literal.{Literal}
use Rattle.ilk_cnf.specs.Formula.{Formula}
use Rattle.ilk_cnf.specs.Part.{FormulaPart, with_part, clauses_from_lists}
use Rattle.ilk_ints.proofs.OneOfLaw.{clauses_from_lists-few}
use Rattle.ilk_ir.specs.Tree.{Tree, yes, no, is, all_of, any_of, negation, Trees, none, more}
use Rattle.ilk_forms.specs.declared.copy.VarValueAndBoundLits.{VarValueAndBoundLits}
use Rattle.ilk_forms.specs.declared.gates.AndGate.{AndGate}
use Rattle.ilk_forms.specs.Size.{tree_size, trees_size}
use Rattle.ilk_forms.specs.Bound.{bound_lit_stated_by_or}
use Rattle.ilk_forms.specs.Gates.{gates_part}
use Rattle.ilk_forms.specs.Gathered.{LitsWithGates, forms_to_and_or_lits}
use Rattle.ilk_forms.specs.Demand.{PartWithGates, some_lit_demand_with_gates, literal_clause_demand_or, demand_of, demand_each, some_lit_or_form_part}
use Rattle.ilk_forms.proofs.GatheredFits.{Few, forms-few}

pub record PartFew (n k : ℕ) (p : FormulaPart) : Type 0 where
  pub vars : p.vars ≤ n + k
  pub clauses : length p.clauses ≤ 2 * k

some-few : (first : List Literal) (n k : ℕ) (g : LitsWithGates) → Few k g → PartFew n (k + 1) (some_lit_demand_with_gates first g n).part
some-few first n k g h =
    let v = h.vars in
    let c = h.clauses in
    record { vars = omega arith; clauses = omega (arith, length-append (gates_part g.gates n).clauses ((first ++ g.lits) ∷ [])) }

wider : (n k : ℕ) (p : FormulaPart) → PartFew n k p → PartFew n (k + 1) p
wider n k p h =
    let v = h.vars in
    let c = h.clauses in
    record { vars = omega arith; clauses = omega arith }

literal_clause_demand_or-few : (first : List Literal) (positive : Bool) (o : Option Literal) (n k : ℕ) (d : PartWithGates) → PartFew n (k + 1) d.part → PartFew n (k + 1) (literal_clause_demand_or first positive o n d).part
literal_clause_demand_or-few first positive None n k d h = h
literal_clause_demand_or-few first positive (Some l) n k d h = record { vars = omega arith; clauses = omega arith }

mutual
  demand_of-few : (t : Tree) (columns : List VarValueAndBoundLits) (first : List Literal) (positive : Bool) (known : List AndGate) (n : ℕ) → PartFew n (tree_size t) (demand_of columns first positive t known n).part
  demand_of-few yes columns first true known n = record { vars = omega arith; clauses = omega arith }
  demand_of-few yes columns first false known n = record { vars = omega arith; clauses = omega arith }
  demand_of-few no columns first true known n = record { vars = omega arith; clauses = omega arith }
  demand_of-few no columns first false known n = record { vars = omega arith; clauses = omega arith }
  demand_of-few (is v c) columns first positive known n = record { vars = omega arith; clauses = omega arith }
  demand_of-few (all_of ts) columns first true known n = wider n (trees_size ts) (demand_each columns first true ts known n).part (demand_each-few ts columns first true known n)
  demand_of-few (all_of ts) columns first false known n = some-few first n (trees_size ts) (forms_to_and_or_lits columns false false ts known n) (forms-few ts columns false false known n)
  demand_of-few (any_of ts) columns first true known n =
      let g = forms_to_and_or_lits columns false true ts known n in
      literal_clause_demand_or-few first true (bound_lit_stated_by_or columns ts) n (trees_size ts) (some_lit_demand_with_gates first g n) (some-few first n (trees_size ts) g (forms-few ts columns false true known n))
  demand_of-few (any_of ts) columns first false known n =
      let d = demand_each columns first false ts known n in
      literal_clause_demand_or-few first false (bound_lit_stated_by_or columns ts) n (trees_size ts) d (wider n (trees_size ts) d.part (demand_each-few ts columns first false known n))
  demand_of-few (negation t) columns first positive known n = wider n (tree_size t) (demand_of columns first (not positive) t known n).part (demand_of-few t columns first (not positive) known n)

  demand_each-few : (ts : Trees) (columns : List VarValueAndBoundLits) (first : List Literal) (positive : Bool) (known : List AndGate) (n : ℕ) → PartFew n (trees_size ts) (demand_each columns first positive ts known n).part
  demand_each-few none columns first positive known n = record { vars = omega arith; clauses = omega arith }
  demand_each-few (more t ts) columns first positive known n =
      let d = demand_of columns first positive t known n in
      let p = d.part in
      let q = (demand_each columns first positive ts (known ++ d.gates) p.vars).part in
      let one = demand_of-few t columns first positive known n in
      let two = demand_each-few ts columns first positive (known ++ d.gates) p.vars in
      let v = one.vars in
      let c = one.clauses in
      let w = two.vars in
      let e = two.clauses in
      record { vars = omega arith; clauses = omega (arith, length-append p.clauses q.clauses) }

pub some_lit_or_form-few : (t : Tree) (columns : List VarValueAndBoundLits) (first : List Literal) (n : ℕ) → PartFew n (tree_size t) (some_lit_or_form_part columns first t n)
some_lit_or_form-few t columns first n = demand_of-few t columns first true [] n

pub with_part-few : (f : Formula) (p : FormulaPart) (k : ℕ) → length p.clauses ≤ k → length (with_part f p).clauses ≤ length f.clauses + k
with_part-few f p k h = omega (arith, h, length-append f.clauses (clauses_from_lists p.clauses), clauses_from_lists-few p.clauses)
