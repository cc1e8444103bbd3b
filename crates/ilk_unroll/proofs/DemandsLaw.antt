-- The demands hold for exactly the value lists that meet them, and each new variable has one value.
use Rattle.std.proofs.Common.{◌≡◌, ℕ, ◌+◌, ◌<◌, ◌≤◌, zero, suc, Bool, true, false, ◌&&◌, List, [], ◌∷◌, ◌++◌, length, map, cond, get_or, slice_get, Option, Some, refl, sym, ap, ◌∙◌, subst, arith, append_assoc}
use Rattle.std.specs.List.{list_all, range_with_len}
use Rattle.std.specs.Prelude.{nat_lt}
use Rattle.std.proofs.lemmas.Bool.{and_from, and_parts, ltb-true, lt-ltb}
use Rattle.std.proofs.lemmas.List.{append-nil, map-append}
use Rattle.std.proofs.lemmas.List.Folds.{list_all-append}
use Rattle.std.proofs.lemmas.Option.{same_Some}
use Rattle.ilk_base.proofs.Ranges.{range-more}
use Rattle.ilk_base.specs.Option.{is_some_and}
use Rattle.ilk_cnf.specs.Literal.{Literal}
use Rattle.ilk_cnf.specs.Formula.{Formula}
use Rattle.ilk_cnf.specs.Extends.{ExtensionsAreExactly, PassesAndEqualsGivenValues}
use Rattle.ilk_cnf.specs.Part.{FormulaPart, empty_part, with_part, and_then}
use Rattle.ilk_cnf.proofs.Extending.{no_more_if}
use Rattle.ilk_cnf.proofs.Gates.{with_part-and_then}
use Rattle.ilk_ir.specs.Tree.{Tree, all_of, negation, trees_from_list, tree_holds, tree_valid}
use Rattle.ilk_ir.proofs.Trees.{each_valid-trees_from_list}
use Rattle.ilk_forms.specs.declared.copy.VarValueAndBoundLits.{VarValueAndBoundLits}
use Rattle.ilk_forms.specs.Leaf.{has_lits_within_vars, ranges_of_copy_lits}
use Rattle.ilk_forms.specs.Gates.{bools_are_equal}
use Rattle.ilk_forms.specs.Demand.{some_lit_or_form_part, some_lit_or_form_bits}
use Rattle.ilk_forms.specs.Violated.{form_fails_part, form_fails_bits}
use Rattle.ilk_forms.proofs.Reading.{Reads, reads}
use Rattle.ilk_forms.proofs.DemandLaw.{PartFits, some_lit_or_form-fits, some_lit_or_form-law}
use Rattle.ilk_forms.proofs.ViolatedLaw.{form_fails-fits, form_fails-law}
use Rattle.ilk_step.proofs.RulesLaw.{then-fits, then-law}
use Rattle.ilk_unroll.specs.declared.queries.Wanted.{Wanted}
use Rattle.ilk_unroll.specs.declared.queries.Wanted.TheVariants.{Hazard, Breach, Step}
use Rattle.ilk_unroll.specs.Goal.{PlainGoalForms, CopyDemand, goal_valid, query_step_count, demand_form_holds_in_copy, demand_form_fails_in_copy, form_demands_below_copy, demands_of}
use Rattle.ilk_unroll.specs.Run.{demand_is_met_by_run}
use Rattle.ilk_unroll.specs.Query.{copy_lits_at, one_demand_part, demands_part}
use Rattle.ilk_unroll.specs.Assignment.{one_demand_bits, demands_bits}
use Rattle.ilk_unroll.specs.Tables.{are_copies_within_vars, EachCopyHasTheseRanges}
use Rattle.ilk_unroll.proofs.CopiesLaw.{TablesSay, table-at, tables_say-more, are_copies_within_vars-more}

same : (n : ℕ) → n ≤ n
same n = omega arith

-- Returns whether a demand is on one of the copies, by a form that is valid over the ranges.
abbrev pub demanded_valid : List ℕ → ℕ → CopyDemand → Bool
demanded_valid ranges count d = nat_lt d.copy count && tree_valid ranges d.form

holds-fits : (holds : Bool) (columns : List VarValueAndBoundLits) (t : Tree) (n : ℕ) → has_lits_within_vars n columns ≡ true → tree_valid (ranges_of_copy_lits columns) t ≡ true → PartFits n (cond holds (some_lit_or_form_part columns [] t n)
    (form_fails_part columns t n))
holds-fits true columns t n h k = some_lit_or_form-fits t columns [] n h refl k
holds-fits false columns t n h k = form_fails-fits t columns n h k

table-in : (tables : List (List VarValueAndBoundLits)) (n j : ℕ) → are_copies_within_vars n tables ≡ true → j < length tables → has_lits_within_vars n (copy_lits_at tables j) ≡ true
table-in [] n j h less = absurd (omega arith)
table-in (table ∷ tables) n zero h less = (and_parts (has_lits_within_vars n table) (are_copies_within_vars n tables) h).0
table-in (table ∷ tables) n (suc j) h less = table-in tables n j (and_parts (has_lits_within_vars n table) (are_copies_within_vars n tables) h).1 (omega arith)

table-ranges : (tables : List (List VarValueAndBoundLits)) (ranges : List ℕ) (j : ℕ) → EachCopyHasTheseRanges ranges tables → j < length tables → ranges_of_copy_lits (copy_lits_at tables j) ≡ ranges
table-ranges [] ranges j h less = absurd (omega arith)
table-ranges (table ∷ tables) ranges zero h less = h.0
table-ranges (table ∷ tables) ranges (suc j) h less = table-ranges tables ranges j h.1 (omega arith)

demands_of-fits : (tables : List (List VarValueAndBoundLits)) (ranges : List ℕ) (d : CopyDemand) (n : ℕ) → are_copies_within_vars n tables ≡ true → EachCopyHasTheseRanges ranges tables → demanded_valid ranges (length tables) d ≡ true →
    PartFits n (one_demand_part tables d n)
demands_of-fits tables ranges d n h r valid =
    let parts = and_parts (nat_lt d.copy (length tables)) (tree_valid ranges d.form) valid in
    let less : d.copy < length tables = ltb-true d.copy (length tables) parts.0 in
    holds-fits d.holds (copy_lits_at tables d.copy) d.form n (table-in tables n d.copy h less) (ap (λ (rs : List ℕ). tree_valid rs d.form) (table-ranges tables ranges d.copy r less) ∙ parts.1)

pub demands-fits : (ds : List CopyDemand) (tables : List (List VarValueAndBoundLits)) (ranges : List ℕ) (n : ℕ) →
    are_copies_within_vars n tables ≡ true → EachCopyHasTheseRanges ranges tables →
    list_all (demanded_valid ranges (length tables)) ds ≡ true → PartFits n (demands_part tables ds n)
demands-fits [] tables ranges n h r valid = record { low = same n; inside = refl }
demands-fits (d ∷ ds) tables ranges n h r valid =
    let parts = and_parts (demanded_valid ranges (length tables) d) (list_all (demanded_valid ranges (length tables)) ds) valid in
    let p = one_demand_part tables d n in
    let one = demands_of-fits tables ranges d n h r parts.0 in
    then-fits n p (demands_part tables ds) one (demands-fits ds tables ranges p.vars (are_copies_within_vars-more n p.vars tables one.low h) r parts.1)

holds-law :
    (holds : Bool) (columns : List VarValueAndBoundLits) (ranges values : List ℕ) (t : Tree) (a : List Bool) (n : ℕ) →
    length a ≡ n → Reads a columns ranges values → tree_valid (ranges_of_copy_lits columns) t ≡ true →
    ExtensionsAreExactly a (cond holds (some_lit_or_form_part columns [] t n) (form_fails_part columns t n)).vars
    (cond holds (some_lit_or_form_part columns [] t n) (form_fails_part columns t n)).clauses
    (PassesAndEqualsGivenValues (bools_are_equal holds (tree_holds values t))
    (cond holds (some_lit_or_form_bits columns [] t a) (form_fails_bits columns t a)))
holds-law true columns ranges values t a n size r k = some_lit_or_form-law t columns ranges values [] a n size r refl k
holds-law false columns ranges values t a n size r k = form_fails-law t columns ranges values a n size r k

demands_of-law :
    (tables : List (List VarValueAndBoundLits)) (run : List (List ℕ)) (ranges : List ℕ) (d : CopyDemand) (a : List Bool)
    (n : ℕ) → length a ≡ n →
    TablesSay a n ranges tables run → demanded_valid ranges (length tables) d ≡ true →
    ExtensionsAreExactly a (one_demand_part tables d n).vars (one_demand_part tables d n).clauses
    (PassesAndEqualsGivenValues (demand_is_met_by_run run d) (one_demand_bits tables d a))
demands_of-law tables run ranges d a n size h valid =
    let parts = and_parts (nat_lt d.copy (length tables)) (tree_valid ranges d.form) valid in
    let less : d.copy < length tables = ltb-true d.copy (length tables) parts.0 in
    let at = table-at tables run a n ranges d.copy h less in
    let table = copy_lits_at tables d.copy in
    let values = get_or run d.copy [] in
    let p = one_demand_part tables d n in
    let says = at.0 in
    let law = holds-law d.holds table ranges values d.form a n size (reads a table ranges values n size says.within says.says says.in_range) (ap (λ (rs : List ℕ). tree_valid rs d.form) says.has_ranges ∙ parts.1) in
    let met : bools_are_equal d.holds (tree_holds values d.form) ≡ demand_is_met_by_run run d = ap (λ (o : Option (List ℕ)). is_some_and o (λ ws. bools_are_equal d.holds (tree_holds ws d.form))) (sym at.1) in
    subst (λ (b : Bool). ExtensionsAreExactly a p.vars p.clauses (PassesAndEqualsGivenValues b (one_demand_bits tables d a))) met law

pub demands-law :
    (ds : List CopyDemand) (tables : List (List VarValueAndBoundLits)) (run : List (List ℕ)) (ranges : List ℕ) (a : List Bool)
    (n : ℕ) → length a ≡ n →
    are_copies_within_vars n tables ≡ true → EachCopyHasTheseRanges ranges tables → TablesSay a n ranges tables run →
    list_all (demanded_valid ranges (length tables)) ds ≡ true →
    ExtensionsAreExactly a (demands_part tables ds n).vars (demands_part tables ds n).clauses
    (PassesAndEqualsGivenValues (list_all (demand_is_met_by_run run) ds) (demands_bits tables ds a))
demands-law [] tables run ranges a n size inside r h valid = no_more_if a n [] true size refl
demands-law (d ∷ ds) tables run ranges a n size inside r h valid =
    let parts = and_parts (demanded_valid ranges (length tables) d) (list_all (demanded_valid ranges (length tables)) ds) valid in
    let p = one_demand_part tables d n in
    let e = one_demand_bits tables d a in
    let one = demands_of-fits tables ranges d n inside r parts.0 in
    let more = are_copies_within_vars-more n p.vars tables one.low inside in
    then-law a e (demands_bits tables ds (a ++ e)) (demand_is_met_by_run run d) (list_all (demand_is_met_by_run run) ds) n p
    (demands_part tables ds) size one (demands-fits ds tables ranges p.vars more r parts.1)
    (demands_of-law tables run ranges d a n size h parts.0)
    (λ long. demands-law ds tables run ranges (a ++ e) p.vars long more r
    (tables_say-more tables run a e n p.vars ranges size one.low h) parts.1)

below-valid : (ranges : List ℕ) (count : ℕ) (t : Tree) (k start : ℕ) → start + k ≤ count → tree_valid ranges t ≡ true → list_all (demanded_valid ranges count) (map (λ j. demand_form_holds_in_copy j t) (range_with_len start k)) ≡ true
below-valid ranges count t zero start le h = refl
below-valid ranges count t (suc k) start le h = and_from _ _ (and_from _ _ (lt-ltb start count (omega arith)) h) (below-valid ranges count t k (start + 1) (omega arith) h)

pub record GoalValid (ranges : List ℕ) (g : PlainGoalForms) : Type 0 where
  pub start : tree_valid ranges g.start ≡ true
  pub hazard : tree_valid ranges g.hazard ≡ true
  pub wellformed : tree_valid ranges g.wellformed ≡ true
  pub families : tree_valid ranges (all_of (trees_from_list g.families)) ≡ true
  pub kept : tree_valid ranges (all_of (trees_from_list (g.wellformed ∷ g.families))) ≡ true
  pub safe : tree_valid ranges (all_of (trees_from_list (negation g.hazard ∷ g.families))) ≡ true

pub goal-valid : (ranges : List ℕ) (g : PlainGoalForms) → goal_valid ranges g ≡ true → GoalValid ranges g
goal-valid ranges g h =
    let all = and_parts (tree_valid ranges g.start && tree_valid ranges g.hazard && tree_valid ranges g.wellformed) (list_all (tree_valid ranges) g.families) h in
    let three = and_parts (tree_valid ranges g.start && tree_valid ranges g.hazard) (tree_valid ranges g.wellformed) all.0 in
    let two = and_parts (tree_valid ranges g.start) (tree_valid ranges g.hazard) three.0 in
    let families = each_valid-trees_from_list ranges g.families ∙ all.1 in
    record { start = two.0; hazard = two.1; wellformed = three.1; families = families; kept = and_from _ _ three.1 families; safe = and_from _ _ two.1 families }

one-valid : (ranges : List ℕ) (count j : ℕ) (t : Tree) (holds : Bool) → j < count → tree_valid ranges t ≡ true → demanded_valid ranges count (record { copy = j; form = t; holds = holds }) ≡ true
one-valid ranges count j t holds less h = and_from _ _ (lt-ltb j count less) h

pub demands_of-valid : (ranges : List ℕ) (g : PlainGoalForms) (q : Wanted) → goal_valid ranges g ≡ true → list_all (demanded_valid ranges (suc (query_step_count q))) (demands_of g q) ≡ true
demands_of-valid ranges g (Hazard n) h =
    let k = goal-valid ranges g h in
    and_from _ _ (one-valid ranges (suc n) 0 g.start true (omega arith) k.start)
    (list_all-append (demanded_valid ranges (suc n)) (form_demands_below_copy g.wellformed n)
    (demand_form_holds_in_copy n g.hazard ∷ [])
    ∙ and_from _ _ (below-valid ranges (suc n) g.wellformed n 0 (omega arith) k.wellformed)
    (and_from _ _ (one-valid ranges (suc n) n g.hazard true (omega arith) k.hazard) refl))
demands_of-valid ranges g (Breach n) h =
    let k = goal-valid ranges g h in
    and_from _ _ (one-valid ranges (suc n) 0 g.start true (omega arith) k.start)
    (list_all-append (demanded_valid ranges (suc n)) (form_demands_below_copy g.wellformed (n + 1))
    (demand_form_fails_in_copy n (all_of (trees_from_list g.families)) ∷ [])
    ∙ and_from _ _ (below-valid ranges (suc n) g.wellformed (n + 1) 0 (omega arith) k.wellformed)
    (and_from _ _
    (one-valid ranges (suc n) n (all_of (trees_from_list g.families)) false (omega arith) k.families) refl))
demands_of-valid ranges g (Step n) h =
    let k = goal-valid ranges g h in
    let all = all_of (trees_from_list (g.wellformed ∷ g.families)) in
    let left = all_of (trees_from_list (negation g.hazard ∷ g.families)) in
    list_all-append (demanded_valid ranges (suc n)) (form_demands_below_copy all n) (demand_form_fails_in_copy n left ∷ [])
    ∙ and_from _ _ (below-valid ranges (suc n) all n 0 (omega arith) k.kept)
    (and_from _ _ (one-valid ranges (suc n) n left false (omega arith) k.safe) refl)

demands-append : (xs ys : List CopyDemand) (tables : List (List VarValueAndBoundLits)) (n : ℕ) → demands_part tables (xs ++ ys) n ≡ and_then (demands_part tables xs n) (demands_part tables ys)
demands-append [] ys tables n = refl
demands-append (x ∷ xs) ys tables n =
    let p = one_demand_part tables x n in
    let q = demands_part tables xs p.vars in
    let rest = demands_part tables ys q.vars in
    ap (λ (u : FormulaPart). record { vars = u.vars; clauses = p.clauses ++ u.clauses }) (demands-append xs ys tables p.vars)
    ∙ ap (λ (cs : List (List Literal)). record { vars = rest.vars; clauses = cs }) (sym (append_assoc p.clauses q.clauses rest.clauses))

pub demands-then : (xs ys : List CopyDemand) (tables : List (List VarValueAndBoundLits)) (f g h : Formula) → g ≡ with_part f (demands_part tables xs f.vars) → h ≡ with_part g (demands_part tables ys g.vars) →
    h ≡ with_part f (demands_part tables (xs ++ ys) f.vars)
demands-then xs ys tables f g h one two =
    two
    ∙ ap (λ (k : Formula). with_part k (demands_part tables ys k.vars)) one
    ∙ with_part-and_then f (demands_part tables xs f.vars) (demands_part tables ys)
    ∙ ap (with_part f) (sym (demands-append xs ys tables f.vars))

pub nothing-made : (f : Formula) → f ≡ with_part f (empty_part f.vars)
nothing-made f = ap (λ (cs : List (List Literal)). record { vars = f.vars; clauses = cs }) (sym (append-nil f.clauses))

pub one-made : (tables : List (List VarValueAndBoundLits)) (d : CopyDemand) (f g : Formula) → g ≡ with_part f (one_demand_part tables d f.vars) → g ≡ with_part f (demands_part tables (d ∷ []) f.vars)
one-made tables d f g made =
    let p = one_demand_part tables d f.vars in
    made ∙ ap (λ (cs : List (List Literal)). with_part f (record { vars = p.vars; clauses = cs })) (sym (append-nil p.clauses))

pub table-is : (tables : List (List VarValueAndBoundLits)) (j : ℕ) (table : List VarValueAndBoundLits) → slice_get tables j ≡ Some table → copy_lits_at tables j ≡ table
table-is [] j table h = absurd cc
table-is (t ∷ tables) zero table h = same_Some t table h
table-is (t ∷ tables) (suc j) table h = table-is tables j table h

pub form_demands_below_copy-more : (t : Tree) (n : ℕ) → form_demands_below_copy t (n + 1) ≡ form_demands_below_copy t n ++ demand_form_holds_in_copy n t ∷ []
form_demands_below_copy-more t n = ap (map (λ j. demand_form_holds_in_copy j t)) (range-more n) ∙ map-append (λ j. demand_form_holds_in_copy j t) (range_with_len 0 n) (n ∷ [])
