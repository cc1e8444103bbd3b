-- The calls build exactly the query's formula, and its assignments are read as runs.
use Rattle.std.proofs.Common.{◌≡◌, ℕ, ◌+◌, ◌*◌, ◌<◌, ◌≤◌, suc, Bool, true, List, [], length, slice_get, Some, sym, ap, ◌∙◌, subst, arith, append_assoc}
use Rattle.std.proofs.Math.Nat.{suc-mul}
use Rattle.std.proofs.lemmas.Bool.{and_parts, leb-true}
use Rattle.std.proofs.lemmas.Option.{same_Some}
use Rattle.ilk_cnf.specs.Literal.{Literal}
use Rattle.ilk_cnf.specs.Formula.{Formula, with_var_count_and_clauses, with_var_count}
use Rattle.ilk_cnf.specs.Part.{FormulaPart, with_part, clauses_from_lists, and_then}
use Rattle.ilk_cnf.specs.Truth.{satisfies}
use Rattle.ilk_cnf.proofs.Extending.{extends-clauses_from_lists}
use Rattle.ilk_cnf.proofs.Gates.{with_part-and_then}
use Rattle.ilk_ir.specs.System.{PlainRule, PlainSystem, system_valid, in_ranges}
use Rattle.ilk_forms.specs.declared.copy.VarValueAndBoundLits.{VarValueAndBoundLits}
use Rattle.ilk_forms.specs.Copy.{LiteralsEncode, copy_part, copy_var_count}
use Rattle.ilk_forms.specs.Leaf.{ranges_of_copy_lits}
use Rattle.ilk_forms.proofs.CopyTable.{copy-ranges}
use Rattle.ilk_forms.proofs.ColumnLaw.{ranges_fit}
use Rattle.ilk_step.specs.declared.choice.Choice.{Choice}
use Rattle.ilk_unroll.specs.declared.queries.Wanted.{Wanted}
use Rattle.ilk_unroll.specs.declared.queries.Wanted.TheVariants.{Hazard, Breach, Step}
use Rattle.ilk_unroll.specs.Goal.{PlainGoalForms, goal_valid, step_count_is_allowed, query_step_count, demands_of}
use Rattle.ilk_unroll.specs.Run.{is_wanted_run}
use Rattle.ilk_unroll.specs.Query.{PartWithCopyLits, copies_part, steps_part, demands_part, query_part, query_formula}
use Rattle.ilk_unroll.specs.Assignment.{run_assignment, EncodesWantedRun}
use Rattle.ilk_unroll.specs.Represented.{ValuesInRangeAndEncoded}
use Rattle.ilk_unroll.specs.Tables.{are_copies_within_vars, EachCopyHasTheseRanges, choice_variables_per_step, StepsChooseTheseRules}
use Rattle.ilk_unroll.proofs.CopiesLaw.{copies-end, copies-are_copies_within_vars, copies-ranges, copies-many, are_copies_within_vars-more}
use Rattle.ilk_unroll.proofs.StepsLaw.{steps-fits}
use Rattle.ilk_unroll.proofs.QueryLaw.{query-law, rules-valid, run-says, wants}

abbrev pub no_formula : Formula
no_formula = record { vars = 0; clauses = [] }

pub copies_made : (ranges : List ℕ) (steps count : ℕ) (f e d g : Formula) → ranges_fit ranges ≡ true → f ≡ no_formula →
    e ≡ with_var_count f (f.vars + steps * copy_var_count ranges) → d ≡ with_var_count e (e.vars + copy_var_count ranges) →
    count ≡ suc steps → g ≡ with_var_count_and_clauses d d.vars (clauses_from_lists (copies_part ranges count 0).part.clauses) →
    g ≡ with_part no_formula (copies_part ranges (suc steps) 0).part
copies_made ranges steps count f e d g fit empty later first many made =
    let w = copy_var_count ranges in
    let p = copies_part ranges (suc steps) 0 in
    let more : suc steps * w ≡ steps * w + w = suc-mul steps w in
    let none = ap (λ (k : Formula). k.vars) empty in
    let all : d.vars ≡ p.part.vars = omega (arith, copies-end (suc steps) ranges 0 fit, more, ap (λ (k : Formula). k.vars) first, ap (λ (k : Formula). k.vars) later, none) in
    let clear : d.clauses ≡ [] = ap (λ (k : Formula). k.clauses) first ∙ ap (λ (k : Formula). k.clauses) later ∙ ap (λ (k : Formula). k.clauses) empty in
    let is : d ≡ with_var_count no_formula p.part.vars = ap (λ (n : ℕ). with_var_count d n) all ∙ ap (λ (cs : List (List Literal)). let k : Formula = record { vars = p.part.vars; clauses = cs } in k) clear in
    made
    ∙ ap (λ (k : ℕ). with_var_count_and_clauses d d.vars (clauses_from_lists (copies_part ranges k 0).part.clauses)) many
    ∙ ap (λ (k : Formula). with_var_count_and_clauses k k.vars (clauses_from_lists p.part.clauses)) is

pub unrolled_made :
    (ranges : List ℕ) (rules : List PlainRule) (steps : ℕ) (g h : Formula) (tables : List (List VarValueAndBoundLits)) →
    tables ≡ (copies_part ranges (suc steps) 0).tables →
    g ≡ with_part no_formula (copies_part ranges (suc steps) 0).part →
    h ≡ with_part g (steps_part rules tables g.vars) →
    h
    ≡ with_part no_formula
    (and_then (copies_part ranges (suc steps) 0).part
    (steps_part rules (copies_part ranges (suc steps) 0).tables))
unrolled_made ranges rules steps g h tables seen made last =
    let c = copies_part ranges (suc steps) 0 in
    last
    ∙ ap (λ (ts : List (List VarValueAndBoundLits)). with_part g (steps_part rules ts g.vars)) seen
    ∙ ap (λ (k : Formula). with_part k (steps_part rules c.tables k.vars)) made
    ∙ with_part-and_then no_formula c.part (steps_part rules c.tables)

pub unrolled-inside : (ranges : List ℕ) (steps : ℕ) (g : Formula) (tables : List (List VarValueAndBoundLits)) →
    ranges_fit ranges ≡ true → tables ≡ (copies_part ranges (suc steps) 0).tables →
    g ≡ with_part no_formula (copies_part ranges (suc steps) 0).part →
    (are_copies_within_vars g.vars tables ≡ true) × EachCopyHasTheseRanges ranges tables
unrolled-inside ranges steps g tables fit seen made =
    let p = copies_part ranges (suc steps) 0 in (
      ap (λ (k : Formula). are_copies_within_vars k.vars tables) made ∙ ap (are_copies_within_vars p.part.vars) seen ∙ copies-are_copies_within_vars (suc steps) ranges 0 fit,
      subst (EachCopyHasTheseRanges ranges) (sym seen) (copies-ranges (suc steps) ranges 0 fit),
    )

pub unrolled-within : (s : PlainSystem) (g h : Formula) (tables : List (List VarValueAndBoundLits)) → system_valid s ≡ true →
    are_copies_within_vars g.vars tables ≡ true → EachCopyHasTheseRanges s.ranges tables →
    h ≡ with_part g (steps_part s.rules tables g.vars) → (are_copies_within_vars h.vars tables ≡ true) × (g.vars ≤ h.vars)
unrolled-within s g h tables valid inside have made =
    let fits = steps-fits tables s.ranges s.rules g.vars inside have (rules-valid s valid) in
    let vars : h.vars ≡ (steps_part s.rules tables g.vars).vars = ap (λ (k : Formula). k.vars) made in
    let low = fits.low in
    (ap (λ (k : ℕ). are_copies_within_vars k tables) vars ∙ are_copies_within_vars-more g.vars (steps_part s.rules tables g.vars).vars tables low inside, omega arith)

pub query_made :
    (s : PlainSystem) (g : PlainGoalForms) (q : Wanted) (steps : ℕ) (f h : Formula) (tables : List (List VarValueAndBoundLits)) →
    steps ≡ query_step_count q → tables ≡ (copies_part s.ranges (suc steps) 0).tables →
    f
    ≡ with_part no_formula
    (and_then (copies_part s.ranges (suc steps) 0).part
    (steps_part s.rules (copies_part s.ranges (suc steps) 0).tables)) →
    h ≡ with_part f (demands_part tables (demands_of g q) f.vars) → h ≡ query_formula s g q
query_made s g q steps f h tables count seen made last = last ∙ moved tables seen ∙ with_made made ∙ by_count count
  where
    c : ℕ → PartWithCopyLits
    c k = copies_part s.ranges (suc k) 0

    moved : (ts : List (List VarValueAndBoundLits)) → ts ≡ (c steps).tables → with_part f (demands_part ts (demands_of g q) f.vars) ≡ with_part f (demands_part (c steps).tables (demands_of g q) f.vars)
    moved ts e = ap (λ (us : List (List VarValueAndBoundLits)). with_part f (demands_part us (demands_of g q) f.vars)) e

    p : FormulaPart
    p = and_then (c steps).part (steps_part s.rules (c steps).tables)

    with_made : f ≡ with_part no_formula p →
        with_part f (demands_part (c steps).tables (demands_of g q) f.vars)
        ≡ with_part no_formula
        (and_then (c steps).part
        (λ m. and_then (steps_part s.rules (c steps).tables m)
        (demands_part (c steps).tables (demands_of g q))))
    with_made e =
        ap (λ (k : Formula). with_part k (demands_part (c steps).tables (demands_of g q) k.vars)) e
        ∙ with_part-and_then no_formula p (demands_part (c steps).tables (demands_of g q))
        ∙ ap
        (λ (cs : List (List Literal)). with_part no_formula
        (record { vars = (demands_part (c steps).tables (demands_of g q) p.vars).vars; clauses = cs }))
        (append_assoc (c steps).part.clauses
        (steps_part s.rules (c steps).tables (c steps).part.vars).clauses
        (demands_part (c steps).tables (demands_of g q) p.vars).clauses)

    by_count : steps ≡ query_step_count q → with_part no_formula (and_then (c steps).part (λ m. and_then (steps_part s.rules (c steps).tables m) (demands_part (c steps).tables (demands_of g q)))) ≡ query_formula s g q
    by_count e = ap (λ (k : ℕ). with_part no_formula (and_then (c k).part (λ m. and_then (steps_part s.rules (c k).tables m) (demands_part (c k).tables (demands_of g q))))) e

pub few-wanted : (q : Wanted) → step_count_is_allowed q ≡ true → query_step_count q ≤ 16
few-wanted (Hazard n) h = leb-true n 16 h
few-wanted (Breach n) h = leb-true n 16 h
few-wanted (Step n) h = leb-true n 16 (and_parts _ _ h).1

pub tables-many : (s : PlainSystem) (steps : ℕ) (q : Wanted) (tables : List (List VarValueAndBoundLits)) → steps ≡ query_step_count q → tables ≡ (copies_part s.ranges (suc steps) 0).tables → query_step_count q < length tables
tables-many s steps q tables count seen =
    let long : length tables ≡ suc steps = ap length seen ∙ copies-many (suc steps) s.ranges 0 in
    omega arith

-- The run that an assignment represents, as the literals of its first copy and its choices say it.
pub record ReadsAs (s : PlainSystem) (g : PlainGoalForms) (q : Wanted) (a : List Bool) (table : List VarValueAndBoundLits) (choices : List Choice) : Type 0 where
  pub first : List ℕ
  pub rules : List ℕ
  pub wanted : is_wanted_run s g q first rules ≡ true
  pub is : a ≡ run_assignment s g q first rules
  pub ranges : ranges_of_copy_lits table ≡ s.ranges
  pub told : ValuesInRangeAndEncoded a table (ranges_of_copy_lits table) first
  pub chosen : StepsChooseTheseRules a choices rules

pub reads_as :
    (s : PlainSystem) (g : PlainGoalForms) (q : Wanted) (a : List Bool) (steps : ℕ) (table : List VarValueAndBoundLits)
    (tables : List (List VarValueAndBoundLits)) (choices : List Choice) →
    system_valid s ≡ true → ranges_fit s.ranges ≡ true → goal_valid s.ranges g ≡ true →
    length a ≡ (query_formula s g q).vars → satisfies a (query_formula s g q).clauses ≡ true →
    steps ≡ query_step_count q → tables ≡ (copies_part s.ranges (suc steps) 0).tables → slice_get tables 0 ≡ Some table →
    choices
    ≡ choice_variables_per_step s.rules (copies_part s.ranges (suc steps) 0).tables
    (copies_part s.ranges (suc steps) 0).part.vars →
    ReadsAs s g q a table choices
reads_as s g q a steps table tables choices valid fit goal_ok size sat count made at seen =
    let p = query_part s g q in
    let run = (extends-clauses_from_lists [] p.vars p.clauses (EncodesWantedRun s g q) (query-law s g q valid fit goal_ok)).only a size sat in
    let w = wants s g q run.0 run.1 run.2 in
    let says = run-says s g q run.0 run.1 valid fit w in
    let one : ℕ → List VarValueAndBoundLits = λ k. (copy_part s.ranges (copies_part s.ranges k 0).part.vars).columns in
    let variables : ℕ → List Choice = λ k. choice_variables_per_step s.rules (copies_part s.ranges (suc k) 0).tables (copies_part s.ranges (suc k) 0).part.vars in
    let here : one steps ≡ table = same_Some (one steps) table (ap (λ (ts : List (List VarValueAndBoundLits)). slice_get ts 0) (sym made) ∙ at) in
    let first : table ≡ one (query_step_count q) = sym here ∙ ap one count in
    let have : ranges_of_copy_lits table ≡ s.ranges = ap ranges_of_copy_lits first ∙ copy-ranges s.ranges (copies_part s.ranges (query_step_count q) 0).part.vars fit in
    let read : LiteralsEncode a (one (query_step_count q)) s.ranges run.0 = subst (λ (u : List Bool). LiteralsEncode u (one (query_step_count q)) s.ranges run.0) (sym run.3) says.0 in
    let chosen : StepsChooseTheseRules a (variables (query_step_count q)) run.1 = subst (λ (u : List Bool). StepsChooseTheseRules u (variables (query_step_count q)) run.1) (sym run.3) says.1 in
    record {
      first = run.0;
      rules = run.1;
      wanted = run.2;
      is = run.3;
      ranges = have;
      told = (
        ap (in_ranges run.0) have ∙ w.in_range,
        subst (λ (t : List VarValueAndBoundLits). LiteralsEncode a t (ranges_of_copy_lits table) run.0) (sym first) (subst (λ (rs : List ℕ). LiteralsEncode a (one (query_step_count q)) rs run.0) (sym have) read),
      );
      chosen = subst (λ (cs : List Choice). StepsChooseTheseRules a cs run.1) (sym (seen ∙ ap variables count)) chosen;
    }
