-- The satisfying assignments of a query's formula are exactly those of the runs that it asks for.
use Rattle.std.proofs.Common.{◌≡◌, ℕ, suc, Bool, true, ◌&&◌, List, [], ◌∷◌, ◌++◌, length, eqb, unwrap_or, Option, Some, refl, sym, ap, ◌∙◌, subst, arith, append_assoc}
use Rattle.std.specs.List.{list_all}
use Rattle.std.proofs.lemmas.Bool.{and_from, and_parts, eqb-true, eq-eqb}
use Rattle.ilk_base.specs.Option.{is_some_and}
use Rattle.ilk_base.proofs.Options.{some-and}
use Rattle.ilk_cnf.specs.Extends.{ExtensionsAreExactly, PassesAndEqualsGivenValues, AreValuesOfConsecutiveParts}
use Rattle.ilk_cnf.specs.Part.{FormulaPart}
use Rattle.ilk_cnf.proofs.Parts.{in_turn, in_words}
use Rattle.ilk_ir.specs.System.{PlainSystem, rule_valid, system_valid, in_ranges}
use Rattle.ilk_forms.specs.Copy.{LiteralsEncode, copy_part}
use Rattle.ilk_forms.proofs.ColumnLaw.{ranges_fit}
use Rattle.ilk_forms.proofs.DemandLaw.{PartFits}
use Rattle.ilk_unroll.specs.declared.queries.Wanted.{Wanted}
use Rattle.ilk_unroll.specs.Goal.{PlainGoalForms, CopyDemand, goal_valid, query_step_count, demands_of}
use Rattle.ilk_unroll.specs.Run.{run_firing_rules, demand_is_met_by_run, is_wanted_run}
use Rattle.ilk_unroll.specs.Query.{PartWithCopyLits, copies_part, steps_part, demands_part, query_part}
use Rattle.ilk_unroll.specs.Assignment.{copies_bits, steps_bits, demands_bits, run_bits, run_assignment, EncodesWantedRun}
use Rattle.ilk_unroll.specs.Tables.{are_copies_within_vars, EachCopyHasTheseRanges, choice_variables_per_step, StepsChooseTheseRules}
use Rattle.ilk_unroll.proofs.CopiesLaw.{copies-in, copies-are_copies_within_vars, copies-ranges, copies-many, all_in_ranges, AreCopies, copies-law, TablesSay, copies-say, tables_say-more, are_copies_within_vars-more}
use Rattle.ilk_unroll.proofs.StepsLaw.{Joined, AreSteps, steps-fits, steps-law, steps-say}
use Rattle.ilk_unroll.proofs.DemandsLaw.{demanded_valid, demands-fits, demands-law, demands_of-valid}
use Rattle.ilk_unroll.proofs.Runs.{run-is, joined-run, joined-many}

pub rules-valid : (s : PlainSystem) → system_valid s ≡ true → list_all (rule_valid s.ranges) s.rules ≡ true
rules-valid s valid = (and_parts _ _ valid).1

pub record Wants (s : PlainSystem) (g : PlainGoalForms) (q : Wanted) (first rules : List ℕ) : Type 0 where
  pub run : List (List ℕ)
  pub is : run_firing_rules s first rules ≡ Some run
  pub in_range : in_ranges first s.ranges ≡ true
  pub many : length rules ≡ query_step_count q
  pub met : list_all (demand_is_met_by_run run) (demands_of g q) ≡ true

pub wants : (s : PlainSystem) (g : PlainGoalForms) (q : Wanted) (first rules : List ℕ) → is_wanted_run s g q first rules ≡ true → Wants s g q first rules
wants s g q first rules h =
    let outer = and_parts (in_ranges first s.ranges && eqb (length rules) (query_step_count q)) (is_some_and (run_firing_rules s first rules) (λ run. list_all (demand_is_met_by_run run) (demands_of g q))) h in
    let inner = and_parts (in_ranges first s.ranges) (eqb (length rules) (query_step_count q)) outer.0 in
    let some = some-and (run_firing_rules s first rules) (λ run. list_all (demand_is_met_by_run run) (demands_of g q)) outer.1 in
    record { run = some.0; is = some.1; in_range = inner.0; many = eqb-true (length rules) (query_step_count q) inner.1; met = some.2 }

pub wanted-from : (s : PlainSystem) (g : PlainGoalForms) (q : Wanted) (first rules : List ℕ) → Wants s g q first rules → is_wanted_run s g q first rules ≡ true
wanted-from s g q first rules w =
    and_from _ _ (and_from _ _ w.in_range (eq-eqb (length rules) (query_step_count q) w.many)) (ap (λ (o : Option (List (List ℕ))). is_some_and o (λ run. list_all (demand_is_met_by_run run) (demands_of g q))) w.is ∙ w.met)

assignment-is : (s : PlainSystem) (g : PlainGoalForms) (q : Wanted) (first rules : List ℕ) (run : List (List ℕ)) → run_firing_rules s first rules ≡ Some run → run_assignment s g q first rules ≡ run_bits s g q run rules
assignment-is s g q first rules run is = ap (λ (o : Option (List (List ℕ))). run_bits s g q (unwrap_or o []) rules) is

three_parts :
    (b x rest e d : List Bool) (u : List Bool) (S D : List Bool → List Bool) → b ≡ x ++ rest → rest ≡ e ++ d → x ≡ u → e ≡ S x →
    d ≡ D (x ++ e) → b ≡ (u ++ S u) ++ D (u ++ S u)
three_parts b x rest e d u S D whole parts one two three =
    let both : x ++ e ≡ u ++ S u = ap (λ (v : List Bool). x ++ v) two ∙ ap (λ (v : List Bool). v ++ S v) one in
    whole
    ∙ ap (λ (v : List Bool). x ++ v) parts
    ∙ sym (append_assoc x e d)
    ∙ ap (λ (v : List Bool). (x ++ e) ++ v) three
    ∙ ap (λ (v : List Bool). v ++ D v) both

pub query-law : (s : PlainSystem) (g : PlainGoalForms) (q : Wanted) → system_valid s ≡ true → ranges_fit s.ranges ≡ true → goal_valid s.ranges g ≡ true
    → ExtensionsAreExactly [] (query_part s g q).vars (query_part s g q).clauses (EncodesWantedRun s g q)
query-law s g q valid fit goal_ok =
    in_words [] d.vars (c.part.clauses ++ (t.clauses ++ d.clauses)) _ (EncodesWantedRun s g q) to from
    (in_turn [] m d.vars c.part.clauses (t.clauses ++ d.clauses) (AreCopies count ranges) inner
    (omega arith) (omega (arith, steps_fit.low, demands_fit.low)) (copies-in count ranges 0 fit)
    first part)
  where
    count : ℕ
    count = suc (query_step_count q)

    ranges : List ℕ
    ranges = s.ranges

    ds : List CopyDemand
    ds = demands_of g q

    c : PartWithCopyLits
    c = copies_part ranges count 0

    m : ℕ
    m = c.part.vars

    t : FormulaPart
    t = steps_part s.rules c.tables m

    d : FormulaPart
    d = demands_part c.tables ds t.vars

    inside : are_copies_within_vars m c.tables ≡ true
    inside = copies-are_copies_within_vars count ranges 0 fit

    have : EachCopyHasTheseRanges ranges c.tables
    have = copies-ranges count ranges 0 fit

    steps_fit : PartFits m t
    steps_fit = steps-fits c.tables ranges s.rules m inside have (rules-valid s valid)

    more : are_copies_within_vars t.vars c.tables ≡ true
    more = are_copies_within_vars-more m t.vars c.tables steps_fit.low inside

    ds_valid : list_all (demanded_valid ranges (length c.tables)) ds ≡ true
    ds_valid = ap (λ (k : ℕ). list_all (demanded_valid ranges k) ds) (copies-many count ranges 0) ∙ demands_of-valid ranges g q goal_ok

    demands_fit : PartFits t.vars d
    demands_fit = demands-fits ds c.tables ranges t.vars more have ds_valid

    first : ExtensionsAreExactly [] m c.part.clauses (AreCopies count ranges)
    first = copies-law count ranges [] 0 refl fit

    inner : (b : List Bool) → AreCopies count ranges b → List Bool → Type 0
    inner b h = AreValuesOfConsecutiveParts (AreSteps s.rules c.tables b h.0) (λ e _. PassesAndEqualsGivenValues (list_all (demand_is_met_by_run h.0) ds) (demands_bits c.tables ds (b ++ e)))

    part : (b : List Bool) → (h : AreCopies count ranges b) → ExtensionsAreExactly b d.vars (t.clauses ++ d.clauses) (inner b h)
    part b h =
        let long : length b ≡ m = first.sized b h in
        let says : TablesSay b m ranges c.tables h.0 = subst (λ (u : List Bool). TablesSay u m ranges c.tables h.0) (sym h.3) (copies-say count ranges h.0 [] 0 refl fit h.1 h.2) in
        let next = steps-law c.tables h.0 b m ranges s.rules long says (rules-valid s valid) in
        in_turn b t.vars d.vars t.clauses d.clauses (AreSteps s.rules c.tables b h.0)
        (λ e _. PassesAndEqualsGivenValues (list_all (demand_is_met_by_run h.0) ds) (demands_bits c.tables ds (b ++ e)))
        (omega (arith, long, steps_fit.low)) demands_fit.low steps_fit.inside next
        (λ e k. demands-law ds c.tables h.0 ranges (b ++ e) t.vars (next.sized e k) more have
        (tables_say-more c.tables h.0 b e m t.vars ranges long steps_fit.low says) ds_valid)

    a_run : (b : List Bool) (run : List (List ℕ)) (rules : List ℕ) → length run ≡ count → all_in_ranges ranges run ≡ true → Joined s.rules run rules → list_all (demand_is_met_by_run run) ds ≡ true → b ≡ run_bits s g q run rules →
        EncodesWantedRun s g q b
    a_run b [] rules many h j met e = absurd (omega arith)
    a_run b (values ∷ run) rules many h j met e =
        let parts = and_parts (in_ranges values ranges) (all_in_ranges ranges run) h in
        let is = joined-run s run values rules j in
        let long = joined-many s.rules run values rules j in
        (values, rules, wanted-from s g q values rules (record { run = values ∷ run; is = is; in_range = parts.0; many = omega (arith, long, many); met = met }), e ∙ sym (assignment-is s g q values rules (values ∷ run) is))

    to : (b : List Bool) → AreValuesOfConsecutiveParts (AreCopies count ranges) inner b → EncodesWantedRun s g q b
    to b h =
        let r = h.4 in
        a_run b h.3.0 r.3.0 h.3.1 h.3.2 r.3.1 r.4.0
        (three_parts b h.0 h.1 r.0 r.1 (copies_bits ranges h.3.0) (steps_bits s.rules c.tables r.3.0) (demands_bits c.tables ds) h.2 r.2 h.3.3 r.3.2 r.4.1)

    from : (b : List Bool) → EncodesWantedRun s g q b → AreValuesOfConsecutiveParts (AreCopies count ranges) inner b
    from b h =
        let w = wants s g q h.0 h.1 h.2 in
        let r = run-is s h.1 h.0 w.run (rules-valid s valid) w.in_range w.is in
        let run = w.run in
        let x = copies_bits ranges run in
        let y = steps_bits s.rules c.tables h.1 x in
        let z = demands_bits c.tables ds (x ++ y) in
        let e : b ≡ x ++ (y ++ z) = h.3 ∙ assignment-is s g q h.0 h.1 run w.is ∙ append_assoc x y z in
        (x, y ++ z, e, (run, r.many ∙ ap suc w.many, r.in_range, refl), (y, z, refl, (h.1, r.joined, refl), (w.met, refl)))

pub run-says : (s : PlainSystem) (g : PlainGoalForms) (q : Wanted) (first rules : List ℕ) → system_valid s ≡ true →
    ranges_fit s.ranges ≡ true → Wants s g q first rules →
    LiteralsEncode (run_assignment s g q first rules) (copy_part s.ranges (copies_part s.ranges (query_step_count q) 0).part.vars).columns s.ranges first ×
    StepsChooseTheseRules (run_assignment s g q first rules)
    (choice_variables_per_step s.rules (copies_part s.ranges (suc (query_step_count q)) 0).tables
    (copies_part s.ranges (suc (query_step_count q)) 0).part.vars) rules
run-says s g q first rules valid fit w =
    let ranges = s.ranges in
    let count = suc (query_step_count q) in
    let c = copies_part ranges count 0 in
    let m = c.part.vars in
    let one = copy_part ranges (copies_part ranges (query_step_count q) 0).part.vars in
    let r = run-is s rules first w.run (rules-valid s valid) w.in_range w.is in
    let run = w.run in
    let many : length run ≡ count = r.many ∙ ap suc w.many in
    let x = copies_bits ranges run in
    let y = steps_bits s.rules c.tables rules x in
    let z = demands_bits c.tables (demands_of g q) (x ++ y) in
    let e : run_assignment s g q first rules ≡ x ++ (y ++ z) = assignment-is s g q first rules run w.is ∙ append_assoc x y z in
    let long : length x ≡ m = (copies-law count ranges [] 0 refl fit).sized x (run, many, r.in_range, refl) in
    let says = copies-say count ranges run [] 0 refl fit many r.in_range in
    let all = tables_say-more c.tables run x (y ++ z) m m ranges long (omega arith) says in
    let begins : TablesSay (x ++ (y ++ z)) m ranges c.tables (first ∷ r.rest) = subst (λ (u : List (List ℕ)). TablesSay (x ++ (y ++ z)) m ranges c.tables u) r.begins all in (
      subst (λ (u : List Bool). LiteralsEncode u one.columns ranges first) (sym e) begins.0.says,
      subst (λ (u : List Bool). StepsChooseTheseRules u (choice_variables_per_step s.rules c.tables m) rules) (sym e)
          (steps-say c.tables run rules x z m ranges s.rules long says (rules-valid s valid) r.joined),
    )
