-- Steps between copies have exactly one assignment for each list of rules that lead from value list
-- to value list.
use Rattle.std.proofs.Common.{◌≡◌, ℕ, ◌+◌, ◌≤◌, Bool, true, List, [], ◌∷◌, ◌++◌, ◌-◌, length, drop, Some, refl, sym, ap, ◌∙◌, subst, arith, append_assoc, length-drop}
use Rattle.std.specs.List.{list_all}
use Rattle.std.proofs.lemmas.Bool.{and_from, and_parts, le-leb}
use Rattle.ilk_cnf.specs.Formula.{Formula}
use Rattle.ilk_cnf.specs.Extends.{ExtensionsAreExactly, EqualsGivenValues, AreValuesOfConsecutiveParts}
use Rattle.ilk_cnf.specs.Part.{FormulaPart, empty_part, with_part}
use Rattle.ilk_cnf.proofs.Parts.{in_turn, in_words}
use Rattle.ilk_cnf.proofs.Extending.{no_more_if, only_from_if}
use Rattle.ilk_cnf.proofs.Gates.{with_part-and_then}
use Rattle.ilk_ir.specs.System.{PlainRule, rule_valid, in_ranges}
use Rattle.ilk_forms.specs.declared.copy.VarValueAndBoundLits.{VarValueAndBoundLits}
use Rattle.ilk_forms.specs.Copy.{LiteralsEncode}
use Rattle.ilk_forms.specs.Leaf.{has_lits_within_vars, ranges_of_copy_lits}
use Rattle.ilk_forms.proofs.DemandLaw.{PartFits}
use Rattle.ilk_step.specs.declared.choice.Choice.{Choice}
use Rattle.ilk_step.specs.Choice.{Chooses}
use Rattle.ilk_step.specs.Step.{step_part, values_after_rule_number, step_bits, AreStepBits}
use Rattle.ilk_step.proofs.RulesLaw.{then-fits}
use Rattle.ilk_step.proofs.StepLaw.{step-fits, step-law, step-says, step-below}
use Rattle.ilk_unroll.specs.Query.{steps_part}
use Rattle.ilk_unroll.specs.Assignment.{steps_bits}
use Rattle.ilk_unroll.specs.Tables.{are_copies_within_vars, EachCopyHasTheseRanges, choice_variables_per_step, choices_begin_at_or_before, StepsChooseTheseRules}
use Rattle.ilk_unroll.proofs.CopiesLaw.{TableSays, TablesSay, are_copies_within_vars-more, tables_say-more}

same : (n : ℕ) → n ≤ n
same n = omega arith

rules_valid-at : (ranges other : List ℕ) (rules : List PlainRule) → other ≡ ranges → list_all (rule_valid ranges) rules ≡ true → list_all (rule_valid other) rules ≡ true
rules_valid-at ranges other rules e h = ap (λ (rs : List ℕ). list_all (rule_valid rs) rules) e ∙ h

pub one-fits : (now next : List VarValueAndBoundLits) (ranges : List ℕ) (rules : List PlainRule) (n : ℕ) →
    has_lits_within_vars n now ≡ true → has_lits_within_vars n next ≡ true → ranges_of_copy_lits now ≡ ranges → ranges_of_copy_lits next ≡ ranges →
    list_all (rule_valid ranges) rules ≡ true → PartFits n (step_part rules now next n)
one-fits now next ranges rules n hn hx rn rx valid = step-fits rules now next n hn hx (rx ∙ sym rn) (rules_valid-at ranges (ranges_of_copy_lits now) rules rn valid)

pub steps-fits : (tables : List (List VarValueAndBoundLits)) (ranges : List ℕ) (rules : List PlainRule) (n : ℕ) → are_copies_within_vars n tables ≡ true → EachCopyHasTheseRanges ranges tables → list_all (rule_valid ranges) rules ≡ true →
    PartFits n (steps_part rules tables n)
steps-fits [] ranges rules n h r valid = record { low = same n; inside = refl }
steps-fits (now ∷ []) ranges rules n h r valid = record { low = same n; inside = refl }
steps-fits (now ∷ next ∷ tables) ranges rules n h r valid =
    let parts = and_parts (has_lits_within_vars n now) (are_copies_within_vars n (next ∷ tables)) h in
    let more = and_parts (has_lits_within_vars n next) (are_copies_within_vars n tables) parts.1 in
    let p = step_part rules now next n in
    let one = one-fits now next ranges rules n parts.0 more.0 r.0 r.1.0 valid in
    then-fits n p (steps_part rules (next ∷ tables)) one (steps-fits (next ∷ tables) ranges rules p.vars (are_copies_within_vars-more n p.vars (next ∷ tables) one.low parts.1) r.1 valid)

-- Holds if each value list but the first comes from the one before by its rule.
abbrev pub Joined : List PlainRule → List (List ℕ) → List ℕ → Type 0
Joined rules [] chosen = chosen ≡ []
Joined rules (values ∷ []) chosen = chosen ≡ []
Joined rules (values ∷ next ∷ run) [] = ⊥
Joined rules (values ∷ next ∷ run) (rule ∷ chosen) = (values_after_rule_number rules values rule ≡ Some next) × Joined rules (next ∷ run) chosen

abbrev pub AreSteps : List PlainRule → List (List VarValueAndBoundLits) → List Bool → List (List ℕ) → List Bool → Type 0
AreSteps rules tables a run b = (chosen : List ℕ) × Joined rules run chosen × (b ≡ steps_bits rules tables chosen a)

tables-in : (tables : List (List VarValueAndBoundLits)) (run : List (List ℕ)) (a : List Bool) (n : ℕ) (ranges : List ℕ) → TablesSay a n ranges tables run → are_copies_within_vars n tables ≡ true
tables-in [] run a n ranges h = refl
tables-in (table ∷ tables) [] a n ranges h = absurd h
tables-in (table ∷ tables) (values ∷ run) a n ranges h = and_from _ _ h.0.within (tables-in tables run a n ranges h.1)

tables-ranges : (tables : List (List VarValueAndBoundLits)) (run : List (List ℕ)) (a : List Bool) (n : ℕ) (ranges : List ℕ) → TablesSay a n ranges tables run → EachCopyHasTheseRanges ranges tables
tables-ranges [] run a n ranges h = tt
tables-ranges (table ∷ tables) [] a n ranges h = absurd h
tables-ranges (table ∷ tables) (values ∷ run) a n ranges h = (h.0.has_ranges, tables-ranges tables run a n ranges h.1)

nothing-law : (a : List Bool) (n : ℕ) (rules : List PlainRule) (tables : List (List VarValueAndBoundLits)) (run : List (List ℕ)) →
    length a ≡ n → Joined rules run [] → steps_bits rules tables [] a ≡ [] →
    ((chosen : List ℕ) → Joined rules run chosen → chosen ≡ []) → ExtensionsAreExactly a n [] (AreSteps rules tables a run)
nothing-law a n rules tables run size none empty only =
    in_words a n [] (EqualsGivenValues []) (AreSteps rules tables a run) (λ b h. ([], none, h ∙ sym empty))
    (λ b h. h.2 ∙ ap (λ (chosen : List ℕ). steps_bits rules tables chosen a) (only h.0 h.1) ∙ empty)
    (only_from_if a n [] [] (no_more_if a n [] true size refl))

one-law :
    (now next : List VarValueAndBoundLits) (ws xs : List ℕ) (a : List Bool) (n : ℕ) (ranges : List ℕ)
    (rules : List PlainRule) → length a ≡ n →
    TableSays a n ranges now ws → TableSays a n ranges next xs → list_all (rule_valid ranges) rules ≡ true →
    ExtensionsAreExactly a (step_part rules now next n).vars (step_part rules now next n).clauses
    (AreStepBits now rules a ws xs)
one-law now next ws xs a n ranges rules size hn hx valid =
    let back : ranges ≡ ranges_of_copy_lits now = sym hn.has_ranges in
    step-law rules now next ws xs a n (record {
      size = size;
      now_in = hn.within;
      next_in = hx.within;
      same = hx.has_ranges ∙ back;
      now_say = subst (λ (rs : List ℕ). LiteralsEncode a now rs ws) back hn.says;
      next_say = subst (λ (rs : List ℕ). LiteralsEncode a next rs xs) back hx.says;
    }) (rules_valid-at ranges (ranges_of_copy_lits now) rules hn.has_ranges valid) (ap (in_ranges ws) hn.has_ranges ∙ hn.in_range) (ap (in_ranges xs) hn.has_ranges ∙ hx.in_range)

pub steps-law :
    (tables : List (List VarValueAndBoundLits)) (run : List (List ℕ)) (a : List Bool) (n : ℕ) (ranges : List ℕ)
    (rules : List PlainRule) → length a ≡ n →
    TablesSay a n ranges tables run → list_all (rule_valid ranges) rules ≡ true →
    ExtensionsAreExactly a (steps_part rules tables n).vars (steps_part rules tables n).clauses (AreSteps rules tables a run)
steps-law [] [] a n ranges rules size h valid = nothing-law a n rules [] [] size refl refl (λ chosen k. k)
steps-law [] (values ∷ run) a n ranges rules size h valid = absurd h
steps-law (now ∷ tables) [] a n ranges rules size h valid = absurd h
steps-law (now ∷ []) (values ∷ []) a n ranges rules size h valid = nothing-law a n rules (now ∷ []) (values ∷ []) size refl refl (λ chosen k. k)
steps-law (now ∷ []) (values ∷ next ∷ run) a n ranges rules size h valid = absurd h.1
steps-law (now ∷ next ∷ tables) (values ∷ []) a n ranges rules size h valid = absurd h.1
steps-law (now ∷ next ∷ tables) (ws ∷ xs ∷ run) a n ranges rules size h valid =
    in_words a rest.vars (p.clauses ++ rest.clauses) _ (AreSteps rules (now ∷ next ∷ tables) a (ws ∷ xs ∷ run)) to
    (λ b k. split b k.0 k.1 k.2)
    (in_turn a p.vars rest.vars p.clauses rest.clauses (AreStepBits now rules a ws xs) After
    (omega (arith, size, fits.low)) rest_fits.low fits.inside first
    (λ b k. steps-law (next ∷ tables) (xs ∷ run) (a ++ b) p.vars ranges rules (first.sized b k)
    (tables_say-more (next ∷ tables) (xs ∷ run) a b n p.vars ranges size fits.low h.1) valid))
  where
    p : FormulaPart
    p = step_part rules now next n

    rest : FormulaPart
    rest = steps_part rules (next ∷ tables) p.vars

    fits : PartFits n p
    fits = one-fits now next ranges rules n h.0.within h.1.0.within h.0.has_ranges h.1.0.has_ranges valid

    rest_fits : PartFits p.vars rest
    rest_fits = steps-fits (next ∷ tables) ranges rules p.vars (are_copies_within_vars-more n p.vars (next ∷ tables) fits.low (tables-in (next ∷ tables) (xs ∷ run) a n ranges h.1)) (tables-ranges (next ∷ tables) (xs ∷ run) a n ranges h.1) valid

    first : ExtensionsAreExactly a p.vars p.clauses (AreStepBits now rules a ws xs)
    first = one-law now next ws xs a n ranges rules size h.0 h.1.0 valid

    After : (b : List Bool) → AreStepBits now rules a ws xs b → List Bool → Type 0
    After b k = AreSteps rules (next ∷ tables) (a ++ b) (xs ∷ run)

    bits : ℕ → List Bool
    bits rule = step_bits now rules a rule

    later : List ℕ → List Bool → List Bool
    later chosen b = steps_bits rules (next ∷ tables) chosen (a ++ b)

    to : (b : List Bool) → AreValuesOfConsecutiveParts (AreStepBits now rules a ws xs) After b → AreSteps rules (now ∷ next ∷ tables) a (ws ∷ xs ∷ run) b
    to b k =
        let is = k.3.2 in (
          k.3.0 ∷ k.4.0,
          (k.3.1, k.4.1),
          k.2 ∙ ap (λ (u : List Bool). u ++ k.1) is ∙ ap (λ (u : List Bool). bits k.3.0 ++ u) (k.4.2 ∙ ap (later k.4.0) is),
        )

    split : (b : List Bool) (chosen : List ℕ) → Joined rules (ws ∷ xs ∷ run) chosen → b ≡ steps_bits rules (now ∷ next ∷ tables) chosen a → AreValuesOfConsecutiveParts (AreStepBits now rules a ws xs) After b
    split b [] j e = absurd j
    split b (rule ∷ chosen) j e = (bits rule, later chosen (bits rule), e, (rule, j.0, refl), (chosen, j.1, refl))

pub steps-say :
    (tables : List (List VarValueAndBoundLits)) (run : List (List ℕ)) (chosen : List ℕ) (a c : List Bool) (n : ℕ)
    (ranges : List ℕ) (rules : List PlainRule) → length a ≡ n →
    TablesSay a n ranges tables run → list_all (rule_valid ranges) rules ≡ true → Joined rules run chosen →
    StepsChooseTheseRules (a ++ (steps_bits rules tables chosen a ++ c)) (choice_variables_per_step rules tables n) chosen
steps-say [] [] chosen a c n ranges rules size h valid j = j
steps-say [] (values ∷ run) chosen a c n ranges rules size h valid j = absurd h
steps-say (now ∷ tables) [] chosen a c n ranges rules size h valid j = absurd h
steps-say (now ∷ []) (values ∷ []) chosen a c n ranges rules size h valid j = j
steps-say (now ∷ []) (values ∷ next ∷ run) chosen a c n ranges rules size h valid j = absurd h.1
steps-say (now ∷ next ∷ tables) (values ∷ []) chosen a c n ranges rules size h valid j = absurd h.1
steps-say (now ∷ next ∷ tables) (ws ∷ xs ∷ run) [] a c n ranges rules size h valid j = absurd j
steps-say (now ∷ next ∷ tables) (ws ∷ xs ∷ run) (rule ∷ chosen) a c n ranges rules size h valid j =
    let p = step_part rules now next n in
    let e = step_bits now rules a rule in
    let d = steps_bits rules (next ∷ tables) chosen (a ++ e) in
    let fits = one-fits now next ranges rules n h.0.within h.1.0.within h.0.has_ranges h.1.0.has_ranges valid in
    let law = one-law now next ws xs a n ranges rules size h.0 h.1.0 valid in
    let long : length (a ++ e) ≡ p.vars = law.sized e (rule, j.0, refl) in
    let whole : a ++ (e ++ (d ++ c)) ≡ a ++ ((e ++ d) ++ c) = ap (λ (u : List Bool). a ++ u) (sym (append_assoc e d c)) in
    let first : Chooses (a ++ (e ++ (d ++ c))) (n + 1) (length rules) rule = (step-below rules ws xs rule j.0, step-says now rules a (d ++ c) n rule size) in
    let rest = steps-say (next ∷ tables) (xs ∷ run) chosen (a ++ e) c p.vars ranges rules long (tables_say-more (next ∷ tables) (xs ∷ run) a e n p.vars ranges size fits.low h.1) valid j.1 in (
      subst (λ (u : List Bool). Chooses u (n + 1) (length rules) rule) whole first,
      subst (λ (u : List Bool). StepsChooseTheseRules u (choice_variables_per_step rules (next ∷ tables) p.vars) chosen) (append_assoc a e (d ++ c) ∙ whole) rest,
    )

pub choices-numbered : (tables : List (List VarValueAndBoundLits)) (ranges : List ℕ) (rules : List PlainRule) (n m : ℕ) →
    are_copies_within_vars n tables ≡ true → EachCopyHasTheseRanges ranges tables → list_all (rule_valid ranges) rules ≡ true →
    (steps_part rules tables n).vars ≤ m → choices_begin_at_or_before m (choice_variables_per_step rules tables n) ≡ true
choices-numbered [] ranges rules n m h r valid high = refl
choices-numbered (now ∷ []) ranges rules n m h r valid high = refl
choices-numbered (now ∷ next ∷ tables) ranges rules n m h r valid high =
    let parts = and_parts (has_lits_within_vars n now) (are_copies_within_vars n (next ∷ tables)) h in
    let more = and_parts (has_lits_within_vars n next) (are_copies_within_vars n tables) parts.1 in
    let p = step_part rules now next n in
    let one = one-fits now next ranges rules n parts.0 more.0 r.0 r.1.0 valid in
    let low = one.low in
    let next_in = are_copies_within_vars-more n p.vars (next ∷ tables) low parts.1 in
    let rest = (steps-fits (next ∷ tables) ranges rules p.vars next_in r.1 valid).low in
    and_from _ _ (le-leb (n + 1) (m + 1) (omega arith)) (choices-numbered (next ∷ tables) ranges rules p.vars m next_in r.1 valid high)

pub steps-next :
    (f g : Formula) (rules : List PlainRule) (choices whole : List Choice) (choice : Choice) (end : Formula)
    (all : List (List VarValueAndBoundLits)) (now next : List VarValueAndBoundLits) (tables : List (List VarValueAndBoundLits)) (k : ℕ) →
    all ≡ now ∷ next ∷ tables → k ≡ length rules → choice ≡ record { first = f.vars + 1; rules = k } →
    g ≡ with_part f (step_part rules now next f.vars) → choices ++ choice_variables_per_step rules all f.vars ≡ whole →
    with_part f (steps_part rules all f.vars) ≡ end →
    ((choices ++ choice ∷ []) ++ choice_variables_per_step rules (next ∷ tables) g.vars ≡ whole) ×
    (with_part g (steps_part rules (next ∷ tables) g.vars) ≡ end)
steps-next f g rules choices whole choice end all now next tables k split count is made seen h =
    let p = step_part rules now next f.vars in (
      append_assoc choices (choice ∷ []) (choice_variables_per_step rules (next ∷ tables) g.vars)
          ∙ ap (λ (c : Choice). choices ++ c ∷ choice_variables_per_step rules (next ∷ tables) g.vars) (is ∙ ap (λ (i : ℕ). record { first = f.vars + 1; rules = i }) count)
          ∙ ap (λ (e : Formula). choices ++ (record { first = f.vars + 1; rules = length rules }) ∷ choice_variables_per_step rules (next ∷ tables) e.vars) made
          ∙ ap (λ (ts : List (List VarValueAndBoundLits)). choices ++ choice_variables_per_step rules ts f.vars) (sym split)
          ∙ seen,
      ap (λ (e : Formula). with_part e (steps_part rules (next ∷ tables) e.vars)) made
          ∙ with_part-and_then f p (steps_part rules (next ∷ tables))
          ∙ ap (λ (ts : List (List VarValueAndBoundLits)). with_part f (steps_part rules ts f.vars)) (sym split)
          ∙ h,
    )

pub few-steps : (rules : List PlainRule) (tables : List (List VarValueAndBoundLits)) (n : ℕ) → length tables ≤ 1 → (steps_part rules tables n ≡ empty_part n) × (choice_variables_per_step rules tables n ≡ [])
few-steps rules [] n h = (refl, refl)
few-steps rules (now ∷ []) n h = (refl, refl)
few-steps rules (now ∷ next ∷ tables) n h = absurd (omega arith)

pub few-left : (tables : List (List VarValueAndBoundLits)) (i : ℕ) → length tables ≤ i → length (drop (i - 1) tables) ≤ 1
few-left tables i h = omega (arith, length-drop (i - 1) tables)
