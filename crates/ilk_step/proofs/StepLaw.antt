-- A step extends an assignment in exactly one way for each rule that leads from one copy's values
-- to the next's.
use Rattle.std.proofs.Common.{◌≡◌, ℕ, ◌+◌, ◌<◌, ◌≤◌, Bool, true, ◌&&◌, List, [], ◌∷◌, ◌++◌, length, map, slice_get, Option, Some, None, refl, sym, ap, ◌∙◌, subst, arith, append_assoc}
use Rattle.std.specs.List.{list_all}
use Rattle.std.specs.Prelude.{option_and_then}
use Rattle.std.proofs.lemmas.List.{append-nil, length-map}
use Rattle.std.proofs.lemmas.Bool.{and_parts, and_from}
use Rattle.std.proofs.lemmas.Option.{slice_get_within, same_Some}
use Rattle.ilk_base.proofs.Lists.{item_at}
use Rattle.ilk_base.proofs.Tested.{list_all-slice_get}
use Rattle.ilk_cnf.specs.Formula.{is_clause_over}
use Rattle.ilk_cnf.specs.Truth.{is_true, is_clause_true, satisfies}
use Rattle.ilk_cnf.specs.Extends.{ExtensionsAreExactly, PassesAndEqualsGivenValues, AreValuesOfConsecutiveParts}
use Rattle.ilk_cnf.specs.Part.{FormulaPart, and_then}
use Rattle.ilk_cnf.proofs.Parts.{in_turn, in_words}
use Rattle.ilk_cnf.proofs.Extending.{no_more_if}
use Rattle.ilk_ints.specs.Named.{one_hot_bits}
use Rattle.ilk_ints.proofs.OneOfLaw.{map-left}
use Rattle.ilk_ir.specs.System.{PlainRule, rule_valid, after_rule, in_ranges}
use Rattle.ilk_forms.specs.declared.copy.VarValueAndBoundLits.{VarValueAndBoundLits}
use Rattle.ilk_forms.specs.Copy.{LiteralsEncode}
use Rattle.ilk_forms.specs.Leaf.{has_lits_within_vars, ranges_of_copy_lits}
use Rattle.ilk_forms.proofs.Reading.{Reads, reads, has_lits_within_vars-more}
use Rattle.ilk_forms.proofs.DemandLaw.{PartFits}
use Rattle.ilk_step.specs.Choice.{chosen_lits, choice_part, choice_bits, AreChoiceBits}
use Rattle.ilk_step.specs.Rules.{rules_part, rules_bits}
use Rattle.ilk_step.specs.Frame.{sets_variable, setter_lits, frame_axioms, frame_axioms_part}
use Rattle.ilk_step.specs.Step.{step_part, values_after_rule_number, step_bits, AreStepBits}
use Rattle.ilk_step.proofs.ChoiceLaw.{chosen_lits-in, choice-low, choice-in, choice-law, choice-says}
use Rattle.ilk_step.proofs.Firing.{kept, kept-congr, rule_met, met-after_rule, after_rule-met}
use Rattle.ilk_step.proofs.FrameLaw.{frame_axioms-say, setter_lits-say}
use Rattle.ilk_step.proofs.FrameSteps.{frame_axioms-in}
use Rattle.ilk_step.proofs.RulesLaw.{then-fits, then-law, rules-fits, rules-law, one_met}

pub says-left : (columns : List VarValueAndBoundLits) (ranges ws : List ℕ) (a e : List Bool) (n : ℕ) → length a ≡ n → has_lits_within_vars n columns ≡ true → LiteralsEncode a columns ranges ws → LiteralsEncode (a ++ e) columns ranges ws
says-left [] ranges ws a e n size inside h = tt
says-left (column ∷ columns) [] ws a e n size inside h = absurd h
says-left (column ∷ columns) (range ∷ ranges) [] a e n size inside h = absurd h
says-left (column ∷ columns) (range ∷ ranges) (w ∷ ws) a e n size inside h =
    let parts = and_parts (is_clause_over n column.values && is_clause_over n column.bounds) (has_lits_within_vars n columns) inside in
    let two = and_parts (is_clause_over n column.values) (is_clause_over n column.bounds) parts.0 in (
      map-left a e column.values (rw size two.0) ∙ h.0,
      map-left a e column.bounds (rw size two.1) ∙ h.1,
      says-left columns ranges ws a e n size parts.1 h.2,
    )

pub record Copies (a : List Bool) (n : ℕ) (now next : List VarValueAndBoundLits) (ws xs : List ℕ) : Type 0 where
  pub size : length a ≡ n
  pub now_in : has_lits_within_vars n now ≡ true
  pub next_in : has_lits_within_vars n next ≡ true
  pub same : ranges_of_copy_lits next ≡ ranges_of_copy_lits now
  pub now_say : LiteralsEncode a now (ranges_of_copy_lits now) ws
  pub next_say : LiteralsEncode a next (ranges_of_copy_lits now) xs

copies-left : (a e : List Bool) (n m : ℕ) (now next : List VarValueAndBoundLits) (ws xs : List ℕ) → n ≤ m → length (a ++ e) ≡ m → Copies a n now next ws xs → Copies (a ++ e) m now next ws xs
copies-left a e n m now next ws xs le size c = record {
  size = size;
  now_in = has_lits_within_vars-more n m now le c.now_in;
  next_in = has_lits_within_vars-more n m next le c.next_in;
  same = c.same;
  now_say = says-left now (ranges_of_copy_lits now) ws a e n c.size c.now_in c.now_say;
  next_say = says-left next (ranges_of_copy_lits now) xs a e n c.size c.next_in c.next_say;
}

frame_axioms-fits : (rs : List PlainRule) (now next : List VarValueAndBoundLits) (k n : ℕ) → 0 < k → k + length rs ≤ n + 1 → has_lits_within_vars n now ≡ true → has_lits_within_vars n next ≡ true → PartFits n (frame_axioms_part rs k now next n)
frame_axioms-fits rs now next k n low high h x = record { low = omega arith; inside = frame_axioms-in now next rs k 0 n low high h x }

abbrev pub after_choice : List PlainRule → List VarValueAndBoundLits → List VarValueAndBoundLits → ℕ → ℕ → FormulaPart
after_choice rs now next k m = and_then (rules_part now next k rs m) (frame_axioms_part rs k now next)

abbrev pub leads : List ℕ → List ℕ → PlainRule → Bool
leads ws xs rule = rule_met ws xs rule && kept (λ v. sets_variable v rule.sets) 0 ws xs

after-fits : (rs : List PlainRule) (now next : List VarValueAndBoundLits) (k m : ℕ) → has_lits_within_vars m now ≡ true →
    has_lits_within_vars m next ≡ true → ranges_of_copy_lits next ≡ ranges_of_copy_lits now → 0 < k → k + length rs ≤ m + 1 →
    list_all (rule_valid (ranges_of_copy_lits now)) rs ≡ true → PartFits m (after_choice rs now next k m)
after-fits rs now next k m hn hx same low high valid =
    let p = rules_part now next k rs m in
    let one = rules-fits rs now next k m hn hx same low high valid in
    let grows = one.low in
    let fits : k + length rs ≤ p.vars + 1 = omega arith in
    then-fits m p (frame_axioms_part rs k now next) one (frame_axioms-fits rs now next k p.vars low fits (has_lits_within_vars-more m p.vars now grows hn) (has_lits_within_vars-more m p.vars next grows hx))

after-law :
    (rs : List PlainRule) (now next : List VarValueAndBoundLits) (ws xs : List ℕ) (a : List Bool) (k m r : ℕ)
    (rule : PlainRule) →
    Copies a m now next ws xs → 0 < k → k + length rs ≤ m + 1 →
    list_all (rule_valid (ranges_of_copy_lits now)) rs ≡ true → in_ranges ws (ranges_of_copy_lits now) ≡ true →
    in_ranges xs (ranges_of_copy_lits now) ≡ true →
    map (is_true a) (chosen_lits k (length rs)) ≡ one_hot_bits r 0 (length rs) → slice_get rs r ≡ Some rule →
    ExtensionsAreExactly a (after_choice rs now next k m).vars (after_choice rs now next k m).clauses
    (PassesAndEqualsGivenValues (leads ws xs rule) (rules_bits now k rs a))
after-law rs now next ws xs a k m r rule c low high valid hw hx chosen at =
    let p = rules_part now next k rs m in
    let e = rules_bits now k rs a in
    let met = rule_met ws xs rule in
    let keeps = kept (λ v. sets_variable v rule.sets) 0 ws xs in
    let one = rules-fits rs now next k m c.now_in c.next_in c.same low high valid in
    let grows = one.low in
    let fits : k + length rs ≤ p.vars + 1 = omega arith in
    let rn : Reads a now (ranges_of_copy_lits now) ws = reads a now (ranges_of_copy_lits now) ws m c.size c.now_in c.now_say hw in
    let rx : Reads a next (ranges_of_copy_lits now) xs = reads a next (ranges_of_copy_lits now) xs m c.size c.next_in c.next_say hx in
    let place : r ≡ 0 + r = omega arith in
    let here : map (is_true a) (chosen_lits k (length rs)) ≡ one_hot_bits (0 + r) 0 (length rs) = chosen ∙ ap (λ (i : ℕ). one_hot_bits i 0 (length rs)) place in
    let first : ExtensionsAreExactly a p.vars p.clauses (PassesAndEqualsGivenValues met e) = subst
    (λ (b : Bool). ExtensionsAreExactly a p.vars p.clauses (PassesAndEqualsGivenValues b e)) (one_met rs a k r 0 rule ws xs here at)
    (rules-law rs now next ws xs k a m c.size rn rx c.now_in c.next_in c.same low high valid) in
    let second : length (a ++ e) ≡ p.vars → ExtensionsAreExactly (a ++ e) p.vars (frame_axioms rs k 0 now next) (PassesAndEqualsGivenValues keeps []) = λ long.
    let d = copies-left a e m p.vars now next ws xs grows long c in
    let inside : is_clause_over m (chosen_lits k (length rs)) ≡ true = chosen_lits-in (length rs) k m low high in
    let size = c.size in
    let still : map (is_true (a ++ e)) (chosen_lits k (length rs)) ≡ one_hot_bits (0 + r) 0 (length rs) = map-left a e (chosen_lits k (length rs)) (rw size inside) ∙ here in
    let now_long : length now ≡ length (ranges_of_copy_lits now) = sym (length-map now (λ (column : VarValueAndBoundLits). length column.values)) in
    let next_long : length next ≡ length (ranges_of_copy_lits now) = sym (length-map next (λ (column : VarValueAndBoundLits). length column.values)) ∙ ap length c.same in
    let says : satisfies (a ++ e) (frame_axioms rs k 0 now next) ≡ keeps =
    frame_axioms-say now next (ranges_of_copy_lits now) ws xs (a ++ e) rs k 0 now_long next_long hw hx d.now_say
    d.next_say
    ∙ kept-congr (λ u. is_clause_true (a ++ e) (setter_lits u k rs)) (λ u. sets_variable u rule.sets) 0 ws xs
    (λ u. setter_lits-say rs (a ++ e) u k r 0 rule still at) in
    no_more_if (a ++ e) p.vars (frame_axioms rs k 0 now next) keeps long says in
    let both = then-law a e [] met keeps m p (frame_axioms_part rs k now next) c.size one
    (frame_axioms-fits rs now next k p.vars low fits (has_lits_within_vars-more m p.vars now grows c.now_in) (has_lits_within_vars-more m p.vars next grows c.next_in)) first second in
    subst (λ (d : List Bool). ExtensionsAreExactly a p.vars (p.clauses ++ frame_axioms rs k 0 now next) (PassesAndEqualsGivenValues (met && keeps) d)) (append-nil e) both

pub step-fits : (rules : List PlainRule) (now next : List VarValueAndBoundLits) (n : ℕ) → has_lits_within_vars n now ≡ true →
    has_lits_within_vars n next ≡ true → ranges_of_copy_lits next ≡ ranges_of_copy_lits now →
    list_all (rule_valid (ranges_of_copy_lits now)) rules ≡ true → PartFits n (step_part rules now next n)
step-fits rules now next n hn hx same valid =
    let count = length rules in
    let p = choice_part count n in
    let grows : n + count ≤ p.vars = choice-low count n in
    let first : PartFits n p = record { low = omega (arith, grows); inside = choice-in count n } in
    let more = first.low in
    then-fits n p (after_choice rules now next (n + 1)) first
    (after-fits rules now next (n + 1) p.vars (has_lits_within_vars-more n p.vars now more hn) (has_lits_within_vars-more n p.vars next more hx) same (omega arith) (omega (arith, grows)) valid)

pub step-law : (rules : List PlainRule) (now next : List VarValueAndBoundLits) (ws xs : List ℕ) (a : List Bool) (n : ℕ) →
    Copies a n now next ws xs → list_all (rule_valid (ranges_of_copy_lits now)) rules ≡ true →
    in_ranges ws (ranges_of_copy_lits now) ≡ true → in_ranges xs (ranges_of_copy_lits now) ≡ true →
    ExtensionsAreExactly a (step_part rules now next n).vars (step_part rules now next n).clauses
    (AreStepBits now rules a ws xs)
step-law rules now next ws xs a n c valid hw hx =
    in_words a q.vars (p.clauses ++ q.clauses) _ (AreStepBits now rules a ws xs) to from (in_turn a p.vars q.vars p.clauses q.clauses (AreChoiceBits count) after (omega (arith, c.size, grows)) fits.low (choice-in count n) first next_law)
  where
    count : ℕ
    count = length rules

    p : FormulaPart
    p = choice_part count n

    q : FormulaPart
    q = after_choice rules now next (n + 1) p.vars

    grows : n + count ≤ p.vars
    grows = choice-low count n

    more : n ≤ p.vars
    more = omega (arith, grows)

    reach : n + 1 + length rules ≤ p.vars + 1
    reach = omega (arith, grows)

    fits : PartFits p.vars q
    fits = after-fits rules now next (n + 1) p.vars (has_lits_within_vars-more n p.vars now more c.now_in) (has_lits_within_vars-more n p.vars next more c.next_in) c.same (omega arith) reach valid

    after : (b : List Bool) → AreChoiceBits count b → List Bool → Type 0
    after b h = PassesAndEqualsGivenValues (leads ws xs (item_at rules h.0 h.1).0) (rules_bits now (n + 1) rules (a ++ b))

    first : ExtensionsAreExactly a p.vars p.clauses (AreChoiceBits count)
    first = choice-law a count n c.size

    next_law : (b : List Bool) → (h : AreChoiceBits count b) → ExtensionsAreExactly (a ++ b) q.vars q.clauses (after b h)
    next_law b h =
        let long : length (a ++ b) ≡ p.vars = first.sized b h in
        let whole : a ++ (choice_bits count h.0 ++ []) ≡ a ++ b = ap (λ (u : List Bool). a ++ u) (append-nil (choice_bits count h.0) ∙ sym h.2) in
        let chosen : map (is_true (a ++ b)) (chosen_lits (n + 1) count) ≡ one_hot_bits h.0 0 count = subst (λ (u : List Bool). map (is_true u) (chosen_lits (n + 1) count) ≡ one_hot_bits h.0 0 count) whole (choice-says a [] count h.0 n c.size) in
        after-law rules now next ws xs (a ++ b) (n + 1) p.vars h.0 (item_at rules h.0 h.1).0 (copies-left a b n p.vars now next ws xs more long c) (omega arith) reach valid hw hx chosen (item_at rules h.0 h.1).1

    rules_at : (r : ℕ) → step_bits now rules a r ≡ choice_bits count r ++ rules_bits now (n + 1) rules (a ++ choice_bits count r)
    rules_at r = ap (λ (m : ℕ). choice_bits count r ++ rules_bits now (m + 1) rules (a ++ choice_bits count r)) c.size

    to : (d : List Bool) → AreValuesOfConsecutiveParts (AreChoiceBits count) after d → AreStepBits now rules a ws xs d
    to d h =
        let r = h.3.0 in
        let item = item_at rules r h.3.1 in
        let parts = and_parts (rule_met ws xs item.0) (kept (λ v. sets_variable v item.0.sets) 0 ws xs) h.4.0 in
        let fires : after_rule item.0 ws ≡ Some xs = met-after_rule item.0 ws xs (ranges_of_copy_lits now) hw hx parts.0 parts.1 in
        (r, ap (λ (o : Option PlainRule). option_and_then (λ rule. after_rule rule ws) o) item.1 ∙ fires, h.2 ∙ ap (λ (u : List Bool). h.0 ++ u) h.4.1 ∙ ap (λ (u : List Bool). u ++ rules_bits now (n + 1) rules (a ++ u)) h.3.2 ∙ sym (rules_at r))

    from : (d : List Bool) → AreStepBits now rules a ws xs d → AreValuesOfConsecutiveParts (AreChoiceBits count) after d
    from d h = by_case (slice_get rules h.0) refl h.1
      where
        by_case : (o : Option PlainRule) → slice_get rules h.0 ≡ o → option_and_then (λ rule. after_rule rule ws) o ≡ Some xs → AreValuesOfConsecutiveParts (AreChoiceBits count) after d
        by_case None is fires = absurd cc
        by_case (Some rule) is fires =
            let less : h.0 < length rules = slice_get_within rules h.0 rule is in
            let item = item_at rules h.0 less in
            let same : rule ≡ item.0 = same_Some rule item.0 (sym is ∙ item.1) in
            let fires_too : after_rule item.0 ws ≡ Some xs = ap (λ (u : PlainRule). after_rule u ws) (sym same) ∙ fires in
            let both = after_rule-met item.0 ws xs (ranges_of_copy_lits now) hw (list_all-slice_get (rule_valid (ranges_of_copy_lits now)) rules h.0 item.0 valid item.1) fires_too in
            (choice_bits count h.0, rules_bits now (n + 1) rules (a ++ choice_bits count h.0), h.2 ∙ rules_at h.0, (h.0, less, refl), (and_from _ _ both.0 both.1, refl))

pub step-says : (now : List VarValueAndBoundLits) (rules : List PlainRule) (a c : List Bool) (n r : ℕ) → length a ≡ n → map (is_true (a ++ (step_bits now rules a r ++ c))) (chosen_lits (n + 1) (length rules)) ≡ one_hot_bits r 0 (length rules)
step-says now rules a c n r size =
    let choice = choice_bits (length rules) r in
    let after = rules_bits now (length a + 1) rules (a ++ choice) in
    let whole : a ++ (choice ++ (after ++ c)) ≡ a ++ (step_bits now rules a r ++ c) = ap (λ (u : List Bool). a ++ u) (sym (append_assoc choice after c)) in
    subst (λ (u : List Bool). map (is_true u) (chosen_lits (n + 1) (length rules)) ≡ one_hot_bits r 0 (length rules)) whole (choice-says a (after ++ c) (length rules) r n size)

pub step-below : (rules : List PlainRule) (ws xs : List ℕ) (r : ℕ) → values_after_rule_number rules ws r ≡ Some xs → r < length rules
step-below rules ws xs r h = by_case (slice_get rules r) refl h
  where
    by_case : (o : Option PlainRule) → slice_get rules r ≡ o → option_and_then (λ rule. after_rule rule ws) o ≡ Some xs → r < length rules
    by_case None is fires = absurd cc
    by_case (Some rule) is fires = slice_get_within rules r rule is
