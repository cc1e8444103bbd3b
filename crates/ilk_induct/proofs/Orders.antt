-- The order of queries: one more query, and prefixes of the order.
use Rattle.std.proofs.Common.{◌≡◌, ℕ, zero, suc, ◌+◌, ◌-◌, ◌≤◌, ◌<◌, Bool, true, not, cond, List, [], ◌∷◌, ◌++◌, length, map, Option, Some, None, refl, sym, ap, ◌∙◌, subst, arith, append_assoc, inl, inr, All}
use Rattle.std.specs.List.{range_with_len}
use Rattle.std.proofs.lemmas.Bool.{and_parts, ltb-true}
use Rattle.std.proofs.lemmas.List.{append-nil, map-append}
use Rattle.std.proofs.lemmas.List.Elements.{All-push, All-weaker}
use Rattle.std.proofs.lemmas.List.Sums.{sum_by-append, sum_by-cons}
use Rattle.ilk_base.proofs.Ranges.{listed_all-more, range-suc}
use Rattle.ilk_ir.specs.System.{PlainSystem}
use Rattle.ilk_log.specs.declared.step.Step.{Step as LogStep}
use Rattle.ilk_log.specs.Conflicts.{count_learned_clauses}
use Rattle.ilk_log.specs.Derived.{is_empty_clause}
use Rattle.ilk_solver.specs.Answered.{has_no_empty_step}
use Rattle.ilk_unroll.specs.declared.queries.Wanted.{Wanted}
use Rattle.ilk_unroll.specs.declared.queries.Wanted.TheVariants.{Hazard, Breach as BreachQuery, Step}
use Rattle.ilk_unroll.specs.Goal.{PlainGoalForms, query_step_count, step_count_is_allowed}
use Rattle.ilk_unroll.specs.Query.{query_formula}
use Rattle.ilk_unroll.specs.Satisfied.{IsSatisfiable}
use Rattle.ilk_certificate.specs.declared.asked.Asked.{Asked}
use Rattle.ilk_certificate.specs.CertificateText.{total_conflicts}
use Rattle.ilk_induct.specs.Order.{queries_of_length, queries_below, queries_to_depth_given_breach, IsPrefix}
use Rattle.ilk_induct.specs.Spent.{LogStepsDerivedAndEmpowering, QueryAnswerAllowsNext, AskedQueryAllowsNext, AskedPrefixPassedExceptLast}
use Rattle.ilk_induct.specs.Asked.{AllAskedAndLastMeets}
use Rattle.ilk_induct.specs.Due.{query_with_log, queries_to_query_given_breach, QueryFollowsAskedInOrder}

pub to-breach : (n : ℕ) → queries_to_query_given_breach None (Hazard n) ++ BreachQuery n ∷ [] ≡ queries_to_query_given_breach None (BreachQuery n)
to-breach n = append_assoc (queries_below n) (Hazard n ∷ []) (BreachQuery n ∷ [])

pub to-step : (n : ℕ) → queries_to_query_given_breach None (BreachQuery n) ++ Step n ∷ [] ≡ queries_to_query_given_breach None (Step n)
to-step n = append_assoc (queries_below n) (Hazard n ∷ BreachQuery n ∷ []) (Step n ∷ [])

pub to-hazard : (n : ℕ) → 0 < n → queries_to_query_given_breach None (Step n) ++ Hazard (n + 1) ∷ [] ≡ queries_to_query_given_breach None (Hazard (n + 1))
to-hazard zero pos = absurd (omega arith)
to-hazard (suc n) pos = ap (λ (qs : List Wanted). qs ++ Hazard (suc n + 1) ∷ []) (sym (listed_all-more queries_of_length (suc n)))

pub to-found : (n : ℕ) → queries_to_query_given_breach None (BreachQuery n) ≡ queries_to_query_given_breach (Some n) (BreachQuery n)
to-found n =
    let none : n - n ≡ 0 = omega arith in
    sym (append-nil (queries_below n ++ Hazard n ∷ BreachQuery n ∷ [])) ∙ ap (λ (k : ℕ). (queries_below n ++ Hazard n ∷ BreachQuery n ∷ []) ++ map Hazard (range_with_len (n + 1) k)) (sym none)

pub to-hazard-after : (b n : ℕ) (q : Wanted) → query_step_count q ≡ n → b ≤ n → queries_to_query_given_breach (Some b) q ++ Hazard (n + 1) ∷ [] ≡ queries_to_query_given_breach (Some b) (Hazard (n + 1))
to-hazard-after b n q e le =
    let front = queries_below b ++ Hazard b ∷ BreachQuery b ∷ [] in
    let more : (n + 1) - b ≡ suc (n - b) = omega arith in
    let last : (b + 1) + (n - b) ≡ n + 1 = omega arith in
    let grown : map Hazard (range_with_len (b + 1) ((n + 1) - b)) ≡ map Hazard (range_with_len (b + 1) (n - b)) ++ Hazard (n + 1) ∷ [] =
    ap (λ (k : ℕ). map Hazard (range_with_len (b + 1) k)) more
    ∙ ap (map Hazard) (range-suc (b + 1) (n - b))
    ∙ map-append Hazard (range_with_len (b + 1) (n - b)) (((b + 1) + (n - b)) ∷ [])
    ∙ ap (λ (k : ℕ). map Hazard (range_with_len (b + 1) (n - b)) ++ Hazard k ∷ []) last in
    ap (λ (k : ℕ). (front ++ map Hazard (range_with_len (b + 1) (k - b))) ++ Hazard (n + 1) ∷ []) e
    ∙ append_assoc front (map Hazard (range_with_len (b + 1) (n - b))) (Hazard (n + 1) ∷ [])
    ∙ ap (λ (qs : List Wanted). front ++ qs) (sym grown)

prefix-then : (qs rs all : List Wanted) → IsPrefix qs rs → IsPrefix rs all → IsPrefix qs all
prefix-then qs rs all one two =
    (one.0 ++ two.0, sym (append_assoc qs one.0 two.0) ∙ ap (λ (us : List Wanted). us ++ two.0) one.1 ∙ two.1)

prefix-behind : (front qs all : List Wanted) → IsPrefix qs all → IsPrefix (front ++ qs) (front ++ all)
prefix-behind front qs all p = (p.0, append_assoc front qs p.0 ∙ ap (λ (us : List Wanted). front ++ us) p.1)

prefix-up : (L : ℕ → List Wanted) → ((n : ℕ) → IsPrefix (L n) (L (n + 1))) → (i k : ℕ) → IsPrefix (L i) (L (i + k))
prefix-up L up i zero =
    let same : i + 0 ≡ i = omega arith in
    ([], append-nil (L i) ∙ ap L (sym same))
prefix-up L up i (suc k) =
    let same : (i + k) + 1 ≡ i + suc k = omega arith in
    subst (λ (m : ℕ). IsPrefix (L i) (L m)) same (prefix-then (L i) (L (i + k)) (L ((i + k) + 1)) (prefix-up L up i k) (up (i + k)))

queries_below-up : (n : ℕ) → IsPrefix (queries_below n) (queries_below (n + 1))
queries_below-up n = (queries_of_length n, sym (listed_all-more queries_of_length n))

abbrev hazards : ℕ → ℕ → List Wanted
hazards b n = map Hazard (range_with_len (b + 1) n)

hazards-up : (b n : ℕ) → IsPrefix (hazards b n) (hazards b (n + 1))
hazards-up b n =
    let one : n + 1 ≡ suc n = omega arith in (
      Hazard ((b + 1) + n) ∷ [],
      sym (ap (λ (k : ℕ). map Hazard (range_with_len (b + 1) k)) one
          ∙ ap (map Hazard) (range-suc (b + 1) n)
          ∙ map-append Hazard (range_with_len (b + 1) n) (((b + 1) + n) ∷ [])),
    )

to-queries_of_length : (q : Wanted) → step_count_is_allowed q ≡ true → IsPrefix (queries_to_query_given_breach None q) (queries_below (query_step_count q + 1))
to-queries_of_length (Hazard zero) valid = (BreachQuery 0 ∷ [], refl)
to-queries_of_length (Hazard (suc n)) valid =
    (BreachQuery (suc n) ∷ Step (suc n) ∷ [], append_assoc (queries_below (suc n)) (Hazard (suc n) ∷ []) (BreachQuery (suc n) ∷ Step (suc n) ∷ []) ∙ sym (listed_all-more queries_of_length (suc n)))
to-queries_of_length (BreachQuery zero) valid = ([], refl)
to-queries_of_length (BreachQuery (suc n)) valid =
    (Step (suc n) ∷ [], append_assoc (queries_below (suc n)) (Hazard (suc n) ∷ BreachQuery (suc n) ∷ []) (Step (suc n) ∷ []) ∙ sym (listed_all-more queries_of_length (suc n)))
to-queries_of_length (Step zero) valid = absurd cc
to-queries_of_length (Step (suc n)) valid =
    let all = queries_below (suc n) ++ queries_of_length (suc n) in
    ([], append-nil all ∙ sym (listed_all-more queries_of_length (suc n)))

pub all-to-step : (n : ℕ) → 0 < n → queries_to_query_given_breach None (Step n) ≡ queries_to_depth_given_breach None n
all-to-step zero pos = absurd (omega arith)
all-to-step (suc n) pos = sym (listed_all-more queries_of_length (suc n))

pub all-to-hazard : (b n : ℕ) (q : Wanted) → query_step_count q ≡ n → queries_to_query_given_breach (Some b) q ≡ queries_to_depth_given_breach (Some b) n
all-to-hazard b n q e =
    ap (λ (k : ℕ). (queries_below b ++ Hazard b ∷ BreachQuery b ∷ []) ++ map Hazard (range_with_len (b + 1) (k - b))) e
    ∙ append_assoc (queries_below b) (Hazard b ∷ BreachQuery b ∷ []) (map Hazard (range_with_len (b + 1) (n - b)))

pub to-prefix : (depth : ℕ) (breach : Option ℕ) (q : Wanted) → step_count_is_allowed q ≡ true → query_step_count q ≤ depth → IsPrefix (queries_to_query_given_breach breach q) (queries_to_depth_given_breach breach depth)
to-prefix depth None q valid within =
    let far : (query_step_count q + 1) + (depth - query_step_count q) ≡ depth + 1 = omega arith in
    let all = subst (λ (m : ℕ). IsPrefix (queries_below (query_step_count q + 1)) (queries_below m)) far (prefix-up queries_below queries_below-up (query_step_count q + 1) (depth - query_step_count q)) in
    prefix-then (queries_to_query_given_breach None q) (queries_below (query_step_count q + 1)) (queries_below (depth + 1)) (to-queries_of_length q valid) all
to-prefix depth (Some b) q valid within =
    let i = query_step_count q - b in
    let far : i + ((depth - b) - i) ≡ depth - b = omega arith in
    let front = queries_below b ++ Hazard b ∷ BreachQuery b ∷ [] in
    let behind = prefix-behind front (hazards b i) (hazards b (depth - b)) (subst (λ (m : ℕ). IsPrefix (hazards b i) (hazards b m)) far (prefix-up (hazards b) (hazards-up b) i ((depth - b) - i))) in
    subst (IsPrefix (front ++ hazards b i)) (append_assoc (queries_below b) (Hazard b ∷ BreachQuery b ∷ []) (hazards b (depth - b))) behind

pub more-queries : (asked : List Asked) (a : Asked) (qs : List Wanted) → map (λ (x : Asked). x.query) asked ++ a.query ∷ [] ≡ qs → map (λ (x : Asked). x.query) (asked ++ a ∷ []) ≡ qs
more-queries asked a qs h = map-append (λ (x : Asked). x.query) asked (a ∷ []) ∙ h

pub more-conflicts : (asked : List Asked) (a : Asked) (left rest conflicts : ℕ) → total_conflicts asked + left ≡ conflicts → count_learned_clauses a.log + rest ≡ left → total_conflicts (asked ++ a ∷ []) + rest ≡ conflicts
more-conflicts asked a left rest conflicts h one =
    let sum = sum_by-append (λ (x : Asked). count_learned_clauses x.log) asked (a ∷ []) in
    let last = sum_by-cons (λ (x : Asked). count_learned_clauses x.log) a [] in
    omega (arith, sum, last, h, one)

as-prefix : (asked : List Asked) (qs all : List Wanted) → map (λ (x : Asked). x.query) asked ≡ qs → IsPrefix qs all → IsPrefix (map (λ (x : Asked). x.query) asked) all
as-prefix asked qs all e p = subst (λ (us : List Wanted). IsPrefix us all) (sym e) p

pub asked-to :
    (s : PlainSystem) (g : PlainGoalForms) (depth conflicts : ℕ) (breach : Option ℕ) (a : Asked) (asked : List Asked)
    (left : ℕ) →
    QueryFollowsAskedInOrder s g depth conflicts breach a.query asked left → LogStepsDerivedAndEmpowering s g a →
    AskedPrefixPassedExceptLast s g depth breach (asked ++ a ∷ []) a
asked-to s g depth conflicts breach a asked left d log =
    record {
      before = asked;
      split = refl;
      order = as-prefix (asked ++ a ∷ []) (queries_to_query_given_breach breach a.query) (queries_to_depth_given_breach breach depth) (more-queries asked a (queries_to_query_given_breach breach a.query) d.order)
          (to-prefix depth breach a.query d.valid d.within);
      found = d.found;
      passed = d.passed;
      logs = All-push (LogStepsDerivedAndEmpowering s g) asked a d.logs log;
    }

pub go-on :
    (s : PlainSystem) (g : PlainGoalForms) (depth conflicts : ℕ) (breach : Option ℕ) (a : Asked) (q : Wanted)
    (asked : List Asked) (left rest : ℕ) →
    QueryFollowsAskedInOrder s g depth conflicts breach a.query asked left → LogStepsDerivedAndEmpowering s g a → AskedQueryAllowsNext s g breach a →
    count_learned_clauses a.log + rest ≡ left → queries_to_query_given_breach breach a.query ++ q ∷ [] ≡ queries_to_query_given_breach breach q →
    step_count_is_allowed q ≡ true → query_step_count q ≤ depth →
    QueryFollowsAskedInOrder s g depth conflicts breach q (asked ++ a ∷ []) rest
go-on s g depth conflicts breach a q asked left rest d log passed count order valid within =
    record {
      order = ap (λ (qs : List Wanted). qs ++ q ∷ []) (more-queries asked a (queries_to_query_given_breach breach a.query) d.order) ∙ order;
      valid = valid;
      within = within;
      found = d.found;
      passed = All-push (AskedQueryAllowsNext s g breach) asked a d.passed passed;
      logs = All-push (LogStepsDerivedAndEmpowering s g) asked a d.logs log;
      counted = more-conflicts asked a left rest conflicts d.counted count;
    }

pub passed-after : (s : PlainSystem) (g : PlainGoalForms) (b : ℕ) (q : Wanted) (log : List LogStep) → QueryAnswerAllowsNext s g None q log → QueryAnswerAllowsNext s g (Some b) q log
passed-after s g b (Hazard n) log h = h
passed-after s g b (BreachQuery n) log h = elim h [ inl refuted ↦ inl refuted | inr found ↦ absurd (none n found) ]
  where
    none : (n : ℕ) → None ≡ Some n → ⊥
    none n e = cc
passed-after s g b (Step n) log h = h

pub all-passed-after : (s : PlainSystem) (g : PlainGoalForms) (b : ℕ) (asked : List Asked) → All (AskedQueryAllowsNext s g None) asked → All (AskedQueryAllowsNext s g (Some b)) asked
all-passed-after s g b asked h = All-weaker (AskedQueryAllowsNext s g None) (AskedQueryAllowsNext s g (Some b)) (λ a k. passed-after s g b a.query a.log k) asked h

pub found-order : (asked : List Asked) (n : ℕ) (log : List LogStep) →
    map (λ (x : Asked). x.query) asked ++ BreachQuery n ∷ [] ≡ queries_to_query_given_breach None (BreachQuery n) →
    map (λ (x : Asked). x.query) (asked ++ query_with_log (BreachQuery n) log ∷ [])
    ≡ queries_to_query_given_breach (Some n) (BreachQuery n)
found-order asked n log order = more-queries asked (query_with_log (BreachQuery n) log) (queries_to_query_given_breach None (BreachQuery n)) order ∙ to-found n

pub found-to :
    (s : PlainSystem) (g : PlainGoalForms) (depth conflicts n : ℕ) (log : List LogStep) (asked : List Asked)
    (left : ℕ) →
    QueryFollowsAskedInOrder s g depth conflicts None (BreachQuery n) asked left →
    LogStepsDerivedAndEmpowering s g (query_with_log (BreachQuery n) log) → IsSatisfiable (query_formula s g (BreachQuery n)) →
    AskedPrefixPassedExceptLast s g depth (Some n) (asked ++ query_with_log (BreachQuery n) log ∷ [])
    (query_with_log (BreachQuery n) log)
found-to s g depth conflicts n log asked left d logged has =
    let a = query_with_log (BreachQuery n) log in
    record {
      before = asked;
      split = refl;
      order = as-prefix (asked ++ a ∷ []) (queries_to_query_given_breach (Some n) (BreachQuery n)) (queries_to_depth_given_breach (Some n) depth) (found-order asked n log d.order) (to-prefix depth (Some n) (BreachQuery n) d.valid d.within);
      found = (d.within, has);
      passed = all-passed-after s g n asked d.passed;
      logs = All-push (LogStepsDerivedAndEmpowering s g) asked a d.logs logged;
    }

pub go-on-found :
    (s : PlainSystem) (g : PlainGoalForms) (depth conflicts n : ℕ) (log : List LogStep) (asked : List Asked)
    (left rest : ℕ) →
    QueryFollowsAskedInOrder s g depth conflicts None (BreachQuery n) asked left →
    LogStepsDerivedAndEmpowering s g (query_with_log (BreachQuery n) log) → IsSatisfiable (query_formula s g (BreachQuery n)) →
    count_learned_clauses log + rest ≡ left → step_count_is_allowed (Hazard (n + 1)) ≡ true → n + 1 ≤ depth →
    QueryFollowsAskedInOrder s g depth conflicts (Some n) (Hazard (n + 1)) (asked ++ query_with_log (BreachQuery n) log ∷ [])
    rest
go-on-found s g depth conflicts n log asked left rest d logged has count valid within =
    let a = query_with_log (BreachQuery n) log in
    record {
      order = ap (λ (qs : List Wanted). qs ++ Hazard (n + 1) ∷ []) (found-order asked n log d.order) ∙ to-hazard-after n n (BreachQuery n) refl (omega arith);
      valid = valid;
      within = within;
      found = (d.within, has);
      passed = All-push (AskedQueryAllowsNext s g (Some n)) asked a (all-passed-after s g n asked d.passed) (inr refl);
      logs = All-push (LogStepsDerivedAndEmpowering s g) asked a d.logs logged;
      counted = more-conflicts asked a left rest conflicts d.counted count;
    }

pub asked-all :
    (s : PlainSystem) (g : PlainGoalForms) (depth conflicts n : ℕ) (a : Asked) (asked : List Asked) (left : ℕ)
    (Ends : Asked → Type 0) →
    QueryFollowsAskedInOrder s g depth conflicts None a.query asked left → LogStepsDerivedAndEmpowering s g a → a.query ≡ Step n → Ends a →
    AllAskedAndLastMeets s g n None Ends (asked ++ a ∷ [])
asked-all s g depth conflicts n a asked left Ends d log is ends =
    let pos : 0 < n = ltb-true 0 n (and_parts _ _ (ap step_count_is_allowed (sym is) ∙ d.valid)).0 in
    let all : map (λ (x : Asked). x.query) (asked ++ a ∷ []) ≡ queries_to_depth_given_breach None n = more-queries asked a (queries_to_query_given_breach None a.query) d.order ∙ ap (queries_to_query_given_breach None) is ∙ all-to-step n pos in
    record {
      all = all;
      ends = (a, record { before = asked; split = refl; order = ([], append-nil (map (λ (x : Asked). x.query) (asked ++ a ∷ [])) ∙ all); found = tt; passed = d.passed; logs = All-push (LogStepsDerivedAndEmpowering s g) asked a d.logs log }, ends);
    }

pub all-conflicts : (log : List LogStep) → has_no_empty_step log ≡ true → count_learned_clauses log ≡ length log
all-conflicts [] h = refl
all-conflicts (s ∷ log) h =
    let parts = and_parts (not (is_empty_clause s.clause)) (has_no_empty_step log) h in
    let rest = all-conflicts log parts.1 in
    let one : 1 + count_learned_clauses log ≡ length (s ∷ log) = omega (arith, rest) in
    sum_by-cons (λ (x : LogStep). cond (not (is_empty_clause x.clause)) 1 0) s log ∙ ap (λ (b : Bool). cond b 1 0 + count_learned_clauses log) parts.0 ∙ one
