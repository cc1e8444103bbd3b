-- The queries of a safe verdict have the refutations that prove it.
use Rattle.std.proofs.Common.{◌≡◌, ℕ, zero, suc, ◌+◌, Bool, true, false, cond, List, [], ◌∷◌, ◌++◌, map, Some, None, refl, sym, ap, ◌∙◌, subst, arith, inl, inr, All}
use Rattle.std.specs.List.{range_with_len, flat_map}
use Rattle.std.proofs.lemmas.List.{append-nil, map-append}
use Rattle.std.proofs.lemmas.List.Elements.{All-nil, All-cons, All-head, All-tail}
use Rattle.ilk_base.proofs.Ranges.{listed_all-more}
use Rattle.ilk_ir.specs.System.{PlainSystem}
use Rattle.ilk_log.specs.declared.step.Step.{Step as LogStep}
use Rattle.ilk_unroll.specs.declared.queries.Wanted.{Wanted}
use Rattle.ilk_unroll.specs.declared.queries.Wanted.TheVariants.{Hazard, Breach as BreachQuery, Step}
use Rattle.ilk_unroll.specs.Goal.{PlainGoalForms}
use Rattle.ilk_certificate.specs.declared.asked.Asked.{Asked}
use Rattle.ilk_certificate.specs.Certificate.{IsRefuted, hazard_and_breach_query_pair}
use Rattle.ilk_certificate.specs.Kept.{is_step_query, drop_nonfinal_step_queries}
use Rattle.ilk_induct.specs.declared.verdict.Verdict.{Verdict}
use Rattle.ilk_induct.specs.declared.verdict.Verdict.TheVariants.{Safe, Unsafe, Breach, NotInductive, Spent}
use Rattle.ilk_induct.specs.Order.{queries_of_length, queries_below, queries_to_depth_given_breach}
use Rattle.ilk_induct.specs.Spent.{QueryAnswerAllowsNext, AskedQueryAllowsNext, AskedPrefixPassedExceptLast}
use Rattle.ilk_induct.specs.Asked.{AreQueriesOfVerdict}
use Rattle.ilk_induct.specs.Certified.{AreRefutedCertificateQueries, QueriesProveVerdictIfSafe}

abbrev base_of : List Wanted → List Wanted
base_of [] = []
base_of (q ∷ qs) = cond (is_step_query q) (base_of qs) (q ∷ base_of qs)

base_of-append : (qs rs : List Wanted) → base_of (qs ++ rs) ≡ base_of qs ++ base_of rs
base_of-append [] rs = refl
base_of-append (Hazard n ∷ qs) rs = ap (λ (us : List Wanted). Hazard n ∷ us) (base_of-append qs rs)
base_of-append (BreachQuery n ∷ qs) rs = ap (λ (us : List Wanted). BreachQuery n ∷ us) (base_of-append qs rs)
base_of-append (Step n ∷ qs) rs = base_of-append qs rs

base_of-queries_of_length : (n : ℕ) → base_of (queries_of_length n) ≡ hazard_and_breach_query_pair n
base_of-queries_of_length zero = refl
base_of-queries_of_length (suc n) = refl

base_of-queries_below : (n : ℕ) → base_of (queries_below n) ≡ flat_map hazard_and_breach_query_pair (range_with_len 0 n)
base_of-queries_below zero = refl
base_of-queries_below (suc n) =
    let one : suc n ≡ n + 1 = omega arith in
    ap (λ (k : ℕ). base_of (queries_below k)) one
    ∙ ap base_of (listed_all-more queries_of_length n)
    ∙ base_of-append (queries_below n) (queries_of_length n)
    ∙ ap (λ (us : List Wanted). us ++ base_of (queries_of_length n)) (base_of-queries_below n)
    ∙ ap (λ (us : List Wanted). flat_map hazard_and_breach_query_pair (range_with_len 0 n) ++ us) (base_of-queries_of_length n)
    ∙ sym (listed_all-more hazard_and_breach_query_pair n)
    ∙ ap (λ (k : ℕ). flat_map hazard_and_breach_query_pair (range_with_len 0 k)) (sym one)

abbrev bases : List Asked → List Asked
bases [] = []
bases (a ∷ asked) = cond (is_step_query a.query) (bases asked) (a ∷ bases asked)

without-early : (before : List Asked) (last : Asked) → drop_nonfinal_step_queries (before ++ last ∷ []) ≡ bases before ++ last ∷ []
without-early [] last = refl
without-early (a ∷ []) last = by_case (is_step_query a.query)
  where
    by_case : (b : Bool) → cond b (last ∷ []) (a ∷ last ∷ []) ≡ cond b [] (a ∷ []) ++ last ∷ []
    by_case true = refl
    by_case false = refl
without-early (a ∷ b ∷ before) last = by_case (is_step_query a.query) (drop_nonfinal_step_queries ((b ∷ before) ++ last ∷ [])) (bases (b ∷ before)) (without-early (b ∷ before) last)
  where
    by_case : (c : Bool) (rest more : List Asked) → rest ≡ more ++ last ∷ [] → cond c rest (a ∷ rest) ≡ cond c more (a ∷ more) ++ last ∷ []
    by_case true rest more e = e
    by_case false rest more e = ap (λ (us : List Asked). a ∷ us) e

bases-queries : (asked : List Asked) → map (λ (a : Asked). a.query) (bases asked) ≡ base_of (map (λ (a : Asked). a.query) asked)
bases-queries [] = refl
bases-queries (a ∷ asked) = by_case (is_step_query a.query) (bases asked) (base_of (map (λ (x : Asked). x.query) asked)) (bases-queries asked)
  where
    by_case : (c : Bool) (rest : List Asked) (more : List Wanted) → map (λ (x : Asked). x.query) rest ≡ more → map (λ (x : Asked). x.query) (cond c rest (a ∷ rest)) ≡ cond c more (a.query ∷ more)
    by_case true rest more e = e
    by_case false rest more e = ap (λ (us : List Wanted). a.query ∷ us) e

base-refuted : (s : PlainSystem) (g : PlainGoalForms) (q : Wanted) (log : List LogStep) → is_step_query q ≡ false → QueryAnswerAllowsNext s g None q log → IsRefuted s g q log
base-refuted s g (Hazard n) log base h = h
base-refuted s g (BreachQuery n) log base h = elim h [ inl refuted ↦ refuted | inr found ↦ absurd (none n found) ]
  where
    none : (n : ℕ) → None ≡ Some n → ⊥
    none n e = cc
base-refuted s g (Step n) log base h = absurd cc

bases-refuted : (s : PlainSystem) (g : PlainGoalForms) (last : Asked) (before : List Asked) → IsRefuted s g last.query last.log → All (AskedQueryAllowsNext s g None) before
    → All (λ (a : Asked). IsRefuted s g a.query a.log) (bases before ++ last ∷ [])
bases-refuted s g last [] r h = All-cons (λ (a : Asked). IsRefuted s g a.query a.log) last [] r (All-nil (λ (a : Asked). IsRefuted s g a.query a.log))
bases-refuted s g last (a ∷ before) r h = by_case (is_step_query a.query) refl (bases-refuted s g last before r (All-tail (AskedQueryAllowsNext s g None) a before h))
  where
    by_case : (c : Bool) → is_step_query a.query ≡ c → All (λ (x : Asked). IsRefuted s g x.query x.log) (bases before ++ last ∷ []) → All (λ (x : Asked). IsRefuted s g x.query x.log) (cond c (bases before) (a ∷ bases before) ++ last ∷ [])
    by_case true e rest = rest
    by_case false e rest = All-cons (λ (x : Asked). IsRefuted s g x.query x.log) a (bases before ++ last ∷ []) (base-refuted s g a.query a.log e (All-head (AskedQueryAllowsNext s g None) a before h)) rest

certified : (s : PlainSystem) (g : PlainGoalForms) (depth k : ℕ) (asked : List Asked) (last : Asked) →
    map (λ (a : Asked). a.query) asked ≡ queries_to_depth_given_breach None k → AskedPrefixPassedExceptLast s g depth None asked last →
    last.query ≡ Step k → IsRefuted s g last.query last.log → AreRefutedCertificateQueries s g k asked
certified s g depth k asked last order are is refuted =
    let query : Asked → Wanted = λ a. a.query in
    let split = ap drop_nonfinal_step_queries are.split ∙ without-early are.before last in
    let whole : base_of (map query asked) ≡ base_of (map query are.before) ++ base_of (query last ∷ []) =
    ap (λ (xs : List Asked). base_of (map query xs)) are.split
    ∙ ap base_of (map-append query are.before (last ∷ []))
    ∙ base_of-append (map query are.before) (query last ∷ []) in
    let none : base_of (query last ∷ []) ≡ [] = ap (λ (q : Wanted). base_of (q ∷ [])) is in
    let front : base_of (map query are.before) ≡ base_of (map query asked) = sym (append-nil (base_of (map query are.before))) ∙ ap (λ (us : List Wanted). base_of (map query are.before) ++ us) (sym none) ∙ sym whole in
    record {
      queries = ap (map query) split
          ∙ map-append query (bases are.before) (last ∷ [])
          ∙ ap (λ (us : List Wanted). us ++ query last ∷ []) (bases-queries are.before ∙ front ∙ ap base_of order ∙ base_of-queries_below (k + 1))
          ∙ ap (λ (q : Wanted). flat_map hazard_and_breach_query_pair (range_with_len 0 (k + 1)) ++ q ∷ []) is;
      refuted = subst (λ (xs : List Asked). All (λ (a : Asked). IsRefuted s g a.query a.log) xs) (sym split) (bases-refuted s g last are.before refuted are.passed);
    }

pub certifies : (s : PlainSystem) (g : PlainGoalForms) (depth conflicts : ℕ) (verdict : Verdict) (asked : List Asked) → AreQueriesOfVerdict s g depth conflicts verdict asked → QueriesProveVerdictIfSafe s g verdict asked
certifies s g depth conflicts (Unsafe t) asked h = tt
certifies s g depth conflicts (Breach t) asked h = tt
certifies s g depth conflicts (Safe k) asked h = certified s g k k asked h.1.ends.0 h.1.all h.1.ends.1 h.1.ends.2.0 h.1.ends.2.1
certifies s g depth conflicts (NotInductive t) asked h = tt
certifies s g depth conflicts Spent asked h = tt
