use Rattle.std.proofs.Common.{◌≡◌, ◌≢◌, ◌<◌, ◌≤◌, ◌⊎◌, ℕ, inl, inr, true, false, eqb, List, [], ◌∷◌, ◌++◌, length, take, get_or, Some, refl, sym, ap, ◌∙◌, subst, arith, append_assoc}
use Rattle.std.specs.List.{slice_get, IsDistinct}
use Rattle.std.proofs.lemmas.Bool.{or_cases, or_left, or_right, or_parts, true≢false, eqb-true, eqb-false, ne_eqb}
use Rattle.std.proofs.lemmas.Map.Keys.{IsDistinct-tail}
use Rattle.std.proofs.lemmas.List.{append-nil}
use Rattle.ilk_cnf.specs.Literal.{Literal, negated_lit, has_lit, has_distinct_vars}
use Rattle.ilk_log.specs.Propagation.{is_false}
use Rattle.ilk_trail.specs.declared.entry.Entry.{Entry}
use Rattle.ilk_trail.specs.Trail.{level_of}
use Rattle.ilk_trail.specs.Laws.{each_may_follow_level, lits_of}
use Rattle.ilk_trail.proofs.Levels.{entries_up_to-all}
use Rattle.ilk_arena.specs.Arena.{ArenaContent, place, chain_of, with_watch_moved, contains_reference, without_reference}
use Rattle.ilk_arena.proofs.Watching.{chain-left, once-head, stands-front, stands-with_watch_moved, without-between}
use Rattle.ilk_watches.specs.Watched.{is_true_by_level, IsCovered}
use Rattle.ilk_watches.specs.Visits.{CoveredExceptInChains, OtherWatchesTrueInPassed, IsOtherWatchTrue}
use Rattle.ilk_watches.proofs.Entries.{true-somewhere, true-kept, lit-kept, at-old, not-both, entry-denies}

pub covered-more : (a : ArenaContent) (es fs : List Entry) (n c : ℕ) → take (length es) fs ≡ es → n ≤ length es → IsCovered a es n c → IsCovered a fs n c
covered-more a es fs n c p w h = λ i e l b s w1 w2 d.
    true-kept es fs e.level l p (h i e l b (at-old es fs i e p (omega (arith, b, w)) s) w1 w2 d)

pub but-more : (a : ArenaContent) (es fs : List Entry) (n : ℕ) (f g : Literal) → take (length es) fs ≡ es → n ≤ length es → CoveredExceptInChains a es n f g → CoveredExceptInChains a fs n f g
but-more a es fs n f g p w h = λ c known i e l b s nf ng w1 w2 d.
    true-kept es fs e.level l p (h c known i e l b (at-old es fs i e p (omega (arith, b, w)) s) nf ng w1 w2 d)

pub but-chains : (a b : ArenaContent) (es : List Entry) (n : ℕ) (f g : Literal) → b.references ≡ a.references → b.chains ≡ a.chains → CoveredExceptInChains a es n f g → CoveredExceptInChains b es n f g
but-chains a b es n f g r e h = λ c known.
    (let P : List (List ℕ) → Type 0 = λ ch. (i : ℕ) (x : Entry) (l : Literal) → i < n →
    slice_get es i ≡ Some x → negated_lit x.lit ≢ f → negated_lit x.lit ≢ g →
    contains_reference c (get_or ch (place (negated_lit x.lit)) []) ≡ true →
    contains_reference c (get_or ch (place l) []) ≡ true → l ≢ negated_lit x.lit → is_true_by_level es x.level l ≡ true in
    subst P (sym e) (h c (ap (contains_reference c) (sym r) ∙ known)))

pub but-with_watch_moved : (a : ArenaContent) (es : List Entry) (n c : ℕ) (f g t : Literal) →
    has_distinct_vars (lits_of es) ≡ true → is_false (lits_of es) f ≡ true → is_false (lits_of es) t ≡ false →
    contains_reference c (chain_of a f) ≡ true → CoveredExceptInChains a es n f g → CoveredExceptInChains (with_watch_moved a c f t) es n f g
but-with_watch_moved a es n c f g t d ff tf sf h = λ k known i e l b s nf ng w1 w2 ne.
    elim (stands-with_watch_moved a c f t k (negated_lit e.lit) w1) [
      | inl o1 ↦ elim (stands-with_watch_moved a c f t k l w2) [
        | inl o2 ↦ h k known i e l b s nf ng o1 o2 ne
        | inr q ↦ absurd (let here : contains_reference k (chain_of a f) ≡ true = ap (λ (x : ℕ). contains_reference x (chain_of a f)) q.0 ∙ sf in
            not-both es f d (true-somewhere es e.level f (h k known i e f b s nf ng o1 here (λ x. nf (sym x)))) ff)
      ]
      | inr q ↦ absurd (true≢false (sym (entry-denies es i e s) ∙ ap (is_false (lits_of es)) q.1 ∙ tf))
    ]

pub but-turned : (a : ArenaContent) (es : List Entry) (n : ℕ) (f g : Literal) → CoveredExceptInChains a es n f g → CoveredExceptInChains a es n g f
but-turned a es n f g h = λ c known i e l b s ng nf. h c known i e l b s nf ng

pub stands-either : (d : ℕ) (xs ys : List ℕ) → contains_reference d (xs ++ ys) ≡ true → (contains_reference d xs ≡ true) ⊎ (contains_reference d ys ≡ true)
stands-either d [] ys h = inr h
stands-either d (x ∷ xs) ys h =
    elim (or_cases (eqb x d) (contains_reference d (xs ++ ys)) h) [
      | inl q ↦ inl (or_left (eqb x d) (contains_reference d xs) q)
      | inr q ↦ elim (stands-either d xs ys q) [ inl p ↦ inl (or_right (eqb x d) (contains_reference d xs) p) | inr p ↦ inr p ]
    ]

pub stands-one : (d c : ℕ) → contains_reference d (c ∷ []) ≡ true → d ≡ c
stands-one d c h = elim (or_cases (eqb c d) false h) [ inl q ↦ sym (eqb-true c d q) | inr q ↦ absurd (cc) ]

pub not-passed : (xs ys : List ℕ) (c : ℕ) → IsDistinct eqb (xs ++ c ∷ ys) → contains_reference c xs ≡ false
not-passed [] ys c d = refl
not-passed (x ∷ xs) ys c d =
    let away = stands-front x xs (c ∷ ys) (once-head x (xs ++ c ∷ ys) d) in
    let e : eqb x c ≡ false = ne_eqb x c (λ q. eqb-false c x (or_parts (eqb c x) (contains_reference x ys) away.1).0 (sym q)) in
    rw e (not-passed xs ys c (IsDistinct-tail eqb x (xs ++ c ∷ ys) d))

pub walk-start : (a : ArenaContent) (es : List Entry) (f : Literal) → OtherWatchesTrueInPassed a es f [] (chain_of a f)
walk-start a es f = record { split = refl; done = λ c s. absurd (true≢false (sym s)) }

pub walk-stays :
    (a b : ArenaContent) (es fs : List Entry) (f : Literal) (passed : List ℕ) (c : ℕ) (rest : List ℕ) →
    OtherWatchesTrueInPassed a es f passed (c ∷ rest) → b.chains ≡ a.chains → take (length es) fs ≡ es → IsOtherWatchTrue a fs c f →
    OtherWatchesTrueInPassed b fs f (passed ++ c ∷ []) rest
walk-stays a b es fs f passed c rest w e p o =
    let back : (d : ℕ) (l : Literal) → contains_reference d (chain_of b l) ≡ true → contains_reference d (chain_of a l) ≡ true = λ d l s. ap (λ (ch : List (List ℕ)). contains_reference d (get_or ch (place l) [])) (sym e) ∙ s in
    record {
      split = ap (λ (ch : List (List ℕ)). get_or ch (place f) []) e ∙ w.split ∙ sym (append_assoc passed (c ∷ []) rest);
      done = λ d s l s2 ne. elim (stands-either d passed (c ∷ []) s) [
        | inl q ↦ lit-kept es fs l p (w.done d q l (back d l s2) ne)
        | inr q ↦ (let same_one = stands-one d c q in o l (ap (λ (x : ℕ). contains_reference x (chain_of a l)) (sym same_one) ∙ back d l s2) ne)
      ];
    }

pub walk-moves :
    (a b : ArenaContent) (es fs : List Entry) (f t : Literal) (passed : List ℕ) (c : ℕ) (rest : List ℕ) →
    OtherWatchesTrueInPassed a es f passed (c ∷ rest) → b.chains ≡ (with_watch_moved a c f t).chains → take (length es) fs ≡ es →
    IsDistinct eqb (chain_of a f) → is_false (lits_of es) f ≡ true → is_false (lits_of es) t ≡ false →
    OtherWatchesTrueInPassed b fs f passed rest
walk-moves a b es fs f t passed c rest w e p once ff tf =
    let r = with_watch_moved a c f t in
    let apart : f ≢ t = λ q. true≢false (sym ff ∙ ap (is_false (lits_of es)) q ∙ tf) in
    let D : List ℕ → Type 0 = λ xs. IsDistinct eqb xs in
    let distinct : IsDistinct eqb (passed ++ c ∷ rest) = subst D w.split once in
    record {
      split = ap (λ (ch : List (List ℕ)). get_or ch (place f) []) e ∙ chain-left a c f t apart ∙ ap (without_reference c) w.split ∙ without-between passed rest c distinct;
      done = λ k s l s2 ne. (let s3 : contains_reference k (chain_of r l) ≡ true = ap (λ (ch : List (List ℕ)). contains_reference k (get_or ch (place l) [])) (sym e) ∙ s2 in
          elim (stands-with_watch_moved a c f t k l s3) [
            | inl q ↦ lit-kept es fs l p (w.done k s l q ne)
            | inr q ↦ absurd (true≢false (sym s ∙ ap (λ (x : ℕ). contains_reference x passed) q.0 ∙ not-passed passed rest c distinct))
          ]);
    }

-- After a walk along the chain of `f` each clause is covered for entries of the current level that
-- make `f` false.
pub walk-end : (a : ArenaContent) (es : List Entry) (f : Literal) (passed : List ℕ) → OtherWatchesTrueInPassed a es f passed [] →
    each_may_follow_level 0 es ≡ true → (c : ℕ) (e : Entry) (l : Literal) → negated_lit e.lit ≡ f → e.level ≡ level_of es →
    contains_reference c (chain_of a (negated_lit e.lit)) ≡ true → contains_reference c (chain_of a l) ≡ true →
    l ≢ negated_lit e.lit → is_true_by_level es e.level l ≡ true
walk-end a es f passed w climb c e l is level w1 w2 ne =
    let inside : contains_reference c passed ≡ true = ap (contains_reference c) (sym (append-nil passed)) ∙ ap (contains_reference c) (sym w.split) ∙ ap (λ (x : Literal). contains_reference c (chain_of a x)) (sym is) ∙ w1 in
    let true_now = w.done c inside l w2 (λ x. ne (x ∙ sym is)) in
    ap (λ (xs : List Entry). has_lit l (lits_of xs)) (entries_up_to-all 0 e.level es climb (omega (arith, level))) ∙ true_now
