use Rattle.std.proofs.Common.{◌≡◌, ◌++◌, ◌∷◌, [], ℕ, inl, inr, Bool, true, false, List, Option, Some, None, refl, sym, ap, ◌∙◌, subst, arith}
use Rattle.std.specs.Prelude.{◌==◌, IfNone, IfSome, not, slice_get}
use Rattle.std.specs.List.{filter}
use Rattle.std.proofs.lemmas.Bool.{and_from, and_parts, cases_Bool, not-true, not_from_false, or_cases, or_from, or_left, or_right, true≢false}
use Rattle.std.proofs.lemmas.List.Folds.{list_any-append}
use Rattle.std.proofs.lemmas.Option.{slice_get_within}
use Rattle.ilk_base.proofs.Lists.{at-before}
use Rattle.ilk_cnf.specs.Literal.{Literal, same_lit, has_lit, has_var, has_distinct_vars}
use Rattle.ilk_cnf.specs.Formula.{is_clause_over}
use Rattle.ilk_cnf.proofs.SameLiterals.{same-lit}
use Rattle.ilk_arena.specs.Arena.{ArenaContent}
use Rattle.ilk_watches.specs.Chained.{AreValidNumberedClauses, IsClauseAdded}
use Rattle.ilk_log.specs.declared.step.Step.{Step}
use Rattle.ilk_log.specs.Derived.{is_empty_clause}
use Rattle.ilk_log.specs.Propagation.{is_falsified}
use Rattle.ilk_trail.specs.declared.entry.Entry.{Entry}
use Rattle.ilk_trail.specs.Trail.{level_of}
use Rattle.ilk_trail.specs.Laws.{IsTrail, each_may_follow_level, is_set, lits_of}
use Rattle.ilk_trail.proofs.Levels.{entries_up_to-all}
use Rattle.ilk_watches.specs.Watched.{NotFalseBelowCurrentLevel, FirstTwoAreWatchable}
use Rattle.ilk_watches.proofs.Added.{queue-with_clause_added}
use Rattle.ilk_watches.proofs.Entries.{entry-of-lit}
use Rattle.ilk_watches.proofs.Prefixes.{up-level}
use Rattle.ilk_learn.proofs.Derived.{false-from}
use Rattle.ilk_learn.proofs.Members.{differ-kept, each-within, kept-at, kept-from, var-of}
use Rattle.ilk_rup.specs.Accepted.{FollowsBySomeHints}
use Rattle.ilk_rup.specs.Alike.{AreEquivalent}
use Rattle.ilk_rup.specs.Needs.{IsClauseOfExactlyLiterals, EntryHasReason, AreUnitHintsByVar, unset_literals_first}
use Rattle.ilk_rup.specs.Standing.{CurrentClauseFollowsAndIsAdded, HasSameFormulaAndConsequences, IsStepForCurrentLiterals, AreFormulaAndDerivedClauses, IsClauseAddedWithStep, IsValidMaybeUnpropagated, IsClosedOrRefuted}
use Rattle.ilk_rup.specs.declared.base.DerivationState.{DerivationState}
use Rattle.ilk_rup.proofs.Alike.{alike-ended, alike-join, alike-known, alike-same, follows-any, follows-known}
use Rattle.ilk_rup.proofs.Holds.{added-clauses}
use Rattle.ilk_rup.proofs.Keeping.{forced-more, logged-more, step-derived}
use Rattle.ilk_rup.proofs.Signs.{var-either}

first-has : (es : List Entry) (ls : List Literal) (m : Literal) → has_lit m (unset_literals_first es ls) ≡ true → has_lit m ls ≡ true
first-has es ls m h =
    elim (or_cases (has_lit m (filter (λ l. not (is_set es l.var)) ls)) (has_lit m (filter (λ l. is_set es l.var) ls)) (sym (list_any-append (same_lit m) (filter (λ l. not (is_set es l.var)) ls) (filter (λ l. is_set es l.var) ls)) ∙ h)) [
      | inl x ↦ (kept-from (λ l. not (is_set es l.var)) ls m x).0
      | inr x ↦ (kept-from (λ l. is_set es l.var) ls m x).0
    ]

has-first : (es : List Entry) (ls : List Literal) (m : Literal) → has_lit m ls ≡ true → has_lit m (unset_literals_first es ls) ≡ true
has-first es ls m h =
    let a = filter (λ l. not (is_set es l.var)) ls in
    let b = filter (λ l. is_set es l.var) ls in
    list_any-append (same_lit m) a b ∙ elim (cases_Bool (is_set es m.var)) [
      | inl t ↦ or_right (has_lit m a) (has_lit m b) (kept-at (λ l. is_set es l.var) ls m h t)
      | inr t ↦ or_left (has_lit m a) (has_lit m b) (kept-at (λ l. not (is_set es l.var)) ls m h (not_from_false (is_set es m.var) t))
    ]

apart-differ : (xs ys : List Literal) → has_distinct_vars xs ≡ true → has_distinct_vars ys ≡ true → ((x : Literal) → has_lit x xs ≡ true → has_var x.var ys ≡ false) → has_distinct_vars (xs ++ ys) ≡ true
apart-differ [] ys d e f = e
apart-differ (x ∷ xs) ys d e f =
    let p = and_parts (not (has_var x.var xs)) (has_distinct_vars xs) d in
    let none : has_var x.var (xs ++ ys) ≡ false = list_any-append (λ (l : Literal). l.var == x.var) xs ys ∙ or_from (has_var x.var xs) (has_var x.var ys) (not-true (has_var x.var xs) p.0) (f x (or_left (same_lit x x) (has_lit x xs) (same-lit x))) in
    and_from (not (has_var x.var (xs ++ ys))) (has_distinct_vars (xs ++ ys)) (not_from_false (has_var x.var (xs ++ ys)) none) (apart-differ xs ys p.1 e (λ y h. f y (or_right (same_lit y x) (has_lit y xs) h)))

pub first-clause : (n : ℕ) (es : List Entry) (set : List Literal) → is_clause_over n set ≡ true → has_distinct_vars set ≡ true → IsClauseOfExactlyLiterals n set (unset_literals_first es set)
first-clause n es set w d =
    let p : Literal → Bool = λ l. not (is_set es l.var) in
    let q : Literal → Bool = λ l. is_set es l.var in
    record {
      within = each-within n (unset_literals_first es set) set (λ m h. first-has es set m h) w;
      differ = apart-differ (filter p set) (filter q set) (differ-kept p set d) (differ-kept q set d) (λ x h. elim (cases_Bool (has_var x.var (filter q set))) [
        | inl t ↦ absurd (let y = var-of (filter q set) x.var t in
            let a = kept-from p set x h in
            let b = kept-from q set y.0 y.2 in
            true≢false (sym b.1 ∙ ap (λ (v : ℕ). is_set es v) y.1 ∙ not-true (is_set es x.var) a.1))
        | inr t ↦ t
      ]);
      fewer = λ m h. first-has es set m h;
      more = λ m h. has-first es set m h;
    }

filter-each : (p : Literal → Bool) (ls rest : List Literal) (x : Literal) → filter p ls ≡ x ∷ rest → (m : Literal) → has_lit m (x ∷ rest) ≡ true → (p m ≡ true) × (has_lit m ls ≡ true)
filter-each p ls rest x e m h = (let k = kept-from p ls m (ap (has_lit m) e ∙ h) in (k.1, k.0))

pub first-addable : (es : List Entry) (set : List Literal) (l : Literal) → level_of es ≡ 0 →
    each_may_follow_level 0 es ≡ true → ((m : Literal) → has_lit m set ≡ true → has_lit m (lits_of es) ≡ false) →
    has_lit l set ≡ true → is_set es l.var ≡ false → FirstTwoAreWatchable es (unset_literals_first es set)
first-addable es set l level climb untrue h u = go (filter p set) (filter q set) refl refl
  where
    p : Literal → Bool
    p m = not (is_set es m.var)

    q : Literal → Bool
    q m = is_set es m.var

    now : (m : Literal) → NotFalseBelowCurrentLevel es m
    now m = λ i e at is.
        (let all = entries_up_to-all 0 0 es climb (omega (arith, level)) in
        let low = up-level 0 es i e (ap (λ (xs : List Entry). slice_get xs i) all ∙ at) in
        omega (arith, low, level))

    denied : (ls : List Literal) → ((m : Literal) → has_lit m ls ≡ true → (q m ≡ true) × (has_lit m set ≡ true)) → is_falsified (lits_of es) ls ≡ true
    denied ls f = false-from (lits_of es) ls (λ m x. (let k = f m x in
        let y = var-of (lits_of es) m.var k.0 in
        elim (var-either y.0 m (lits_of es) y.1 y.2) [
          | inl t ↦ absurd (true≢false (sym t ∙ untrue m k.1))
          | inr t ↦ t
        ]))

    own : (x : Literal) (ls : List Literal) → has_lit x (x ∷ ls) ≡ true
    own x ls = or_left (same_lit x x) (has_lit x ls) (same-lit x)

    go : (xs ys : List Literal) → filter p set ≡ xs → filter q set ≡ ys → FirstTwoAreWatchable es (xs ++ ys)
    go [] ys a b = absurd (true≢false (sym (kept-at p set l h (not_from_false (is_set es l.var) u)) ∙ ap (has_lit l) a))
    go (x ∷ []) [] a b = tt
    go (x ∷ []) (y ∷ ys) a b = (not-true (is_set es x.var) (filter-each p set [] x a x (own x [])).0, inr (denied (y ∷ ys) (λ m k. filter-each q set ys y b m k), now y))
    go (x ∷ (z ∷ xs)) ys a b = (not-true (is_set es x.var) (filter-each p set (z ∷ xs) x a x (own x (z ∷ xs))).0, inl (not-true (is_set es z.var) (filter-each p set (z ∷ xs) x a z (or_right (same_lit z x) (has_lit z (z ∷ xs)) (own z xs))).0))

known-grown : (units : List ℕ) (cs more : List (List Literal)) (es : List Entry) (n k : ℕ) → AreUnitHintsByVar units cs es n k → AreUnitHintsByVar units (cs ++ more) es n k
known-grown units cs more es n k h = record {
  sized = h.sized;
  within = h.within;
  told = λ i e b at. (let t = h.told i e b at in (t.0, t.1, at-before cs more t.0 (e.lit ∷ []) t.2));
  only = h.only;
}

not-empty : (c : List Literal) (l : Literal) → has_lit l c ≡ true → is_empty_clause c ≡ false
not-empty [] l h = absurd (true≢false (sym h))
not-empty (x ∷ c) l h = refl

pub taken-clause : (k : DerivationState) (s : Step) → IsStepForCurrentLiterals k s → is_clause_over k.set.vars k.set.lits ≡ true → has_distinct_vars k.set.lits ≡ true → IsClauseOfExactlyLiterals k.formula.now.vars k.set.lits s.clause
taken-clause k s step w d =
    let n = k.formula.now.vars in
    let P : List Literal → Type 0 = λ x. IsClauseOfExactlyLiterals n k.set.lits x in
    subst P (sym step.clause) (first-clause n k.trail.entries k.set.lits (ap (λ (v : ℕ). is_clause_over v k.set.lits) (sym step.loose.set_vars) ∙ w) d)

pub loose-taken : (k : DerivationState) (b : ArenaContent) (s : Step) → IsStepForCurrentLiterals k s →
    IsClauseOfExactlyLiterals k.formula.now.vars k.set.lits s.clause → AreValidNumberedClauses k.clauses → AreValidNumberedClauses b →
    IsClauseAdded k.clauses s.clause b → IsTrail k.trail →
    IsValidMaybeUnpropagated (record k { clauses = b; log = k.log ++ s ∷ [] })
loose-taken k b s step own ka kb added trail =
    let f = k.formula.now in
    let a = k.clauses in
    let es = k.trail.entries in
    let l = step.loose in
    let h = l.held in
    let A : List Literal → Type 0 = λ x. FirstTwoAreWatchable es x in
    let may = subst A (sym step.clause) (first-addable es k.set.lits step.unset h.level trail.climbing step.untrue step.has step.open_) in
    let derived = step-derived f.vars a.clauses k.set.lits s.clause s.hints step.hints own in
    let cs = sym (added-clauses a b s.clause added) in
    let F : List (List Literal) → Type 0 = λ xs. (i : ℕ) → EntryHasReason xs es i in
    let K : List (List Literal) → Type 0 = λ xs. AreUnitHintsByVar k.explainer.units.items xs es f.vars k.explainer.named in
    let L : List (List Literal) → Type 0 = λ xs. AreFormulaAndDerivedClauses f xs (k.log ++ s ∷ []) in
    record {
      held = record {
        vars = ap (λ (x : ArenaContent). x.vars) added.is ∙ h.vars;
        trail_vars = h.trail_vars;
        level = h.level;
        queued = queue-with_clause_added a b es k.queue.head k.queue.settled s.clause h.queued ka kb added may;
        forced = subst F cs (λ i. forced-more a.clauses (s.clause ∷ []) es i (h.forced i));
        known = subst K cs (known-grown k.explainer.units.items a.clauses (s.clause ∷ []) es f.vars k.explainer.named h.known);
        logged = subst L cs (logged-more f a.clauses k.log s h.logged derived (not-empty s.clause step.unset (own.more step.unset step.has)));
      };
      needed_vars = l.needed_vars;
      set_vars = l.set_vars;
    }

pub has-taken : (k m a new : DerivationState) (s : Step) →
    m ≡ record k { clauses = m.clauses; trail = m.trail; queue = m.queue; explainer = m.explainer } →
    m.clauses.clauses ≡ k.clauses.clauses → IsStepForCurrentLiterals m s →
    IsClauseOfExactlyLiterals m.formula.now.vars m.set.lits s.clause → IsClauseAddedWithStep m s a → IsClosedOrRefuted new → HasSameFormulaAndConsequences a new →
    CurrentClauseFollowsAndIsAdded k new
has-taken k m a new s rest cs step own added stands same =
    let old = k.clauses.clauses in
    let vars = ap (λ (b : DerivationState). b.formula.now.vars) rest in
    let is = added-clauses m.clauses a.clauses s.clause added.clauses in
    record {
      stands = stands;
      formula = same.formula ∙ ap (λ (b : DerivationState). b.formula) added.rest ∙ ap (λ (b : DerivationState). b.formula) rest;
      follows = λ d of. (let p = here d of in
          let N : ℕ → Type 0 = λ n. FollowsBySomeHints n m.clauses.clauses d in
          let C : List (List Literal) → Type 0 = λ xs. FollowsBySomeHints k.formula.now.vars xs d in
          subst C cs (subst N vars (s.hints, step-derived m.formula.now.vars m.clauses.clauses m.set.lits d s.hints step.hints p)));
      alike = λ d of. (let p = here d of in
          let C : List (List Literal) → Type 0 = λ xs. AreEquivalent (xs ++ d ∷ []) a.clauses.clauses in
          let A : List (List Literal) → Type 0 = λ xs. AreEquivalent (m.clauses.clauses ++ d ∷ []) xs in
          let more = alike-same m.clauses.clauses d s.clause p.differ own.differ (λ l x. own.more l (p.fewer l x)) (λ l x. p.more l (own.fewer l x)) in
          alike-join (old ++ d ∷ []) a.clauses.clauses new.clauses.clauses (subst C cs (subst A (sym is) more)) same.alike);
    }
  where
    here : (d : List Literal) → IsClauseOfExactlyLiterals k.formula.now.vars k.set.lits d → IsClauseOfExactlyLiterals m.formula.now.vars m.set.lits d
    here d of = (let P : DerivationState → Type 0 = λ b. IsClauseOfExactlyLiterals b.formula.now.vars b.set.lits d in subst P (sym rest) of)

pub taken-known : (k : DerivationState) (l : Literal) → IsClosedOrRefuted k → k.refuted ≡ false → has_lit l k.set.lits ≡ true → has_lit l (lits_of k.trail.entries) ≡ true → CurrentClauseFollowsAndIsAdded k k
taken-known k l st e h t =
    let s = st.going e in
    let cs = k.clauses.clauses in
    let y = entry-of-lit k.trail.entries l t in
    let w = slice_get_within k.trail.entries y.index y.entry y.stands in
    let n = s.loose.held.known.told y.index y.entry (omega (arith, w, s.named)) y.stands in
    let at = n.2 ∙ ap (λ (z : Literal). Some (z ∷ [])) y.is in
    record {
      stands = st;
      formula = refl;
      follows = λ c of. follows-known k.formula.now.vars cs n.0 l c at (of.more l h) of.within of.differ;
      alike = λ c of. alike-known cs n.0 l c at (of.more l h);
    }

pub taken-refuted : (k : DerivationState) → IsClosedOrRefuted k → k.refuted ≡ true → CurrentClauseFollowsAndIsAdded k k
taken-refuted k st e =
    let n = k.formula.now.vars in
    let cs = k.clauses.clauses in
    let r = st.ended e in
    record { stands = st; formula = refl; follows = λ c of. follows-any n cs c of.within of.differ r.follows; alike = λ c of. alike-ended n cs c r.follows }

pub some-fact : {A : Type 0} (o : Option A) (P : A → Type 0) (x : A) → IfSome o P → o ≡ Some x → P x
some-fact {A} o P x h e = (let Q : Option A → Type 0 = λ y. IfSome y P in subst Q e h)

pub none-fact : {A : Type 0} (o : Option A) (P : Type 0) → IfNone o P → o ≡ None → P
none-fact {A} o P h e = (let Q : Option A → Type 0 = λ y. IfNone y P in subst Q e h)
