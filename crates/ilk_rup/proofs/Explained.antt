-- The hints of a walk derive a clause of the literals of the set.
use Rattle.std.proofs.Common.{◌≡◌, ◌+◌, ◌++◌, ◌∷◌, [], ℕ, suc, inl, inr, true, false, List, Some, take, sym, ap, ◌∙◌, arith, add-one, get_or, subst}
use Rattle.std.specs.Prelude.{slice_get}
use Rattle.std.proofs.lemmas.Bool.{true≢false}
use Rattle.ilk_base.proofs.Lists.{take-at, taken-before}
use Rattle.ilk_base.proofs.Ranges.{below_or_past}
use Rattle.ilk_cnf.specs.Literal.{Literal, negated_lit, has_lit, has_distinct_vars}
use Rattle.ilk_cnf.specs.Formula.{Formula, IsFormula}
use Rattle.ilk_watches.specs.Reasons.{nth_clause_or_empty}
use Rattle.ilk_watches.proofs.Within.{clause-there}
use Rattle.ilk_trail.specs.declared.entry.Entry.{Entry}
use Rattle.ilk_trail.specs.Laws.{lits_of}
use Rattle.ilk_trail.proofs.Entries.{entry-lit}
use Rattle.ilk_watches.proofs.Entries.{entry-of-lit}
use Rattle.ilk_learn.proofs.Members.{same-var}
use Rattle.ilk_rup.specs.Needs.{HintsDeriveClauseOfLiterals, IsClauseFalseApartFromSet, AreUnitHintsByVar, AreNeededLitsAfterClauseExamined, HintsFalsifyGivenNeededLits, unit_hints_of_needed}
use Rattle.ilk_rup.proofs.Explaining.{not-in, shows-start, shows-end}
use Rattle.ilk_rup.proofs.Passing.{lits-taken, once-taken}

pub shown-first : (f : Formula) (es : List Entry) (set needed : List Literal) (c from top known : ℕ) →
    IsFormula f → has_distinct_vars (lits_of es) ≡ true → IsClauseFalseApartFromSet f.clauses es set c from top known →
    AreNeededLitsAfterClauseExamined set (nth_clause_or_empty f.clauses c) [] needed →
    HintsFalsifyGivenNeededLits f.clauses (lits_of (take top es)) (lits_of (take top es)) set needed ((c + 1) ∷ [])
shown-first f es set needed c from top known k once x n =
    let P : ℕ → Type 0 = λ h. HintsFalsifyGivenNeededLits f.clauses (lits_of (take top es)) (lits_of (take top es)) set needed (h ∷ []) in
    subst P (sym (add-one c)) (shows-start f.clauses (lits_of (take top es)) set (nth_clause_or_empty f.clauses c) needed c (clause-there f.clauses c x.clause) (once-taken es top once) x.denied n)

pub explained :
    (cs : List (List Literal)) (es : List Entry) (set needed : List Literal) (units hints : List ℕ)
    (c from top known n : ℕ) →
    IsClauseFalseApartFromSet cs es set c from top known → AreUnitHintsByVar units cs es n known → has_distinct_vars (lits_of es) ≡ true →
    has_distinct_vars needed ≡ true → HintsFalsifyGivenNeededLits cs (lits_of (take top es)) (lits_of (take from es)) set needed hints →
    HintsDeriveClauseOfLiterals cs set (unit_hints_of_needed units needed ++ hints)
explained cs es set needed units hints c from top known n x k once apart s = λ d differ fewer more.
    shows-end cs (lits_of (take top es)) (lits_of (take from es)) set needed units hints d s apart (λ l u h e. named l u h e) (λ l h b. unit l h b) fewer more
  where
    inside : (l : Literal) → has_lit l needed ≡ true → has_lit l (lits_of es) ≡ true
    inside l h = (let y = entry-of-lit (take top es) l (s.within l h) in ap (λ (m : Literal). has_lit m (lits_of es)) (sym y.is) ∙ entry-lit es y.index y.entry (taken-before top es y.index y.entry y.stands).1)

    named : (l : Literal) (u : ℕ) → has_lit l needed ≡ true → get_or units l.var 0 ≡ suc u → (slice_get cs u ≡ Some (l ∷ [])) × (has_lit l set ≡ false) × (has_lit l (lits_of (take from es)) ≡ true)
    named l u h e =
        let o = k.only l.var u e in
        let t = k.told o.0 o.1 o.2 o.3 in
        let same : o.1.lit ≡ l = same-var (lits_of es) o.1.lit l once (entry-lit es o.0 o.1 o.3) (inside l h) o.4 in
        let z : suc t.0 ≡ suc u = sym t.1 ∙ ap (λ (v : ℕ). get_or units v 0) o.4 ∙ e in
        let number : t.0 ≡ u = omega (arith, z) in
        let early : has_lit l (lits_of (take known es)) ≡ true = ap (λ (y : Literal). has_lit y (lits_of (take known es))) (sym same) ∙ entry-lit (take known es) o.0 o.1 (take-at es o.0 known o.1 o.2 o.3) in (
          ap (slice_get cs) (sym number) ∙ t.2 ∙ ap (λ (y : Literal). Some (y ∷ [])) same,
          not-in l set (λ w. true≢false (sym early ∙ x.untrue l w)),
          lits-taken es known from l x.known_in early,
        )

    unit : (l : Literal) → has_lit l needed ≡ true → has_lit l (lits_of (take from es)) ≡ true → (u : ℕ) × (get_or units l.var 0 ≡ suc u)
    unit l h c =
        let y = entry-of-lit (take from es) l c in
        let b = taken-before from es y.index y.entry y.stands in
        elim (below_or_past y.index known) [
          | inl q ↦ (let t = k.told y.index y.entry q b.1 in (t.0, ap (λ (z : Literal). get_or units z.var 0) (sym y.is) ∙ t.1))
          | inr q ↦ absurd (true≢false (sym (ap (λ (z : Literal). has_lit (negated_lit z) set) (sym y.is) ∙ x.assumed y.index y.entry q b.0 b.1) ∙ s.apart l h))
        ]
