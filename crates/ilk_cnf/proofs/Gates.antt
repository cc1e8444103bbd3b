-- The meaning of a part's clauses, and the range of their variables.
use Rattle.std.proofs.Common.{◌≡◌, ℕ, ◌+◌, Bool, true, false, not, ◌&&◌, ◌||◌, List, [], ◌∷◌, ◌++◌, map, cond, refl, sym, ap, ◌∙◌, arith, inl, inr, append_assoc}
use Rattle.std.specs.List.{list_all}
use Rattle.std.proofs.Math.Bool.{beq}
use Rattle.std.proofs.lemmas.List.{append-nil}
use Rattle.std.proofs.lemmas.List.Folds.{list_all-append}
use Rattle.std.proofs.lemmas.Bool.{and_parts, and_from, or_cases, eqb-true, le-leb, lt-ltb, false≢true, or_right}
use Rattle.ilk_cnf.specs.Literal.{Literal, negated_lit, positive_lit, negative_lit, has_lit, same_lit}
use Rattle.ilk_cnf.specs.Formula.{Formula, with_var_count_and_clauses, is_lit_over, is_clause_over, are_clauses_over, deduped_lits, is_tautology, clause_unless_tautology}
use Rattle.ilk_cnf.specs.Truth.{value, is_true, is_clause_true, satisfies}
use Rattle.ilk_cnf.specs.Part.{FormulaPart, clauses_from_lists, with_part, and_then, and_gate_clauses, and_gate_part, or_gate_part}
use Rattle.ilk_cnf.proofs.Literals.{is_clause_over-more}

pub is_true-negated_lit : (a : List Bool) (l : Literal) → is_true a (negated_lit l) ≡ not (is_true a l)
is_true-negated_lit a l = other l.positive (value a l.var)
  where
    other : (p v : Bool) → cond (not p) v (not v) ≡ not (cond p v (not v))
    other true true = refl
    other true false = refl
    other false true = refl
    other false false = refl

pub negated_lit-negated_lit : (l : Literal) → negated_lit (negated_lit l) ≡ l
negated_lit-negated_lit l = ap (λ (p : Bool). let m : Literal = record { var = l.var; positive = p } in m) (twice l.positive)
  where
    twice : (p : Bool) → not (not p) ≡ p
    twice true = refl
    twice false = refl

same_lit-true : (a : List Bool) (l m : Literal) → same_lit l m ≡ true → is_true a l ≡ is_true a m
same_lit-true a l m h =
    let parts = and_parts _ _ h in
    let v : l.var ≡ m.var = eqb-true l.var m.var parts.0 in
    let p : l.positive ≡ m.positive = same l.positive m.positive parts.1 in
    rw (v, p) refl
  where
    same : (p q : Bool) → cond p q (not q) ≡ true → p ≡ q
    same true true h = refl
    same true false h = absurd (false≢true h)
    same false true h = absurd (false≢true h)
    same false false h = refl

has-true : (a : List Bool) (l : Literal) (ls : List Literal) → has_lit l ls ≡ true → is_true a l ≡ true → is_clause_true a ls ≡ true
has-true a l [] h t = absurd (false≢true h)
has-true a l (m ∷ ls) h t =
    elim (or_cases _ _ h) [
      | inl here ↦ (let e : is_true a m ≡ true = sym (same_lit-true a l m here) ∙ t in rw e refl)
      | inr there ↦ or_right (is_true a m) (is_clause_true a ls) (has-true a l ls there t)
    ]

is_clause_true-distinct : (a : List Bool) (ls : List Literal) → is_clause_true a (deduped_lits ls) ≡ is_clause_true a ls
is_clause_true-distinct a [] = refl
is_clause_true-distinct a (l ∷ ls) = by_case (has_lit l ls) refl (is_clause_true-distinct a ls)
  where
    skip : (p r : Bool) → (p ≡ true → r ≡ true) → r ≡ (p || r)
    skip true r h = h refl
    skip false r h = refl

    by_case : (h : Bool) → has_lit l ls ≡ h → is_clause_true a (deduped_lits ls) ≡ is_clause_true a ls → is_clause_true a (cond h (deduped_lits ls) (l ∷ deduped_lits ls)) ≡ (is_true a l || is_clause_true a ls)
    by_case true h rest = rest ∙ skip (is_true a l) (is_clause_true a ls) (has-true a l ls h)
    by_case false h rest = ap (λ (r : Bool). is_true a l || r) rest

tautology-true : (a : List Bool) (ls : List Literal) → is_tautology ls ≡ true → is_clause_true a ls ≡ true
tautology-true a [] h = absurd (false≢true h)
tautology-true a (l ∷ ls) h =
    elim (or_cases _ _ h) [
      | inl here ↦ by_case (is_true a l) refl here
      | inr there ↦ or_right (is_true a l) (is_clause_true a ls) (tautology-true a ls there)
    ]
  where
    by_case : (t : Bool) → is_true a l ≡ t → has_lit (negated_lit l) ls ≡ true → (t || is_clause_true a ls) ≡ true
    by_case true t here = refl
    by_case false t here = has-true a (negated_lit l) ls here (is_true-negated_lit a l ∙ ap not t)

pub satisfies-clause_unless_tautology : (a : List Bool) (ls : List Literal) → satisfies a (clause_unless_tautology ls) ≡ is_clause_true a ls
satisfies-clause_unless_tautology a ls = by_case (is_tautology ls) refl
  where
    end : (b : Bool) → (b && true) ≡ b
    end true = refl
    end false = refl

    by_case : (t : Bool) → is_tautology ls ≡ t → satisfies a (cond t [] (deduped_lits ls ∷ [])) ≡ is_clause_true a ls
    by_case true t = sym (tautology-true a ls t)
    by_case false t = end _ ∙ is_clause_true-distinct a ls

-- The clauses of a part are equivalent to its lists of literals.
pub satisfies-clauses_from_lists : (a : List Bool) (lss : List (List Literal)) → satisfies a (clauses_from_lists lss) ≡ satisfies a lss
satisfies-clauses_from_lists a [] = refl
satisfies-clauses_from_lists a (ls ∷ lss) =
    list_all-append (is_clause_true a) (clause_unless_tautology ls) (clauses_from_lists lss) ∙ (let one = satisfies-clause_unless_tautology a ls in let rest = satisfies-clauses_from_lists a lss in rw (one, rest) refl)

pub clauses_from_lists-append : (lss mss : List (List Literal)) → clauses_from_lists (lss ++ mss) ≡ clauses_from_lists lss ++ clauses_from_lists mss
clauses_from_lists-append [] mss = refl
clauses_from_lists-append (ls ∷ lss) mss = ap (λ (cs : List (List Literal)). clause_unless_tautology ls ++ cs) (clauses_from_lists-append lss mss) ∙ sym (append_assoc (clause_unless_tautology ls) (clauses_from_lists lss) (clauses_from_lists mss))

pub with_part-and_then : (f : Formula) (p : FormulaPart) (q : ℕ → FormulaPart) → with_part (with_part f p) (q p.vars) ≡ with_part f (and_then p q)
with_part-and_then f p q =
    let joined = clauses_from_lists-append p.clauses (q p.vars).clauses in
    rw (joined, append_assoc) refl

-- The same for lists of literals that add no variable.
pub grown_more : (f g h : Formula) (lss mss : List (List Literal)) → g ≡ with_var_count_and_clauses f f.vars (clauses_from_lists lss) → h ≡ with_var_count_and_clauses g g.vars (clauses_from_lists mss) → h ≡ with_var_count_and_clauses f f.vars
    (clauses_from_lists (lss ++ mss))
grown_more f g h lss mss first next =
    let joined = clauses_from_lists-append lss mss in
    next ∙ rw (first, joined, append_assoc) refl

pub grown_one : (f g h : Formula) (lss : List (List Literal)) (ls : List Literal) → g ≡ with_var_count_and_clauses f f.vars (clauses_from_lists lss) → h ≡ with_var_count_and_clauses g g.vars (clause_unless_tautology ls) →
    h ≡ with_var_count_and_clauses f f.vars (clauses_from_lists (lss ++ ls ∷ []))
grown_one f g h lss ls first next =
    let whole : clause_unless_tautology ls ≡ clause_unless_tautology ls ++ [] = sym (append-nil (clause_unless_tautology ls)) in
    grown_more f g h lss (ls ∷ []) first (next ∙ ap (λ (cs : List (List Literal)). with_var_count_and_clauses g g.vars cs) whole)

-- Gates

pub opposites-in : (n : ℕ) (ls : List Literal) → is_clause_over n ls ≡ true → is_clause_over n (map negated_lit ls) ≡ true
opposites-in n [] h = refl
opposites-in n (l ∷ ls) h = let parts = and_parts _ _ h in and_from _ _ parts.0 (opposites-in n ls parts.1)

pub is_clause_true-opposites : (a : List Bool) (ls : List Literal) → is_clause_true a (map negated_lit ls) ≡ not (list_all (is_true a) ls)
is_clause_true-opposites a [] = refl
is_clause_true-opposites a (l ∷ ls) =
    let here = is_true-negated_lit a l in
    let rest = is_clause_true-opposites a ls in
    rw (here, rest) (apart (is_true a l) (list_all (is_true a) ls))
  where
    apart : (p q : Bool) → (not p || not q) ≡ not (p && q)
    apart true q = refl
    apart false q = refl

pub all_true-opposites : (a : List Bool) (ls : List Literal) → list_all (is_true a) (map negated_lit ls) ≡ not (is_clause_true a ls)
all_true-opposites a [] = refl
all_true-opposites a (l ∷ ls) =
    let here = is_true-negated_lit a l in
    let rest = all_true-opposites a ls in
    rw (here, rest) (apart (is_true a l) (is_clause_true a ls))
  where
    apart : (p q : Bool) → (not p && not q) ≡ not (p || q)
    apart true q = refl
    apart false q = refl

pub each-implied : (a : List Bool) (g : Literal) (ls : List Literal) → satisfies a (map (λ l. negated_lit g ∷ l ∷ []) ls) ≡ (not (is_true a g) || list_all (is_true a) ls)
each-implied a g [] = always (not (is_true a g))
  where
    always : (b : Bool) → true ≡ (b || true)
    always true = refl
    always false = refl
each-implied a g (l ∷ ls) =
    let here = is_true-negated_lit a g in
    let rest = each-implied a g ls in
    rw (rest, here) (pair (is_true a g) (is_true a l) (list_all (is_true a) ls))
  where
    pair : (w l r : Bool) → ((not w || (l || false)) && (not w || r)) ≡ (not w || (l && r))
    pair true true r = refl
    pair true false r = refl
    pair false l r = refl

pub satisfies-and_gate_clauses : (a : List Bool) (g : Literal) (ls : List Literal) → satisfies a (and_gate_clauses g ls) ≡ beq (is_true a g) (list_all (is_true a) ls)
satisfies-and_gate_clauses a g ls =
    list_all-append (is_clause_true a) (map (λ l. negated_lit g ∷ l ∷ []) ls) ((g ∷ map negated_lit ls) ∷ [])
    ∙ (let one = each-implied a g ls in let two = is_clause_true-opposites a ls in rw (one, two) (both (is_true a g) (list_all (is_true a) ls)))
  where
    both : (w s : Bool) → ((not w || s) && ((w || not s) && true)) ≡ beq w s
    both true true = refl
    both true false = refl
    both false true = refl
    both false false = refl

implied-in : (n : ℕ) (g : Literal) (ls : List Literal) → is_lit_over n g ≡ true → is_clause_over n ls ≡ true → are_clauses_over n (map (λ l. negated_lit g ∷ l ∷ []) ls) ≡ true
implied-in n g [] h k = refl
implied-in n g (l ∷ ls) h k =
    let parts = and_parts _ _ k in
    and_from _ _ (and_from _ _ h (and_from _ _ parts.0 refl)) (implied-in n g ls h parts.1)

pub and_gate_clauses-in : (n : ℕ) (g : Literal) (ls : List Literal) → is_lit_over n g ≡ true → is_clause_over n ls ≡ true → are_clauses_over n (and_gate_clauses g ls) ≡ true
and_gate_clauses-in n g ls h k =
    list_all-append (is_clause_over n) (map (λ l. negated_lit g ∷ l ∷ []) ls) ((g ∷ map negated_lit ls) ∷ [])
    ∙ and_from _ _ (implied-in n g ls h k) (and_from _ _ (and_from _ _ h (opposites-in n ls k)) refl)

pub new-in : (n : ℕ) (p : Bool) → is_lit_over (n + 1) (record { var = n + 1; positive = p }) ≡ true
new-in n p = and_from _ _ (lt-ltb 0 (n + 1) (omega arith)) (le-leb (n + 1) (n + 1) (omega arith))

pub all_of-in : (n : ℕ) (ls : List Literal) → is_clause_over n ls ≡ true → are_clauses_over (n + 1) (and_gate_part ls n).clauses ≡ true
all_of-in n ls h = and_gate_clauses-in (n + 1) (positive_lit (n + 1)) ls (new-in n true) (is_clause_over-more n (n + 1) ls (omega arith) h)

pub any_of-in : (n : ℕ) (ls : List Literal) → is_clause_over n ls ≡ true → are_clauses_over (n + 1) (or_gate_part ls n).clauses ≡ true
any_of-in n ls h =
    and_gate_clauses-in (n + 1) (negative_lit (n + 1)) (map negated_lit ls) (new-in n false) (is_clause_over-more n (n + 1) (map negated_lit ls) (omega arith) (opposites-in n ls h))

pub gate_clause-in : (n : ℕ) (g : Literal) (ls : List Literal) → is_clause_over n (g ∷ []) ≡ true → is_clause_over n ls ≡ true → is_clause_over n (g ∷ map negated_lit ls) ≡ true
gate_clause-in n g ls h k = and_from _ _ (and_parts _ _ h).0 (opposites-in n ls k)
