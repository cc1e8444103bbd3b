-- The variables of the frames' clauses, and the steps of the loops that add them.
use Rattle.std.proofs.Common.{◌≡◌, ◌==◌, ℕ, ◌+◌, ◌<◌, ◌≤◌, Bool, true, false, ◌&&◌, List, [], ◌∷◌, ◌++◌, length, take, drop, ◌⊎◌, inl, inr, cond, refl, sym, ap, ◌∙◌, arith, append_assoc}
use Rattle.std.proofs.lemmas.List.{append-nil, drop_all}
use Rattle.std.proofs.lemmas.List.Folds.{list_all-append}
use Rattle.std.proofs.lemmas.Bool.{and_parts, and_from, cond_both, lt-ltb, le-leb}
use Rattle.ilk_cnf.specs.Literal.{Literal, negative_lit, negated_lit}
use Rattle.ilk_cnf.specs.Formula.{Formula, with_var_count_and_clauses, is_lit_over, is_clause_over, are_clauses_over}
use Rattle.ilk_cnf.specs.Part.{clauses_from_lists}
use Rattle.ilk_cnf.proofs.Gates.{clauses_from_lists-append, grown_more}
use Rattle.ilk_ir.specs.System.{PlainRule}
use Rattle.ilk_forms.specs.declared.copy.VarValueAndBoundLits.{VarValueAndBoundLits}
use Rattle.ilk_forms.specs.Leaf.{has_lits_within_vars}
use Rattle.ilk_forms.proofs.DemandLaw.{joined-in}
use Rattle.ilk_step.specs.Frame.{sets_variable, setter_lits, equal_unless_any_true, value_lits_to_carry_over, frame_axiom, frame_axioms}

pub setter_lits-in : (rs : List PlainRule) (v k n : ℕ) → 0 < k → k + length rs ≤ n + 1 → is_clause_over n (setter_lits v k rs) ≡ true
setter_lits-in [] v k n low high = refl
setter_lits-in (r ∷ rs) v k n low high =
    let rest = setter_lits-in rs v (k + 1) n (omega arith) (omega arith) in
    cond_both (sets_variable v r.sets) (negative_lit k ∷ setter_lits v (k + 1) rs) (setter_lits v (k + 1) rs) (λ ls. is_clause_over n ls ≡ true) (λ _. and_from _ _ (and_from _ _ (lt-ltb 0 k low) (le-leb k n (omega arith))) rest) (λ _. rest)

pub value_lits_to_carry_over-in : (n : ℕ) (ls : List Literal) → is_clause_over n ls ≡ true → is_clause_over n (value_lits_to_carry_over ls) ≡ true
value_lits_to_carry_over-in n ls h = by_case (length ls == 2)
  where
    first_in : (ls : List Literal) → is_clause_over n ls ≡ true → is_clause_over n (take 1 ls) ≡ true
    first_in [] h = refl
    first_in (l ∷ ls) h = and_from _ _ (and_parts _ _ h).0 refl

    by_case : (b : Bool) → is_clause_over n (cond b (take 1 ls) ls) ≡ true
    by_case true = first_in ls h
    by_case false = h

equal_unless_any_true-in : (ls ms first : List Literal) (n : ℕ) → is_clause_over n first ≡ true → is_clause_over n ls ≡ true → is_clause_over n ms ≡ true → are_clauses_over n (equal_unless_any_true first ls ms) ≡ true
equal_unless_any_true-in [] ms first n f h k = refl
equal_unless_any_true-in (l ∷ ls) [] first n f h k = refl
equal_unless_any_true-in (l ∷ ls) (m ∷ ms) first n f h k =
    let one = and_parts (is_lit_over n l) (is_clause_over n ls) h in
    let two = and_parts (is_lit_over n m) (is_clause_over n ms) k in
    and_from _ _ (joined-in first (negated_lit l ∷ m ∷ []) n f (and_from _ _ one.0 (and_from _ _ two.0 refl)))
    (and_from _ _
    (joined-in first (l ∷ negated_lit m ∷ []) n f (and_from _ _ one.0 (and_from _ _ two.0 refl)))
    (equal_unless_any_true-in ls ms first n f one.1 two.1))

frame-in : (first : List Literal) (c d : VarValueAndBoundLits) (n : ℕ) → is_clause_over n first ≡ true → (is_clause_over n c.values && is_clause_over n c.bounds) ≡ true → (is_clause_over n d.values && is_clause_over n d.bounds) ≡ true
    → are_clauses_over n (frame_axiom first c d) ≡ true
frame-in first c d n f h k =
    let one = and_parts (is_clause_over n c.values) (is_clause_over n c.bounds) h in
    let two = and_parts (is_clause_over n d.values) (is_clause_over n d.bounds) k in
    list_all-append (is_clause_over n) (equal_unless_any_true first (value_lits_to_carry_over c.values) (value_lits_to_carry_over d.values)) (equal_unless_any_true first c.bounds d.bounds)
    ∙ and_from _ _ (equal_unless_any_true-in (value_lits_to_carry_over c.values) (value_lits_to_carry_over d.values) first n f (value_lits_to_carry_over-in n c.values one.0) (value_lits_to_carry_over-in n d.values two.0)) (equal_unless_any_true-in
    c.bounds d.bounds first n f one.1 two.1)

pub frame_axioms-in : (now next : List VarValueAndBoundLits) (rs : List PlainRule) (k v n : ℕ) → 0 < k → k + length rs ≤ n + 1 → has_lits_within_vars n now ≡ true → has_lits_within_vars n next ≡ true →
    are_clauses_over n (frame_axioms rs k v now next) ≡ true
frame_axioms-in [] next rs k v n low high h x = refl
frame_axioms-in (c ∷ now) [] rs k v n low high h x = refl
frame_axioms-in (c ∷ now) (d ∷ next) rs k v n low high h x =
    let one = and_parts (is_clause_over n c.values && is_clause_over n c.bounds) (has_lits_within_vars n now) h in
    let two = and_parts (is_clause_over n d.values && is_clause_over n d.bounds) (has_lits_within_vars n next) x in
    list_all-append (is_clause_over n) (frame_axiom (setter_lits v k rs) c d) (frame_axioms rs k (v + 1) now next)
    ∙ and_from _ _ (frame-in (setter_lits v k rs) c d n (setter_lits-in rs v k n low high) one.0 two.0) (frame_axioms-in now next rs k (v + 1) n low high one.1 two.1)

pub rest_of : (old done : List (List Literal)) (added rest all : List (List Literal)) (whole : List (List Literal)) → all ≡ added ++ rest → done ≡ old ++ clauses_from_lists added → old ++ clauses_from_lists all ≡ whole →
    done ++ clauses_from_lists rest ≡ whole
rest_of old done added rest all whole split made h =
    ap (λ (cs : List (List Literal)). cs ++ clauses_from_lists rest) made
    ∙ append_assoc old (clauses_from_lists added) (clauses_from_lists rest)
    ∙ ap (λ (cs : List (List Literal)). old ++ cs) (sym (clauses_from_lists-append added rest) ∙ ap clauses_from_lists (sym split))
    ∙ h

pub equal_unless_any_true-none : (first ls : List Literal) → equal_unless_any_true first ls [] ≡ []
equal_unless_any_true-none first [] = refl
equal_unless_any_true-none first (l ∷ ls) = refl

pub equal_unless_any_true-end : (i : ℕ) (first ls ms : List Literal) → (length ls ≤ i) ⊎ (length ms ≤ i) → equal_unless_any_true first (drop i ls) (drop i ms) ≡ []
equal_unless_any_true-end i first ls ms (inl h) = ap (λ (ks : List Literal). equal_unless_any_true first ks (drop i ms)) (drop_all i ls h)
equal_unless_any_true-end i first ls ms (inr h) = ap (equal_unless_any_true first (drop i ls)) (drop_all i ms h) ∙ equal_unless_any_true-none first (drop i ls)

pub as_grown : (f g : Formula) (cs : List (List Literal)) → g.vars ≡ f.vars → g.clauses ≡ f.clauses ++ cs → g ≡ with_var_count_and_clauses f f.vars cs
as_grown f g cs vars clauses =
    ap (λ (n : ℕ). let h : Formula = record { vars = n; clauses = g.clauses } in h) vars ∙ ap (λ (ds : List (List Literal)). let h : Formula = record { vars = f.vars; clauses = ds } in h) clauses

pub carried_all : (f g : Formula) (i : ℕ) (first ls ms : List Literal) → (length ls ≤ i) ⊎ (length ms ≤ i) →
    g.vars ≡ f.vars →
    g.clauses ++ clauses_from_lists (equal_unless_any_true first (drop i ls) (drop i ms))
    ≡ f.clauses ++ clauses_from_lists (equal_unless_any_true first ls ms) →
    g ≡ with_var_count_and_clauses f f.vars (clauses_from_lists (equal_unless_any_true first ls ms))
carried_all f g i first ls ms past vars rest =
    as_grown f g (clauses_from_lists (equal_unless_any_true first ls ms)) vars (sym (append-nil g.clauses) ∙ sym (ap (λ (cs : List (List Literal)). g.clauses ++ clauses_from_lists cs) (equal_unless_any_true-end i first ls ms past)) ∙ rest)

pub frame_made : (f g h : Formula) (first ls ms ks js : List Literal) (c d : VarValueAndBoundLits) → ls ≡ value_lits_to_carry_over c.values →
    ms ≡ value_lits_to_carry_over d.values → ks ≡ c.bounds → js ≡ d.bounds →
    g ≡ with_var_count_and_clauses f f.vars (clauses_from_lists (equal_unless_any_true first ls ms)) →
    h ≡ with_var_count_and_clauses g g.vars (clauses_from_lists (equal_unless_any_true first ks js)) →
    h ≡ with_var_count_and_clauses f f.vars (clauses_from_lists (frame_axiom first c d))
frame_made f g h first ls ms ks js c d one two three four made more =
    grown_more f g h (equal_unless_any_true first (value_lits_to_carry_over c.values) (value_lits_to_carry_over d.values)) (equal_unless_any_true first c.bounds d.bounds) (made ∙ rw (one, two) refl) (more ∙ rw (three, four) refl)

pub frames_step :
    (f g : Formula) (rs : List PlainRule) (k v : ℕ) (now next later after : List VarValueAndBoundLits) (c d : VarValueAndBoundLits)
    (ls : List Literal) (whole : List (List Literal)) →
    now ≡ c ∷ later → next ≡ d ∷ after → ls ≡ setter_lits v k rs →
    g ≡ with_var_count_and_clauses f f.vars (clauses_from_lists (frame_axiom ls c d)) →
    f.clauses ++ clauses_from_lists (frame_axioms rs k v now next) ≡ whole →
    g.clauses ++ clauses_from_lists (frame_axioms rs k (v + 1) later after) ≡ whole
frames_step f g rs k v now next later after c d ls whole one two three made h =
    let first : frame_axiom (setter_lits v k rs) c d ≡ frame_axiom ls c d = ap (λ (ks : List Literal). frame_axiom ks c d) (sym three) in
    let split : frame_axioms rs k v now next ≡ frame_axiom ls c d ++ frame_axioms rs k (v + 1) later after =
    ap (λ (u : List VarValueAndBoundLits). frame_axioms rs k v u next) one ∙ ap (frame_axioms rs k v (c ∷ later)) two ∙ ap (λ (cs : List (List Literal)). cs ++ frame_axioms rs k (v + 1) later after) first in
    rest_of f.clauses g.clauses (frame_axiom ls c d) (frame_axioms rs k (v + 1) later after) (frame_axioms rs k v now next) whole split (ap (λ (u : Formula). u.clauses) made) h
