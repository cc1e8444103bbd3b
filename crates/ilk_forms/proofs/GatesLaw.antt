-- Gates: each new variable has one value, and each gate's literal is true exactly if all of its
-- literals are. One literal in place of several is true as they are.
use Rattle.std.proofs.Common.{◌≡◌, ℕ, zero, suc, ◌+◌, ◌≤◌, ◌==◌, Bool, true, false, not, ◌&&◌, List, [], ◌∷◌, ◌++◌, length, map, cond, slice_get, find, Option, Some, None, option_map, refl, sym, ap, ◌∙◌, subst, arith, append_assoc, length-append}
use Rattle.std.specs.Cmp.{both_ways}
use Rattle.std.specs.List.{list_all, list_any}
use Rattle.std.proofs.Math.Bool.{beq}
use Rattle.std.proofs.lemmas.List.{append-nil}
use Rattle.std.proofs.lemmas.List.Concat.{flat_map-append}
use Rattle.std.proofs.lemmas.List.Folds.{list_all-append, list_all-map}
use Rattle.std.proofs.lemmas.Option.{same_Some}
use Rattle.std.proofs.lemmas.Bool.{and_parts, and_from, eqb-true, eq-eqb, lt-ltb, le-leb}
use Rattle.ilk_base.proofs.Tested.{list_any-at, list_any-map, list_all-weaken, list_all-slice_get, find-at}
use Rattle.ilk_cnf.specs.Literal.{Literal, has_lit, same_lit}
use Rattle.ilk_cnf.specs.Formula.{is_lit_over, is_clause_over, are_clauses_over}
use Rattle.ilk_cnf.specs.Truth.{value, is_true, is_clause_true}
use Rattle.ilk_cnf.specs.Extends.{ExtensionsAreExactly, EqualsGivenValues}
use Rattle.ilk_cnf.specs.Part.{and_gate_clauses, and_then}
use Rattle.ilk_cnf.proofs.Parts.{value-new, is_true-left, one_by_one}
use Rattle.ilk_cnf.proofs.Literals.{is_lit_over-more, is_lit_over-parts, is_clause_over-more}
use Rattle.ilk_cnf.proofs.SameLiterals.{lit-is}
use Rattle.ilk_cnf.proofs.Gates.{is_true-negated_lit, satisfies-and_gate_clauses, and_gate_clauses-in, opposites-in, all_true-opposites, new-in}
use Rattle.ilk_cnf.proofs.Extending.{one_more_if, no_more_if, only_from_if, all_true-left}
use Rattle.ilk_forms.specs.declared.gates.AndGate.{AndGate}
use Rattle.ilk_forms.specs.Gates.{bools_are_equal, with_sign, gates_part, gate_value, gate_values, GatesHold, gates_within, have_same_lits_in_any_order, least_var, lit_of_known_gate, lits_negated_unless_all, new_gate, LitWithGates, lit_or_new_gate, combined_lit}

-- Returns whether the gates are new after the first `n` variables: each has the next variable, and
-- literals of earlier ones.
abbrev pub gates_fit : ℕ → List AndGate → Bool
gates_fit n [] = true
gates_fit n (g ∷ gates) = (g.lit.var == n + 1) && (is_clause_over n g.lits && gates_fit (n + 1) gates)

-- Returns whether all values are true (`all`), or at least one is (otherwise).
abbrev pub gate_truth : Bool → List Bool → Bool
gate_truth all qs = cond all (list_all (λ q. q) qs) (list_any (λ q. q) qs)

pub alone : (all q : Bool) → gate_truth all (q ∷ []) ≡ q
alone true true = refl
alone true false = refl
alone false true = refl
alone false false = refl

pub signed-says : (a : List Bool) (positive : Bool) (l : Literal) → is_true a (with_sign positive l) ≡ bools_are_equal positive (is_true a l)
signed-says a true l = refl
signed-says a false l = is_true-negated_lit a l

pub signed-in : (positive : Bool) (n : ℕ) (l : Literal) → is_lit_over n l ≡ true → is_lit_over n (with_sign positive l) ≡ true
signed-in true n l h = h
signed-in false n l h = h

-- Lists of gates

pub gates_fit-append : (gs hs : List AndGate) (n : ℕ) → gates_fit n (gs ++ hs) ≡ (gates_fit n gs && gates_fit (n + length gs) hs)
gates_fit-append [] hs n = ap (λ (k : ℕ). gates_fit k hs) (omega arith)
gates_fit-append (g ∷ gs) hs n =
    let new = g.lit.var == n + 1 in
    let inside = is_clause_over n g.lits in
    let count : n + 1 + length gs ≡ n + length (g ∷ gs) = omega arith in
    let rest : gates_fit (n + 1) (gs ++ hs) ≡ (gates_fit (n + 1) gs && gates_fit (n + length (g ∷ gs)) hs) = gates_fit-append gs hs (n + 1) ∙ ap (λ (k : ℕ). gates_fit (n + 1) gs && gates_fit k hs) count in
    ap (λ (b : Bool). new && (inside && b)) rest ∙ grouped new inside (gates_fit (n + 1) gs) (gates_fit (n + length (g ∷ gs)) hs)
  where
    grouped : (p q r s : Bool) → (p && (q && (r && s))) ≡ ((p && (q && r)) && s)
    grouped true true r s = refl
    grouped true false r s = refl
    grouped false q r s = refl

pub gates_within-append : (gs hs : List AndGate) (n : ℕ) → gates_within n (gs ++ hs) ≡ (gates_within n gs && gates_within n hs)
gates_within-append gs hs n = list_all-append (λ (g : AndGate). is_lit_over n g.lit && is_clause_over n g.lits) gs hs

pub gates_within-more : (m n : ℕ) (gs : List AndGate) → m ≤ n → gates_within m gs ≡ true → gates_within n gs ≡ true
gates_within-more m n gs le h =
    list_all-weaken (λ (g : AndGate). is_lit_over m g.lit && is_clause_over m g.lits) (λ (g : AndGate). is_lit_over n g.lit && is_clause_over n g.lits)
    (λ g k. let parts = and_parts _ _ k in and_from _ _ (is_lit_over-more m n g.lit le parts.0) (is_clause_over-more m n g.lits le parts.1)) gs h

fit-parts : (n : ℕ) (g : AndGate) (gs : List AndGate) → gates_fit n (g ∷ gs) ≡ true → (g.lit.var ≡ n + 1) × (is_clause_over n g.lits ≡ true) × (gates_fit (n + 1) gs ≡ true)
fit-parts n g gs h =
    let parts = and_parts _ _ h in
    let inner = and_parts _ _ parts.1 in
    (eqb-true g.lit.var (n + 1) parts.0, inner.0, inner.1)

new_lit-in : (n : ℕ) (l : Literal) → l.var ≡ n + 1 → is_lit_over (n + 1) l ≡ true
new_lit-in n l e = and_from _ _ (lt-ltb 0 l.var (omega (arith, e))) (le-leb l.var (n + 1) (omega (arith, e)))

pub gates_fit-within : (gs : List AndGate) (n : ℕ) → gates_fit n gs ≡ true → gates_within (n + length gs) gs ≡ true
gates_fit-within [] n h = refl
gates_fit-within (g ∷ gs) n h =
    let k = n + length (g ∷ gs) in
    let parts = fit-parts n g gs h in
    let lit : is_lit_over (n + 1) g.lit ≡ true = new_lit-in n g.lit parts.0 in
    let count : n + 1 + length gs ≡ k = omega arith in
    let rest = subst (λ (m : ℕ). gates_within m gs ≡ true) count (gates_fit-within gs (n + 1) parts.2) in
    and_from _ _ (and_from _ _ (is_lit_over-more (n + 1) k g.lit (omega arith) lit) (is_clause_over-more n k g.lits (omega arith) parts.1)) rest

pub gates_part-append : (gs hs : List AndGate) (n : ℕ) → gates_part (gs ++ hs) n ≡ and_then (gates_part gs n) (gates_part hs)
gates_part-append gs hs n =
    let count : n + length (gs ++ hs) ≡ n + length gs + length hs = omega (arith, length-append gs hs) in
    let clauses = flat_map-append (λ (g : AndGate). and_gate_clauses g.lit g.lits) gs hs in
    rw (count, clauses) refl

pub gates_part-in : (gs : List AndGate) (n : ℕ) → gates_fit n gs ≡ true → are_clauses_over (n + length gs) (gates_part gs n).clauses ≡ true
gates_part-in [] n h = refl
gates_part-in (g ∷ gs) n h =
    let k = n + length (g ∷ gs) in
    let parts = fit-parts n g gs h in
    let lit : is_lit_over (n + 1) g.lit ≡ true = new_lit-in n g.lit parts.0 in
    let count : n + 1 + length gs ≡ k = omega arith in
    let clauses = (gates_part gs (n + 1)).clauses in
    let rest = subst (λ (m : ℕ). are_clauses_over m clauses ≡ true) count (gates_part-in gs (n + 1) parts.2) in
    let first = and_gate_clauses-in k g.lit g.lits (is_lit_over-more (n + 1) k g.lit (omega arith) lit) (is_clause_over-more n k g.lits (omega arith) parts.1) in
    list_all-append (is_clause_over k) (and_gate_clauses g.lit g.lits) clauses ∙ and_from _ _ first rest

pub gate_values-append : (gs hs : List AndGate) (a : List Bool) → gate_values a (gs ++ hs) ≡ gate_values a gs ++ gate_values (a ++ gate_values a gs) hs
gate_values-append [] hs a = ap (λ (u : List Bool). gate_values u hs) (sym (append-nil a))
gate_values-append (g ∷ gs) hs a =
    let v = gate_value a g in
    let es = gate_values (a ++ v ∷ []) gs in
    ap (λ (u : List Bool). v ∷ u) (gate_values-append gs hs (a ++ v ∷ []) ∙ ap (λ (u : List Bool). es ++ gate_values u hs) (append_assoc a (v ∷ []) es))

pub gate_values-length : (gs : List AndGate) (a : List Bool) → length (gate_values a gs) ≡ length gs
gate_values-length [] a = refl
gate_values-length (g ∷ gs) a = ap suc (gate_values-length gs (a ++ gate_value a g ∷ []))

gate-law : (a : List Bool) (g : AndGate) (n : ℕ) → length a ≡ n → g.lit.var ≡ n + 1 → is_clause_over n g.lits ≡ true → ExtensionsAreExactly a (n + 1) (and_gate_clauses g.lit g.lits) (EqualsGivenValues (gate_value a g ∷ []))
gate-law a g n size new inside =
    let long : length a + 1 ≡ n + 1 = omega (arith, size) in
    only_from_if a (n + 1) (and_gate_clauses g.lit g.lits) (gate_value a g ∷ [])
    (one_more_if a (n + 1) (and_gate_clauses g.lit g.lits) true (gate_value a g) long (λ w.
    let new : value (a ++ w ∷ []) g.lit.var ≡ w = value-new a [] w g.lit.var (omega (arith, size, new)) in
    let old : list_all (is_true (a ++ w ∷ [])) g.lits ≡ list_all (is_true a) g.lits = all_true-left a (w ∷ []) g.lits (rw size inside) in
    satisfies-and_gate_clauses (a ++ w ∷ []) g.lit g.lits ∙ rw (new, old) (turned g.lit.positive w (list_all (is_true a) g.lits))))
  where
    turned : (p w q : Bool) → beq (cond p w (not w)) q ≡ (beq w (cond p q (not q)) && true)
    turned true true true = refl
    turned true true false = refl
    turned true false true = refl
    turned true false false = refl
    turned false true true = refl
    turned false true false = refl
    turned false false true = refl
    turned false false false = refl

pub gates-law : (gs : List AndGate) (a : List Bool) (n : ℕ) → length a ≡ n → gates_fit n gs ≡ true → ExtensionsAreExactly a (n + length gs) (gates_part gs n).clauses (EqualsGivenValues (gate_values a gs))
gates-law [] a n size fit =
    let k = n + 0 in
    only_from_if a k [] [] (no_more_if a k [] true (omega (arith, size)) refl)
gates-law (g ∷ gs) a n size fit =
    let k = n + length (g ∷ gs) in
    let v = gate_value a g in
    let es = gate_values (a ++ v ∷ []) gs in
    let parts = fit-parts n g gs fit in
    let clauses = (gates_part gs (n + 1)).clauses in
    let long : length (a ++ v ∷ []) ≡ n + 1 = length-append a (v ∷ []) ∙ omega (arith, size) in
    let count : n + 1 + length gs ≡ k = omega arith in
    let first = gate-law a g n size parts.0 parts.1 in
    let rest = subst (λ (m : ℕ). ExtensionsAreExactly (a ++ v ∷ []) m clauses (EqualsGivenValues es)) count (gates-law gs (a ++ v ∷ []) (n + 1) long parts.2) in
    let here = and_gate_clauses-in (n + 1) g.lit g.lits (new_lit-in n g.lit parts.0) (is_clause_over-more n (n + 1) g.lits (omega arith) parts.1) in
    one_by_one a (v ∷ []) es (n + 1) k (and_gate_clauses g.lit g.lits) clauses (omega (arith, size)) (omega arith) here first rest

pub gates-hold : (gs : List AndGate) (a : List Bool) (n : ℕ) → length a ≡ n → gates_fit n gs ≡ true → GatesHold (a ++ gate_values a gs) gs
gates-hold [] a n size fit = tt
gates-hold (g ∷ gs) a n size fit =
    let v = gate_value a g in
    let es = gate_values (a ++ v ∷ []) gs in
    let parts = fit-parts n g gs fit in
    let var : g.lit.var ≡ n + 1 = parts.0 in
    let long : length (a ++ v ∷ []) ≡ n + 1 = length-append a (v ∷ []) ∙ omega (arith, size) in
    let rest = subst (λ (u : List Bool). GatesHold u gs) (append_assoc a (v ∷ []) es) (gates-hold gs (a ++ v ∷ []) (n + 1) long parts.2) in
    let new : value (a ++ v ∷ es) g.lit.var ≡ v = value-new a es v g.lit.var (omega (arith, size, var)) in
    let old : list_all (is_true (a ++ v ∷ es)) g.lits ≡ list_all (is_true a) g.lits = all_true-left a (v ∷ es) g.lits (rw size parts.1) in
    let first : is_true (a ++ v ∷ es) g.lit ≡ list_all (is_true (a ++ v ∷ es)) g.lits = rw (new, old) (back g.lit.positive (list_all (is_true a) g.lits)) in
    (first, rest)
  where
    back : (p q : Bool) → cond p (cond p q (not q)) (not (cond p q (not q))) ≡ q
    back true q = refl
    back false true = refl
    back false false = refl

pub GatesHold-left : (gs : List AndGate) (a e : List Bool) → gates_within (length a) gs ≡ true → GatesHold a gs → GatesHold (a ++ e) gs
GatesHold-left [] a e within holds = tt
GatesHold-left (g ∷ gs) a e within holds =
    let parts = and_parts _ _ within in
    let inner = and_parts _ _ parts.0 in
    let lit = is_true-left a e g.lit (is_lit_over-parts (length a) g.lit inner.0).1 in
    let lits = all_true-left a e g.lits inner.1 in
    (lit ∙ holds.0 ∙ sym lits, GatesHold-left gs a e parts.1 holds.1)

pub GatesHold-append : (gs hs : List AndGate) (a : List Bool) → GatesHold a gs → GatesHold a hs → GatesHold a (gs ++ hs)
GatesHold-append [] hs a first rest = rest
GatesHold-append (g ∷ gs) hs a first rest = (first.0, GatesHold-append gs hs a first.1 rest)

pub GatesHold-parts : (gs hs : List AndGate) (a : List Bool) → GatesHold a (gs ++ hs) → GatesHold a gs × GatesHold a hs
GatesHold-parts [] hs a h = (tt, h)
GatesHold-parts (g ∷ gs) hs a h = (let rest = GatesHold-parts gs hs a h.1 in ((h.0, rest.0), rest.1))

GatesHold-at : (gs : List AndGate) (a : List Bool) (i : ℕ) (g : AndGate) → GatesHold a gs → slice_get gs i ≡ Some g → is_true a g.lit ≡ list_all (is_true a) g.lits
GatesHold-at [] a i g h e = absurd (cc)
GatesHold-at (f ∷ gs) a zero g h e = let same : f ≡ g = same_Some f g e in subst (λ (k : AndGate). is_true a k.lit ≡ list_all (is_true a) k.lits) same h.0
GatesHold-at (f ∷ gs) a (suc i) g h e = GatesHold-at gs a i g h.1 e

-- Known gates that are shared

has_lit-passes : (p : Literal → Bool) (ms : List Literal) → list_all p ms ≡ true → (l : Literal) → has_lit l ms ≡ true → p l ≡ true
has_lit-passes p ms all l has =
    let k = list_any-at (same_lit l) ms has in
    ap p (lit-is l k.1 k.3) ∙ list_all-slice_get p ms k.0 k.1 all k.2

have_same_lits_in_any_order-all : (p : Literal → Bool) (ls ms : List Literal) → have_same_lits_in_any_order ls ms ≡ true → list_all p ls ≡ list_all p ms
have_same_lits_in_any_order-all p ls ms h =
    let parts = and_parts _ _ h in
    both_ways (list_all p ls) (list_all p ms)
    (λ all. list_all-weaken (λ m. has_lit m ls) p (has_lit-passes p ls all) ms parts.1)
    (λ all. list_all-weaken (λ l. has_lit l ms) p (has_lit-passes p ms all) ls parts.0)

-- The gate whose literal is shared.
lit_of_known_gate-at : (known : List AndGate) (ls : List Literal) (l : Literal) → lit_of_known_gate known ls ≡ Some l → (i : ℕ) × (g : AndGate) × (slice_get known i ≡ Some g) × (g.lit ≡ l) × (have_same_lits_in_any_order ls g.lits ≡ true)
lit_of_known_gate-at known ls l e = by_case (find (λ g. (g.least == least_var ls) && have_same_lits_in_any_order ls g.lits) known) refl e
  where
    by_case : (o : Option AndGate) → find (λ g. (g.least == least_var ls) && have_same_lits_in_any_order ls g.lits) known ≡ o → option_map (λ g. g.lit) o ≡ Some l →
        (i : ℕ) × (g : AndGate) × (slice_get known i ≡ Some g) × (g.lit ≡ l) × (have_same_lits_in_any_order ls g.lits ≡ true)
    by_case None found e = absurd (cc)
    by_case (Some g) found e =
        let k = find-at (λ g. (g.least == least_var ls) && have_same_lits_in_any_order ls g.lits) known g found in
        (k.0, g, k.1, same_Some g.lit l e, (and_parts _ _ k.2).1)

lit_of_known_gate-says : (b : List Bool) (known : List AndGate) (ls : List Literal) (l : Literal) → GatesHold b known → lit_of_known_gate known ls ≡ Some l → is_true b l ≡ list_all (is_true b) ls
lit_of_known_gate-says b known ls l holds e =
    let k = lit_of_known_gate-at known ls l e in
    let g = k.1 in
    sym (ap (is_true b) k.3) ∙ GatesHold-at known b k.0 g holds k.2 ∙ sym (have_same_lits_in_any_order-all (is_true b) ls g.lits k.4)

lit_of_known_gate-in : (n : ℕ) (known : List AndGate) (ls : List Literal) (l : Literal) → gates_within n known ≡ true → lit_of_known_gate known ls ≡ Some l → is_lit_over n l ≡ true
lit_of_known_gate-in n known ls l within e =
    let k = lit_of_known_gate-at known ls l e in
    let g = k.1 in
    let here = list_all-slice_get (λ (g : AndGate). is_lit_over n g.lit && is_clause_over n g.lits) known k.0 g within k.2 in
    sym (ap (is_lit_over n) k.3) ∙ (and_parts _ _ here).0

lits_negated_unless_all-say : (b : List Bool) (all : Bool) (ls : List Literal) → bools_are_equal all (list_all (is_true b) (lits_negated_unless_all all ls)) ≡ gate_truth all (map (is_true b) ls)
lits_negated_unless_all-say b true ls = sym (list_all-map (λ (q : Bool). q) (is_true b) ls)
lits_negated_unless_all-say b false ls = ap not (all_true-opposites b ls) ∙ twice (is_clause_true b ls) ∙ sym (list_any-map (λ (q : Bool). q) (is_true b) ls)
  where
    twice : (q : Bool) → not (not q) ≡ q
    twice true = refl
    twice false = refl

pub lits_negated_unless_all-in : (all : Bool) (n : ℕ) (ls : List Literal) → is_clause_over n ls ≡ true → is_clause_over n (lits_negated_unless_all all ls) ≡ true
lits_negated_unless_all-in true n ls h = h
lits_negated_unless_all-in false n ls h = opposites-in n ls h

lit_or_new_gate-means : (b : List Bool) (all : Bool) (ls : List Literal) (n : ℕ) (o : Option Literal) → ((l : Literal) → o ≡ Some l → is_true b l ≡ list_all (is_true b) (lits_negated_unless_all all ls)) →
    GatesHold b (lit_or_new_gate all ls n o).gates → is_true b (lit_or_new_gate all ls n o).lit ≡ gate_truth all (map (is_true b) ls)
lit_or_new_gate-means b all ls n (Some l) given new = signed-says b all l ∙ ap (bools_are_equal all) (given l refl) ∙ lits_negated_unless_all-say b all ls
lit_or_new_gate-means b all ls n None given new = signed-says b all (new_gate all ls n).lit ∙ ap (bools_are_equal all) new.0 ∙ lits_negated_unless_all-say b all ls

pub combined_lit-means : (b : List Bool) (known : List AndGate) (all : Bool) (ls : List Literal) (n : ℕ) → GatesHold b known → GatesHold b (combined_lit known all ls n).gates →
    is_true b (combined_lit known all ls n).lit ≡ gate_truth all (map (is_true b) ls)
combined_lit-means b known all [] n holds new = lit_or_new_gate-means b all [] n (lit_of_known_gate known (lits_negated_unless_all all [])) (λ l. lit_of_known_gate-says b known (lits_negated_unless_all all []) l holds) new
combined_lit-means b known all (l ∷ []) n holds new = sym (alone all (is_true b l))
combined_lit-means b known all (l ∷ m ∷ ls) n holds new =
    lit_or_new_gate-means b all (l ∷ m ∷ ls) n (lit_of_known_gate known (lits_negated_unless_all all (l ∷ m ∷ ls))) (λ k. lit_of_known_gate-says b known (lits_negated_unless_all all (l ∷ m ∷ ls)) k holds) new

-- New gates fit, and the one literal is over the variables afterwards.
abbrev LitFits : ℕ → LitWithGates → Type 0
LitFits n g = (gates_fit n g.gates ≡ true) × (is_lit_over (n + length g.gates) g.lit ≡ true)

lit_or_new_gate-fits : (all : Bool) (ls : List Literal) (n : ℕ) (o : Option Literal) → ((l : Literal) → o ≡ Some l → is_lit_over n l ≡ true) → is_clause_over n ls ≡ true → LitFits n (lit_or_new_gate all ls n o)
lit_or_new_gate-fits all ls n (Some l) given inside = (refl, signed-in all (n + 0) l (is_lit_over-more n (n + 0) l (omega arith) (given l refl)))
lit_or_new_gate-fits all ls n None given inside =
    (and_from _ _ (eq-eqb (n + 1) (n + 1) refl) (and_from _ _ (lits_negated_unless_all-in all n ls inside) refl), signed-in all (n + 1) (new_gate all ls n).lit (new-in n all))

combined_lit-both : (known : List AndGate) (all : Bool) (ls : List Literal) (n : ℕ) → gates_within n known ≡ true → is_clause_over n ls ≡ true → LitFits n (combined_lit known all ls n)
combined_lit-both known all [] n within inside = lit_or_new_gate-fits all [] n (lit_of_known_gate known (lits_negated_unless_all all [])) (λ l. lit_of_known_gate-in n known (lits_negated_unless_all all []) l within) inside
combined_lit-both known all (l ∷ []) n within inside = (refl, is_lit_over-more n (n + 0) l (omega arith) (and_parts (is_lit_over n l) true inside).0)
combined_lit-both known all (l ∷ m ∷ ls) n within inside =
    lit_or_new_gate-fits all (l ∷ m ∷ ls) n (lit_of_known_gate known (lits_negated_unless_all all (l ∷ m ∷ ls))) (λ k. lit_of_known_gate-in n known (lits_negated_unless_all all (l ∷ m ∷ ls)) k within) inside

pub combined_lit-fits : (known : List AndGate) (all : Bool) (ls : List Literal) (n : ℕ) → gates_within n known ≡ true → is_clause_over n ls ≡ true → gates_fit n (combined_lit known all ls n).gates ≡ true
combined_lit-fits known all ls n within inside = (combined_lit-both known all ls n within inside).0

pub combined_lit-in : (known : List AndGate) (all : Bool) (ls : List Literal) (n : ℕ) → gates_within n known ≡ true → is_clause_over n ls ≡ true → is_lit_over (n + length (combined_lit known all ls n).gates) (combined_lit known all ls n).lit ≡ true
combined_lit-in known all ls n within inside = (combined_lit-both known all ls n within inside).1
