use Rattle.std.proofs.Common.{◌≡◌, ℕ, ◌+◌, Bool, true, false, List, [], ◌++◌, length, cond, sym, ap, ◌∙◌, append_assoc, arith, Result, Ok, Err}
use Rattle.std.specs.Result.{OnOk}
use Rattle.std.proofs.Math.Bool.{beq}
use Rattle.std.proofs.lemmas.List.{append-nil}
use Rattle.std.proofs.lemmas.Bool.{and_parts}
use Rattle.ilk_cnf.specs.Literal.{Literal}
use Rattle.ilk_cnf.specs.Formula.{Formula, is_clause_over}
use Rattle.ilk_cnf.specs.Part.{with_part}
use Rattle.ilk_cnf.proofs.Gates.{with_part-and_then}
use Rattle.ilk_ir.specs.Tree.{Tree, Trees, more, each_valid}
use Rattle.ilk_forms.specs.declared.copy.VarValueAndBoundLits.{VarValueAndBoundLits}
use Rattle.ilk_forms.specs.declared.gates.AndGate.{AndGate}
use Rattle.ilk_forms.specs.Leaf.{has_lits_within_vars, ranges_of_copy_lits}
use Rattle.ilk_forms.specs.Gates.{bools_are_equal, gates_part, gates_within, LitWithGates, combined_lit}
use Rattle.ilk_forms.specs.Gathered.{LitsWithGates, signed_lit_as_lits_with_gates, combine_lits_into_one, keep_lits_if_same_gate, form_to_and_or_lits, forms_to_and_or_lits}
use Rattle.ilk_forms.proofs.Reading.{has_lits_within_vars-more}
use Rattle.ilk_forms.proofs.GatesLaw.{gates_part-append}
use Rattle.ilk_forms.proofs.GatheredFits.{Fits, known-more, form-fits}

pub made-more :
    (f h k : Formula) (gs hs : List AndGate) → h ≡ with_part f (gates_part gs f.vars) → k ≡ with_part h (gates_part hs h.vars) →
    k ≡ with_part f (gates_part (gs ++ hs) f.vars)
made-more f h k gs hs first next =
    next ∙ ap (λ (e : Formula). with_part e (gates_part hs e.vars)) first ∙ with_part-and_then f (gates_part gs f.vars) (gates_part hs) ∙ ap (with_part f) (sym (gates_part-append gs hs f.vars))

-- Literals that no new gate precedes.
combine-late : (known : List AndGate) (n : ℕ) (all : Bool) (ls : List Literal) → combine_lits_into_one known n all (record { gates = []; lits = ls }) ≡ combined_lit known all ls n
combine-late known n all ls =
    ap (λ (ks : List AndGate). combined_lit ks all ls (n + 0)) (append-nil known) ∙ ap (combined_lit known all ls) (omega arith)

merge-late-gates :
    (known : List AndGate) (n : ℕ) (outer inner : Bool) (g : LitsWithGates) →
    g.gates ++ (keep_lits_if_same_gate (known ++ g.gates) (n + length g.gates) outer inner (record { gates = []; lits = g.lits })).gates ≡ (keep_lits_if_same_gate known n outer inner g).gates
merge-late-gates known n outer inner g = by_case (bools_are_equal outer inner)
  where
    late : LitsWithGates
    late = record { gates = []; lits = g.lits }

    by_case : (b : Bool) →
        g.gates ++ (cond {A = LitsWithGates} b late (signed_lit_as_lits_with_gates true (combine_lits_into_one (known ++ g.gates) (n + length g.gates) inner late))).gates
        ≡ (cond {A = LitsWithGates} b g (signed_lit_as_lits_with_gates true (combine_lits_into_one known n inner g))).gates
    by_case true = append-nil g.gates
    by_case false = ap (λ (s : LitWithGates). g.gates ++ s.gates) (combine-late (known ++ g.gates) (n + length g.gates) inner g.lits)

later-gates :
    (known known' : List AndGate) (f h : Formula) (outer inner : Bool) (g : LitsWithGates) (ls : List Literal) →
    known' ≡ known ++ g.gates → h ≡ with_part f (gates_part g.gates f.vars) → ls ≡ g.lits →
    g.gates ++ (keep_lits_if_same_gate known' h.vars outer inner (record { gates = []; lits = ls })).gates ≡ (keep_lits_if_same_gate known f.vars outer inner g).gates
later-gates known known' f h outer inner g ls added made is =
    ap (λ (ks : List AndGate). g.gates ++ (keep_lits_if_same_gate ks h.vars outer inner (record { gates = []; lits = ls })).gates) added
    ∙ ap (λ (e : Formula). g.gates ++ (keep_lits_if_same_gate (known ++ g.gates) e.vars outer inner (record { gates = []; lits = ls })).gates) made
    ∙ ap (λ (ms : List Literal). g.gates ++ (keep_lits_if_same_gate (known ++ g.gates) (f.vars + length g.gates) outer inner (record { gates = []; lits = ms })).gates) is
    ∙ merge-late-gates known f.vars outer inner g

pub join-gates :
    (known known' : List AndGate) (f h : Formula) (outer inner : Bool) (g : LitsWithGates) (ls : List Literal) (new : List AndGate) →
    known' ≡ known ++ g.gates → h ≡ with_part f (gates_part g.gates f.vars) → ls ≡ g.lits →
    new ≡ known' ++ (keep_lits_if_same_gate known' h.vars outer inner (record { gates = []; lits = ls })).gates →
    new ≡ known ++ (keep_lits_if_same_gate known f.vars outer inner g).gates
join-gates known known' f h outer inner g ls new added made is last =
    last
    ∙ ap (λ (ks : List AndGate). ks ++ (keep_lits_if_same_gate known' h.vars outer inner (record { gates = []; lits = ls })).gates) added
    ∙ append_assoc known g.gates (keep_lits_if_same_gate known' h.vars outer inner (record { gates = []; lits = ls })).gates
    ∙ ap (λ (ks : List AndGate). known ++ ks) (later-gates known known' f h outer inner g ls added made is)

pub join-made :
    (known known' : List AndGate) (f h k : Formula) (outer inner : Bool) (g : LitsWithGates) (ls : List Literal) →
    known' ≡ known ++ g.gates → h ≡ with_part f (gates_part g.gates f.vars) → ls ≡ g.lits →
    k ≡ with_part h (gates_part (keep_lits_if_same_gate known' h.vars outer inner (record { gates = []; lits = ls })).gates h.vars) →
    k ≡ with_part f (gates_part (keep_lits_if_same_gate known f.vars outer inner g).gates f.vars)
join-made known known' f h k outer inner g ls added made is last =
    made-more f h k g.gates (keep_lits_if_same_gate known' h.vars outer inner (record { gates = []; lits = ls })).gates made last
    ∙ ap (λ (ks : List AndGate). with_part f (gates_part ks f.vars)) (later-gates known known' f h outer inner g ls added made is)

pub marked-made :
    (known known' : List AndGate) (f h k : Formula) (all : Bool) (g : LitsWithGates) (slice ls : List Literal) →
    known' ≡ known ++ g.gates → h ≡ with_part f (gates_part g.gates f.vars) → slice ≡ ls → ls ≡ g.lits →
    k ≡ with_part h (gates_part (combined_lit known' all slice h.vars).gates h.vars) →
    k ≡ with_part f (gates_part (combine_lits_into_one known f.vars all g).gates f.vars)
marked-made known known' f h k all g slice ls added made seen is last =
    made-more f h k g.gates (combined_lit known' all slice h.vars).gates made last
    ∙ ap (λ (ks : List AndGate). with_part f (gates_part (g.gates ++ (combined_lit ks all slice h.vars).gates) f.vars)) added
    ∙ ap (λ (e : Formula). with_part f (gates_part (g.gates ++ (combined_lit (known ++ g.gates) all slice e.vars).gates) f.vars)) made
    ∙ ap (λ (ms : List Literal). with_part f (gates_part (g.gates ++ (combined_lit (known ++ g.gates) all ms (f.vars + length g.gates)).gates) f.vars)) (seen ∙ is)

bools_are_equal-beq : (p q : Bool) → beq p q ≡ false → bools_are_equal p q ≡ false
bools_are_equal-beq true true h = h
bools_are_equal-beq true false h = h
bools_are_equal-beq false true h = h
bools_are_equal-beq false false h = h

pub taken-made :
    (known : List AndGate) (f k : Formula) (outer inner : Bool) (slice ls : List Literal) →
    beq outer inner ≡ false → slice ≡ ls →
    k ≡ with_part f (gates_part (combined_lit known inner slice f.vars).gates f.vars) →
    k ≡ with_part f (gates_part (keep_lits_if_same_gate known f.vars outer inner (record { gates = []; lits = ls })).gates f.vars)
taken-made known f k outer inner slice ls apart seen last =
    last
    ∙ ap (λ (ms : List Literal). with_part f (gates_part (combined_lit known inner ms f.vars).gates f.vars)) seen
    ∙ ap (λ (s : LitWithGates). with_part f (gates_part s.gates f.vars)) (sym (combine-late known f.vars inner ls))
    ∙ ap (λ (b : Bool). with_part f (gates_part (cond {A = LitsWithGates} b late (signed_lit_as_lits_with_gates true (combine_lits_into_one known f.vars inner late))).gates f.vars)) (sym (bools_are_equal-beq outer inner apart))
  where
    late : LitsWithGates
    late = record { gates = []; lits = ls }

-- What holds in any case holds if a call succeeds.
pub on_ok : {T E P : Type 0} (r : Result T E) → P → OnOk r P
on_ok (Ok x) p = p
on_ok (Err e) p = tt

pub lits-in : (f h : Formula) (g : LitsWithGates) (ls : List Literal) → Fits f.vars g → h ≡ with_part f (gates_part g.gates f.vars) → ls ≡ g.lits → is_clause_over h.vars ls ≡ true
lits-in f h g ls fits made is = ap (λ (k : Formula). is_clause_over k.vars ls) made ∙ ap (is_clause_over (f.vars + length g.gates)) is ∙ fits.lits

pub record Gathering (columns : List VarValueAndBoundLits) (all positive : Bool) (cnf : Formula) (known : List AndGate) (done : List Literal) (rest : Trees) (whole : List Literal) (last : List AndGate) (end : Formula) : Type 0 where
  pub within : has_lits_within_vars cnf.vars columns ≡ true
  pub inside : gates_within cnf.vars known ≡ true
  pub valid : each_valid (ranges_of_copy_lits columns) rest ≡ true
  pub lits : done ++ (forms_to_and_or_lits columns all positive rest known cnf.vars).lits ≡ whole
  pub gates : known ++ (forms_to_and_or_lits columns all positive rest known cnf.vars).gates ≡ last
  pub made : with_part cnf (gates_part (forms_to_and_or_lits columns all positive rest known cnf.vars).gates cnf.vars) ≡ end

one-step :
    (columns : List VarValueAndBoundLits) (all positive : Bool) (f : Formula) (known : List AndGate) (lits whole : List Literal) (last : List AndGate) (end : Formula) (t : Tree) (ts : Trees) →
    Gathering columns all positive f known lits (more t ts) whole last end →
    Gathering columns all positive (with_part f (gates_part (form_to_and_or_lits columns all positive t known f.vars).gates f.vars))
    (known ++ (form_to_and_or_lits columns all positive t known f.vars).gates) (lits ++ (form_to_and_or_lits columns all positive t known f.vars).lits) ts whole last end
one-step columns all positive f known lits whole last end t ts h =
    let n = f.vars in
    let p = form_to_and_or_lits columns all positive t known n in
    let q = forms_to_and_or_lits columns all positive ts (known ++ p.gates) (n + length p.gates) in
    let parts = and_parts _ _ h.valid in
    let fits = form-fits t columns all positive known n h.within h.inside parts.0 in
    record {
      within = has_lits_within_vars-more n (n + length p.gates) columns (omega arith) h.within;
      inside = known-more known p.gates n h.inside fits.gates;
      valid = parts.1;
      lits = append_assoc lits p.lits q.lits ∙ h.lits;
      gates = append_assoc known p.gates q.gates ∙ h.gates;
      made = with_part-and_then f (gates_part p.gates n) (gates_part q.gates) ∙ ap (with_part f) (sym (gates_part-append p.gates q.gates n)) ∙ h.made;
    }

pub form-step :
    (columns : List VarValueAndBoundLits) (all positive : Bool) (f g : Formula) (known grown : List AndGate)
    (lits slice next longer whole : List Literal) (last : List AndGate) (end : Formula) (t : Tree) (ts ss : Trees) →
    ss ≡ more t ts → slice ≡ next → next ≡ (form_to_and_or_lits columns all positive t known f.vars).lits →
    grown ≡ known ++ (form_to_and_or_lits columns all positive t known f.vars).gates →
    g ≡ with_part f (gates_part (form_to_and_or_lits columns all positive t known f.vars).gates f.vars) → longer ≡ lits ++ slice →
    Gathering columns all positive f known lits ss whole last end → Gathering columns all positive g grown longer ts whole last end
form-step columns all positive f g known grown lits slice next longer whole last end t ts ss split seen is added made pushed h =
    let from : Gathering columns all positive f known lits (more t ts) whole last end = rw split at h in
    rw (made, added, pushed, seen, is) (one-step columns all positive f known lits whole last end t ts from)
