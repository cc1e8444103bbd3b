use Rattle.std.proofs.Common.{◌≡◌, ℕ, ◌+◌, Bool, true, List, [], ◌++◌, length, sym, ap, ◌∙◌, append_assoc, arith, refl}
use Rattle.std.proofs.lemmas.Bool.{and_parts}
use Rattle.ilk_cnf.specs.Literal.{Literal}
use Rattle.ilk_cnf.specs.Formula.{Formula, is_clause_over}
use Rattle.ilk_cnf.specs.Part.{with_part}
use Rattle.ilk_cnf.proofs.Gates.{with_part-and_then}
use Rattle.ilk_cnf.proofs.Literals.{is_clause_over-more}
use Rattle.ilk_ir.specs.Tree.{Tree, Trees, more, each_valid}
use Rattle.ilk_forms.specs.declared.copy.VarValueAndBoundLits.{VarValueAndBoundLits}
use Rattle.ilk_forms.specs.declared.gates.AndGate.{AndGate}
use Rattle.ilk_forms.specs.Leaf.{has_lits_within_vars, ranges_of_copy_lits}
use Rattle.ilk_forms.specs.Gates.{gates_part, gates_within}
use Rattle.ilk_forms.specs.Gathered.{LitsWithGates}
use Rattle.ilk_forms.specs.Demand.{PartWithGates, one_clause_part, some_lit_demand_with_gates, then_demand, demand_of, demand_each}
use Rattle.ilk_forms.proofs.Reading.{has_lits_within_vars-more}
use Rattle.ilk_forms.proofs.DemandLaw.{DemandFits, after-known, demand-low, demand_of-fits}

pub first-in : (f h : Formula) (g : LitsWithGates) (first : List Literal) → is_clause_over f.vars first ≡ true → h ≡ with_part f (gates_part g.gates f.vars) → is_clause_over h.vars first ≡ true
first-in f h g first inside made = ap (λ (k : Formula). is_clause_over k.vars first) made ∙ is_clause_over-more f.vars (f.vars + length g.gates) first (omega arith) inside

pub some-made : (f h k : Formula) (g : LitsWithGates) (first ls : List Literal) → h ≡ with_part f (gates_part g.gates f.vars) → ls ≡ g.lits → k ≡ with_part h (one_clause_part (first ++ ls) h.vars) → k
    ≡ with_part f (some_lit_demand_with_gates first g f.vars).part
some-made f h k g first ls made is last =
    last
    ∙ ap (λ (ks : List Literal). with_part h (one_clause_part (first ++ ks) h.vars)) is
    ∙ ap (λ (e : Formula). with_part e (one_clause_part (first ++ g.lits) e.vars)) made
    ∙ with_part-and_then f (gates_part g.gates f.vars) (one_clause_part (first ++ g.lits))

-- What the loop over forms keeps: the demands so far, then those of the rest, are all demands.
pub record Demanding (columns : List VarValueAndBoundLits) (heads : List Literal) (positive : Bool) (g : Formula) (known : List AndGate) (rest : Trees) (end : Formula) (whole : List AndGate) : Type 0 where
  pub within : has_lits_within_vars g.vars columns ≡ true
  pub first : is_clause_over g.vars heads ≡ true
  pub known_within : gates_within g.vars known ≡ true
  pub valid : each_valid (ranges_of_copy_lits columns) rest ≡ true
  pub made : with_part g (demand_each columns heads positive rest known g.vars).part ≡ end
  pub gates : known ++ (demand_each columns heads positive rest known g.vars).gates ≡ whole

-- What holds once a demand's part and gates are added.
pub record Demanded (columns : List VarValueAndBoundLits) (heads : List Literal) (g : Formula) (known : List AndGate) : Type 0 where
  pub within : has_lits_within_vars g.vars columns ≡ true
  pub first : is_clause_over g.vars heads ≡ true
  pub known_within : gates_within g.vars known ≡ true

pub after-demand :
    (columns : List VarValueAndBoundLits) (first : List Literal) (f g : Formula) (known gates : List AndGate) (d : PartWithGates) →
    has_lits_within_vars f.vars columns ≡ true → is_clause_over f.vars first ≡ true → gates_within f.vars known ≡ true → DemandFits f.vars d →
    g ≡ with_part f d.part → gates ≡ known ++ d.gates → Demanded columns first g gates
after-demand columns first f g known gates d within inside known_within fits made pushed =
    let n = f.vars in
    let low = demand-low n d fits in
    let vars : d.part.vars ≡ g.vars = sym (ap (λ (k : Formula). k.vars) made) in
    record {
      within = ap (λ (k : ℕ). has_lits_within_vars k columns) (sym vars) ∙ has_lits_within_vars-more n d.part.vars columns low within;
      first = ap (λ (k : ℕ). is_clause_over k first) (sym vars) ∙ is_clause_over-more n d.part.vars first low inside;
      known_within = ap (gates_within g.vars) pushed ∙ ap (λ (k : ℕ). gates_within k (known ++ d.gates)) (sym vars) ∙ after-known known n d known_within fits;
    }

-- A demand made after another is the second of the two demands in turn.
pub then-made :
    (f g h : Formula) (known gates : List AndGate) (d : PartWithGates) (e : List AndGate → ℕ → PartWithGates) → g ≡ with_part f d.part → gates ≡ known ++ d.gates →
    h ≡ with_part g (e gates g.vars).part → h ≡ with_part f (then_demand d (λ more m. e (known ++ more) m)).part
then-made f g h known gates d e made pushed last =
    last
    ∙ ap (λ (hs : List AndGate). with_part g (e hs g.vars).part) pushed
    ∙ ap (λ (k : Formula). with_part k (e (known ++ d.gates) k.vars).part) made
    ∙ with_part-and_then f d.part (λ m. (e (known ++ d.gates) m).part)

then-gates :
    (f g : Formula) (known gates whole : List AndGate) (d : PartWithGates) (e : List AndGate → ℕ → PartWithGates) → g ≡ with_part f d.part → gates ≡ known ++ d.gates →
    whole ≡ gates ++ (e gates g.vars).gates → whole ≡ known ++ (then_demand d (λ more m. e (known ++ more) m)).gates
then-gates f g known gates whole d e made pushed last =
    last
    ∙ ap (λ (hs : List AndGate). hs ++ (e hs g.vars).gates) pushed
    ∙ ap (λ (k : Formula). (known ++ d.gates) ++ (e (known ++ d.gates) k.vars).gates) made
    ∙ append_assoc known d.gates (e (known ++ d.gates) d.part.vars).gates

-- A demand made with an empty list of gates.
pub first-made :
    (columns : List VarValueAndBoundLits) (first : List Literal) (t : Tree) (f g : Formula) (empty gates : List AndGate) → empty ≡ [] →
    g ≡ with_part f (demand_of columns first true t empty f.vars).part → gates ≡ empty ++ (demand_of columns first true t empty f.vars).gates →
    (g ≡ with_part f (demand_of columns first true t [] f.vars).part) × (gates ≡ [] ++ (demand_of columns first true t [] f.vars).gates)
first-made columns first t f g empty gates is made pushed =
    (made ∙ ap (λ (gs : List AndGate). with_part f (demand_of columns first true t gs f.vars).part) is, pushed ∙ ap (λ (gs : List AndGate). gs ++ (demand_of columns first true t gs f.vars).gates) is)

pub demand_each-step :
    (columns : List VarValueAndBoundLits) (first : List Literal) (positive : Bool) (f g end : Formula) (known gates whole : List AndGate) (t : Tree)
    (ts ss : Trees) → ss ≡ more t ts →
    g ≡ with_part f (demand_of columns first positive t known f.vars).part → gates ≡ known ++ (demand_of columns first positive t known f.vars).gates →
    Demanding columns first positive f known ss end whole → Demanding columns first positive g gates ts end whole
demand_each-step columns first positive f g end known gates whole t ts ss split made pushed h =
    let n = f.vars in
    let d = demand_of columns first positive t known n in
    let parts = and_parts _ _ (ap (each_valid (ranges_of_copy_lits columns)) (sym split) ∙ h.valid) in
    let after = after-demand columns first f g known gates d h.within h.first h.known_within (demand_of-fits t columns first positive known n h.within h.first h.known_within parts.0) made pushed in
    let e : List AndGate → ℕ → PartWithGates = λ hs m. demand_each columns first positive ts hs m in
    record {
      within = after.within;
      first = after.first;
      known_within = after.known_within;
      valid = parts.1;
      made = then-made f g (with_part g (e gates g.vars).part) known gates d e made pushed refl ∙ ap (λ (rs : Trees). with_part f (demand_each columns first positive rs known n).part) (sym split) ∙ h.made;
      gates = then-gates f g known gates (gates ++ (e gates g.vars).gates) d e made pushed refl ∙ ap (λ (rs : Trees). known ++ (demand_each columns first positive rs known n).gates) (sym split) ∙ h.gates;
    }
