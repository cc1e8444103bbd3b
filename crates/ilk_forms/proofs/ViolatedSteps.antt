use Rattle.std.proofs.Common.{◌≡◌, ℕ, ◌+◌, ◌≤◌, true, List, [], ◌++◌, length, map, ap, ◌∙◌, refl, arith}
use Rattle.ilk_cnf.specs.Literal.{Literal, negated_lit}
use Rattle.ilk_cnf.specs.Formula.{Formula}
use Rattle.ilk_cnf.specs.Part.{with_part, and_then}
use Rattle.ilk_cnf.proofs.Gates.{with_part-and_then}
use Rattle.ilk_forms.specs.declared.copy.VarValueAndBoundLits.{VarValueAndBoundLits}
use Rattle.ilk_forms.specs.declared.gates.AndGate.{AndGate}
use Rattle.ilk_forms.specs.Leaf.{has_lits_within_vars}
use Rattle.ilk_forms.specs.Gates.{gates_part, gates_within}
use Rattle.ilk_forms.specs.Gathered.{LitsWithGates, append_lits}
use Rattle.ilk_forms.specs.Demand.{one_clause_part}
use Rattle.ilk_forms.proofs.Reading.{has_lits_within_vars-more}
use Rattle.ilk_forms.proofs.GatheredFits.{Fits, known-more}
use Rattle.ilk_forms.proofs.GatheredSteps.{made-more}

pub violated-made : (f h k : Formula) (g : LitsWithGates) (ls : List Literal) → h ≡ with_part f (gates_part g.gates f.vars) → ls ≡ g.lits → k ≡ with_part h (one_clause_part (map negated_lit ls) h.vars) →
    k ≡ with_part f (and_then (gates_part g.gates f.vars) (one_clause_part (map negated_lit g.lits)))
violated-made f h k g ls made is last =
    last
    ∙ ap (λ (ks : List Literal). with_part h (one_clause_part (map negated_lit ks) h.vars)) is
    ∙ ap (λ (e : Formula). with_part e (one_clause_part (map negated_lit g.lits) e.vars)) made
    ∙ with_part-and_then f (gates_part g.gates f.vars) (one_clause_part (map negated_lit g.lits))

-- What a call that gathers literals gives, if no gate was known.
pub record GatheredWithoutKnown (f h : Formula) (ls : List Literal) (gates : List AndGate) (g : LitsWithGates) : Type 0 where
  pub made : h ≡ with_part f (gates_part g.gates f.vars)
  pub lits : ls ≡ g.lits
  pub pushed : gates ≡ [] ++ g.gates

pub without-known : (f h : Formula) (ls : List Literal) (empty gates : List AndGate) (g : List AndGate → LitsWithGates) → empty ≡ [] → h ≡ with_part f (gates_part (g empty).gates f.vars) → ls ≡ (g empty).lits → gates ≡ empty ++ (g empty).gates →
    GatheredWithoutKnown f h ls gates (g [])
without-known f h ls empty gates g is made lits pushed = record {
  made = made ∙ ap (λ (gs : List AndGate). with_part f (gates_part (g gs).gates f.vars)) is;
  lits = lits ∙ ap (λ (gs : List AndGate). (g gs).lits) is;
  pushed = pushed ∙ ap (λ (gs : List AndGate). gs ++ (g gs).gates) is;
}

pub gathered-within : (columns : List VarValueAndBoundLits) (f h : Formula) (ls : List Literal) (gates : List AndGate) (g : LitsWithGates) → GatheredWithoutKnown f h ls gates g →
    has_lits_within_vars f.vars columns ≡ true → has_lits_within_vars h.vars columns ≡ true
gathered-within columns f h ls gates g one inside = (let low : f.vars ≤ f.vars + length g.gates = omega arith in
    ap (λ (k : Formula). has_lits_within_vars k.vars columns) one.made ∙ has_lits_within_vars-more f.vars (f.vars + length g.gates) columns low inside)

pub gathered-known : (f h : Formula) (ls : List Literal) (gates : List AndGate) (g : LitsWithGates) → GatheredWithoutKnown f h ls gates g → Fits f.vars g → gates_within h.vars gates ≡ true
gathered-known f h ls gates g one fits = ap (gates_within h.vars) one.pushed ∙ ap (λ (k : Formula). gates_within k.vars ([] ++ g.gates)) one.made ∙ known-more [] g.gates f.vars refl fits.gates

-- Literals gathered after others are the second of the two lists in turn.
pub gathered-append :
    (f h k : Formula) (gates : List AndGate) (ls ms : List Literal) (g : LitsWithGates) (q : List AndGate → ℕ → LitsWithGates) → GatheredWithoutKnown f h ls gates g →
    k ≡ with_part h (gates_part (q gates h.vars).gates h.vars) → ms ≡ (q gates h.vars).lits →
    (k ≡ with_part f (gates_part (append_lits g (λ more m. q ([] ++ more) (f.vars + m))).gates f.vars))
    × (ls ++ ms ≡ (append_lits g (λ more m. q ([] ++ more) (f.vars + m))).lits)
gathered-append f h k gates ls ms g q one last others =
    let is : q gates h.vars ≡ q ([] ++ g.gates) (f.vars + length g.gates) = ap (λ (gs : List AndGate). q gs h.vars) one.pushed ∙ ap (λ (e : Formula). q ([] ++ g.gates) e.vars) one.made in (
      made-more f h k g.gates (q ([] ++ g.gates) (f.vars + length g.gates)).gates one.made (last ∙ ap (λ (s : LitsWithGates). with_part h (gates_part s.gates h.vars)) is),
      ap (λ (ks : List Literal). ks ++ ms) one.lits ∙ ap (λ (ks : List Literal). g.lits ++ ks) (others ∙ ap (λ (s : LitsWithGates). s.lits) is),
    )
