use Rattle.std.proofs.Common.{◌≡◌, ◌==◌, ◌+◌, ◌&&◌, true, false, drop, ◌∷◌, Some, refl, sym, ap, ◌∙◌, List}
use Rattle.std.proofs.lemmas.List.{drop_all}
use Rattle.std.proofs.lemmas.Bool.{and_from, and_left, and_right, eq-eqb, ne_eqb}
use Rattle.ilk_base.proofs.Lists.{drop_at}
use Rattle.ilk_cnf.specs.Literal.{Literal}
use Rattle.ilk_forms.specs.declared.gates.AndGate.{AndGate}
use Rattle.ilk_forms.specs.Gates.{least_var, have_same_lits_in_any_order, lit_of_known_gate}
use Rattle.ilk_forms.proofs.gates.lit_of_known_gate.Goals as goal
use Rattle.ilk_forms.proofs.gates.lit_of_known_gate.Goals.{else-gate-least-via-then-gate-least+else-have_same_lits_in_any_order, else-gate-least-via-else-gate-least}

found : (g : AndGate) (gs : List AndGate) (ls : List Literal) → ((g.least == least_var ls) && have_same_lits_in_any_order ls g.lits) ≡ true → lit_of_known_gate (g ∷ gs) ls ≡ Some g.lit
found g gs ls h = rw h refl

passed : (g : AndGate) (gs : List AndGate) (ls : List Literal) → ((g.least == least_var ls) && have_same_lits_in_any_order ls g.lits) ≡ false → lit_of_known_gate (g ∷ gs) ls ≡ lit_of_known_gate gs ls
passed g gs ls h = rw h refl

pub loop-gate-init : goal.loop-gate-init
loop-gate-init c = ap (λ (gs : List AndGate). lit_of_known_gate gs c.args.lits.now) c.as_slice-gate-items.ensures

pub returns-then-have_same_lits_in_any_order : goal.returns-then-have_same_lits_in_any_order
returns-then-have_same_lits_in_any_order c =
    let ls = c.args.lits.now in
    let gs = c.as_slice-gate-items.result.now in
    let i = c.loop-gate.gate-index in
    let g = c.gate-item.result in
    let least = eq-eqb g.least (least_var ls) (c.if-gate-least.true ∙ c.least_var-least.ensures) in
    let same : have_same_lits_in_any_order ls g.lits ≡ true = ap (have_same_lits_in_any_order ls) (sym c.as_slice.ensures) ∙ sym c.have_same_lits_in_any_order.ensures ∙ c.if-have_same_lits_in_any_order.true in
    let here = found g (drop (i + 1) gs) ls (and_from _ _ least same) in
    let split = ap (λ (hs : List AndGate). lit_of_known_gate hs ls) (drop_at gs i g c.loop-gate-test.true c.gate-item.is) in
    record { shared = sym here ∙ sym split ∙ c.loop-gate.invariant }

pub loop-gate-preserved : goal.loop-gate-preserved
loop-gate-preserved c =
    let ls = c.args.lits.now in
    let gs = c.as_slice-gate-items.result.now in
    let i = c.loop-gate.gate-index in
    let g = c.gate-item.result in
    let split = ap (λ (hs : List AndGate). lit_of_known_gate hs ls) (drop_at gs i g c.loop-gate-test.true c.gate-item.is) in
    let other : ((g.least == least_var ls) && have_same_lits_in_any_order ls g.lits) ≡ false =
    elim c.else-gate-least.branch [
      | else-gate-least-via-then-gate-least+else-have_same_lits_in_any_order w ↦ and_right (g.least == least_var ls) (have_same_lits_in_any_order ls g.lits)
          (ap (have_same_lits_in_any_order ls) (sym w.as_slice.ensures) ∙ sym w.have_same_lits_in_any_order.ensures ∙ w.if-have_same_lits_in_any_order.false)
      | else-gate-least-via-else-gate-least w ↦ and_left (g.least == least_var ls) (have_same_lits_in_any_order ls g.lits) (ne_eqb g.least (least_var ls) (λ e. w.if-gate-least.false (e ∙ sym c.least_var-least.ensures)))
    ] in
    sym (passed g (drop (i + 1) gs) ls other) ∙ sym split ∙ c.loop-gate.invariant

pub returns : goal.returns
returns c =
    let ls = c.args.lits.now in
    let gs = c.as_slice-gate-items.result.now in
    let done = drop_all c.loop-gate.gate-index gs c.loop-gate-test.false in
    record { shared = sym (ap (λ (hs : List AndGate). lit_of_known_gate hs ls) done) ∙ c.loop-gate.invariant }
