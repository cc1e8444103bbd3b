use Rattle.std.proofs.Common.{◌≡◌, ℕ, ◌+◌, ◌∷◌, refl, List, drop, map, length, sym, ap, ◌∙◌, subst, arith}
use Rattle.std.proofs.lemmas.List.{length-map}
use Rattle.std.proofs.lemmas.Bool.{and_parts, and_from}
use Rattle.ilk_base.proofs.Lists.{drop_at, drop_from}
use Rattle.ilk_cnf.specs.Literal.{Literal}
use Rattle.ilk_cnf.specs.Formula.{Formula, is_clause_over}
use Rattle.ilk_ir.specs.System.{plain_rule}
use Rattle.ilk_forms.specs.declared.copy.VarValueAndBoundLits.{VarValueAndBoundLits}
use Rattle.ilk_forms.specs.Leaf.{has_lits_within_vars}
use Rattle.ilk_step.proofs.FrameSteps.{setter_lits-in, frames_step}
use Rattle.ilk_step.proofs.frame.add_frame_axioms.Goals as goal

pub add_frame-requires-clause-first : goal.add_frame-requires-clause-first
add_frame-requires-clause-first c =
    let rs = map plain_rule c.args.rules.now in
    let vars = c.loop-v.invariant.vars in
    let long : length rs ≡ length c.args.rules.now = length-map c.args.rules.now plain_rule in
    ap (λ (ls : List Literal). is_clause_over c.loop-v.cnf.vars ls) c.in_ok-setters.ensures ∙ setter_lits-in rs c.loop-v.v c.args.first c.loop-v.cnf.vars c.requires.from_1 (omega (arith, vars, long, c.requires.numbered))

pub add_frame-requires-clause-columns : goal.add_frame-requires-clause-columns
add_frame-requires-clause-columns c =
    let v = c.loop-v.v in
    let n = c.loop-v.cnf.vars in
    let here : drop v c.args.now.now ≡ c.column-item.result ∷ drop (v + 1) c.args.now.now = subst
    (λ (cs : List VarValueAndBoundLits). drop v cs ≡ c.column-item.result ∷ drop (v + 1) cs)
    c.as_slice-column-items.ensures
    (drop_at c.as_slice-column-items.result.now v c.column-item.result c.loop-v-test.true
    c.column-item.is) in
    let there : drop v c.args.next.now ≡ c.at.result.now ∷ drop (v + 1) c.args.next.now = drop_from c.args.next.now v c.at.result.now c.at.ensures in
    let one = (and_parts _ _ (sym (ap (has_lits_within_vars n) here) ∙ c.loop-v.invariant.now)).0 in
    let two = (and_parts _ _ (sym (ap (has_lits_within_vars n) there) ∙ c.loop-v.invariant.next)).0 in
    and_from _ _ one (and_from _ _ two refl)

pub loop-v-preserved : goal.loop-v-preserved
loop-v-preserved c =
    let v = c.loop-v.v in
    let n = c.loop-v.cnf.vars in
    let made = c.in_ok-add_frame.ensures in
    let same : c.add_frame.new.cnf.vars ≡ n = ap (λ (f : Formula). f.vars) made in
    let here : drop v c.args.now.now ≡ c.column-item.result ∷ drop (v + 1) c.args.now.now = subst
    (λ (cs : List VarValueAndBoundLits). drop v cs ≡ c.column-item.result ∷ drop (v + 1) cs)
    c.as_slice-column-items.ensures
    (drop_at c.as_slice-column-items.result.now v c.column-item.result c.loop-v-test.true
    c.column-item.is) in
    let there : drop v c.args.next.now ≡ c.at.result.now ∷ drop (v + 1) c.args.next.now = drop_from c.args.next.now v c.at.result.now c.at.ensures in
    record {
      vars = same ∙ c.loop-v.invariant.vars;
      now = ap (λ (k : ℕ). has_lits_within_vars k (drop (v + 1) c.args.now.now)) same ∙ (and_parts _ _ (sym (ap (has_lits_within_vars n) here) ∙ c.loop-v.invariant.now)).1;
      next = ap (λ (k : ℕ). has_lits_within_vars k (drop (v + 1) c.args.next.now)) same ∙ (and_parts _ _ (sym (ap (has_lits_within_vars n) there) ∙ c.loop-v.invariant.next)).1;
      rest = frames_step c.loop-v.cnf c.add_frame.new.cnf (map plain_rule c.args.rules.now) c.args.first v _ _ _ _ c.column-item.result c.at.result.now c.in_ok-setters.setters _ here there c.in_ok-setters.ensures made c.loop-v.invariant.rest;
    }
