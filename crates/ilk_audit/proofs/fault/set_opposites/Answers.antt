use Rattle.std.proofs.Common.{◌≡◌, ◌+◌, ◌-◌, ◌<◌, ◌∷◌, ◌&&◌, not, true, false, drop, length, ap, sym, ◌∙◌, arith, List, ℕ}
use Rattle.ilk_cnf.specs.Formula.{is_lit_over}
use Rattle.ilk_cnf.specs.Literal.{has_var, Literal, negated_lit}
use Rattle.ilk_log.specs.Derived.{negated_clause}
use Rattle.ilk_audit.specs.Stored.{VarCountAndTrueLits}
use Rattle.ilk_audit.proofs.Faults.{bad-literal, is_clause, next-literal}
use Rattle.ilk_audit.proofs.fault.set_opposites.Goals as goal

pub returns-then-not-is_settable-clause-answer : goal.returns-then-not-is_settable-clause-answer
returns-then-not-is_settable-clause-answer c =
    let n = c.args.partial.now.vars in
    let clause = c.args.clause.now in
    let i = c.loop-left.left - 1 in
    let l = c.index-clause-left.result in
    let inv = c.loop-left.invariant in
    let next : c.loop-left.left ≡ i + 1 = omega (arith, c.loop-left-test.true) in
    let at : i < length clause = omega (arith, c.loop-left-test.true, inv.within) in
    let set_is = inv.set ∙ ap (λ k. negated_clause (drop k clause)) next in
    let bad : (is_lit_over n l && not (has_var l.var (negated_clause (drop (i + 1) clause)))) ≡ false = ap (λ (k : ℕ). is_lit_over k l && not (has_var l.var (negated_clause (drop (i + 1) clause)))) (sym inv.vars)
    ∙ ap (λ (ls : List Literal). is_lit_over c.loop-left.partial.vars l && not (has_var l.var ls)) (sym set_is)
    ∙ sym c.is_settable.ensures
    ∙ c.if-not-is_settable.true in
    sym (bad-literal n clause i l at c.index-clause-left.is bad)

pub loop-left-preserved : goal.loop-left-preserved
loop-left-preserved c =
    let n = c.args.partial.now.vars in
    let clause = c.args.clause.now in
    let i = c.loop-left.left - 1 in
    let l = c.index-clause-left.result in
    let inv = c.loop-left.invariant in
    let next : c.loop-left.left ≡ i + 1 = omega (arith, c.loop-left-test.true) in
    let at : i < length clause = omega (arith, c.loop-left-test.true, inv.within) in
    let set_is = inv.set ∙ ap (λ k. negated_clause (drop k clause)) next in
    let good : (is_lit_over n l && not (has_var l.var (negated_clause (drop (i + 1) clause)))) ≡ true = ap (λ (k : ℕ). is_lit_over k l && not (has_var l.var (negated_clause (drop (i + 1) clause)))) (sym inv.vars)
    ∙ ap (λ (ls : List Literal). is_lit_over c.loop-left.partial.vars l && not (has_var l.var ls)) (sym set_is)
    ∙ sym c.is_settable.ensures
    ∙ c.if-not-is_settable.false in
    let before : is_clause n (drop (i + 1) clause) ≡ true = ap (λ k. is_clause n (drop k clause)) (sym next) ∙ ap (λ k. is_clause k (drop c.loop-left.left clause)) (sym inv.vars) ∙ inv.clause in
    let step = next-literal n clause i l at c.index-clause-left.is before good in
    let ok = (c.in_ok-set.ensures {u = tt}).ok in
    let vars = ap (λ (p : VarCountAndTrueLits). p.vars) ok ∙ inv.vars in
    record {
      vars = vars;
      within = omega (arith, at);
      set = ap (λ (p : VarCountAndTrueLits). p.set) ok ∙ ap (λ (m : Literal). m ∷ c.loop-left.partial.set) c.negated.ensures ∙ ap (λ (ls : List Literal). negated_lit l ∷ ls) set_is ∙ sym step.1;
      clause = ap (λ k. is_clause k (drop i clause)) vars ∙ step.0;
    }
