use Rattle.std.proofs.Common.{◌≡◌, ◌+◌, ◌++◌, ◌∷◌, [], List, false, ap, sym, ◌∙◌, arith}
use Rattle.std.proofs.lemmas.List.{append-nil}
use Rattle.ilk_cnf.specs.Literal.{Literal, has_var, negative_lit}
use Rattle.ilk_cnf.specs.Formula.{Formula}
use Rattle.ilk_step.specs.Choice.{chosen_lits}
use Rattle.ilk_step.proofs.ChoiceLaw.{chosen_lits-more, chosen_lits-away}
use Rattle.ilk_step.proofs.choice.add_variables.Goals as goal

pub push-requires : goal.push-requires
push-requires c =
    let n = c.args.cnf.now.vars in
    let i = c.loop.counter in
    let lits = c.loop.invariant.lits in
    let new = c.in_ok-fresh.ensures.ok in
    let var = ap (λ (l : Literal). l.var) c.new.ensures in
    let vars = c.loop.invariant.vars in
    let away : has_var c.new.result.var (chosen_lits (n + 1) i) ≡ false = chosen_lits-away i (n + 1) c.new.result.var (omega (arith, new, var, vars)) in
    rw lits away

pub loop-preserved : goal.loop-preserved
loop-preserved c =
    let n = c.args.cnf.now.vars in
    let i = c.loop.counter in
    let grown = c.in_ok-fresh.ensures.grown in
    let vars = ap (λ (f : Formula). f.vars) grown in
    let old = c.loop.invariant.vars in
    let place : c.in_ok-fresh.field-0 ≡ n + 1 + i = omega (arith, c.in_ok-fresh.ensures.ok, old) in
    record {
      vars = omega (arith, vars, old);
      clauses = ap (λ (f : Formula). f.clauses) grown ∙ simp append-nil c.loop.invariant.clauses;
      lits = c.in_ok-push.ensures.ok
          ∙ ap (λ (ls : List Literal). ls ++ c.new.result ∷ []) c.loop.invariant.lits
          ∙ ap (λ (l : Literal). chosen_lits (n + 1) i ++ l ∷ []) (c.new.ensures ∙ ap negative_lit place)
          ∙ sym (chosen_lits-more (n + 1) i);
    }
