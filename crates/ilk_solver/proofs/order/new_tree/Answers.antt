use Rattle.std.proofs.Common.{◌≡◌, ◌≤◌, ◌<◌, ◌+◌, ◌++◌, ℕ, List, inl, inr, length, take, drop, sym, subst, arith}
use Rattle.std.proofs.lemmas.Bool.{cases_eq}
use Rattle.ilk_base.proofs.Lists.{all-written}
use Rattle.ilk_solver.specs.Tree.{IsWinnerTree, IsVariableInTree}
use Rattle.ilk_solver.proofs.order.new_tree.Goals as goal

pub loop-v-preserved : goal.loop-v-preserved
loop-v-preserved c =
    let weights = c.args.weights.now in
    let old = c.loop-v.tree in
    let v = c.loop-v.v in
    let new = c.put_variable.new.tree in
    let n : length new ≡ old.len = omega (arith, c.put_variable.auto.tree, c.as_mut_slice.ensures.len) in
    let one : take old.len (new ++ drop (length new) old.items) ≡ new = all-written old.len new old.items n in
    let kept = rw c.as_mut_slice.ensures.value at c.put_variable.ensures.kept in
    let T : List ℕ → Type 0 = λ t. IsWinnerTree weights t in
    let E : List ℕ → Type 0 = λ t. (u : ℕ) → 0 < u → u ≤ v + 1 → IsVariableInTree weights t u in
    let S : ℕ → Type 0 = λ u. IsVariableInTree weights new u in
    record {
      tree = subst T (sym one) c.put_variable.ensures.tree;
      each = subst E (sym one) (λ u p q. elim (cases_eq u (v + 1)) [
        | inl d ↦ subst S (sym d) c.put_variable.ensures.stands
        | inr d ↦ kept u (c.loop-v.invariant.each u p (omega (arith, q, d)))
      ]);
    }
