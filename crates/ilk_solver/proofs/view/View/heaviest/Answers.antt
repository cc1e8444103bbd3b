use Rattle.std.proofs.Common.{◌≡◌, ◌<◌, ℕ, length, ap, sym, ◌∙◌, subst, arith}
use Rattle.std.proofs.lemmas.List.{get_or_read}
use Rattle.ilk_solver.specs.Assigned.{AllSet}
use Rattle.ilk_solver.specs.Heaviest.{IsHeaviest}
use Rattle.ilk_solver.specs.Tree.{variable_at_top}
use Rattle.ilk_solver.specs.Word.{variable_of}
use Rattle.ilk_solver.specs.View.{TrailAndWeights}
use Rattle.ilk_solver.proofs.Orders.{top-heaviest, top-none}
use Rattle.ilk_solver.proofs.view.View.heaviest.Goals as goal

pub returns-then-top-eq0-clause-none : goal.returns-then-top-eq0-clause-none
returns-then-top-eq0-clause-none c =
    let tree = c.self.inside.tree.items in
    let inside : 1 < length tree = (let s = c.self.invariant.won.size in omega (arith, s)) in
    let top : c.variable-top.result ≡ variable_at_top tree = c.variable-top.ensures ∙ ap variable_of (get_or_read tree 1 c.index.result.now inside c.index.ensures 0) in
    subst AllSet c.self.view_is (top-none _ tree c.self.invariant (omega (arith, top, c.if-top-eq0.true)))

pub returns-clause-some : goal.returns-clause-some
returns-clause-some c =
    let tree = c.self.inside.tree.items in
    let inside : 1 < length tree = (let s = c.self.invariant.won.size in omega (arith, s)) in
    let top : c.variable-top.result ≡ variable_at_top tree = c.variable-top.ensures ∙ ap variable_of (get_or_read tree 1 c.index.result.now inside c.index.ensures 0) in
    let P : TrailAndWeights → Type 0 = λ v. IsHeaviest v c.variable-top.result in
    let view : TrailAndWeights = record { trail = c.self.inside.trail; weights = c.self.inside.weights.items } in
    let Q : ℕ → Type 0 = IsHeaviest view in
    subst P c.self.view_is (subst Q (sym top) (top-heaviest view tree c.self.invariant (omega (arith, top, c.if-top-eq0.false))))
