use Rattle.std.proofs.Common.{◌≤◌, ◌^◌, List, ap, sym, subst, arith, ℕ}
use Rattle.ilk_arena.specs.Arena.{ArenaContent}
use Rattle.ilk_watches.specs.Held.{AreClauseReferences}
use Rattle.ilk_watches.proofs.Chained.{held-none}
use Rattle.ilk_watches.proofs.clauses.NumberedClauses.new.Goals as goal

pub invariant_of-result : goal.invariant_of-result
invariant_of-result c =
    let a = c.in_ok-new.field-0 in
    let e = c.in_ok-new.ensures.empty in
    let few : a.vars ≤ 2 ^ 62 = omega (arith, ap (λ (x : ArenaContent). x.vars) e, c.requires) in
    let P : List ℕ → Type 0 = λ rs. AreClauseReferences a rs in
    subst P (sym c.new-2.ensures.items) (held-none a few (ap (λ (x : ArenaContent). x.references) e) (ap (λ (x : ArenaContent). x.clauses) e) c.in_ok-new.ensures.arena)
