use Rattle.std.proofs.Common.{◌≡◌, ◌++◌, ◌∷◌, [], List, ℕ, true, ap, sym, ◌∙◌, subst, refl}
use Rattle.std.specs.Result.{is_ok}
use Rattle.ilk_cnf.specs.Formula.{is_clause_over}
use Rattle.ilk_arena.specs.Arena.{ArenaContent}
use Rattle.ilk_watches.specs.Held.{AreClauseReferences}
use Rattle.ilk_watches.proofs.Chained.{held-grown}
use Rattle.ilk_watches.proofs.clauses.NumberedClauses.add.Goals as goal

pub invariant_of-self-2 : goal.invariant_of-self-2
invariant_of-self-2 c =
    let s = c.self.inside in
    let n = c.add-reference.new.self in
    let r = c.add-reference.result in
    let wide : is_clause_over s.arena.vars c.args.clause.now ≡ true = ap (λ (x : ArenaContent). is_clause_over x.vars c.args.clause.now) c.self.view_is ∙ c.requires.within in
    let grown = held-grown s.arena c.reserve-2.new.self n s.references.items c.args.clause.now r
    c.self.invariant c.in_ok-reserve-2.ensures.same wide c.requires.differ c.add-reference.ensures.fresh
    c.add-reference.ensures.added c.add-reference.ensures.arena in
    let ok : is_ok c.push.result ≡ true = rw c.unwrap.ensures refl in
    let items : c.push.new.self.items ≡ c.reserve.new.self.items ++ r ∷ [] = rw ok at c.push.ensures.items in
    let P : List ℕ → Type 0 = λ rs. AreClauseReferences n rs in
    subst P (sym (items ∙ ap (λ (xs : List ℕ). xs ++ r ∷ []) c.in_ok-reserve.ensures.items)) grown
