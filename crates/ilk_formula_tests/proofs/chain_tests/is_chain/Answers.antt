use Rattle.std.proofs.Common.{◌≡◌, true, sym, subst, IfSome}
use Rattle.ilk_arena.specs.Arena.{chain_of, contains_reference}
use Rattle.ilk_formula_tests.proofs.Walks.{reference_after_in_list-stands}
use Rattle.ilk_formula_tests.proofs.chain_tests.is_chain.Goals as goal

pub loop-c-preserved : goal.loop-c-preserved
loop-c-preserved c =
    let chain = chain_of c.args.arena.now c.args.l in
    subst (λ next. IfSome next (λ d. contains_reference d chain ≡ true)) (sym c.next_watch-next.ensures) (reference_after_in_list-stands c.in-Some.found chain)
