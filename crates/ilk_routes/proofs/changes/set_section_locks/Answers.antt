use Rattle.std.proofs.Common.{◌≡◌, ◌+◌, ◌∷◌, ◌∙◌, ap, sym, drop, slice_index_or, length-set, arith}
use Rattle.std.proofs.lemmas.Grind.{common_steps}
use Rattle.std.proofs.lemmas.List.{drop_all}
use Rattle.ilk_routes.specs.Locks.{with_locks}
use Rattle.ilk_routes.proofs.Locks.{with_locks-first, with_locks-none}
use Rattle.ilk_routes.proofs.changes.set_section_locks.Goals as goal
use Rattle.std.proofs.lemmas.List.{drop_more}

pub loop-x-preserved : goal.loop-x-preserved
loop-x-preserved c =
    let i = c.loop-x.x-index in
    let xs = c.as_slice-x-items.result.now in
    let hold = c.args.hold in
    let locks = c.loop-x.locks in
    let split : drop i xs ≡ slice_index_or xs i 0 ∷ drop (i + 1) xs = drop_more xs i 0 (grind (arith, common_steps)) in
    record {
      long = length-set locks (slice_index_or xs i 0) hold ∙ c.loop-x.invariant.long;
      rest = with_locks-first locks (slice_index_or xs i 0) (drop (i + 1) xs) hold c.at_mut.result.now c.at_mut.ensures.value ∙ ap (λ left. with_locks locks left hold) (sym split) ∙ c.loop-x.invariant.rest;
    }

pub returns-clause-locks : goal.returns-clause-locks
returns-clause-locks c =
    let none = drop_all c.loop-x.x-index c.as_slice-x-items.result.now (grind (arith, common_steps)) in
    sym (with_locks-none c.loop-x.locks c.args.hold) ∙ ap (λ left. with_locks c.loop-x.locks left c.args.hold) (sym none) ∙ c.loop-x.invariant.rest
