use Rattle.std.proofs.Common.{◌≡◌, ◌+◌, ◌∷◌, ◌∙◌, ap, sym, drop, get_or, map, length-set, arith}
use Rattle.std.proofs.lemmas.Grind.{common_steps}
use Rattle.std.proofs.lemmas.List.{drop_all, drop_more}
use Rattle.ilk_plant.specs.declared.network.Position.TheVariants.{Plus}
use Rattle.ilk_plant.specs.declared.table.Listed.{Listed}
use Rattle.ilk_routes.specs.Locks.{with_locks}
use Rattle.ilk_routes.proofs.Locks.{with_locks-first, with_locks-none}
use Rattle.ilk_routes.proofs.changes.give_point_locks.Goals as goal

pub loop-listed-preserved : goal.loop-listed-preserved
loop-listed-preserved c =
    let i = c.loop-listed.listed-index in
    let xs = c.as_slice-listed-items.result.now in
    let hold = c.args.hold in
    let locks = c.loop-listed.locks in
    let default : Listed = record { point = 0; at = Plus } in
    let listed : Listed = get_or xs i default in
    let split : drop i xs ≡ listed ∷ drop (i + 1) xs = drop_more xs i default (grind (arith, common_steps)) in
    record {
      long = length-set locks listed.point hold ∙ c.loop-listed.invariant.long;
      rest =
          with_locks-first locks listed.point (map (λ (l : Listed). l.point) (drop (i + 1) xs)) hold
          c.at_mut.result.now c.at_mut.ensures.value
          ∙ ap (λ (left : _). with_locks locks (map (λ (l : Listed). l.point) left) hold) (sym split)
          ∙ c.loop-listed.invariant.rest;
    }

pub returns-clause-locks : goal.returns-clause-locks
returns-clause-locks c =
    let none = drop_all c.loop-listed.listed-index c.as_slice-listed-items.result.now (grind (arith, common_steps)) in
    sym (with_locks-none c.loop-listed.locks c.args.hold) ∙ ap (λ (left : _). with_locks c.loop-listed.locks (map (λ (l : Listed). l.point) left) c.args.hold) (sym none) ∙ c.loop-listed.invariant.rest
