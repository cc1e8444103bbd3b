use Rattle.std.proofs.Common.{◌∙◌, ◌∷◌, ◌++◌, [], ap, arith}
use Rattle.ilk_plant.specs.declared.limits.TheConstants.{MAX_ROUTES}
use Rattle.ilk_tablegen.specs.Flags.{route_by_flags}
use Rattle.ilk_tablegen.proofs.Enumerated.{made-more, taken-all}
use Rattle.ilk_tablegen.proofs.RoutesTold.{routes-few, routes-told}
use Rattle.ilk_tablegen.proofs.routes.routes_of_ways.Goals as goal

pub loop-n-preserved : goal.loop-n-preserved
loop-n-preserved c =
    made-more (λ numbered. route_by_flags c.args.plant.now c.in_ok-flags.flags numbered.0 numbered.1)
    c.as_slice-way-items.result.now c.loop-n.n c.way-item.result c.loop-n.routes c.push.new.self
    c.loop-n-test.true c.loop-n.invariant
    (c.in_ok-push.ensures.ok
    ∙ ap (λ r. c.loop-n.routes ++ r ∷ [])
    (c.in_ok-route_of_way.ensures
    ∙ ap (route_by_flags c.args.plant.now c.in_ok-flags.flags c.loop-n.n) c.way-item.is))

pub returns-clause-exact : goal.returns-clause-exact
returns-clause-exact c =
    routes-told c.args.plant.now c.prove_is_plant.ensures c.sections.result c.args.ways.now
    c.as_slice-way-items.result.now c.in_ok-flags.flags c.loop-n.routes c.sections.ensures c.requires.all
    c.as_slice-way-items.ensures c.in_ok-flags.ensures
    (taken-all (λ numbered. route_by_flags c.args.plant.now c.in_ok-flags.flags numbered.0 numbered.1)
    c.as_slice-way-items.result.now c.loop-n.n c.loop-n.routes (omega (arith, c.loop-n-test.false))
    c.loop-n.invariant)

pub returns-clause-few : goal.returns-clause-few
returns-clause-few c =
    routes-few c.args.plant.now MAX_ROUTES c.args.ways.now c.loop-n.routes c.requires.all c.requires.few (returns-clause-exact c)
