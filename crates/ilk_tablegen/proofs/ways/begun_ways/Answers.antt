use Rattle.std.proofs.Common.{◌∙◌, ◌∷◌, ◌++◌, [], ap}
use Rattle.ilk_tablegen.proofs.Enumerated.{made-more_at}
use Rattle.ilk_tablegen.proofs.ways.begun_ways.Goals as goal

pub loop-m-preserved : goal.loop-m-preserved
loop-m-preserved c =
    made-more_at (λ numbered. record { source = numbered.0; from = numbered.1; path = [] })
    c.args.plant.now.boards c.loop-m.m c.board.result.now c.loop-m.ways c.push.new.self c.board.ensures
    c.loop-m.invariant
    (c.in_ok-push.ensures.ok
    ∙ ap
    (λ path. c.loop-m.ways
    ++ record { source = c.loop-m.m; from = c.board.result.now; path = path } ∷ [])
    c.new.ensures)
