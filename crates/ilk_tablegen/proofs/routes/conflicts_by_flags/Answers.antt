use Rattle.std.proofs.Common.{◌∙◌, ◌&&◌, ◌==◌, [], ap, get_or, not}
use Rattle.ilk_tablegen.specs.Flags.{any_section_flagged}
use Rattle.ilk_tablegen.proofs.Flagged.{passing-more}
use Rattle.ilk_tablegen.proofs.Enumerated.{item_or}
use Rattle.ilk_tablegen.proofs.routes.conflicts_by_flags.Goals as goal

pub loop-k-preserved : goal.loop-k-preserved
loop-k-preserved c =
    passing-more
    (λ k. not (k == c.args.n)
    && any_section_flagged (get_or c.as_slice-other-items.result.now k []) c.args.path.now) c.loop-k.k
    c.is_conflict-shares.result c.loop-k.conflicts c.push_if.new.self
    (c.is_conflict-shares.ensures
    ∙ ap (λ l. not (c.loop-k.k == c.args.n) && any_section_flagged l c.args.path.now)
    (item_or c.as_slice-other-items.result.now c.loop-k.k c.other-item.result []
    c.loop-k-test.true c.other-item.is))
    c.loop-k.invariant c.in_ok-push_if.ensures.ok
