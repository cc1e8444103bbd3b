use Rattle.std.proofs.Common.{ap, ◌∙◌}
use Rattle.ilk_cnf.specs.Formula.{is_lit_over}
use Rattle.ilk_arena.specs.Arena.{ArenaContent}
use Rattle.ilk_watches.proofs.Visiting.{made-false}
use Rattle.ilk_watches.proofs.walk.start.Goals as goal

pub first_watch-requires : goal.first_watch-requires
first_watch-requires c =
    let m = made-false c.args.clauses.now.vars _ c.level.ensures.is_trail c.requires.vars c.requires.entry c.at.ensures c.negated-f.ensures in
    ap (λ (x : ArenaContent). is_lit_over x.vars c.negated-f.result) c.arena.ensures.arena ∙ m.within

pub returns-clause-literal : goal.returns-clause-literal
returns-clause-literal c = made-false _ _ c.level.ensures.is_trail c.requires.vars c.requires.entry c.at.ensures c.negated-f.ensures
