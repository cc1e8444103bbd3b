use Rattle.std.proofs.Common.{◌<◌, length, arith, ap, ◌∙◌}
use Rattle.ilk_arena.specs.Arena.{ArenaContent}
use Rattle.ilk_watches.specs.Reasons.{nth_clause_or_empty}
use Rattle.ilk_watches.proofs.Chained.{read-reference}
use Rattle.ilk_watches.proofs.clauses.NumberedClauses.length.Goals as goal

pub returns : goal.returns
returns c =
    let s = c.self.inside in
    let within : c.args.c < length s.arena.clauses = omega (arith, c.requires, ap (λ (x : ArenaContent). length x.clauses) c.self.view_is) in
    let b = read-reference s.arena s.references.items c.args.c c.index.result.now c.self.invariant within c.index.ensures in
    c.length.ensures ∙ ap length b.literals ∙ ap (λ (x : ArenaContent). length (nth_clause_or_empty x.clauses c.args.c)) c.self.view_is
