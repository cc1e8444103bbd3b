use Rattle.std.proofs.Common.{◌≡◌, ℕ, Option, Some, None, length, ap, ◌∙◌}
use Rattle.std.specs.Prelude.{IfNone}
use Rattle.ilk_trail.specs.Laws.{lits_of}
use Rattle.ilk_arena.specs.Arena.{ArenaContent, literals_of}
use Rattle.ilk_watches.proofs.Others.{none-around}
use Rattle.ilk_watches.proofs.visit.find_around.Goals as goal

pub returns-in-None-clause-none : goal.returns-in-None-clause-none
returns-in-None-clause-none c =
    let a = c.args.clauses.now in
    let ls = literals_of a c.args.c in
    let size : c.length-length.result ≡ length ls = c.length-length.ensures ∙ ap (λ (x : ArenaContent). length (literals_of x c.args.c)) c.arena.ensures.arena in
    on-none c.find_between-in-None.result c.find_between-in-None.ensures.none (λ h. none-around (lits_of c.args.trail.now.entries) c.args.other ls c.args.start c.length-length.result size c.in-None.ensures.none h)
  where
    on-none : {P Q : Type 0} (o : Option ℕ) → IfNone o P → (P → Q) → IfNone o Q
    on-none None h f = f h
    on-none (Some x) h f = tt
