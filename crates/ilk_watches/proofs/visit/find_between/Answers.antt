use Rattle.std.proofs.Common.{◌≡◌, Some, ap, sym, ◌∙◌}
use Rattle.std.specs.List.{slice_get}
use Rattle.ilk_cnf.specs.Formula.{is_lit_over}
use Rattle.ilk_arena.specs.Arena.{ArenaContent, literals_of}
use Rattle.ilk_watches.proofs.Others.{literal-within}
use Rattle.ilk_watches.proofs.visit.find_between.Goals as goal

pub is_false-requires-clause-within : goal.is_false-requires-clause-within
is_false-requires-clause-within c =
    let a = c.args.clauses.now in
    let l = c.literal-l.result in
    let there : slice_get (literals_of a c.args.c) c.loop-i.i ≡ Some l = ap (λ (x : ArenaContent). slice_get (literals_of x c.args.c) c.loop-i.i) (sym c.arena-arena.ensures.arena) ∙ c.literal-l.ensures in
    ap (λ n. is_lit_over n l) c.requires.vars ∙ literal-within a c.args.c c.loop-i.i l c.arena-arena.ensures.clauses c.requires.known there
