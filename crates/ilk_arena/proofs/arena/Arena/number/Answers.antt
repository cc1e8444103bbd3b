use Rattle.std.proofs.Common.{◌+◌, arith, ◌∙◌}
use Rattle.std.proofs.lemmas.List.{get_or_read}
use Rattle.ilk_arena.proofs.Readings.{known}
use Rattle.ilk_arena.proofs.arena.Arena.number.Goals as goal

pub overflow_add-c : goal.overflow_add-c
overflow_add-c c = let s = c.self.inside in let k = known s.vars _ s.count s.words.items s.heads.items c.args.self.now c.args.c c.self.invariant c.self.view_is c.requires in omega (arith, k.room, s.words.ok, s.words.small)

pub index-requires : goal.index-requires
index-requires c = let s = c.self.inside in let k = known s.vars _ s.count s.words.items s.heads.items c.args.self.now c.args.c c.self.invariant c.self.view_is c.requires in omega (arith, k.room, s.words.ok.0)

pub returns : goal.returns
returns c = let s = c.self.inside in
    let k = known s.vars _ s.count s.words.items s.heads.items c.args.self.now c.args.c c.self.invariant
    c.self.view_is c.requires in
    get_or_read s.words.items (c.args.c + 5) c.index.result.now (omega (arith, k.room)) c.index.ensures 0
    ∙ k.number
