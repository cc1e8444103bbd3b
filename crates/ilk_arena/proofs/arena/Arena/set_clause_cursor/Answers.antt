use Rattle.std.proofs.Common.{arith, refl}
use Rattle.ilk_arena.proofs.Readings.{known}
use Rattle.ilk_arena.proofs.arena.Arena.set_clause_cursor.Goals as goal
use Rattle.ilk_arena.proofs.Cursors.{cursor-law}

pub overflow_add-c : goal.overflow_add-c
overflow_add-c c = let s = c.self.inside in let k = known s.vars _ s.count s.words.items s.heads.items c.args.self.now c.args.c c.self.invariant c.self.view_is c.requires.known in omega (arith, k.room, s.words.ok, s.words.small)

pub index_mut-cursor-requires : goal.index_mut-cursor-requires
index_mut-cursor-requires c = let s = c.self.inside in let k = known s.vars _ s.count s.words.items s.heads.items c.args.self.now c.args.c c.self.invariant c.self.view_is c.requires.known in omega (arith, k.room, s.words.ok.0)

pub overflow_cast-cursor : goal.overflow_cast-cursor
overflow_cast-cursor c = let s = c.self.inside in
    let k = known s.vars _ s.count s.words.items s.heads.items c.args.self.now c.args.c c.self.invariant
    c.self.view_is c.requires.known in
    omega (arith, k.room, k.len, c.requires.within, c.self.invariant.addressed)

pub invariant_of-self : goal.invariant_of-self
invariant_of-self c = let s = c.self.inside in let k = known s.vars _ s.count s.words.items s.heads.items c.args.self.now c.args.c c.self.invariant c.self.view_is c.requires.known in
    (cursor-law s.vars 0 s.count s.words.items s.heads.items _ c.args.c c.args.i c.self.invariant refl k.stands (omega (arith, k.len, c.requires.within))).holds

pub returns : goal.returns
returns c = let s = c.self.inside in let k = known s.vars _ s.count s.words.items s.heads.items c.args.self.now c.args.c c.self.invariant c.self.view_is c.requires.known in
    (cursor-law s.vars _ s.count s.words.items s.heads.items _ c.args.c c.args.i c.self.invariant c.self.view_is k.stands (omega (arith, k.len, c.requires.within))).lists
