use Rattle.std.proofs.Common.{arith, ap, ◌∙◌}
use Rattle.ilk_arena.specs.Words.{reference_unless_zero}
use Rattle.ilk_arena.proofs.Readings.{within, watching, reference_after_in_list-seen}
use Rattle.ilk_arena.proofs.arena.Arena.next_watch.Goals as goal

pub place-requires : goal.place-requires
place-requires c = let s = c.self.inside in let w = within s.vars _ s.count s.words.items s.heads.items c.args.self.now c.args.l c.self.invariant c.self.view_is c.requires.within in w.few

pub next_of-requires : goal.next_of-requires
next_of-requires c = let s = c.self.inside in
    let w = within s.vars _ s.count s.words.items s.heads.items c.args.self.now c.args.l c.self.invariant
    c.self.view_is c.requires.within in
    let i = watching s.vars _ s.words.items s.heads.items c.args.self.now c.args.l c.args.c
    c.self.invariant.linked c.self.view_is c.requires.stands in
    rw c.deref.ensures.value (omega (arith, c.self.invariant.linked.whole c.args.c i.known))

pub returns : goal.returns
returns c = let s = c.self.inside in
    let w = within s.vars _ s.count s.words.items s.heads.items c.args.self.now c.args.l c.self.invariant
    c.self.view_is c.requires.within in
    let i = watching s.vars _ s.words.items s.heads.items c.args.self.now c.args.l c.args.c
    c.self.invariant.linked c.self.view_is c.requires.stands in
    let n = rw (c.deref.ensures.value, c.place.ensures) at c.next_of.ensures in
    c.reference.ensures ∙ ap reference_unless_zero n ∙ reference_after_in_list-seen s.vars s.count s.words.items s.heads.items c.args.self.now c.args.l c.args.c c.self.invariant w i
