use Rattle.std.proofs.Common.{ℕ, Some, arith, ap, sym, ◌∙◌}
use Rattle.ilk_cnf.specs.Literal.{Literal}
use Rattle.ilk_arena.specs.Linked.{lit_with_place_number}
use Rattle.ilk_arena.proofs.Readings.{within, watching, other_watch_place-seen}
use Rattle.ilk_arena.proofs.arena.Arena.other_watch.Goals as goal

pub place-requires : goal.place-requires
place-requires c = let s = c.self.inside in let w = within s.vars _ s.count s.words.items s.heads.items c.args.self.now c.args.l c.self.invariant c.self.view_is c.requires.within in w.few

pub other_watched_place-requires : goal.other_watched_place-requires
other_watched_place-requires c = let s = c.self.inside in
    let w = within s.vars _ s.count s.words.items s.heads.items c.args.self.now c.args.l c.self.invariant
    c.self.view_is c.requires.within in
    let i = watching s.vars _ s.words.items s.heads.items c.args.self.now c.args.l c.args.c
    c.self.invariant.linked c.self.view_is c.requires.stands in
    rw c.deref.ensures.value (omega (arith, c.self.invariant.linked.whole c.args.c i.known))

pub lit_with_place_number-requires : goal.lit_with_place_number-requires
lit_with_place_number-requires c =
    let s = c.self.inside in
    let o = other_watch_place-seen s.vars _ s.count s.words.items s.heads.items c.args.self.now c.args.l c.args.c c.self.invariant c.self.view_is c.requires.stands in
    let n = rw (c.deref.ensures.value, c.place.ensures) at c.other_watched_place.ensures in
    omega (arith, n, o.low)

pub returns : goal.returns
returns c =
    let s = c.self.inside in
    let o = other_watch_place-seen s.vars _ s.count s.words.items s.heads.items c.args.self.now c.args.l c.args.c c.self.invariant c.self.view_is c.requires.stands in
    let n = rw (c.deref.ensures.value, c.place.ensures) at c.other_watched_place.ensures in
    o.is ∙ sym (ap (λ (m : Literal). Some m) c.lit_with_place_number.ensures ∙ ap (λ (p : ℕ). Some (lit_with_place_number p)) n)
