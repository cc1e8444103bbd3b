use Rattle.std.proofs.Common.{◌+◌, ℕ, Some, arith, ap, sym, ◌∙◌}
use Rattle.std.proofs.lemmas.List.{get_or_read}
use Rattle.ilk_cnf.specs.Literal.{Literal}
use Rattle.ilk_arena.specs.Linked.{references_in_block, lit_with_place_number}
use Rattle.ilk_arena.proofs.Rewatching.{lit-at}
use Rattle.ilk_arena.proofs.Readings.{known}
use Rattle.ilk_arena.proofs.arena.Arena.literal.Goals as goal

pub overflow_add-c : goal.overflow_add-c
overflow_add-c c = let s = c.self.inside in
    let k = known s.vars _ s.count s.words.items s.heads.items c.args.self.now c.args.c c.self.invariant
    c.self.view_is c.requires.known in
    let l = lit-at s.vars _ s.words.items s.heads.items (references_in_block s.words.items) c.args.self.now c.args.c
    c.args.i c.self.invariant.linked c.self.view_is k.stands c.requires.below in
    omega (arith, l.room, s.words.ok, s.words.small)

pub overflow_add-c-2 : goal.overflow_add-c-2
overflow_add-c-2 c = let s = c.self.inside in
    let k = known s.vars _ s.count s.words.items s.heads.items c.args.self.now c.args.c c.self.invariant
    c.self.view_is c.requires.known in
    let l = lit-at s.vars _ s.words.items s.heads.items (references_in_block s.words.items) c.args.self.now c.args.c
    c.args.i c.self.invariant.linked c.self.view_is k.stands c.requires.below in
    omega (arith, l.room, s.words.ok, s.words.small)

pub index-requires : goal.index-requires
index-requires c = let s = c.self.inside in
    let k = known s.vars _ s.count s.words.items s.heads.items c.args.self.now c.args.c c.self.invariant
    c.self.view_is c.requires.known in
    let l = lit-at s.vars _ s.words.items s.heads.items (references_in_block s.words.items) c.args.self.now c.args.c
    c.args.i c.self.invariant.linked c.self.view_is k.stands c.requires.below in
    omega (arith, l.room, s.words.ok.0)

pub lit_with_place_number-requires : goal.lit_with_place_number-requires
lit_with_place_number-requires c = let s = c.self.inside in
    let k = known s.vars _ s.count s.words.items s.heads.items c.args.self.now c.args.c c.self.invariant
    c.self.view_is c.requires.known in
    let l = lit-at s.vars _ s.words.items s.heads.items (references_in_block s.words.items) c.args.self.now c.args.c
    c.args.i c.self.invariant.linked c.self.view_is k.stands c.requires.below in
    let r = get_or_read s.words.items (c.args.c + 7 + c.args.i) c.index.result.now l.room c.index.ensures 0 in
    omega (arith, r, c.self.invariant.linked.least c.args.c _ k.stands l.own)

pub returns : goal.returns
returns c = let s = c.self.inside in
    let k = known s.vars _ s.count s.words.items s.heads.items c.args.self.now c.args.c c.self.invariant
    c.self.view_is c.requires.known in
    let l = lit-at s.vars _ s.words.items s.heads.items (references_in_block s.words.items) c.args.self.now c.args.c
    c.args.i c.self.invariant.linked c.self.view_is k.stands c.requires.below in
    let r = get_or_read s.words.items (c.args.c + 7 + c.args.i) c.index.result.now l.room c.index.ensures 0 in
    l.is ∙ sym (ap (λ (m : Literal). Some m) c.lit_with_place_number.ensures ∙ ap (λ (p : ℕ). Some (lit_with_place_number p)) r)
