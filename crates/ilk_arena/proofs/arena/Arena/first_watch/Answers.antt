use Rattle.std.proofs.Common.{arith, ap, subst, ◌∙◌}
use Rattle.std.proofs.lemmas.List.{get_or_read}
use Rattle.ilk_arena.specs.Arena.{ArenaContent, place}
use Rattle.ilk_arena.specs.Chains.{EachLongClauseWatchesTwo}
use Rattle.ilk_arena.specs.Words.{reference_unless_zero}
use Rattle.ilk_arena.specs.Linked.{references_in_block}
use Rattle.ilk_arena.proofs.Law.{arena-law}
use Rattle.ilk_arena.proofs.Readings.{within, first-seen}
use Rattle.ilk_arena.proofs.arena.Arena.first_watch.Goals as goal

pub place-requires : goal.place-requires
place-requires c = let s = c.self.inside in let w = within s.vars _ s.count s.words.items s.heads.items c.args.self.now c.args.l c.self.invariant c.self.view_is c.requires in w.few

pub index-requires : goal.index-requires
index-requires c = let s = c.self.inside in let w = within s.vars _ s.count s.words.items s.heads.items c.args.self.now c.args.l c.self.invariant c.self.view_is c.requires in omega (arith, c.place.ensures, w.below, s.heads.ok.0)

pub returns-clause-first : goal.returns-clause-first
returns-clause-first c = let s = c.self.inside in let w = within s.vars _ s.count s.words.items s.heads.items c.args.self.now c.args.l c.self.invariant c.self.view_is c.requires in
    let at = rw c.place.ensures at c.index.ensures in
    let r = get_or_read s.heads.items (place c.args.l) c.index.result.now w.below at 0 in
    c.reference.ensures ∙ ap reference_unless_zero r ∙ first-seen s.vars 0 s.count s.words.items s.heads.items c.args.self.now c.args.l c.self.invariant w

pub returns-clause-arena : goal.returns-clause-arena
returns-clause-arena c =
    let s = c.self.inside in
    let P : ArenaContent → Type 0 = λ a. EachLongClauseWatchesTwo a in
    subst P c.self.view_is (arena-law s.vars _ s.words.items s.heads.items (references_in_block s.words.items) c.self.invariant.linked)
