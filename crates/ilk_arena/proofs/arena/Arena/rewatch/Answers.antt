use Rattle.std.proofs.Common.{◌≡◌, ◌+◌, ◌++◌, ℕ, false, Some, length, take, drop, arith, ap, sym, ◌∙◌}
use Rattle.std.specs.List.{slice_get}
use Rattle.std.proofs.lemmas.List.{get_or_read}
use Rattle.ilk_base.proofs.Lists.{all-written}
use Rattle.ilk_arena.specs.Arena.{place, chain_of, literals_of, contains_reference}
use Rattle.ilk_arena.specs.Linked.{lit_with_place_number}
use Rattle.ilk_arena.proofs.Law.{arena-law}
use Rattle.ilk_arena.proofs.Readings.{within}
use Rattle.ilk_arena.proofs.arena.Arena.rewatch.Goals as goal
use Rattle.ilk_arena.proofs.Rewatching.{ready, rewatch-law, words_moved, heads_moved}

pub overflow_add-c : goal.overflow_add-c
overflow_add-c c = let s = c.self.inside in
    let r = ready s.vars _ s.count s.words.items s.heads.items c.args.self.now c.args.before c.args.c
    c.args.to c.args.from c.self.invariant c.self.view_is c.requires.within c.requires.follows
    c.requires.to_in in
    omega (arith, r.literal_in, s.words.ok, s.words.small)

pub overflow_add-c-2 : goal.overflow_add-c-2
overflow_add-c-2 c = let s = c.self.inside in
    let r = ready s.vars _ s.count s.words.items s.heads.items c.args.self.now c.args.before c.args.c
    c.args.to c.args.from c.self.invariant c.self.view_is c.requires.within c.requires.follows
    c.requires.to_in in
    omega (arith, r.literal_in, s.words.ok, s.words.small)

pub index-watch-requires : goal.index-watch-requires
index-watch-requires c = let s = c.self.inside in
    let r = ready s.vars _ s.count s.words.items s.heads.items c.args.self.now c.args.before c.args.c
    c.args.to c.args.from c.self.invariant c.self.view_is c.requires.within c.requires.follows
    c.requires.to_in in
    omega (arith, r.literal_in, s.words.ok.0)

pub place-requires : goal.place-requires
place-requires c = let s = c.self.inside in (within s.vars _ s.count s.words.items s.heads.items c.args.self.now c.args.from c.self.invariant c.self.view_is c.requires.within).few

pub move_watch-requires-clause-before_in : goal.move_watch-requires-clause-before_in
move_watch-requires-clause-before_in c = let s = c.self.inside in
    let r = ready s.vars _ s.count s.words.items s.heads.items c.args.self.now c.args.before c.args.c
    c.args.to c.args.from c.self.invariant c.self.view_is c.requires.within c.requires.follows
    c.requires.to_in in
    rw c.deref_mut.ensures.value r.before_in

pub move_watch-requires-clause-clause_in : goal.move_watch-requires-clause-clause_in
move_watch-requires-clause-clause_in c = let s = c.self.inside in
    let r = ready s.vars _ s.count s.words.items s.heads.items c.args.self.now c.args.before c.args.c
    c.args.to c.args.from c.self.invariant c.self.view_is c.requires.within c.requires.follows
    c.requires.to_in in
    rw c.deref_mut.ensures.value r.clause_in

pub move_watch-requires-clause-from_in : goal.move_watch-requires-clause-from_in
move_watch-requires-clause-from_in c = let s = c.self.inside in
    let r = ready s.vars _ s.count s.words.items s.heads.items c.args.self.now c.args.before c.args.c
    c.args.to c.args.from c.self.invariant c.self.view_is c.requires.within c.requires.follows
    c.requires.to_in in
    rw (c.deref_mut-2.ensures.value, c.place.ensures) r.from_in

pub move_watch-requires-clause-to_in : goal.move_watch-requires-clause-to_in
move_watch-requires-clause-to_in c = let s = c.self.inside in
    let r = ready s.vars _ s.count s.words.items s.heads.items c.args.self.now c.args.before c.args.c
    c.args.to c.args.from c.self.invariant c.self.view_is c.requires.within c.requires.follows
    c.requires.to_in in
    let pe = get_or_read s.words.items (c.args.c + 7 + c.args.to) c.index-watch.result.now r.literal_in
    c.index-watch.ensures 0 in
    rw c.deref_mut-2.ensures.value (omega (arith, pe, r.to_in))

pub move_watch-requires-clause-fits : goal.move_watch-requires-clause-fits
move_watch-requires-clause-fits c = let s = c.self.inside in
    let r = ready s.vars _ s.count s.words.items s.heads.items c.args.self.now c.args.before c.args.c
    c.args.to c.args.from c.self.invariant c.self.view_is c.requires.within c.requires.follows
    c.requires.to_in in
    omega (arith, r.clause_in, c.self.invariant.addressed)

pub invariant_of-self : goal.invariant_of-self
invariant_of-self c = let s = c.self.inside in
    let r = ready s.vars _ s.count s.words.items s.heads.items c.args.self.now c.args.before c.args.c
    c.args.to c.args.from c.self.invariant c.self.view_is c.requires.within c.requires.follows
    c.requires.to_in in
    let pe = get_or_read s.words.items (c.args.c + 7 + c.args.to) c.index-watch.result.now r.literal_in
    c.index-watch.ensures 0 in
    let t = c.index-watch.result.now in
    let is : slice_get (literals_of c.args.self.now c.args.c) c.args.to ≡ Some (lit_with_place_number t) = r.is ∙ ap (λ (p : ℕ). Some (lit_with_place_number p)) (sym pe) in
    let un : contains_reference c.args.c (chain_of c.args.self.now (lit_with_place_number t)) ≡ false = rw is at c.requires.unwatched in
    let m = rewatch-law s.vars _ s.count s.words.items s.heads.items c.args.self.now c.args.before c.args.c c.args.to t c.args.from c.self.invariant c.self.view_is r c.requires.within pe un in
    let v = rw (c.deref_mut.ensures.value, c.deref_mut-2.ensures.value, c.place.ensures) at c.move_watch.ensures.words in
    let h = rw (c.deref_mut.ensures.value, c.deref_mut-2.ensures.value, c.place.ensures) at c.move_watch.ensures.heads in
    let nw : length c.move_watch.new.words ≡ s.words.len = omega (arith, c.move_watch.auto.words, c.deref_mut.ensures.len) in
    let nh : length c.move_watch.new.heads ≡ s.heads.len = omega (arith, c.move_watch.auto.heads, c.deref_mut-2.ensures.len) in
    let ew : take s.words.len (c.move_watch.new.words ++ drop (length c.move_watch.new.words) s.words.items)
    ≡ words_moved s.words.items s.heads.items c.args.before (place c.args.from) c.args.c t =
    all-written s.words.len c.move_watch.new.words s.words.items nw ∙ v in
    let eh : take s.heads.len (c.move_watch.new.heads ++ drop (length c.move_watch.new.heads) s.heads.items)
    ≡ heads_moved s.words.items s.heads.items c.args.before (place c.args.from) c.args.c t =
    all-written s.heads.len c.move_watch.new.heads s.heads.items nh ∙ h in
    rw (ew, eh) m.holds

pub returns-clause-moved : goal.returns-clause-moved
returns-clause-moved c = let s = c.self.inside in
    let r = ready s.vars _ s.count s.words.items s.heads.items c.args.self.now c.args.before c.args.c
    c.args.to c.args.from c.self.invariant c.self.view_is c.requires.within c.requires.follows
    c.requires.to_in in
    let pe = get_or_read s.words.items (c.args.c + 7 + c.args.to) c.index-watch.result.now r.literal_in
    c.index-watch.ensures 0 in
    let t = c.index-watch.result.now in
    let is : slice_get (literals_of c.args.self.now c.args.c) c.args.to ≡ Some (lit_with_place_number t) = r.is ∙ ap (λ (p : ℕ). Some (lit_with_place_number p)) (sym pe) in
    let un : contains_reference c.args.c (chain_of c.args.self.now (lit_with_place_number t)) ≡ false = rw is at c.requires.unwatched in
    let m = rewatch-law s.vars _ s.count s.words.items s.heads.items c.args.self.now c.args.before c.args.c c.args.to t c.args.from c.self.invariant c.self.view_is r c.requires.within pe un in
    let v = rw (c.deref_mut.ensures.value, c.deref_mut-2.ensures.value, c.place.ensures) at c.move_watch.ensures.words in
    let h = rw (c.deref_mut.ensures.value, c.deref_mut-2.ensures.value, c.place.ensures) at c.move_watch.ensures.heads in
    let nw : length c.move_watch.new.words ≡ s.words.len = omega (arith, c.move_watch.auto.words, c.deref_mut.ensures.len) in
    let nh : length c.move_watch.new.heads ≡ s.heads.len = omega (arith, c.move_watch.auto.heads, c.deref_mut-2.ensures.len) in
    let ew : take s.words.len (c.move_watch.new.words ++ drop (length c.move_watch.new.words) s.words.items)
    ≡ words_moved s.words.items s.heads.items c.args.before (place c.args.from) c.args.c t =
    all-written s.words.len c.move_watch.new.words s.words.items nw ∙ v in
    let eh : take s.heads.len (c.move_watch.new.heads ++ drop (length c.move_watch.new.heads) s.heads.items)
    ≡ heads_moved s.words.items s.heads.items c.args.before (place c.args.from) c.args.c t =
    all-written s.heads.len c.move_watch.new.heads s.heads.items nh ∙ h in
    rw (is, ew, eh) m.lists

pub returns-clause-arena : goal.returns-clause-arena
returns-clause-arena c = let s = c.self.inside in
    let r = ready s.vars _ s.count s.words.items s.heads.items c.args.self.now c.args.before c.args.c
    c.args.to c.args.from c.self.invariant c.self.view_is c.requires.within c.requires.follows
    c.requires.to_in in
    let pe = get_or_read s.words.items (c.args.c + 7 + c.args.to) c.index-watch.result.now r.literal_in
    c.index-watch.ensures 0 in
    let t = c.index-watch.result.now in
    let is : slice_get (literals_of c.args.self.now c.args.c) c.args.to ≡ Some (lit_with_place_number t) = r.is ∙ ap (λ (p : ℕ). Some (lit_with_place_number p)) (sym pe) in
    let un : contains_reference c.args.c (chain_of c.args.self.now (lit_with_place_number t)) ≡ false = rw is at c.requires.unwatched in
    let m = rewatch-law s.vars _ s.count s.words.items s.heads.items c.args.self.now c.args.before c.args.c c.args.to t c.args.from c.self.invariant c.self.view_is r c.requires.within pe un in
    let v = rw (c.deref_mut.ensures.value, c.deref_mut-2.ensures.value, c.place.ensures) at c.move_watch.ensures.words in
    let h = rw (c.deref_mut.ensures.value, c.deref_mut-2.ensures.value, c.place.ensures) at c.move_watch.ensures.heads in
    let nw : length c.move_watch.new.words ≡ s.words.len = omega (arith, c.move_watch.auto.words, c.deref_mut.ensures.len) in
    let nh : length c.move_watch.new.heads ≡ s.heads.len = omega (arith, c.move_watch.auto.heads, c.deref_mut-2.ensures.len) in
    let ew : take s.words.len (c.move_watch.new.words ++ drop (length c.move_watch.new.words) s.words.items)
    ≡ words_moved s.words.items s.heads.items c.args.before (place c.args.from) c.args.c t =
    all-written s.words.len c.move_watch.new.words s.words.items nw ∙ v in
    let eh : take s.heads.len (c.move_watch.new.heads ++ drop (length c.move_watch.new.heads) s.heads.items)
    ≡ heads_moved s.words.items s.heads.items c.args.before (place c.args.from) c.args.c t =
    all-written s.heads.len c.move_watch.new.heads s.heads.items nh ∙ h in
    rw (ew, eh) (arena-law s.vars _ _ _ _ m.holds.linked)
