use Rattle.std.proofs.Common.{ap, ◌∙◌}
use Rattle.ilk_arena.specs.Arena.{ArenaContent, reference_after_in_list, chain_of, contains_reference}
use Rattle.ilk_watches.proofs.Walks.{at-hand, hand-follows_or_heads_chain, hand-stands, step-moves, step-stays}
use Rattle.ilk_watches.proofs.walk.step.Goals as goal

pub visit-requires-clause-follows : goal.visit-requires-clause-follows
visit-requires-clause-follows c = hand-follows_or_heads_chain _ _ _ _ _ (at-hand _ _ _ _ _ _ c.requires.walking c.in-Some.is)

pub number-requires : goal.number-requires
number-requires c =
    let k = c.in-Some.c in
    let known = c.arena.ensures.clauses.arena.held c.args.walk.now.f k (hand-stands _ _ _ _ k (at-hand _ _ _ _ _ _ c.requires.walking c.in-Some.is)) in
    ap (λ (x : ArenaContent). contains_reference k x.references) c.arena-in-Broken.ensures.arena ∙ ap (contains_reference k) c.visit.ensures.clauses.references ∙ known

pub returns-in-Stays-clause-walking : goal.returns-in-Stays-clause-walking
returns-in-Stays-clause-walking c =
    let f = c.args.walk.now.f in
    let next = c.next_watch-walk.ensures ∙ ap (λ (x : ArenaContent). reference_after_in_list c.in-Some.c (chain_of x f)) c.arena.ensures.arena in
    let hand = at-hand _ _ _ _ _ _ c.requires.walking c.in-Some.is in
    (step-stays _ _ _ _ f _ _ _ _ hand c.in-Some.is next c.arena.ensures.clauses.arena c.in-Stays.ensures.visited c.visit.ensures.propagated.kept).walking

pub returns-in-Stays-clause-shorter : goal.returns-in-Stays-clause-shorter
returns-in-Stays-clause-shorter c =
    let f = c.args.walk.now.f in
    let next = c.next_watch-walk.ensures ∙ ap (λ (x : ArenaContent). reference_after_in_list c.in-Some.c (chain_of x f)) c.arena.ensures.arena in
    let hand = at-hand _ _ _ _ _ _ c.requires.walking c.in-Some.is in
    λ n.
    (step-stays c.args.clauses.now c.visit.new.clauses c.args.trail.now.entries
    c.visit.new.trail.entries f c.args.walk.now.before c.args.walk.now.next c.in-Some.c
    c.next_watch-walk.result hand c.in-Some.is next c.arena.ensures.clauses.arena
    c.in-Stays.ensures.visited c.visit.ensures.propagated.kept).smaller

pub returns-in-Moves-clause-walking : goal.returns-in-Moves-clause-walking
returns-in-Moves-clause-walking c =
    let f = c.args.walk.now.f in
    let next = c.next_watch-walk.ensures ∙ ap (λ (x : ArenaContent). reference_after_in_list c.in-Some.c (chain_of x f)) c.arena.ensures.arena in
    let hand = at-hand _ _ _ _ _ _ c.requires.walking c.in-Some.is in
    (step-moves _ _ _ _ f _ _ _ _ hand c.in-Some.is next c.arena.ensures.clauses.arena c.in-Moves.ensures.visited c.visit.ensures.propagated.kept c.requires.denied).walking

pub returns-in-Moves-clause-shorter : goal.returns-in-Moves-clause-shorter
returns-in-Moves-clause-shorter c =
    let f = c.args.walk.now.f in
    let next = c.next_watch-walk.ensures ∙ ap (λ (x : ArenaContent). reference_after_in_list c.in-Some.c (chain_of x f)) c.arena.ensures.arena in
    let hand = at-hand _ _ _ _ _ _ c.requires.walking c.in-Some.is in
    λ n.
    (step-moves c.args.clauses.now c.visit.new.clauses c.args.trail.now.entries
    c.visit.new.trail.entries f c.args.walk.now.before c.args.walk.now.next c.in-Some.c
    c.next_watch-walk.result hand c.in-Some.is next c.arena.ensures.clauses.arena
    c.in-Moves.ensures.visited c.visit.ensures.propagated.kept c.requires.denied).smaller
