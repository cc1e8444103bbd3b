use Rattle.std.proofs.Common.{◌≡◌, false, Option, sym, subst}
use Rattle.std.specs.Prelude.{IfSome}
use Rattle.std.specs.List.{slice_get}
use Rattle.ilk_cnf.specs.Literal.{Literal}
use Rattle.ilk_trail.specs.Laws.{lits_of}
use Rattle.ilk_arena.specs.Arena.{ArenaContent, chain_of, literals_of, contains_reference}
use Rattle.ilk_watches.proofs.Others.{chosen, other-facts, unwatched}
use Rattle.ilk_watches.proofs.visit.replace_watch.Goals as goal

pub rewatch-requires-clause-unwatched : goal.rewatch-requires-clause-unwatched
rewatch-requires-clause-unwatched c =
    let a = c.args.clauses.now in
    let k = c.args.c in
    let i = c.in-Some.i in
    let set = lits_of c.args.trail.now.entries in
    let o = other-facts a k c.args.f c.args.other c.count.ensures.clauses c.requires.stands c.requires.other in
    let t = chosen set c.args.other (literals_of a k) i c.in-Some.ensures.found in
    let free = unwatched a k c.args.f c.args.other t.literal set o c.requires.denied t.another t.open_one in
    let P : ArenaContent → Type 0 = λ x. IfSome (slice_get (literals_of x k) i) (λ l. contains_reference k (chain_of x l) ≡ false) in
    let Q : Option Literal → Type 0 = λ q. IfSome q (λ l. contains_reference k (chain_of a l) ≡ false) in
    subst P (sym c.find_watch.ensures.clauses) (subst Q (sym t.stands) free)
