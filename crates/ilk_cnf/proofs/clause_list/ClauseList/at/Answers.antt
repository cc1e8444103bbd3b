use Rattle.std.proofs.Common.{◌≡◌, ◌∷◌, get_or, refl, ◌∙◌, arith}
use Rattle.ilk_cnf.proofs.Cuts.{within, stands}
use Rattle.ilk_cnf.proofs.clause_list.ClauseList.at.Goals as goal

pub start_of-start-requires : goal.start_of-start-requires
start_of-start-requires c =
    let s = c.self.inside in
    rw c.as_slice.ensures.value (within s.ends.items s.lits.items c.args.self.now c.args.i c.self.view_is c.requires)

pub index-requires : goal.index-requires
index-requires c =
    let s = c.self.inside in
    let below = within s.ends.items s.lits.items c.args.self.now c.args.i c.self.view_is c.requires in
    omega (arith, below, s.ends.ok.0)

pub part-requires-clause-order : goal.part-requires-clause-order
part-requires-clause-order c =
    let s = c.self.inside in
    let start : c.start_of-start.result ≡ get_or (0 ∷ s.ends.items) c.args.i 0 = c.start_of-start.ensures ∙ rw c.as_slice.ensures.value refl in
    let at = stands s.ends.items s.lits.items c.args.self.now c.args.i c.start_of-start.result c.index.result.now c.self.invariant c.self.view_is c.requires start c.index.ensures in
    at.order

pub part-requires-clause-within : goal.part-requires-clause-within
part-requires-clause-within c =
    let s = c.self.inside in
    let start : c.start_of-start.result ≡ get_or (0 ∷ s.ends.items) c.args.i 0 = c.start_of-start.ensures ∙ rw c.as_slice.ensures.value refl in
    let at = stands s.ends.items s.lits.items c.args.self.now c.args.i c.start_of-start.result c.index.result.now c.self.invariant c.self.view_is c.requires start c.index.ensures in
    rw c.as_slice-2.ensures.value at.within

pub returns : goal.returns
returns c =
    let s = c.self.inside in
    let start : c.start_of-start.result ≡ get_or (0 ∷ s.ends.items) c.args.i 0 = c.start_of-start.ensures ∙ rw c.as_slice.ensures.value refl in
    let at = stands s.ends.items s.lits.items c.args.self.now c.args.i c.start_of-start.result c.index.result.now c.self.invariant c.self.view_is c.requires start c.index.ensures in
    rw (c.part.ensures, c.as_slice-2.ensures.value) at.is
