use Rattle.std.proofs.Common.{◌≡◌, ◌-◌, ℕ, Bool, true, false, not, Option, Some, ap, sym, ◌∙◌, subst, refl}
use Rattle.ilk_base.specs.Option.{is_some_and}
use Rattle.ilk_cnf.specs.Literal.{has_lit}
use Rattle.ilk_cnf.specs.Formula.{is_lit_over}
use Rattle.ilk_trail.specs.declared.entry.Entry.{Entry}
use Rattle.ilk_trail.specs.Trail.{TrailList, level_of, value_of_literal}
use Rattle.ilk_trail.specs.Laws.{lits_of}
use Rattle.ilk_arena.specs.Arena.{ArenaContent, number_of_clause, other_watch_of}
use Rattle.ilk_watches.specs.Reasons.{clause_forces_lit}
use Rattle.ilk_watches.proofs.Values.{value-none, value-tells}
use Rattle.ilk_watches.specs.Propagated.{ExtendsByPropagation}
use Rattle.ilk_watches.proofs.Others.{conflict-of, number-same, other-facts, other-true, other-within, pushed-true, reason-of}
use Rattle.ilk_watches.proofs.Propagations.{propagated-one, propagated-start}
use Rattle.ilk_watches.proofs.visit.visit.Goals as goal

pub value-requires : goal.value-requires
value-requires c =
    let a = c.args.clauses.now in
    let es = c.args.trail.now.entries in
    let m = c.other_watch-other.result in
    let k = c.arena.ensures.clauses in
    let o = other-facts a c.args.c c.args.f m k c.requires.stands (ap (λ (x : ArenaContent). other_watch_of x c.args.c c.args.f) (sym c.arena.ensures.arena) ∙ c.other_watch-other.ensures) in
    ap (λ (n : ℕ). is_lit_over n m) c.requires.vars ∙ other-within a c.args.c c.args.f m k o

pub assign-requires-clause-within : goal.assign-requires-clause-within
assign-requires-clause-within c =
    let a = c.args.clauses.now in
    let es = c.args.trail.now.entries in
    let m = c.other_watch-other.result in
    let k = c.arena.ensures.clauses in
    let o = other-facts a c.args.c c.args.f m k c.requires.stands (ap (λ (x : ArenaContent). other_watch_of x c.args.c c.args.f) (sym c.arena.ensures.arena) ∙ c.other_watch-other.ensures) in
    ap (λ (n : ℕ). is_lit_over n m) c.requires.vars ∙ other-within a c.args.c c.args.f m k o

pub assign-requires-clause-unset : goal.assign-requires-clause-unset
assign-requires-clause-unset c = value-none c.args.trail.now.entries c.other_watch-other.result (sym c.in-None.ensures)

pub returns-in-Some-true-clause-visited : goal.returns-in-Some-true-clause-visited
returns-in-Some-true-clause-visited c =
    let a = c.args.clauses.now in
    let es = c.args.trail.now.entries in
    let m = c.other_watch-other.result in
    let k = c.arena.ensures.clauses in
    let o = other-facts a c.args.c c.args.f m k c.requires.stands (ap (λ (x : ArenaContent). other_watch_of x c.args.c c.args.f) (sym c.arena.ensures.arena) ∙ c.other_watch-other.ensures) in
    let v : value_of_literal es m ≡ Some true = cc (c.in-Some-true.ensures, c.in-Some-true.field-0-test) in
    other-true a a es es c.args.c c.args.f m o refl ((value-tells es m c.level.ensures.is_trail.once).stands ∙ ap (λ (x : Option Bool). is_some_and x (λ b. b)) v)

pub returns-in-Some-true-clause-propagated : goal.returns-in-Some-true-clause-propagated
returns-in-Some-true-clause-propagated c = propagated-start c.args.clauses.now.clauses c.args.trail.now.entries

pub returns-then-replace_watch-clause-propagated : goal.returns-then-replace_watch-clause-propagated
returns-then-replace_watch-clause-propagated c = propagated-start c.args.clauses.now.clauses c.args.trail.now.entries

pub returns-else-replace_watch-clause-visited : goal.returns-else-replace_watch-clause-visited
returns-else-replace_watch-clause-visited c =
    let a = c.args.clauses.now in
    let es = c.args.trail.now.entries in
    let m = c.other_watch-other.result in
    let k = c.arena.ensures.clauses in
    let o = other-facts a c.args.c c.args.f m k c.requires.stands (ap (λ (x : ArenaContent). other_watch_of x c.args.c c.args.f) (sym c.arena.ensures.arena) ∙ c.other_watch-other.ensures) in
    let v : value_of_literal es m ≡ Some false = cc (c.in-Some-false.ensures, c.in-Some-false.field-0-test) in
    let r = c.if-replace_watch.ensures.replaced in
    (r.0, conflict-of a c.args.c (lits_of es) m k o.known r.1 ((value-tells es m c.level.ensures.is_trail.once).denied ∙ ap (λ (x : Option Bool). is_some_and x not) v))

pub returns-else-replace_watch-clause-propagated : goal.returns-else-replace_watch-clause-propagated
returns-else-replace_watch-clause-propagated c = propagated-start c.args.clauses.now.clauses c.args.trail.now.entries

pub returns-then-replace_watch-2-clause-propagated : goal.returns-then-replace_watch-2-clause-propagated
returns-then-replace_watch-2-clause-propagated c = propagated-start c.args.clauses.now.clauses c.args.trail.now.entries

pub returns-else-replace_watch-2-clause-visited : goal.returns-else-replace_watch-2-clause-visited
returns-else-replace_watch-2-clause-visited c =
    let a = c.args.clauses.now in
    let es = c.args.trail.now.entries in
    let m = c.other_watch-other.result in
    let k = c.arena.ensures.clauses in
    let o = other-facts a c.args.c c.args.f m k c.requires.stands (ap (λ (x : ArenaContent). other_watch_of x c.args.c c.args.f) (sym c.arena.ensures.arena) ∙ c.other_watch-other.ensures) in
    let r = c.if-replace_watch-2.ensures.replaced in
    let e : Entry = record { lit = m; level = level_of es; reason = Some (c.number.result - 1) } in
    other-true a c.replace_watch-in-None.new.clauses es c.assign.new.self.entries c.args.c c.args.f m o r.0 (ap (λ (t : TrailList). has_lit m (lits_of t.entries)) c.assign.ensures ∙ pushed-true es e)

pub returns-else-replace_watch-2-clause-propagated : goal.returns-else-replace_watch-2-clause-propagated
returns-else-replace_watch-2-clause-propagated c =
    let a = c.args.clauses.now in
    let es = c.args.trail.now.entries in
    let m = c.other_watch-other.result in
    let k = c.arena.ensures.clauses in
    let o = other-facts a c.args.c c.args.f m k c.requires.stands (ap (λ (x : ArenaContent). other_watch_of x c.args.c c.args.f) (sym c.arena.ensures.arena) ∙ c.other_watch-other.ensures) in
    let r = c.if-replace_watch-2.ensures.replaced in
    let b = c.replace_watch-in-None.new.clauses in
    let n : c.number.result ≡ number_of_clause a c.args.c = c.number.ensures
    ∙ ap (λ (x : ArenaContent). number_of_clause x c.args.c) c.arena-else-replace_watch-2.ensures.arena
    ∙ number-same a b c.args.c c.replace_watch-in-None.ensures.clauses.references in
    let forced : clause_forces_lit a.clauses (lits_of es) m (c.number.result - 1) ≡ true = ap (λ (i : ℕ). clause_forces_lit a.clauses (lits_of es) m (i - 1)) n ∙ reason-of a c.args.c (lits_of es) m k o.known o.has r.1 in
    let P : TrailList → Type 0 = λ t. ExtendsByPropagation a.clauses es t.entries in
    subst P (sym c.assign.ensures) (propagated-one a.clauses es m (c.number.result - 1) forced)
