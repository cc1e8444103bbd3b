use Rattle.std.proofs.Common.{◌∷◌, [], List, Some, length, arith, ap, sym, ◌∙◌, subst, length-append}
use Rattle.ilk_trail.specs.declared.entry.Entry.{Entry}
use Rattle.ilk_trail.specs.Trail.{TrailList, with_assignment, level_of}
use Rattle.ilk_watches.specs.Propagated.{ExtendsByPropagation}
use Rattle.ilk_watches.proofs.Entries.{entries-few}
use Rattle.ilk_watches.proofs.Propagations.{propagated-push}
use Rattle.ilk_watches.proofs.scan.propagate_by_scan.Goals as goal

pub rounds-smaller : goal.rounds-smaller
rounds-smaller c =
    let es = c.rounds.trail.entries in
    let e : Entry = record { lit = c.in-Forced.l; level = level_of es; reason = Some c.in-Forced.c } in
    let new = ap (λ (t : TrailList). length t.entries) c.assign.ensures in
    let more = length-append es (e ∷ []) in
    let few = entries-few c.rounds.trail c.in-Forced.ensures.trail in
    omega (arith, new, more, few, c.rounds.invariant.vars)

pub rounds-preserved : goal.rounds-preserved
rounds-preserved c =
    let old = c.args.trail.now in
    let now = c.rounds.trail in
    let es = with_assignment now.entries c.in-Forced.l c.in-Forced.c in
    let made = c.assign.ensures in
    let entries = ap (λ (t : TrailList). t.entries) made in
    let P : List Entry → Type 0 = λ xs. ExtendsByPropagation c.args.clauses.now.clauses old.entries xs in
    record {
      vars = ap (λ (t : TrailList). t.vars) made ∙ c.rounds.invariant.vars;
      trail = made ∙ ap (λ (t : TrailList). record t { entries = es }) c.rounds.invariant.trail ∙ ap (λ (xs : List Entry). record old { entries = xs }) (sym entries);
      propagated = subst P (sym entries) (propagated-push c.args.clauses.now.clauses old.entries now.entries c.in-Forced.l c.in-Forced.c c.rounds.invariant.propagated c.in-Forced.ensures.found.0);
    }
