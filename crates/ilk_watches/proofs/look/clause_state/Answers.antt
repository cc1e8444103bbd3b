use Rattle.std.proofs.Common.{◌≡◌, ◌+◌, ◌≤◌, length, drop, true, false, Some, None, is_some, arith, ap, sym, ◌∙◌}
use Rattle.ilk_watches.specs.Reasons.{nth_clause_or_empty}
use Rattle.ilk_trail.specs.Trail.{value_of_literal}
use Rattle.ilk_watches.specs.declared.look.ClauseState.TheVariants.{Conflict, Unit}
use Rattle.std.specs.Option.{option_map_or}
use Rattle.ilk_watches.proofs.Scanned.{scan, scan-is, scan-true, scan-false, scan-second, scan-first, scan-end}
use Rattle.ilk_watches.proofs.look.clause_state.Goals as goal
use Rattle.ilk_watches.proofs.look.clause_state.Goals.{in-Some+else-value, in-None+else-is_some}

pub returns-then-value-clause-look : goal.returns-then-value-clause-look
returns-then-value-clause-look c =
    let es = c.args.trail.now.entries in
    let clause = nth_clause_or_empty c.args.clauses.now.clauses c.args.c in
    let l = c.literal-l.result in
    let v : value_of_literal es l ≡ Some true = sym c.in-Some.ensures ∙ ap Some c.if-value.true in
    sym (scan-true es c.loop-i.unset clause c.loop-i.i l c.literal-l.ensures.literal v) ∙ c.loop-i.invariant ∙ scan-is es clause c.level.ensures.is_trail.once

pub returns-then-is_some-clause-look : goal.returns-then-is_some-clause-look
returns-then-is_some-clause-look c =
    let es = c.args.trail.now.entries in
    let clause = nth_clause_or_empty c.args.clauses.now.clauses c.args.c in
    let l = c.literal-l.result in
    let v : value_of_literal es l ≡ None = sym c.in-None.ensures in
    let s : is_some c.loop-i.unset ≡ true = cc in
    sym (scan-second es c.loop-i.unset clause c.loop-i.i l c.literal-l.ensures.literal v s) ∙ c.loop-i.invariant ∙ scan-is es clause c.level.ensures.is_trail.once

pub loop-i-preserved : goal.loop-i-preserved
loop-i-preserved c =
    let es = c.args.trail.now.entries in
    let clause = nth_clause_or_empty c.args.clauses.now.clauses c.args.c in
    let i = c.loop-i.i in
    let l = c.literal-l.result in
    elim c.match-value.branch [
      | in-Some+else-value w ↦ (let v : value_of_literal es l ≡ Some false = sym w.in-Some.ensures ∙ ap Some w.if-value.false in
          ap (λ o. scan es o (drop (i + 1) clause)) w.unset-is ∙ sym (scan-false es c.loop-i.unset clause i l c.literal-l.ensures.literal v) ∙ c.loop-i.invariant)
      | in-None+else-is_some w ↦ (let v : value_of_literal es l ≡ None = sym w.in-None.ensures in
          let s : is_some c.loop-i.unset ≡ false = cc (w.is_some.ensures, w.if-is_some.false) in
          ap (λ o. scan es o (drop (i + 1) clause)) w.unset-is ∙ sym (scan-first es c.loop-i.unset clause i l c.literal-l.ensures.literal v s) ∙ c.loop-i.invariant)
    ]

pub returns-in-Some-unset-clause-look : goal.returns-in-Some-unset-clause-look
returns-in-Some-unset-clause-look c =
    let es = c.args.trail.now.entries in
    let clause = nth_clause_or_empty c.args.clauses.now.clauses c.args.c in
    let past : length clause ≤ c.loop-i.i = omega (arith, c.length-i-end.ensures, c.loop-i-test.false) in
    ap (λ o. option_map_or Unit o Conflict) (sym c.in-Some-unset.is) ∙ sym (scan-end es c.loop-i.unset clause c.loop-i.i past) ∙ c.loop-i.invariant ∙ scan-is es clause c.level.ensures.is_trail.once

pub returns-in-None-unset-clause-look : goal.returns-in-None-unset-clause-look
returns-in-None-unset-clause-look c =
    let es = c.args.trail.now.entries in
    let clause = nth_clause_or_empty c.args.clauses.now.clauses c.args.c in
    let past : length clause ≤ c.loop-i.i = omega (arith, c.length-i-end.ensures, c.loop-i-test.false) in
    ap (λ o. option_map_or Unit o Conflict) (sym c.in-None-unset.is) ∙ sym (scan-end es c.loop-i.unset clause c.loop-i.i past) ∙ c.loop-i.invariant ∙ scan-is es clause c.level.ensures.is_trail.once
