use Rattle.std.proofs.Common.{◌≡◌, ℕ, ◌∙◌, ◌+◌, ◌*◌, ◌≤◌, ◌^◌, suc, true, List, map, ltb, sym, ap, arith}
use Rattle.std.specs.List.{list_all}
use Rattle.ilk_cnf.specs.Formula.{Formula}
use Rattle.ilk_cnf.specs.Part.{with_part}
use Rattle.ilk_ir.specs.System.{plain_rule, plain_system}
use Rattle.ilk_forms.specs.declared.copy.VarValueAndBoundLits.{VarValueAndBoundLits}
use Rattle.ilk_forms.specs.Copy.{copy_var_count}
use Rattle.ilk_forms.proofs.ColumnLaw.{ranges_fit}
use Rattle.ilk_unroll.proofs.ReadBack.{ranges_fit-bytes}
use Rattle.ilk_unroll.specs.Query.{copies_part, steps_part}
use Rattle.ilk_unroll.specs.Tables.{choice_variables_per_step, choices_begin_at_or_before, are_copies_within_vars, EachCopyHasTheseRanges}
use Rattle.ilk_unroll.proofs.StepsLaw.{choices-numbered}
use Rattle.ilk_unroll.proofs.CopiesLaw.{one-more}
use Rattle.ilk_unroll.proofs.QueryLaw.{rules-valid}
use Rattle.ilk_unroll.proofs.QueryMade.{no_formula, copies_made, unrolled_made, unrolled-inside, unrolled-within}
use Rattle.ilk_unroll.proofs.unroll.unroll.Goals as goal
use Rattle.ilk_unroll.proofs.unroll.unroll.Goals.{In_ok-tables}

pub add_copies-requires-clause-width : goal.add_copies-requires-clause-width
add_copies-requires-clause-width c =
    let taken = ap (λ (f : Formula). f.vars) c.in_ok-reserve_copy_vars.ensures.taken in
    omega (arith, taken, c.vars-before.ensures.count, c.vars-all.ensures.count)

pub add_copies-requires-clause-there : goal.add_copies-requires-clause-there
add_copies-requires-clause-there c =
    let w = copy_var_count c.args.system.now.ranges in
    let empty = ap (λ (f : Formula). f.vars) c.requires.empty in
    let later = ap (λ (f : Formula). f.vars) c.in_ok-take_copies.ensures in
    let first = ap (λ (f : Formula). f.vars) c.in_ok-reserve_copy_vars.ensures.taken in
    let more : (c.args.steps + 1) * w ≡ c.args.steps * w + w = one-more c.args.steps w in
    omega (arith, more, first, later, empty)

many : (c : In_ok-tables) → c.args.steps + 1 ≡ suc c.args.steps
many c = omega arith

seen : (c : In_ok-tables) → c.in_ok-tables.tables ≡ (copies_part c.args.system.now.ranges (suc c.args.steps) 0).tables
seen c = c.in_ok-tables.ensures.tables ∙ ap (λ (k : ℕ). (copies_part c.args.system.now.ranges k 0).tables) (many c)

fit : (c : In_ok-tables) → ranges_fit c.args.system.now.ranges ≡ true
fit c = ranges_fit-bytes c.args.system.now.ranges c.as_slice.result.now c.as_slice.ensures c.bytes_of-ranges.ensures.bytes

made : (c : In_ok-tables) → c.add_copies.new.cnf ≡ with_part no_formula (copies_part c.args.system.now.ranges (suc c.args.steps) 0).part
made c = copies_made c.args.system.now.ranges c.args.steps (c.args.steps + 1) c.args.cnf.now
    c.take_copies.new.cnf c.reserve_copy_vars.new.cnf c.add_copies.new.cnf (fit c) c.requires.empty
    c.in_ok-take_copies.ensures c.in_ok-reserve_copy_vars.ensures.taken (many c) c.in_ok-tables.ensures.made

inside : (c : In_ok-tables) →
    (are_copies_within_vars c.add_copies.new.cnf.vars c.in_ok-tables.tables ≡ true) × EachCopyHasTheseRanges c.args.system.now.ranges c.in_ok-tables.tables
inside c = unrolled-inside c.args.system.now.ranges c.args.steps c.add_copies.new.cnf c.in_ok-tables.tables (fit c) (seen c) (made c)

pub add_steps-requires-clause-within : goal.add_steps-requires-clause-within
add_steps-requires-clause-within c = (inside (goal.at.add_steps-requires-clause-within c).In_ok-tables).0

pub add_steps-requires-clause-ranges : goal.add_steps-requires-clause-ranges
add_steps-requires-clause-ranges c = (inside (goal.at.add_steps-requires-clause-ranges c).In_ok-tables).1

pub returns-clause-tables : goal.returns-clause-tables
returns-clause-tables c = seen (goal.at.returns-clause-tables c).In_ok-tables

pub returns-clause-choices : goal.returns-clause-choices
returns-clause-choices c =
    let rules = map plain_rule c.args.system.now.rules in
    let p = copies_part c.args.system.now.ranges (suc c.args.steps) 0 in
    let here = (goal.at.returns-clause-choices c).In_ok-tables in
    c.in_ok-choices.ensures.choices
    ∙ ap (λ (ts : List (List VarValueAndBoundLits)). choice_variables_per_step rules ts c.add_copies.new.cnf.vars) (seen here)
    ∙ ap (λ (f : Formula). choice_variables_per_step rules p.tables f.vars) (made here)

pub returns-clause-made : goal.returns-clause-made
returns-clause-made c =
    let rules = map plain_rule c.args.system.now.rules in
    let here = (goal.at.returns-clause-made c).In_ok-tables in
    unrolled_made c.args.system.now.ranges rules c.args.steps c.add_copies.new.cnf c.add_steps.new.cnf c.in_ok-tables.tables (seen here) (made here) c.in_ok-choices.ensures.made

pub returns-clause-within : goal.returns-clause-within
returns-clause-within c =
    let s = plain_system c.args.system.now in
    let are = inside (goal.at.returns-clause-within c).In_ok-tables in
    (unrolled-within s c.add_copies.new.cnf c.add_steps.new.cnf c.in_ok-tables.tables c.requires.valid are.0 are.1 c.in_ok-choices.ensures.made).0

pub returns-clause-ranges : goal.returns-clause-ranges
returns-clause-ranges c = (inside (goal.at.returns-clause-ranges c).In_ok-tables).1

pub returns-clause-numbered : goal.returns-clause-numbered
returns-clause-numbered c =
    let s = plain_system c.args.system.now in
    let tables = c.in_ok-tables.tables in
    let g = c.add_copies.new.cnf in
    let are = inside (goal.at.returns-clause-numbered c).In_ok-tables in
    let vars = ap (λ (f : Formula). f.vars) c.in_ok-choices.ensures.made in
    let high : (steps_part s.rules tables g.vars).vars ≤ 2 ^ 62 = omega (arith, vars, c.vars.ensures.count, c.vars.ensures.numbered) in
    ap (choices_begin_at_or_before (2 ^ 62)) c.in_ok-choices.ensures.choices ∙ choices-numbered tables s.ranges s.rules g.vars (2 ^ 62) are.0 are.1 (rules-valid s c.requires.valid) high

pub returns-clause-bytes : goal.returns-clause-bytes
returns-clause-bytes c = ap (list_all (λ (x : ℕ). ltb x 256)) (sym c.as_slice.ensures) ∙ c.bytes_of-ranges.ensures.bytes
