use Rattle.std.proofs.Common.{◌+◌, ◌++◌, ℕ, length, map, ap, subst, arith, ◌≡◌, ◌*◌, ◌≤◌}
use Rattle.std.proofs.lemmas.List.{length-map}
use Rattle.ilk_cnf.specs.Formula.{Formula}
use Rattle.ilk_cnf.specs.Part.{with_part}
use Rattle.ilk_cnf.proofs.Extending.{extends-clauses_from_lists}
use Rattle.ilk_ir.specs.System.{plain_rule}
use Rattle.ilk_forms.proofs.Reading.{has_lits_within_vars-more}
use Rattle.ilk_step.specs.Choice.{Chooses}
use Rattle.ilk_forms.proofs.Few.{with_part-few}
use Rattle.ilk_step.specs.Size.{total_guard_tree_size, settings_count, value_and_bound_lits_count}
use Rattle.ilk_step.proofs.Few.{step-few}
use Rattle.ilk_step.specs.Step.{step_part, step_bits, AreStepBits}
use Rattle.ilk_step.proofs.RulesSteps.{step_made, choice_made, rules_made, frames_made, choice_room, rules_room}
use Rattle.ilk_step.proofs.StepLaw.{step-law, step-says, step-below}
use Rattle.ilk_step.proofs.step.add_step.Goals as goal

pub add_rules-requires-clause-now : goal.add_rules-requires-clause-now
add_rules-requires-clause-now c =
    let f = c.args.cnf.now in
    let g = c.add_rule_choice.new.cnf in
    let room = choice_room f g (map plain_rule c.args.rules.now) (choice_made f g c.args.rules.now c.len.result c.len.ensures c.in_ok-add_rule_choice.ensures.made) in
    has_lits_within_vars-more f.vars g.vars c.args.now.now (omega (arith, room)) c.requires.now

pub add_rules-requires-clause-next : goal.add_rules-requires-clause-next
add_rules-requires-clause-next c =
    let f = c.args.cnf.now in
    let g = c.add_rule_choice.new.cnf in
    let room = choice_room f g (map plain_rule c.args.rules.now) (choice_made f g c.args.rules.now c.len.result c.len.ensures c.in_ok-add_rule_choice.ensures.made) in
    has_lits_within_vars-more f.vars g.vars c.args.next.now (omega (arith, room)) c.requires.next

pub add_rules-requires-clause-numbered : goal.add_rules-requires-clause-numbered
add_rules-requires-clause-numbered c =
    let f = c.args.cnf.now in
    let g = c.add_rule_choice.new.cnf in
    let room = choice_room f g (map plain_rule c.args.rules.now) (choice_made f g c.args.rules.now c.len.result c.len.ensures c.in_ok-add_rule_choice.ensures.made) in
    let count = c.vars-first.ensures.count in
    let long = ap length c.as_slice.ensures in
    let same = length-map c.args.rules.now plain_rule in
    omega (arith, room, count, long, same)

pub add_frame_axioms-requires-clause-now : goal.add_frame_axioms-requires-clause-now
add_frame_axioms-requires-clause-now c =
    let f = c.args.cnf.now in
    let g = c.add_rule_choice.new.cnf in
    let h = c.add_rules.new.cnf in
    let rs = map plain_rule c.args.rules.now in
    let choice = choice_made f g c.args.rules.now c.len.result c.len.ensures c.in_ok-add_rule_choice.ensures.made in
    let asked = rules_made f g h c.args.now.now c.args.next.now c.args.rules.now c.as_slice.result.now c.vars-first.result c.vars-first.ensures.count c.as_slice.ensures c.in_ok-add_rules.ensures in
    let room = choice_room f g rs choice in
    let more = rules_room f g h rs c.args.now.now c.args.next.now choice asked c.requires.now c.requires.next c.requires.same c.requires.valid in
    has_lits_within_vars-more f.vars h.vars c.args.now.now (omega (arith, room, more)) c.requires.now

pub add_frame_axioms-requires-clause-next : goal.add_frame_axioms-requires-clause-next
add_frame_axioms-requires-clause-next c =
    let f = c.args.cnf.now in
    let g = c.add_rule_choice.new.cnf in
    let h = c.add_rules.new.cnf in
    let rs = map plain_rule c.args.rules.now in
    let choice = choice_made f g c.args.rules.now c.len.result c.len.ensures c.in_ok-add_rule_choice.ensures.made in
    let asked = rules_made f g h c.args.now.now c.args.next.now c.args.rules.now c.as_slice.result.now c.vars-first.result c.vars-first.ensures.count c.as_slice.ensures c.in_ok-add_rules.ensures in
    let room = choice_room f g rs choice in
    let more = rules_room f g h rs c.args.now.now c.args.next.now choice asked c.requires.now c.requires.next c.requires.same c.requires.valid in
    has_lits_within_vars-more f.vars h.vars c.args.next.now (omega (arith, room, more)) c.requires.next

pub add_frame_axioms-requires-clause-numbered : goal.add_frame_axioms-requires-clause-numbered
add_frame_axioms-requires-clause-numbered c =
    let f = c.args.cnf.now in
    let g = c.add_rule_choice.new.cnf in
    let h = c.add_rules.new.cnf in
    let rs = map plain_rule c.args.rules.now in
    let choice = choice_made f g c.args.rules.now c.len.result c.len.ensures c.in_ok-add_rule_choice.ensures.made in
    let asked = rules_made f g h c.args.now.now c.args.next.now c.args.rules.now c.as_slice.result.now c.vars-first.result c.vars-first.ensures.count c.as_slice.ensures c.in_ok-add_rules.ensures in
    let room = choice_room f g rs choice in
    let more = rules_room f g h rs c.args.now.now c.args.next.now choice asked c.requires.now c.requires.next c.requires.same c.requires.valid in
    let count = c.vars-first.ensures.count in
    let long = ap length c.as_slice-2.ensures in
    let same = length-map c.args.rules.now plain_rule in
    omega (arith, room, more, count, long, same)

pub returns-clause-made : goal.returns-clause-made
returns-clause-made c =
    let f = c.args.cnf.now in
    let g = c.add_rule_choice.new.cnf in
    let h = c.add_rules.new.cnf in
    let e = c.add_frame_axioms.new.cnf in
    let now = c.args.now.now in
    let next = c.args.next.now in
    let rules = c.args.rules.now in
    let count = c.vars-first.ensures.count in
    step_made f g h e (map plain_rule rules) now next
    (choice_made f g rules c.len.result c.len.ensures c.in_ok-add_rule_choice.ensures.made)
    (rules_made f g h now next rules c.as_slice.result.now c.vars-first.result count c.as_slice.ensures
    c.in_ok-add_rules.ensures)
    (frames_made f h e now next rules c.as_slice-2.result.now c.vars-first.result count
    c.as_slice-2.ensures c.in_ok-add_frame_axioms.ensures)

pub returns-clause-law : goal.returns-clause-law
returns-clause-law c =
    λ a ws xs size now_say next_say hw hx.
    let n = c.args.cnf.now.vars in
    let now = c.args.now.now in
    let next = c.args.next.now in
    let rs = map plain_rule c.args.rules.now in
    let p = step_part rs now next n in
    extends-clauses_from_lists a p.vars p.clauses (AreStepBits now rs a ws xs)
    (step-law rs now next ws xs a n
    (record {
      size = size;
      now_in = c.requires.now;
      next_in = c.requires.next;
      same = c.requires.same;
      now_say = now_say;
      next_say = next_say;
    }) c.requires.valid hw hx)

pub returns-clause-exact : goal.returns-clause-exact
returns-clause-exact c =
    λ a b ws xs r size is.
    let n = c.args.cnf.now.vars in
    let now = c.args.now.now in
    let rs = map plain_rule c.args.rules.now in
    let whole : Chooses (a ++ (step_bits now rs a r ++ b)) (n + 1) (length rs) r = (step-below rs ws xs r is, step-says now rs a b n r size) in
    subst (λ (m : ℕ). Chooses (a ++ (step_bits now rs a r ++ b)) (n + 1) m r) (length-map c.args.rules.now plain_rule) whole

pub returns-clause-vars : goal.returns-clause-vars
returns-clause-vars c =
    let f = c.args.cnf.now in
    let rs = map plain_rule c.args.rules.now in
    let made : c.add_frame_axioms.new.cnf ≡ with_part f (step_part rs c.args.now.now c.args.next.now f.vars) = returns-clause-made c in
    let few = step-few rs c.args.now.now c.args.next.now f.vars in
    let vars = ap (λ (u : Formula). u.vars) made in
    let bound = few.0 in
    let long = length-map c.args.rules.now plain_rule in
    omega (arith, vars, bound, long)

pub returns-clause-clauses : goal.returns-clause-clauses
returns-clause-clauses c =
    let f = c.args.cnf.now in
    let rs = map plain_rule c.args.rules.now in
    let p = step_part rs c.args.now.now c.args.next.now f.vars in
    let made : c.add_frame_axioms.new.cnf ≡ with_part f p = returns-clause-made c in
    let few = step-few rs c.args.now.now c.args.next.now f.vars in
    let k = 4 * length rs + 1 + 2 * total_guard_tree_size rs + settings_count rs + 2 * value_and_bound_lits_count c.args.now.now in
    let bound : length (with_part f p).clauses ≤ length f.clauses + k = with_part-few f p k few.1 in
    let all = ap (λ (u : Formula). length u.clauses) made in
    let long = length-map c.args.rules.now plain_rule in
    omega (arith, all, bound, long)
