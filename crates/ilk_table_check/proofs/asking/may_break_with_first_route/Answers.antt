use Rattle.std.proofs.Common.{sym, ◌∙◌}
use Rattle.ilk_table_check.proofs.Asked.{none_alone, none_protected, none_unlisted}
use Rattle.ilk_table_check.proofs.asking.may_break_with_first_route.Goals as goal

pub returns-in-C5 : goal.returns-in-C5
returns-in-C5 c = λ none j below.
    rw c.in-C5.is (none_alone c.args.plant.now c.args.listed.now c.as_slice.result.now c.args.i c.route-route.result.now c.requires.listed c.as_slice.ensures c.requires.first c.route-route.ensures.route (sym c.any_alone.ensures ∙ none) j below)

pub returns-in-C6 : goal.returns-in-C6
returns-in-C6 c = λ none j below.
    rw c.in-C6.is (none_unlisted c.args.plant.now c.args.listed.now c.args.i c.requires.listed c.requires.first (sym c.does_not_list_all_later_routes.ensures ∙ none) j below)

pub returns-in-C8 : goal.returns-in-C8
returns-in-C8 c = λ none j below.
    rw c.in-C8.is (none_protected c.args.plant.now c.args.listed.now c.args.i c.route-route.result.now c.requires.listed c.requires.first c.route-route.ensures.route (sym c.may_protect_unlisted.ensures ∙ none) j below)
