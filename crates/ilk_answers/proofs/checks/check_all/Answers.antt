use Rattle.std.proofs.Common.{◌≡◌, None, Ok, sym, ap, ◌∙◌, subst}
use Rattle.ilk_plant.specs.NetNames.{HasBoardsAndNamesOf}
use Rattle.ilk_plant.specs.NetworkRules.{network_rules_broken}
use Rattle.ilk_plant.specs.declared.net_names.NetNames.{NetNames}
use Rattle.ilk_answers.proofs.Checked.{let-through}
use Rattle.ilk_answers.specs.Answer.{refusals_if_any_broken_rules}
use Rattle.ilk_answers.proofs.checks.check_all.Goals as goal

pub check_routes-requires-clause-named : goal.check_routes-requires-clause-named
check_routes-requires-clause-named c =
    let asked : (refusals_if_any_broken_rules (network_rules_broken c.args.net.now) ≡ None) ×
    (c.in-Ok.names ≡ c.in_ok-names.names) =
    let-through c.check_network_with_names-found.result (network_rules_broken c.args.net.now)
    c.in_ok-names.names c.in-Ok.names c.unless_broken.result c.check_network_with_names-found.ensures.rules
    c.unless_broken.ensures.answered c.unless_broken.ensures.wanting
    (c.in_ok-names-2.was ∙ ap Ok c.in-Ok.is) in
    let Named : NetNames → Type 0 = λ names. HasBoardsAndNamesOf names c.args.net.now in
    subst Named (sym asked.1) c.in_ok-names.ensures
