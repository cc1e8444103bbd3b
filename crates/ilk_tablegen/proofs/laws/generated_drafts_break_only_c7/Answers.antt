use Rattle.std.proofs.Common.{◌∙◌}
use Rattle.ilk_tablegen.proofs.FoundSound.{found-sound}
use Rattle.ilk_tablegen.specs.Rules.{KeepsRulesButC7}
use Rattle.ilk_tablegen.proofs.laws.generated_drafts_break_only_c7.Goals as goal

pub returns-clause-drafts : goal.returns-clause-drafts
returns-clause-drafts c =
    found-sound c.args.plant.now c.prove_is_plant.ensures c.prove_sound_acyclic_drafts.ensures.walks c.prove_sound_acyclic_drafts.ensures.drafts

pub returns-clause-no_rule : goal.returns-clause-no_rule
returns-clause-no_rule c table found none =
    let is : KeepsRulesButC7 c.args.plant.now table = found-sound c.args.plant.now c.prove_is_plant.ensures c.prove_sound_acyclic_drafts.ensures.walks c.prove_sound_acyclic_drafts.ensures.drafts table found in
    is.columns ∙ none
