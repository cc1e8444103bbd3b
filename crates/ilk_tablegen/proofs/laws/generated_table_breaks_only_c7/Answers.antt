use Rattle.ilk_tablegen.proofs.KeepsRules.{found-kept}
use Rattle.ilk_tablegen.proofs.laws.generated_table_breaks_only_c7.Goals as goal

pub returns : goal.returns
returns c = found-kept c.args.plant.now c.prove_is_plant.ensures c.prove_sound_acyclic_drafts.ensures.walks
