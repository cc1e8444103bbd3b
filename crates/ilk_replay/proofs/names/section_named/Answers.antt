use Rattle.ilk_replay.proofs.PlainNames.{no_utf8-unnamed}
use Rattle.ilk_replay.proofs.names.section_named.Goals as goal

pub returns-in-Err-clause-number : goal.returns-in-Err-clause-number
returns-in-Err-clause-number c = no_utf8-unnamed c.args.plant.now.section_names c.args.name.now c.prove_is_plant.ensures.section_names_allowed c.in-Err.ensures.cases.0
