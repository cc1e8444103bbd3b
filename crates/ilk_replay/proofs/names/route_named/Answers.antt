use Rattle.ilk_replay.proofs.PlainNames.{no_utf8-unnamed}
use Rattle.ilk_replay.proofs.names.route_named.Goals as goal

pub returns-in-Err : goal.returns-in-Err
returns-in-Err c = no_utf8-unnamed c.args.plant.now.route_names c.args.name.now c.prove_is_plant.ensures.route_names_allowed c.in-Err.ensures.cases.0
