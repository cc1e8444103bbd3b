use Rattle.ilk_lines.specs.Lines.{unterminated_tail, lines_of}
use Rattle.ilk_drive.proofs.Scenes.{told-commands}
use Rattle.ilk_drive.proofs.scene.read_scene.Goals as goal

pub returns-in-Ok-clause-commands : goal.returns-in-Ok-clause-commands
returns-in-Ok-clause-commands c = told-commands c.args.plant.now (lines_of c.args.text.now) (unterminated_tail c.args.text.now) c.in-Ok.commands c.in-Ok.ensures
