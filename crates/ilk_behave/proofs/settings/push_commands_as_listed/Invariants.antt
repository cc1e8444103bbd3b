use Rattle.std.proofs.Common.{◌≡◌, ◌++◌, drop}
use Rattle.std.specs.List.{flat_map}
use Rattle.ilk_behave.specs.Settings as settings
use Rattle.ilk_behave.proofs.settings.push_commands_as_listed.Given as goal

abbrev pub invariant-loop-listed : goal.invariant-loop-listed
invariant-loop-listed l =
    l.sets ++ flat_map (settings.command_listed_point l.plant) (drop l.listed-index l.listed-items) ≡ l.initial.sets ++ flat_map (settings.command_listed_point l.plant) l.listed-items
