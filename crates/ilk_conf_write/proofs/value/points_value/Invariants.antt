use Rattle.std.proofs.Common.{◌≡◌, map, take}
use Rattle.serde_json.specs.View.{view}
use Rattle.ilk_conf_write.specs.ConfigurationText.{listed_point_value}
use Rattle.ilk_conf_write.proofs.value.points_value.Given as goal

abbrev pub invariant-loop-listed : goal.invariant-loop-listed
invariant-loop-listed l = map view l.values.items ≡ map listed_point_value (take l.listed-index l.points)
