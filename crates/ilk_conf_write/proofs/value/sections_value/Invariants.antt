use Rattle.std.proofs.Common.{◌≡◌, map, take}
use Rattle.serde_json.specs.View.{view}
use Rattle.ilk_conf_write.specs.ConfigurationText.{section_value}
use Rattle.ilk_conf_write.proofs.value.sections_value.Given as goal

abbrev pub invariant-loop-section : goal.invariant-loop-section
invariant-loop-section l = map view l.values.items ≡ map section_value (take l.section-index l.sections)
