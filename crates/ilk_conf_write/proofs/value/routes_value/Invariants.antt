use Rattle.std.proofs.Common.{◌≡◌, map, take}
use Rattle.serde_json.specs.View.{view}
use Rattle.ilk_conf_write.specs.ConfigurationText.{route_value}
use Rattle.ilk_conf_write.proofs.value.routes_value.Given as goal

abbrev pub invariant-loop-route : goal.invariant-loop-route
invariant-loop-route l = map view l.values.items ≡ map (route_value l.version) (take l.route-index l.routes)
