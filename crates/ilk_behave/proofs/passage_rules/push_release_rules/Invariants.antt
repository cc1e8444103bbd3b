use Rattle.std.proofs.Common.{◌≡◌, ◌++◌, drop, map, ◌-◌, length, take}
use Rattle.std.specs.List.{enumerate_from}
use Rattle.ilk_ir.specs.System.{plain_rule}
use Rattle.ilk_behave.specs.RouteRules.{release_rule_at_index}
use Rattle.ilk_behave.proofs.passage_rules.push_release_rules.Given as goal

abbrev pub invariant-loop-k : goal.invariant-loop-k
invariant-loop-k l =
    map plain_rule l.rules ++ map (λ place. release_rule_at_index l.plant l.r l.route place.0 place.1) (enumerate_from l.k (drop l.k (take (length l.path - 1) l.path)))
    ≡ map plain_rule l.initial.rules ++ map (λ place. release_rule_at_index l.plant l.r l.route place.0 place.1) (enumerate_from 0 (take (length l.path - 1) l.path))
