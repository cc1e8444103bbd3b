use Rattle.std.proofs.Common.{◌≡◌, [], map, take}
use Rattle.std.specs.List.{enumerate_from}
use Rattle.ilk_tablegen.proofs.ways.begun_ways.Given as goal

abbrev pub invariant-loop-m : goal.invariant-loop-m
invariant-loop-m l =
    l.ways ≡ map (λ numbered. record { source = numbered.0; from = numbered.1; path = [] }) (enumerate_from 0 (take l.m l.plant.boards))
