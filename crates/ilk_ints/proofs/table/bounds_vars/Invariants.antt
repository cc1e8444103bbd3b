use Rattle.std.proofs.Common.{◌≡◌, ◌+◌, ◌-◌, ◌≤◌}
use Rattle.ilk_ints.specs.Named.{bound_count, bound_var_count}
use Rattle.ilk_ints.proofs.table.bounds_vars.Given as goal

abbrev pub invariant-loop : goal.invariant-loop
invariant-loop l =
    record {
      place : l.k ≡ 1 + l.counter;
      few : l.count ≤ l.counter;
      rest : l.count + bound_var_count l.range l.k (bound_count l.range - l.counter) ≡ bound_var_count l.range 1 (bound_count l.range);
    }
