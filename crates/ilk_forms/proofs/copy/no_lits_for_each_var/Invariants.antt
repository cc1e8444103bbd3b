use Rattle.std.proofs.Common.{◌≡◌, ◌++◌, drop}
use Rattle.ilk_forms.specs.Copy.{no_lits_for_each_var}
use Rattle.ilk_forms.proofs.copy.no_lits_for_each_var.Given as goal

abbrev pub invariant-loop : goal.invariant-loop
invariant-loop l = l.table ++ no_lits_for_each_var (drop l.index l.ranges) ≡ no_lits_for_each_var l.ranges
