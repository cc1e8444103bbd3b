use Rattle.std.proofs.Common.{◌≡◌, ◌≤◌, ◌++◌, map, take, vec_capacity}
use Rattle.ilk_cnf.specs.Code.{code_of}
use Rattle.ilk_audit.proofs.codes.append_wide.Given as goal

abbrev pub invariant-loop-l : goal.invariant-loop-l
invariant-loop-l l = record {
  items : l.codes.items ≡ l.initial.codes.items ++ map code_of (take l.l-index l.clause);
  capacity : vec_capacity l.initial.codes ≤ vec_capacity l.codes;
}
