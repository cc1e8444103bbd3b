use Rattle.std.proofs.Common.{ℕ, ◌≡◌, ◌<◌, length, take, true}
use Rattle.ilk_cnf.specs.Literal.{has_var, has_distinct_vars}
use Rattle.ilk_cnf.specs.Marks.{is_marked}
use Rattle.ilk_cnf.proofs.marks.has_distinct_vars.Given as goal

abbrev pub invariant-loop-lit : goal.invariant-loop-lit
invariant-loop-lit l = record {
  count : length l.marks ≡ length l.fn.marks;
  marks : (v : ℕ) → 0 < v → has_var v l.lits ≡ true → is_marked l.marks v ≡ has_var v (take l.lit-index l.lits);
  differ : has_distinct_vars (take l.lit-index l.lits) ≡ true;
}
