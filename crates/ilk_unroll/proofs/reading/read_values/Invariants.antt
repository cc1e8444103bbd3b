use Rattle.std.proofs.Common.{ℕ, List, drop}
use Rattle.ilk_forms.specs.Leaf.{ranges_of_copy_lits}
use Rattle.ilk_unroll.specs.Represented.{ValuesInRangeAndEncoded}
use Rattle.ilk_unroll.proofs.ReadBack.{ValuesLeft}
use Rattle.ilk_unroll.proofs.reading.read_values.Given as goal

abbrev pub invariant-loop-column : goal.invariant-loop-column
invariant-loop-column l =
    (values : List ℕ) → ValuesInRangeAndEncoded l.a l.table (ranges_of_copy_lits l.table) values → ValuesLeft l.a (drop l.column-index l.column-items) l.values values
