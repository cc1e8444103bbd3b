use Rattle.std.proofs.Common.{◌≡◌, ◌++◌, Ok, Option, length}
use Rattle.ilk_lines.specs.Lines.{Bytes}
use Rattle.ilk_lines.specs.LinesLeft.{TookFirstLines}
use Rattle.ilk_lines.specs.Reading.{leading_values}
use Rattle.ilk_lines.proofs.each.read_while_some.Given as goal

abbrev pub invariant-loop-line : goal.invariant-loop-line
invariant-loop-line g l = record {
  values : (value : Bytes → Option _) → ((line : _) (v : _) → goal.F-post g l.tell line (Ok v) → v ≡ value line.now)
      → leading_values value l.fn.lines.lines ≡ l.values ++ leading_values value l.lines.lines;
  left : TookFirstLines (length l.values) l.fn.lines l.lines;
}

abbrev pub decreases-loop-line : goal.decreases-loop-line
decreases-loop-line g l = length l.lines.lines
