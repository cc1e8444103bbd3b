use Rattle.std.proofs.Common.{ℕ, ◌≡◌, ◌<◌, ◌^◌, Option, drop}
use Rattle.ilk_lines.specs.Lines.{Bytes}
use Rattle.ilk_lines.specs.LinesLeft.{TookFirstLines}
use Rattle.ilk_lines.proofs.InOrder.{IsAt}
use Rattle.ilk_lines.proofs.each.read_one_line_per_item.Given as goal

abbrev pub invariant-loop-x : goal.invariant-loop-x
invariant-loop-x g l = record {
  at : (value : ℕ → Bytes → Option _) → ((x : ℕ) (line : _) (v : _) → x < 2 ^ 32 → goal.F-post g l.tell x line v → v ≡ value x line.now)
      → IsAt value l.items l.fn.lines.number l.fn.lines.lines l.values (drop l.x-index l.items) l.lines.number l.lines.lines;
  after : l.lines.after ≡ l.fn.lines.after;
  left : TookFirstLines l.x-index l.fn.lines l.lines;
}
