use Rattle.ilk_lines.proofs.TextLines.{lines_then, text-lines}
use Rattle.ilk_lines.proofs.laws.line_split_and_join_inverse.Goals as goal

pub returns : goal.returns
returns c = record {
  whole = text-lines c.args.text.now;
  lines = λ lines after plain rest. (lines_then lines after plain rest).0;
  after = λ lines after plain rest. (lines_then lines after plain rest).1;
}
