use Rattle.std.proofs.Common.{ap, arith, length, length-drop}
use Rattle.std.proofs.lemmas.Fmt.{length-decimal-le}
use Rattle.ilk_lines.proofs.token.ShortByteStack.prepend_decimal.Goals as goal

pub write_digits-self-inside-requires : goal.write_digits-self-inside-requires
write_digits-self-inside-requires c =
    omega (arith, length-decimal-le 20 c.args.number (omega arith) (omega (arith, c.ranges.number.fits)) (omega arith), length-drop c.self.inside.start c.self.inside.bytes, ap length c.self.view_is, c.requires)

pub returns-clause-short : goal.returns-clause-short
returns-clause-short c =
    let w = c.write_digits-self-inside in
    omega (
      arith,
      length-decimal-le 20 c.args.number (omega arith) (omega (arith, c.ranges.number.fits))
          (omega arith),
      length-drop c.self.inside.start c.self.inside.bytes,
      length-drop w.result w.new.buf,
      ap length c.self.view_is,
      w.ensures.start,
      c.requires,
    )
