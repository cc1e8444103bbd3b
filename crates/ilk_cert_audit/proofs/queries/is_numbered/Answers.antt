use Rattle.std.proofs.Common.{ap, ◌∙◌, arith}
use Rattle.std.specs.Fmt.{decimal}
use Rattle.std.proofs.lemmas.Bool.{eq-eqb, eqb-true}
use Rattle.ilk_lines.specs.Written.{join_word_and_rest}
use Rattle.ilk_cert_audit.proofs.Words.{same-number}
use Rattle.ilk_cert_audit.proofs.queries.is_numbered.Goals as goal

pub returns-in-Some : goal.returns-in-Some
returns-in-Some c =
    let some = (c.in-Some.ensures {u = tt}).some in (
      λ t. some.0 ∙ ap (λ n. join_word_and_rest c.args.word.now (decimal n)) (eqb-true c.in-Some.n c.args.number t),
      λ e. eq-eqb c.in-Some.n c.args.number (same-number c.args.word.now c.args.line.now c.in-Some.n c.args.number (omega (arith, some.1)) (omega (arith, c.ranges.number.fits)) some.0 e),
    )
