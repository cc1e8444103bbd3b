use Rattle.std.proofs.Common.{sym}
use Rattle.std.specs.Fmt.{decimal}
use Rattle.ilk_cert_audit.proofs.Words.{no-word, told-none, told-some}
use Rattle.ilk_cert_audit.proofs.queries.number_after.Goals as goal

pub returns-in_default-clause-none : goal.returns-in_default-clause-none
returns-in_default-clause-none c = λ n le is. no-word c.args.word.now c.args.line.now (decimal n) (sym (c.in_default.ensures {u = tt})) is

pub returns-clause-some : goal.returns-clause-some
returns-clause-some c = told-some c.args.word.now c.args.line.now c.in-Some.rest.now c.args.limit c.decimal_up_to.result c.ranges.limit.fits (c.in-Some.ensures {u = tt}) c.decimal_up_to.ensures

pub returns-clause-none : goal.returns-clause-none
returns-clause-none c = told-none c.args.word.now c.args.line.now c.in-Some.rest.now c.args.limit c.decimal_up_to.result c.ranges.limit.fits (c.in-Some.ensures {u = tt}) c.decimal_up_to.ensures
