use Rattle.std.proofs.Common.{◌≡◌, arith, codes}
use Rattle.ilk_cert_audit.proofs.Words.{same-number}
use Rattle.ilk_cert_audit.proofs.queries.read_safe_line.Goals as goal

pub returns-in_default-clause-none : goal.returns-in_default-clause-none
returns-in_default-clause-none c = λ k some most is.
    (let told = (c.in-Some.ensures {u = tt}).some in
    let same : c.in-Some.k ≡ k = same-number (codes "safe") c.args.line.now c.in-Some.k k (omega (arith, told.1)) (omega arith) told.0 is in
    omega (arith, same, c.if-k-gt0.false, some))
