use Rattle.std.proofs.Common.{◌≡◌, ℕ, ◌+◌, ◌-◌, ◌++◌, ◌∷◌, [], List, suc, drop, subst, sym, ap, ◌∙◌, arith}
use Rattle.ilk_cnf.specs.Literal.{Literal}
use Rattle.ilk_log.specs.Packed.{decoded_numbers}
use Rattle.ilk_log.proofs.Unpacking.{AtLiterals, literals_more}
use Rattle.ilk_log.proofs.unpack.unpack_literals.Goals as goal

pub literals-preserved : goal.literals-preserved
literals-preserved c =
    let whole : List ℕ = decoded_numbers 0 0 c.args.bytes.now in
    let next : List ℕ = decoded_numbers c.in-Some.number 0 (drop c.in-Some.next c.args.bytes.now) in
    let more : ℕ = c.args.count - (c.literals.i + 1) in
    let less : c.args.count - c.literals.i ≡ suc more = omega (arith, c.literals-test.true) in
    let pushed = c.in_ok-push.ensures.ok ∙ ap (λ (l : Literal). c.literals.lits ++ l ∷ []) c.lit_from_code.ensures in
    subst (λ (ls : List Literal). AtLiterals whole c.args.count ls next more) (sym pushed)
    (literals_more whole c.args.count c.literals.lits (decoded_numbers c.literals.last 0 (drop c.literals.at c.args.bytes.now)) next more (c.args.count - c.literals.i) c.in-Some.number less c.in-Some.ensures.some c.literals.invariant)
