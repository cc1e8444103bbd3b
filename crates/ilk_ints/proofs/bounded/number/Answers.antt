use Rattle.std.proofs.Common.{◌^◌, ◌≤◌, subst, ℕ}
use Rattle.ilk_cnf.proofs.Extending.{extends-clauses_from_lists}
use Rattle.ilk_ints.specs.Bits.{bit_count}
use Rattle.ilk_ints.specs.Number.{number_part, AreBitsInRange}
use Rattle.ilk_ints.proofs.NumberLaw.{number-law}
use Rattle.ilk_ints.proofs.bounded.number.Goals as goal

pub returns-clause-law : goal.returns-clause-law
returns-clause-law c =
    λ a size.
    let range = c.args.range in
    let n = c.args.cnf.now.vars in
    let enough : range ≤ 2 ^ bit_count range = subst (λ (b : ℕ). range ≤ 2 ^ b) c.bit_count.ensures.count c.bit_count.ensures.enough in
    extends-clauses_from_lists a (number_part range n).vars (number_part range n).clauses (AreBitsInRange range) (number-law a range n enough size)
