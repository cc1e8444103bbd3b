use Rattle.std.proofs.Common.{◌≡◌, ◌^◌, take, map, true}
use Rattle.ilk_cnf.specs.Formula.{is_clause_over}
use Rattle.ilk_log.specs.Packed.{code_from_lit, DecodesToNumbersAndState}
use Rattle.ilk_log.proofs.packed.push_literals.Given as goal

abbrev pub invariant-loop-lit : goal.invariant-loop-lit
invariant-loop-lit l = record {
  numbers : DecodesToNumbersAndState l.bytes.items (map code_from_lit (take l.lit-index l.lits)) l.last 0;
  numbered : is_clause_over (2 ^ 62) (take l.lit-index l.lits) ≡ true;
}
