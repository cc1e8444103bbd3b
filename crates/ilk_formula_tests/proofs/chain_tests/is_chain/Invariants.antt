use Rattle.std.proofs.Common.{◌≡◌, true, IfSome}
use Rattle.ilk_arena.specs.Arena.{chain_of, contains_reference}
use Rattle.ilk_formula_tests.proofs.chain_tests.is_chain.Given as goal

-- The walk is at a clause of the chain, or at its end.
abbrev pub invariant-loop-c : goal.invariant-loop-c
invariant-loop-c l = IfSome l.next (λ c. contains_reference c (chain_of l.arena l.l) ≡ true)
