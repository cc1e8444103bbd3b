use Rattle.std.proofs.Common.{ℕ, List, drop}
use Rattle.ilk_unroll.specs.Tables.{StepsChooseTheseRules}
use Rattle.ilk_unroll.proofs.ReadBack.{RulesLeft}
use Rattle.ilk_unroll.proofs.reading.read_rules.Given as goal

abbrev pub invariant-loop-choice : goal.invariant-loop-choice
invariant-loop-choice l =
    (rules : List ℕ) → StepsChooseTheseRules l.a l.choices rules → RulesLeft l.a (drop l.choice-index l.choice-items) l.rules rules
