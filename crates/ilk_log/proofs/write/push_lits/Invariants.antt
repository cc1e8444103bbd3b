use Rattle.std.proofs.Common.{◌≡◌, ◌++◌, ◌∷◌, take, flat_map}
use Rattle.std.specs.Prelude.{string_bytes}
use Rattle.ilk_log.specs.StepText.{lit_word}
use Rattle.ilk_log.proofs.write.push_lits.Given as goal

abbrev pub invariant-loop-lit : goal.invariant-loop-lit
invariant-loop-lit l = string_bytes l.text ≡ string_bytes l.initial.text ++ flat_map (λ x. 32 ∷ lit_word x) (take l.lit-index l.lits)
