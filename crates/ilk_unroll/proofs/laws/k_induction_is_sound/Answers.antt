use Rattle.std.proofs.lemmas.Bool.{and_parts}
use Rattle.ilk_unroll.proofs.Induction.{forever}
use Rattle.ilk_unroll.proofs.laws.k_induction_is_sound.Goals as goal

pub returns : goal.returns
returns c = λ s g k valid hazards breaches step n. forever s g k (and_parts _ _ valid).1 hazards breaches step n
