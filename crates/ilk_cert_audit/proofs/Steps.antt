-- Reading the line of a step.
use Rattle.std.proofs.Common.{◌≡◌, Bool, true, false, Some, None, refl}
use Rattle.std.specs.Prelude.{◌↔◌}
use Rattle.std.proofs.lemmas.Option.{same_Some}
use Rattle.ilk_base.specs.Option.{then_some}
use Rattle.ilk_lines.specs.Lines.{Bytes}
use Rattle.ilk_log.specs.declared.step.Step.{Step}
use Rattle.ilk_log.specs.StepText.{has_writable_numbers, step_text}
use Rattle.ilk_cert_audit.specs.Stages.{IsOnlyStepOfLine}

pub read-is : (b : Bool) (t : Step) (line : Bytes) → b ≡ true → ((s : Step) → (then_some b t ≡ Some s) ↔ ((line ≡ step_text s) × (has_writable_numbers s ≡ true))) → IsOnlyStepOfLine line t
read-is true t line e h = record { own = ((h t).0 refl).0; only = λ u own numbers. same_Some t u ((h u).1 (own, numbers)) }
read-is false t line e h = absurd (cc)

pub unread-is : (b : Bool) (t : Step) (line : Bytes) → b ≡ false → ((s : Step) → (then_some b t ≡ Some s) ↔ ((line ≡ step_text s) × (has_writable_numbers s ≡ true))) → (u : Step) → line ≡ step_text u → has_writable_numbers u ≡ true → ⊥
unread-is true t line e h u own numbers = cc
unread-is false t line e h u own numbers = (let z : None ≡ Some u = (h u).1 (own, numbers) in cc)
