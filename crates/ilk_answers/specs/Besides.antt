-- For private contracts and proofs: the answer if the bytes of the extra input may not be exposed.
use Rattle.std.specs.Prelude.{ℕ, ◌≡◌, Option, Some, IfSome, Result, List}
use Rattle.ilk_plant.specs.Plant.{PlantLists}
use Rattle.ilk_words.specs.declared.command.ConfCommand.{ConfCommand}
use Rattle.ilk_answers.specs.Answer.{AnswersOnPlantOrRefuses}
use Rattle.ilk_answers.specs.declared.refusals.Refusals.{Refusals}
use Rattle.ilk_answers.specs.declared.reply.Reply.{Reply}

-- Holds if a reply answers a command on `found`, a plant or refusals, and on some text as extra
-- input. If the bytes of that input are exposed, the text is those.
pub record AnswersForSomeExtraInput (command : ConfCommand) (found : Result PlantLists Refusals) (extra : Option (List ℕ)) (made : Reply) : Type 0 where
  pub text : List ℕ
  pub whole : IfSome extra (λ bytes. text ≡ bytes)
  pub answer : AnswersOnPlantOrRefuses command found (Some text) made
