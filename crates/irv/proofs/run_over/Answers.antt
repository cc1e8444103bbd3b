use Rattle.std.proofs.Common.{Some, map}
use Rattle.std.specs.Prelude.{string_bytes}
use Rattle.ilk_words.specs.Words.{parsed_command}
use Rattle.irv.proofs.Answered.{answered}
use Rattle.irv.proofs.run_over.Goals as goal

pub returns-clause-answer : goal.returns-clause-answer
returns-clause-answer g c =
    answered g.L.Sink.written _ _ _ (parsed_command (map string_bytes c.args.words.now.items)) (Some c.new-nothing.result) _ _ _ _ _ c.run-in-None.ensures.answer
