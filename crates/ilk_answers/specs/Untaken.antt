use Rattle.std.specs.Prelude.{ℕ, List}
use Rattle.ilk_answers.specs.declared.content.Source.{Source}
use Rattle.ilk_answers.specs.declared.content.Source.TheVariants.{Bytes, Certificate, Formula}

-- The bytes of an output that are not taken yet.
abbrev pub pending_output_bytes : Source → List ℕ
pending_output_bytes (Bytes bytes) = bytes
pending_output_bytes (Certificate text) = text
pending_output_bytes (Formula text) = text
