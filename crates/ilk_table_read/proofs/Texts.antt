-- Reading of ASCII texts.
use Rattle.std.proofs.Common.{◌≡◌, Some, refl}
use Rattle.serde_json.proofs.OnLiterals.{serde_json_on_literals}
use Rattle.serde_json.specs.Read.{read}
use Rattle.ilk_table_read.specs.Example.{boardless_line_text, boardless_line_value, boarded_line_text, boarded_line_value}

pub boardless_line_text-read : read boardless_line_text ≡ Some boardless_line_value
unfolding serde_json_on_literals
boardless_line_text-read = refl

pub boarded_line_text-read : read boarded_line_text ≡ Some boarded_line_value
unfolding serde_json_on_literals
boarded_line_text-read = refl
