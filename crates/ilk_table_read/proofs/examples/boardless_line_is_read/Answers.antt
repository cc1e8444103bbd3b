use Rattle.std.proofs.Common.{refl}
use Rattle.ilk_net_read.proofs.Values.{value_of-read}
use Rattle.ilk_table_read.specs.Example.{boardless_line_text, boardless_line_value}
use Rattle.ilk_table_read.proofs.Texts.{boardless_line_text-read}
use Rattle.ilk_table_read.proofs.examples.boardless_line_is_read.Goals as goal
use Rattle.ilk_base.proofs.Ascii.{ascii}

pub returns : goal.returns
returns c = rw (value_of-read boardless_line_text boardless_line_value (ascii boardless_line_text refl) boardless_line_text-read) refl
