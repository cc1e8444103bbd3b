use Rattle.std.proofs.Common.{refl}
use Rattle.ilk_net_read.proofs.Values.{value_of-read}
use Rattle.ilk_table_read.specs.Example.{boarded_line_text, boarded_line_value}
use Rattle.ilk_table_read.proofs.Texts.{boarded_line_text-read}
use Rattle.ilk_table_read.proofs.examples.boarded_line_is_read.Goals as goal
use Rattle.ilk_base.proofs.Ascii.{ascii}

pub returns : goal.returns
returns c = rw (value_of-read boarded_line_text boarded_line_value (ascii boarded_line_text refl) boarded_line_text-read) refl
