use Rattle.ilk_io.proofs.Untold.{untold-taken, untold-kept}
use Rattle.ilk_io.proofs.file_sink.FileSinkSink.TheImpl.Goals as goal

pub write-tells : goal.write-tells
write-tells g c = record {
  within = c.ensures.within;
  some = c.ensures.some;
  taken = untold-taken c.result;
  kept = untold-kept c.result;
  failed = c.ensures.failed;
  unraised = c.ensures.unraised;
}
