use Rattle.ilk_io.proofs.Untold.{untold-taken, untold-end, untold-kept}
use Rattle.ilk_io.proofs.file_source.FileSourceSource.TheImpl.Goals as goal

pub read-tells : goal.read-tells
read-tells g c = record {
  within = c.ensures.within;
  taken = untold-taken c.result;
  end = untold-end c.result _;
  kept = untold-kept c.result;
  failed = c.ensures.failed;
  unraised = c.ensures.unraised;
}
