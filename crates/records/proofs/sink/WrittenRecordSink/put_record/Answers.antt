-- `records::sink`: `Written::put_record` meets its contract.
use Rattle.std.proofs.Common.{refl}
use Rattle.records.proofs.Stores.{part_stored}
use Rattle.records.proofs.sink.WrittenRecordSink.put_record.Goals as goal

pub returns : goal.returns
returns c =
    record { same = refl; written = part_stored _ _ _ _ _ c.copy_from_slice.ensures.after refl c.requires.fits }
