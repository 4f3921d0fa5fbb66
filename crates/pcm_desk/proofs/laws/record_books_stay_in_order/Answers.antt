use Rattle.pcm_desk.proofs.RecordSafe.{record-safe-begun, record-safe-read, record-safe-ask, record-safe-closed, record-safe-captured}
use Rattle.pcm_desk.proofs.laws.record_books_stay_in_order.Goals as goal

pub returns : goal.returns
returns c = record {
  begun = record-safe-begun;
  read = record-safe-read;
  asked = record-safe-ask;
  closed = record-safe-closed;
  captured = record-safe-captured;
}
