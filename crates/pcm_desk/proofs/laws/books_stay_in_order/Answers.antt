use Rattle.pcm_desk.proofs.PlaySafe.{safe-begun, safe-write, safe-close, safe-refilled, safe-settled}
use Rattle.pcm_desk.proofs.PlaySafeAsking.{safe-ask}
use Rattle.pcm_desk.proofs.laws.books_stay_in_order.Goals as goal

pub returns : goal.returns
returns c = record {
  begun = safe-begun;
  written = safe-write;
  closed = safe-close;
  refilled = safe-refilled;
  settled = safe-settled;
  asked = λ rate now mix_rate here request book ratio same safe. safe-ask rate now mix_rate here request book ratio safe same;
}
