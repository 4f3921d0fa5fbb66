use Rattle.pcm_desk.proofs.PlayHere.{here-ask, here-begun, here-close, here-settled, here-write, last-refilled}
use Rattle.pcm_desk.proofs.laws.books_stay_here.Goals as goal

pub returns : goal.returns
returns c = record {
  begun = here-begun;
  written = here-write;
  asked = here-ask;
  closed = here-close;
  refilled = last-refilled;
  settled = here-settled;
}
