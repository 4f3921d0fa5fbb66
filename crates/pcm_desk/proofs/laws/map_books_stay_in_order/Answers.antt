use Rattle.pcm_desk.proofs.MapSafe.{map-safe-asked, map-safe-begun, map-safe-closed, map-safe-poked, map-safe-refilled}
use Rattle.pcm_desk.proofs.laws.map_books_stay_in_order.Goals as goal

pub returns : goal.returns
returns c = record {
  begun = map-safe-begun;
  poked = map-safe-poked;
  asked = map-safe-asked;
  closed = map-safe-closed;
  refilled = map-safe-refilled;
}
