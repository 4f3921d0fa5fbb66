-- What a request leaves of the settings of a book that records.
use Rattle.std.proofs.Common.{◌≡◌, false, arith}
use Rattle.std.proofs.lemmas.Bool.Decides.{nat_tests}
use Rattle.pcm_desk.specs.Types.{RecordBook, Request}
use Rattle.pcm_feeder.specs.Limits.{IsRate}
use Rattle.pcm_desk.specs.RunStates.{is_in_setup}
use Rattle.pcm_desk.specs.RecordRequests.{record_ask}

-- outside Setup they stay through a request
pub record-ask-settings : (request : Request) (book : RecordBook) → is_in_setup book.state ≡ false → (record_ask request book).book.opening.settings ≡ book.opening.settings
record-ask-settings request book e = grind arith

-- their rate stays within the limits
pub record-ask-rate : (request : Request) (book : RecordBook) → IsRate book.opening.settings.rate → IsRate (record_ask request book).book.opening.settings.rate
record-ask-rate request book r = grind (arith, nat_tests)
