-- What a request leaves of the settings of a mapped book.
use Rattle.std.proofs.Common.{◌≡◌, false, arith}
use Rattle.std.proofs.lemmas.Bool.Decides.{nat_tests}
use Rattle.pcm_desk.specs.Types.{MapBook, Request}
use Rattle.pcm_oss.specs.declared.request.Request.TheVariants.{SetPlayVol}
use Rattle.pcm_feeder.specs.Limits.{IsRate}
use Rattle.pcm_desk.specs.RunStates.{is_in_setup}
use Rattle.pcm_desk.specs.MapRequests.{map_ask}

-- outside Setup they stay through a request
pub map-asked-kept : (request : Request) (book : MapBook) → is_in_setup book.state ≡ false → (map_ask request book).book.opening.settings ≡ book.opening.settings
map-asked-kept request book e = grind arith

-- their rate stays within the limits
pub map-asked-rate : (request : Request) (book : MapBook) → IsRate book.opening.settings.rate → IsRate (map_ask request book).book.opening.settings.rate
map-asked-rate (SetPlayVol volume) book r = grind (arith, nat_tests)
map-asked-rate request book r = grind (arith, nat_tests)
