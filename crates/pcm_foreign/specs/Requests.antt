-- The requests that numbers stand for.
use Rattle.std.specs.Prelude.{ℕ, List, [], ◌∷◌, Option, slice_get}
use Rattle.pcm_oss.specs.declared.mix_request.MixRequest.{MixRequest}
use Rattle.pcm_oss.specs.declared.mix_request.MixRequest.TheVariants.{SetMaster, GetMaster, SetSlot, GetSlot, Mute}
use Rattle.pcm_oss.specs.declared.request.Request.{Request}
use Rattle.pcm_oss.specs.declared.request.Request.TheVariants.{SetFmt, Speed, Channels, GetFmts, GetCaps, GetBlkSize, SetFragment, GetOSpace, GetISpace, GetOPtr, GetIPtr, GetODelay, GetError, SetTrigger, GetTrigger, SetPlayVol, GetPlayVol, Post, Sync, Halt}

-- the requests of a channel, by their numbers, each with this argument if it takes one
abbrev pub requests_with : ℕ → List Request
requests_with argument =
    SetFmt argument ∷ Speed argument ∷ Channels argument ∷ GetFmts ∷ GetCaps
    ∷ GetBlkSize ∷ SetFragment argument ∷ GetOSpace ∷ GetISpace ∷ GetOPtr
    ∷ GetIPtr ∷ GetODelay ∷ GetError ∷ SetTrigger argument ∷ GetTrigger
    ∷ SetPlayVol argument ∷ GetPlayVol ∷ Post ∷ Sync ∷ Halt ∷ []

-- the request of a number, with this argument
abbrev pub request_from : ℕ → ℕ → Option Request
request_from request argument = slice_get (requests_with argument) request

-- the requests of the mixer device, by their numbers, each of this slot and with this value if it takes them
abbrev pub mix_requests_with : ℕ → ℕ → List MixRequest
mix_requests_with slot value = SetMaster value ∷ GetMaster ∷ SetSlot slot value ∷ GetSlot slot ∷ Mute slot value ∷ []

-- the request of the mixer device of a number, of this slot and with this value
abbrev pub mix_request_from : ℕ → ℕ → ℕ → Option MixRequest
mix_request_from request slot value = slice_get (mix_requests_with slot value) request
