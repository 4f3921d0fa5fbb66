-- Texts that say the same in other words.
use Rattle.std.specs.Prelude.{ℕ, List, [], ◌∷◌, ◌++◌, codes, map}
use Rattle.pcm_oss.specs.declared.event.Event.TheVariants.{Write, Ioctl, Close, Mixer, Intr}
use Rattle.pcm_wave.specs.declared.pool.Source.TheVariants.{Inline}
use Rattle.pcm_oss.specs.declared.request.Request.{Request}
use Rattle.pcm_oss.specs.declared.request.Request.TheVariants.{SetFmt, Speed, Channels, GetFmts, GetCaps, GetBlkSize, SetFragment, GetOSpace, GetISpace, GetOPtr, GetIPtr, GetODelay, GetError, SetTrigger, GetTrigger, SetPlayVol, GetPlayVol, Post, Sync, Halt}
use Rattle.pcm_oss.specs.declared.mix_request.MixRequest.TheVariants.{SetMaster, GetMaster, SetSlot, GetSlot, Mute}
use Rattle.pcm_script.specs.declared.script.Script.{Script}
use Rattle.pcm_rows.specs.Calls.{opens, joined}

-- comments, empty lines, blanks and carriage returns around one open
abbrev pub decorated_text : List ℕ
decorated_text =
    codes "# a comment" ++ 10 ∷ 13 ∷ 10 ∷ 10 ∷
    32 ∷ 9 ∷ codes "open  0 play s16le 2 48000 #as the device" ++ 13 ∷ 10 ∷
    codes "   "

abbrev pub decorated_script : Script
decorated_script = record { events = opens 0 ∷ []; inline_bytes = []; device_frames = 0 }

-- hexadecimal digits of either case, in numbers and in bytes
abbrev pub hex_text : List ℕ
hex_text = joined (codes "open 0x1f play s16le 0x2 0xBB80" ∷ codes "write 0x1F aBCdEf01" ∷ codes "close 31" ∷ [])

abbrev pub hex_script : Script
hex_script = record {
  events = opens 31 ∷ Write 31 Inline 0 4 ∷ Close 31 ∷ [];
  inline_bytes = 0xab ∷ 0xcd ∷ 0xef ∷ 0x01 ∷ [];
  device_frames = 0;
}

-- an interrupt with a number, and one without
abbrev pub interrupts_text : List ℕ
interrupts_text = codes "intr 3\nintr"

abbrev pub interrupts_script : Script
interrupts_script = record { events = Intr 3 ∷ Intr 256 ∷ []; inline_bytes = []; device_frames = 259 }

-- a line of descriptor 3 for each of these words
abbrev pub ask_lines : List (List ℕ) → List ℕ
ask_lines words = joined (map (λ word. codes "ioctl 3 " ++ word) words)

-- requests of descriptor 3, and no other event
abbrev pub ask_script : List Request → Script
ask_script requests = record { events = map (λ request. Ioctl 3 request) requests; inline_bytes = []; device_frames = 0 }

-- the requests that have no number
abbrev pub plain_words : List (List ℕ)
plain_words =
    codes "getfmts" ∷ codes "getcaps" ∷ codes "getblksize" ∷ codes "getospace" ∷ codes "getispace" ∷
    codes "getoptr" ∷ codes "getiptr" ∷ codes "getodelay" ∷ codes "geterror" ∷ codes "gettrigger" ∷
    codes "getplayvol" ∷ codes "post" ∷ codes "sync" ∷ codes "halt" ∷ []

abbrev pub plain_requests : List Request
plain_requests =
    GetFmts ∷ GetCaps ∷ GetBlkSize ∷ GetOSpace ∷ GetISpace ∷ GetOPtr ∷ GetIPtr ∷ GetODelay ∷ GetError ∷ GetTrigger ∷
    GetPlayVol ∷ Post ∷ Sync ∷ Halt ∷ []

-- those that have one, with the least and the greatest number among them; a format has its name or its code
abbrev pub numbered_words : List (List ℕ)
numbered_words =
    codes "setfmt s24be" ∷ codes "setfmt 0x20000" ∷ codes "setfmt 3" ∷ codes "speed 44100" ∷ codes "channels 0" ∷
    codes "setfragment 0xffffffff" ∷ codes "settrigger 4294967295" ∷ codes "setplayvol 0x6464" ∷ []

abbrev pub numbered_requests : List Request
numbered_requests =
    SetFmt 131072 ∷ SetFmt 131072 ∷ SetFmt 3 ∷ Speed 44100 ∷ Channels 0 ∷ SetFragment 4294967295 ∷ SetTrigger 4294967295 ∷
    SetPlayVol 25700 ∷ []

-- all that is asked of the mixer device, with the least and the greatest number among them
abbrev pub mixer_text : List ℕ
mixer_text = joined (
    codes "mixer master 0x3232" ∷ codes "mixer master" ∷ codes "mixer slot 1 0x3264" ∷ codes "mixer slot 4294967295" ∷
    codes "mixer mute 15 1" ∷ codes "mixer mute 0 0xFFFFFFFF" ∷ [])

abbrev pub mixer_script : Script
mixer_script = record {
  events =
      Mixer (SetMaster 12850) ∷ Mixer GetMaster ∷ Mixer (SetSlot 1 12900) ∷ Mixer (GetSlot 4294967295) ∷ Mixer (Mute 15 1) ∷
      Mixer (Mute 0 4294967295) ∷ [];
  inline_bytes = [];
  device_frames = 0;
}
