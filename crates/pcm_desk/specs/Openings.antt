-- What every opening has, whatever its way: what its client has set, and the position last answered. And what is asked of every opening
-- alike, with whether nothing of a run is there yet.
use Rattle.std.specs.Prelude.{ℕ, ◌-◌, ◌/◌, ◌%◌, Bool, true, ◌&&◌, nat_le, ◌==◌, if◌then◌else◌, Option, Some, None, option_map, Result, Ok, Err}
use Rattle.pcm_format.specs.declared.format.Format.{Format}
use Rattle.pcm_format.specs.declared.layout.Layout.{Layout}
use Rattle.pcm_format.specs.declared.settings.Settings.{Settings}
use Rattle.pcm_format.specs.declared.settings.TheConstants.{RATE_LEAST, RATE_MOST}
use Rattle.pcm_format.specs.Formats.{code_of, format_with_code}
use Rattle.pcm_format.specs.Layouts.{channels_of, layout_of}
use Rattle.pcm_oss.specs.declared.fragments.TheConstants.{FRAGMENTS}
use Rattle.pcm_oss.specs.declared.reply.Answer.{Answer}
use Rattle.pcm_oss.specs.declared.reply.Answer.TheVariants.{Number, Space, Pointer}
use Rattle.pcm_oss.specs.declared.reply.Errno.{Errno}
use Rattle.pcm_oss.specs.declared.reply.Errno.TheVariants.{Busy, Inval}
use Rattle.pcm_oss.specs.declared.request.Request.{Request}
use Rattle.pcm_oss.specs.declared.request.Request.TheVariants.{SetFmt, Speed, Channels, GetFmts, GetCaps, GetBlkSize, SetFragment, GetTrigger}
use Rattle.pcm_oss.specs.Fragments.{fragment_size, fragments_asked, fragments_told, ring_size}
use Rattle.pcm_desk.specs.declared.opening.Opening.{Opening}
use Rattle.pcm_desk.specs.declared.opening.TheConstants.{ALL_FORMATS, CAPABILITIES}
use Rattle.pcm_desk.specs.declared.turn.Turn.{Turn}
use Rattle.pcm_desk.specs.BookTurns.{refused, telling}

-- an opening begins
abbrev pub begun : Settings → Opening
begun settings = record { settings = settings; fragments = FRAGMENTS; trigger = true; told = 0 }

-- the bytes of a fragment
abbrev pub fragment_bytes : Opening → ℕ
fragment_bytes opening = fragment_size opening.fragments

-- the bytes that the ring holds at most
abbrev pub ring_bytes : Opening → ℕ
ring_bytes opening = ring_size opening.fragments

-- with its trigger on or off
abbrev pub with_trigger : Bool → Opening → Opening
with_trigger trigger opening = record opening { trigger = trigger }

-- ---- settings

-- Other settings, which are taken before a run alone. What isn't in its set is refused first.
abbrev pub reset_to : Bool → Option Settings → Opening → Result Opening Errno
reset_to setup None opening = Err Inval
reset_to setup (Some settings) opening = if setup then Ok (record opening { settings = settings }) else Err Busy

-- 0 asks for what is set
abbrev pub with_settings : Bool → ℕ → Option Settings → Opening → Result Opening Errno
with_settings setup asked found opening = if asked == 0 then Ok opening else reset_to setup found opening

-- a number of the settings that were reached
abbrev pub telling_of : (Settings → ℕ) → Opening → Result Opening Errno → Turn Opening
telling_of number old (Ok opening) = telling (Number (number opening.settings)) opening
telling_of number old (Err errno) = refused errno old

-- the same settings but for the format, the layout or the rate
abbrev pub at_format : Settings → Format → Settings
at_format settings format = record settings { format = format }

abbrev pub at_layout : Settings → Layout → Settings
at_layout settings layout = record settings { layout = layout }

-- a rate is one from the least to the greatest
abbrev pub at_rate : Settings → ℕ → Option Settings
at_rate settings rate = if nat_le RATE_LEAST rate && nat_le rate RATE_MOST then Some (record settings { rate = rate }) else None

-- a format is asked for by its code
abbrev pub set_format : Bool → ℕ → Opening → Turn Opening
set_format setup code opening = telling_of (λ settings. code_of settings.format) opening
    (with_settings setup code (option_map (at_format opening.settings) (format_with_code code)) opening)

abbrev pub set_rate : Bool → ℕ → Opening → Turn Opening
set_rate setup rate opening = telling_of (λ settings. settings.rate) opening (with_settings setup rate (at_rate opening.settings rate) opening)

abbrev pub set_channels : Bool → ℕ → Opening → Turn Opening
set_channels setup channels opening = telling_of (λ settings. channels_of settings.layout) opening
    (with_settings setup channels (option_map (at_layout opening.settings) (layout_of channels)) opening)

-- fragments are asked for by any number, before a run alone
abbrev pub set_fragments : Bool → ℕ → Opening → Turn Opening
set_fragments setup arg opening =
    if setup then telling (Number (fragments_told (fragments_asked arg))) (record opening { fragments = fragments_asked arg })
    else refused Busy opening

-- ---- positions and room

-- `bytes` bytes of the ring as an answer
abbrev pub space_of : ℕ → Opening → Answer
space_of bytes opening = Space (bytes / fragment_bytes opening) opening.fragments.count (fragment_bytes opening) bytes

-- how far a channel is: bytes, fragments that were passed since the last answer, and the place in the ring
abbrev pub pointer_of : ℕ → Opening → Answer
pointer_of reached opening =
    Pointer reached (reached / fragment_bytes opening - opening.told / fragment_bytes opening) (reached % ring_bytes opening)

-- the position is answered, and the next answer counts from it
abbrev pub tell_pointer : ℕ → Opening → Turn Opening
tell_pointer reached opening = telling (pointer_of reached opening) (record opening { told = reached })

-- ---- the table

-- the bit of a way, where the trigger is on
abbrev pub trigger_of : ℕ → Opening → ℕ
trigger_of bit opening = if opening.trigger then bit else 0

-- what a request asks of every opening, by the bit of its way; what is asked of one way alone is refused
abbrev pub ask : Bool → ℕ → Request → Opening → Turn Opening
ask setup bit (SetFmt code) opening = set_format setup code opening
ask setup bit (Speed rate) opening = set_rate setup rate opening
ask setup bit (Channels channels) opening = set_channels setup channels opening
ask setup bit GetFmts opening = telling (Number ALL_FORMATS) opening
ask setup bit GetCaps opening = telling (Number CAPABILITIES) opening
ask setup bit GetBlkSize opening = telling (Number (fragment_bytes opening)) opening
ask setup bit (SetFragment arg) opening = set_fragments setup arg opening
ask setup bit GetTrigger opening = telling (Number (trigger_of bit opening)) opening
ask setup bit request opening = refused Inval opening
