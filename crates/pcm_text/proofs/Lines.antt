-- The line of an event is read as what it spells.
use Rattle.std.proofs.Common.{IfSome, ◌≡◌, ℕ, zero, suc, ◌+◌, ◌^◌, ◌<◌, ◌≤◌, ◌==◌, true, not, List, [], ◌∷◌, length, take, drop, Some, None, Ok, refl, ap, ◌∙◌, arith, slice_get}
use Rattle.std.proofs.lemmas.Bool.{and_parts, le-leb, ne_eqb}
use Rattle.std.proofs.lemmas.List.{length-take}
use Rattle.std.proofs.lemmas.Fmt.{decimal_nonempty}
use Rattle.std.specs.List.{list_all}
use Rattle.std.proofs.lemmas.Bool.Decides.{nat_tests}
use Rattle.std.specs.Fmt.{decimal}
use Rattle.hex.specs.Hex.{IsBytes}
use Rattle.pcm_format.specs.declared.format.Format.{Format}
use Rattle.pcm_format.specs.declared.format.Format.TheVariants.{U8, S8, S16Le, S16Be, U16Le, U16Be, S24Le, S24Be, U24Le, U24Be, S32Le, S32Be, U32Le, U32Be}
use Rattle.pcm_format.specs.declared.layout.Layout.{Layout}
use Rattle.pcm_format.specs.declared.layout.Layout.TheVariants.{One, Two, Four, Six, Eight}
use Rattle.pcm_format.specs.declared.settings.TheConstants.{RATE_LEAST, RATE_MOST}
use Rattle.pcm_format.specs.Formats.{format_named, name_of}
use Rattle.pcm_format.specs.Layouts.{channels_of, layout_of}
use Rattle.pcm_oss.specs.declared.event.Event.{Event}
use Rattle.pcm_oss.specs.declared.event.Event.TheVariants.{Open, Write, Poke, Read, Ioctl, Join, StartGroup, Close, Mixer, Intr}
use Rattle.pcm_oss.specs.declared.event.Way.{Way}
use Rattle.pcm_oss.specs.declared.event.Way.TheVariants.{Play, Record, Map}
use Rattle.pcm_oss.specs.declared.mix_request.MixRequest.{MixRequest}
use Rattle.pcm_oss.specs.declared.mix_request.MixRequest.TheVariants as mixes
use Rattle.pcm_oss.specs.declared.request.Request.{Request}
use Rattle.pcm_oss.specs.declared.request.Request.TheVariants as requests
use Rattle.pcm_wave.specs.declared.pool.Pool.{Pool}
use Rattle.pcm_wave.specs.declared.pool.Source.TheVariants.{Inline, File}
use Rattle.pcm_wave.specs.Pools.{body_in, bytes_at}
use Rattle.pcm_desk.specs.declared.limits.TheConstants.{READ_BYTES, WRITE_BYTES}
use Rattle.pcm_desk.specs.Device.{DeviceSeen, ring_frames}
use Rattle.pcm_desk.specs.Events.{Fits}
use Rattle.pcm_script.specs.declared.names.Command.{Command}
use Rattle.pcm_script.specs.declared.names.Command.TheVariants as commands
use Rattle.pcm_script.specs.declared.names.Control.{Control}
use Rattle.pcm_script.specs.declared.names.Control.TheVariants.{Master, Slot, Mute}
use Rattle.pcm_script.specs.Commands.{as_whole, asked_by, close_line, command_line, interrupt_line, ioctl_line, line_event, mixer_line, most_argument, most_offset, open_line, or_fault, poke_line, read_line, send_line, write_line}
use Rattle.pcm_script.specs.Numbers.{is_decimal_digit, number_within, within}
use Rattle.pcm_script.specs.Names.{command_name, command_named, control_name, join_name, request_name, start_group_name, way_name, way_named}
use Rattle.pcm_script.specs.Steps.{◌>>=◌}
use Rattle.pcm_script.specs.Words.{words_of}
use Rattle.pcm_script.specs.declared.fault.ScriptKind.TheVariants.{Word}
use Rattle.pcm_text.specs.Texts.{argument_of, argument_words, arguments_for, command_for, control_for, event_line, file_name_in, setting_words}
use Rattle.pcm_text.specs.ReadBack.{HasSmallNumbers, HasSmallSettings, IsFileNamed, line_asked}
use Rattle.pcm_text.proofs.CutLines.{AreWords, IsOneWord, line-plain, one-word, plain-feed, words-read}
use Rattle.pcm_text.proofs.Spelling.{bytes-read, bytes-word, decimal-digits, decimal-read, decimal-within, decimal-word}

-- ---- names

command-word : (command : Command) → IsOneWord (command_name command)
command-word commands.Open = one-word _ refl
command-word commands.Write = one-word _ refl
command-word commands.Send = one-word _ refl
command-word commands.Poke = one-word _ refl
command-word commands.Read = one-word _ refl
command-word commands.Ioctl = one-word _ refl
command-word commands.Close = one-word _ refl
command-word commands.Mixer = one-word _ refl
command-word commands.Intr = one-word _ refl

command-read : (command : Command) → command_named (command_name command) ≡ Some command
command-read commands.Open = refl
command-read commands.Write = refl
command-read commands.Send = refl
command-read commands.Poke = refl
command-read commands.Read = refl
command-read commands.Ioctl = refl
command-read commands.Close = refl
command-read commands.Mixer = refl
command-read commands.Intr = refl

control-word : (control : Control) → IsOneWord (control_name control)
control-word Master = one-word _ refl
control-word Slot = one-word _ refl
control-word Mute = one-word _ refl

way-word : (way : Way) → IsOneWord (way_name way)
way-word Play = one-word _ refl
way-word Record = one-word _ refl
way-word Map = one-word _ refl

way-read : (way : Way) → way_named (way_name way) ≡ Some way
way-read Play = refl
way-read Record = refl
way-read Map = refl

format-word : (format : Format) → IsOneWord (name_of format)
format-word U8 = one-word _ refl
format-word S8 = one-word _ refl
format-word S16Le = one-word _ refl
format-word S16Be = one-word _ refl
format-word U16Le = one-word _ refl
format-word U16Be = one-word _ refl
format-word S24Le = one-word _ refl
format-word S24Be = one-word _ refl
format-word U24Le = one-word _ refl
format-word U24Be = one-word _ refl
format-word S32Le = one-word _ refl
format-word S32Be = one-word _ refl
format-word U32Le = one-word _ refl
format-word U32Be = one-word _ refl

format-read : (format : Format) → format_named (name_of format) ≡ Some format
format-read U8 = refl
format-read S8 = refl
format-read S16Le = refl
format-read S16Be = refl
format-read U16Le = refl
format-read U16Be = refl
format-read S24Le = refl
format-read S24Be = refl
format-read U24Le = refl
format-read U24Be = refl
format-read S32Le = refl
format-read S32Be = refl
format-read U32Le = refl
format-read U32Be = refl

layout-read : (layout : Layout) → layout_of (channels_of layout) ≡ Some layout
layout-read One = refl
layout-read Two = refl
layout-read Four = refl
layout-read Six = refl
layout-read Eight = refl

few-channels : (layout : Layout) → channels_of layout ≤ 8
few-channels One = omega arith
few-channels Two = omega arith
few-channels Four = omega arith
few-channels Six = omega arith
few-channels Eight = omega arith

request-word : (request : Request) → IsOneWord (request_name request)
request-word (requests.SetFmt a) = one-word _ refl
request-word (requests.Speed a) = one-word _ refl
request-word (requests.Channels a) = one-word _ refl
request-word requests.GetFmts = one-word _ refl
request-word requests.GetCaps = one-word _ refl
request-word requests.GetBlkSize = one-word _ refl
request-word (requests.SetFragment a) = one-word _ refl
request-word requests.GetOSpace = one-word _ refl
request-word requests.GetISpace = one-word _ refl
request-word requests.GetOPtr = one-word _ refl
request-word requests.GetIPtr = one-word _ refl
request-word requests.GetODelay = one-word _ refl
request-word requests.GetError = one-word _ refl
request-word (requests.SetTrigger a) = one-word _ refl
request-word requests.GetTrigger = one-word _ refl
request-word (requests.SetPlayVol a) = one-word _ refl
request-word requests.GetPlayVol = one-word _ refl
request-word requests.Post = one-word _ refl
request-word requests.Sync = one-word _ refl
request-word requests.Halt = one-word _ refl

-- ---- bytes

IsBytes-drop : (n : ℕ) (xs : List ℕ) → IsBytes xs → IsBytes (drop n xs)
IsBytes-drop zero xs all = all
IsBytes-drop (suc n) [] all = all
IsBytes-drop (suc n) (x ∷ xs) all = IsBytes-drop n xs (λ i. all (suc i))

IsBytes-cons : (x : ℕ) (xs : List ℕ) → x < 256 → IsBytes xs → IsBytes (x ∷ xs)
IsBytes-cons x xs low all zero = low
IsBytes-cons x xs low all (suc i) = all i

IsBytes-take : (n : ℕ) (xs : List ℕ) → IsBytes xs → IsBytes (take n xs)
IsBytes-take zero xs all = λ i. omega arith
IsBytes-take (suc n) [] all = all
IsBytes-take (suc n) (x ∷ xs) all = IsBytes-cons x (take n xs) (all zero) (IsBytes-take n xs (λ k. all (suc k)))

bytes-part : (xs : List ℕ) (at count : ℕ) → IsBytes xs → IsBytes (take count (drop at xs))
bytes-part xs at count all = IsBytes-take count (drop at xs) (IsBytes-drop at xs all)

-- ---- words of a line

small-fd : (fd : ℕ) → fd < 64 → IsOneWord (decimal fd)
small-fd fd low = decimal-word fd (omega arith)

argument-words : (request : Request) → IfSome (argument_of request) (λ argument. argument < 2 ^ 32) → AreWords (argument_words (argument_of request))
argument-words (requests.SetFmt a) small = (decimal-word a (omega (arith, small)), tt)
argument-words (requests.Speed a) small = (decimal-word a (omega (arith, small)), tt)
argument-words (requests.Channels a) small = (decimal-word a (omega (arith, small)), tt)
argument-words requests.GetFmts small = tt
argument-words requests.GetCaps small = tt
argument-words requests.GetBlkSize small = tt
argument-words (requests.SetFragment a) small = (decimal-word a (omega (arith, small)), tt)
argument-words requests.GetOSpace small = tt
argument-words requests.GetISpace small = tt
argument-words requests.GetOPtr small = tt
argument-words requests.GetIPtr small = tt
argument-words requests.GetODelay small = tt
argument-words requests.GetError small = tt
argument-words (requests.SetTrigger a) small = (decimal-word a (omega (arith, small)), tt)
argument-words requests.GetTrigger small = tt
argument-words (requests.SetPlayVol a) small = (decimal-word a (omega (arith, small)), tt)
argument-words requests.GetPlayVol small = tt
argument-words requests.Post small = tt
argument-words requests.Sync small = tt
argument-words requests.Halt small = tt

setting-words : (request : MixRequest) → HasSmallSettings request → AreWords (setting_words request)
setting-words (mixes.SetMaster volume) small = (decimal-word volume (omega (arith, small)), tt)
setting-words mixes.GetMaster small = tt
setting-words (mixes.SetSlot slot volume) small = (decimal-word slot (omega (arith, small.0)), (decimal-word volume (omega (arith, small.1)), tt))
setting-words (mixes.GetSlot slot) small = (decimal-word slot (omega (arith, small)), tt)
setting-words (mixes.Mute slot on) small = (decimal-word slot (omega (arith, small.0)), (decimal-word on (omega (arith, small.1)), tt))

-- what stands after the command of an event that fits is words
pub arguments-words : (device : DeviceSeen) (pool : Pool) (event : Event) → Fits device pool event → HasSmallNumbers event → IsBytes pool.inline_bytes
    → ((place : ℕ) → place < length pool.files → IsFileNamed pool.files place) → AreWords (arguments_for pool event)
arguments-words device pool (Open fd way settings) fits small bytes named =
    (small-fd fd fits.0, (way-word way, (format-word settings.format, (decimal-word (channels_of settings.layout) (omega (arith, few-channels settings.layout)), (decimal-word settings.rate (omega (arith, fits.1.most)), tt)))))
arguments-words device pool (Write fd Inline at count) fits small bytes named =
    (small-fd fd fits.0, (bytes-word (bytes_at pool Inline at count) (bytes-part pool.inline_bytes at count bytes), tt))
arguments-words device pool (Write fd (File place) at count) fits small bytes named =
    (small-fd fd fits.0, (one-word (file_name_in (slice_get pool.files place)) (named place fits.2.has).word, (decimal-word at (omega (arith, small.0)), (decimal-word count (omega (arith, small.1)), tt))))
arguments-words device pool (Poke fd offset at count) fits small bytes named =
    (small-fd fd fits.0, (decimal-word offset (omega (arith, small)), (bytes-word (bytes_at pool Inline at count) (bytes-part pool.inline_bytes at count bytes), tt)))
arguments-words device pool (Read fd count) fits small bytes named = (small-fd fd fits.0, (decimal-word count (omega (arith, fits.1)), tt))
arguments-words device pool (Ioctl fd request) fits small bytes named = (small-fd fd fits, (request-word request, argument-words request small))
arguments-words device pool (Join fd group) fits small bytes named = (small-fd fd fits, (one-word join_name refl, (decimal-word group (omega (arith, small)), tt)))
arguments-words device pool (StartGroup fd group) fits small bytes named = (small-fd fd fits, (one-word start_group_name refl, (decimal-word group (omega (arith, small)), tt)))
arguments-words device pool (Close fd) fits small bytes named = (small-fd fd fits, tt)
arguments-words device pool (Mixer request) fits small bytes named = (control-word (control_for request), setting-words request small)
arguments-words device pool (Intr frames) fits small bytes named = (decimal-word frames (omega (arith, small)), tt)

-- ---- each command

-- a name of a format begins with a letter
no-format : (argument : ℕ) → argument < 2 ^ 32 → format_named (decimal argument) ≡ None
no-format argument small = no-format-digits (decimal argument) (decimal_nonempty argument (omega arith)) (decimal-digits argument (omega arith))
  where
    no-format-digits : (digits : List ℕ) → 0 < length digits → list_all is_decimal_digit digits ≡ true → format_named digits ≡ None
    no-format-digits [] some all = absurd (omega arith)
    no-format-digits (b ∷ digits) some all =
        let low : b ≤ 57 = grind (arith, nat_tests, (and_parts (is_decimal_digit b) (list_all is_decimal_digit digits) all).0) in
        rw (ne_eqb 117 b (omega arith), ne_eqb 115 b (omega arith)) (refl {a = None})

limited : (argument : ℕ) → argument < 2 ^ 32 → within 0 4294967295 argument ≡ Ok argument
limited argument small = grind (arith, nat_tests)

few-bytes : (count : ℕ) (xs : List ℕ) → count ≤ WRITE_BYTES → length (take count xs) ≤ WRITE_BYTES
few-bytes count xs few = omega (arith, length-take count xs)

request-read : (fd : ℕ) (request : Request) → fd < 64 → IfSome (argument_of request) (λ argument. argument < 2 ^ 32)
    → ioctl_line (decimal fd ∷ request_name request ∷ argument_words (argument_of request)) ≡ Ok (Ioctl fd request)
unfolding ioctl_line
request-read fd (requests.SetFmt a) low small = rw (decimal-within 0 63 fd (omega arith) (omega arith) (omega arith), no-format a small, decimal-read a small, limited a small) refl
request-read fd (requests.Speed a) low small = rw (decimal-within 0 63 fd (omega arith) (omega arith) (omega arith), decimal-within 0 4294967295 a small (omega arith) (omega (arith, small))) refl
request-read fd (requests.Channels a) low small = rw (decimal-within 0 63 fd (omega arith) (omega arith) (omega arith), decimal-within 0 4294967295 a small (omega arith) (omega (arith, small))) refl
request-read fd requests.GetFmts low small = rw (decimal-within 0 63 fd (omega arith) (omega arith) (omega arith)) refl
request-read fd requests.GetCaps low small = rw (decimal-within 0 63 fd (omega arith) (omega arith) (omega arith)) refl
request-read fd requests.GetBlkSize low small = rw (decimal-within 0 63 fd (omega arith) (omega arith) (omega arith)) refl
request-read fd (requests.SetFragment a) low small = rw (decimal-within 0 63 fd (omega arith) (omega arith) (omega arith), decimal-within 0 4294967295 a small (omega arith) (omega (arith, small))) refl
request-read fd requests.GetOSpace low small = rw (decimal-within 0 63 fd (omega arith) (omega arith) (omega arith)) refl
request-read fd requests.GetISpace low small = rw (decimal-within 0 63 fd (omega arith) (omega arith) (omega arith)) refl
request-read fd requests.GetOPtr low small = rw (decimal-within 0 63 fd (omega arith) (omega arith) (omega arith)) refl
request-read fd requests.GetIPtr low small = rw (decimal-within 0 63 fd (omega arith) (omega arith) (omega arith)) refl
request-read fd requests.GetODelay low small = rw (decimal-within 0 63 fd (omega arith) (omega arith) (omega arith)) refl
request-read fd requests.GetError low small = rw (decimal-within 0 63 fd (omega arith) (omega arith) (omega arith)) refl
request-read fd (requests.SetTrigger a) low small = rw (decimal-within 0 63 fd (omega arith) (omega arith) (omega arith), decimal-within 0 4294967295 a small (omega arith) (omega (arith, small))) refl
request-read fd requests.GetTrigger low small = rw (decimal-within 0 63 fd (omega arith) (omega arith) (omega arith)) refl
request-read fd (requests.SetPlayVol a) low small = rw (decimal-within 0 63 fd (omega arith) (omega arith) (omega arith), decimal-within 0 4294967295 a small (omega arith) (omega (arith, small))) refl
request-read fd requests.GetPlayVol low small = rw (decimal-within 0 63 fd (omega arith) (omega arith) (omega arith)) refl
request-read fd requests.Post low small = rw (decimal-within 0 63 fd (omega arith) (omega arith) (omega arith)) refl
request-read fd requests.Sync low small = rw (decimal-within 0 63 fd (omega arith) (omega arith) (omega arith)) refl
request-read fd requests.Halt low small = rw (decimal-within 0 63 fd (omega arith) (omega arith) (omega arith)) refl

-- a join and a start are read as what they ask
join-read : (fd group : ℕ) → fd < 64 → group < 2 ^ 32 → ioctl_line (decimal fd ∷ join_name ∷ decimal group ∷ []) ≡ Ok (Join fd group)
unfolding ioctl_line
join-read fd group low small = rw (decimal-within 0 63 fd (omega arith) (omega arith) (omega arith), decimal-within 0 4294967295 group small (omega arith) (omega arith)) refl

start_group-read : (fd group : ℕ) → fd < 64 → group < 2 ^ 32 → ioctl_line (decimal fd ∷ start_group_name ∷ decimal group ∷ []) ≡ Ok (StartGroup fd group)
unfolding ioctl_line
start_group-read fd group low small = rw (decimal-within 0 63 fd (omega arith) (omega arith) (omega arith), decimal-within 0 4294967295 group small (omega arith) (omega arith)) refl

-- what is asked of the mixer device is read as that
setting-read : (number : ℕ) → number < 2 ^ 32 → number_within 0 most_argument (decimal number) ≡ Ok number
setting-read number small = decimal-within 0 most_argument number small (omega arith) (omega (arith, small))

mixer-read : (request : MixRequest) → HasSmallSettings request → mixer_line (control_name (control_for request) ∷ setting_words request) ≡ Ok (Mixer request)
unfolding mixer_line
mixer-read (mixes.SetMaster volume) small = rw (setting-read volume small) refl
mixer-read mixes.GetMaster small = refl
mixer-read (mixes.SetSlot slot volume) small = rw (setting-read slot small.0, setting-read volume small.1) refl
mixer-read (mixes.GetSlot slot) small = rw (setting-read slot small) refl
mixer-read (mixes.Mute slot on) small = rw (setting-read slot small.0, setting-read on small.1) refl

-- what the command of an event is read as, with its words
pub event-read : (device : DeviceSeen) (pool : Pool) (event : Event) → Fits device pool event → HasSmallNumbers event → IsBytes pool.inline_bytes
    → ((place : ℕ) → place < length pool.files → IsFileNamed pool.files place)
    → asked_by device pool.files (command_for event) (arguments_for pool event) ≡ Ok (line_asked pool event)
unfolding open_line write_line send_line poke_line read_line close_line interrupt_line
event-read device pool (Open fd way settings) fits small bytes named =
    rw (
      decimal-within 0 63 fd (omega (arith, fits.0)) (omega arith) (omega (arith, fits.0)),
      way-read way,
      format-read settings.format,
      decimal-read (channels_of settings.layout) (omega (arith, few-channels settings.layout)),
      layout-read settings.layout,
      decimal-within RATE_LEAST RATE_MOST settings.rate (omega (arith, fits.1.most)) fits.1.least fits.1.most,
    ) refl
event-read device pool (Write fd Inline at count) fits small bytes named =
    rw (
      decimal-within 0 63 fd (omega (arith, fits.0)) (omega arith) (omega (arith, fits.0)),
      bytes-read (bytes_at pool Inline at count) (bytes-part pool.inline_bytes at count bytes) (few-bytes count (drop at pool.inline_bytes) fits.1),
    ) refl
event-read device pool (Write fd (File place) at count) fits small bytes named =
    rw (
      decimal-within 0 63 fd (omega (arith, fits.0)) (omega arith) (omega (arith, fits.0)),
      (named place fits.2.has).first,
      decimal-read at small.0,
      decimal-read count small.1,
      le-leb (at + count) (length (body_in (slice_get pool.files place))) fits.2.within,
    ) refl
event-read device pool (Poke fd offset at count) fits small bytes named =
    rw (
      decimal-within 0 63 fd (omega (arith, fits.0)) (omega arith) (omega (arith, fits.0)),
      decimal-within 0 most_offset offset small (omega arith) (omega (arith, small)),
      bytes-read (bytes_at pool Inline at count) (bytes-part pool.inline_bytes at count bytes) (few-bytes count (drop at pool.inline_bytes) fits.1),
    ) refl
event-read device pool (Read fd count) fits small bytes named =
    rw (decimal-within 0 63 fd (omega (arith, fits.0)) (omega arith) (omega (arith, fits.0)), decimal-within 0 READ_BYTES count (omega (arith, fits.1)) (omega arith) fits.1) refl
event-read device pool (Ioctl fd request) fits small bytes named = ap as_whole (request-read fd request fits small)
event-read device pool (Join fd group) fits small bytes named = ap as_whole (join-read fd group fits small)
event-read device pool (StartGroup fd group) fits small bytes named = ap as_whole (start_group-read fd group fits small)
event-read device pool (Close fd) fits small bytes named = rw (decimal-within 0 63 fd (omega (arith, fits)) (omega arith) (omega (arith, fits))) refl
event-read device pool (Mixer request) fits small bytes named = ap as_whole (mixer-read request small)
event-read device pool (Intr frames) fits small bytes named = rw (decimal-within 1 (ring_frames device) frames small fits.0 fits.1) refl

-- the line of an event is read as what it spells
pub line-read : (device : DeviceSeen) (pool : Pool) (event : Event) → Fits device pool event → HasSmallNumbers event → IsBytes pool.inline_bytes
    → ((place : ℕ) → place < length pool.files → IsFileNamed pool.files place)
    → line_event device pool.files (words_of (event_line pool event)) ≡ Ok (Some (line_asked pool event))
unfolding line_event command_line
line-read device pool event fits small bytes named =
    let words = words-read (command_name (command_for event)) (arguments_for pool event) (command-word (command_for event)) (arguments-words device pool event fits small bytes named) in
    ap (line_event device pool.files) words
    ∙ ap (λ named_as. or_fault named_as Word >>= (λ command. asked_by device pool.files command (arguments_for pool event)) >>= (λ asked. Ok (Some asked))) (command-read (command_for event))
    ∙ ap (λ asked. asked >>= (λ line. Ok (Some line))) (event-read device pool event fits small bytes named)

-- it ends no line before its end
pub line-whole : (device : DeviceSeen) (pool : Pool) (event : Event) → Fits device pool event → HasSmallNumbers event → IsBytes pool.inline_bytes
    → ((place : ℕ) → place < length pool.files → IsFileNamed pool.files place) → list_all (λ b. not (b == 10)) (event_line pool event) ≡ true
line-whole device pool event fits small bytes named =
    line-plain (λ b. not (b == 10)) plain-feed refl (command_name (command_for event)) (arguments_for pool event) (command-word (command_for event))
    (arguments-words device pool event fits small bytes named)
