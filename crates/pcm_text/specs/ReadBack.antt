-- What the text of a script is read back as: the same events, with the bytes of all writes and pokes one after another.
use Rattle.std.specs.Prelude.{IfSome, ◌≡◌, ℕ, ◌*◌, ◌^◌, ◌<◌, ◌≤◌, ◌==◌, Bool, true, not, ◌&&◌, List, [], ◌∷◌, length, position, Some, All, slice_get}
use Rattle.std.specs.List.{list_all}
use Rattle.hex.specs.Hex.{IsBytes}
use Rattle.pcm_oss.specs.declared.event.Event.{Event}
use Rattle.pcm_oss.specs.declared.event.Event.TheVariants.{Write, Poke, Ioctl, Join, StartGroup, Mixer, Intr}
use Rattle.pcm_oss.specs.declared.mix_request.MixRequest.{MixRequest}
use Rattle.pcm_oss.specs.declared.mix_request.MixRequest.TheVariants.{SetMaster, GetMaster, SetSlot, GetSlot, Mute}
use Rattle.pcm_wave.specs.declared.pool.Pool.{Pool}
use Rattle.pcm_wave.specs.declared.pool.Source.TheVariants.{Inline}
use Rattle.pcm_wave.specs.DataFiles.{DataFileSeen}
use Rattle.pcm_wave.specs.Pools.{bytes_at}
use Rattle.pcm_desk.specs.declared.limits.TheConstants.{DEVICE_BYTES, EVENTS}
use Rattle.pcm_desk.specs.Device.{DeviceSeen, device_frame_bytes}
use Rattle.pcm_desk.specs.Events.{all_frames_taken}
use Rattle.pcm_script.specs.declared.limits.TheConstants.{TEXT_BYTES}
use Rattle.pcm_script.specs.declared.line_event.LineEvent.{LineEvent}
use Rattle.pcm_script.specs.declared.line_event.LineEvent.TheVariants as lines
use Rattle.pcm_script.specs.declared.script.Script.{Script}
use Rattle.pcm_script.specs.Collecting.{script_with}
use Rattle.pcm_script.specs.Commands.{is_file_named}
use Rattle.pcm_script.specs.Lines.{AllFit, empty_script, pool_of}
use Rattle.pcm_script.specs.Words.{begins_comment, is_blank, is_word}
use Rattle.pcm_text.specs.Texts.{argument_of, file_name_in, text_of}

-- what the line of an event asks for
abbrev pub line_asked : Pool → Event → LineEvent
line_asked pool (Write fd Inline at count) = lines.Write fd (bytes_at pool Inline at count)
line_asked pool (Poke fd offset at count) = lines.Poke fd offset (bytes_at pool Inline at count)
line_asked pool event = lines.Whole event

-- a script with the lines of more events
abbrev pub with_asked : Pool → Script → List Event → Script
with_asked pool script [] = script
with_asked pool script (event ∷ events) = with_asked pool (script_with script (line_asked pool event)) events

-- the script that the text of a script is
abbrev pub rewritten : List DataFileSeen → Script → Script
rewritten files script = with_asked (pool_of files script) empty_script script.events

-- both ask for the same, with the same bytes
abbrev pub AsksTheSame : Pool → Pool → Event → Event → Type 0
AsksTheSame pool other (Write fd Inline at count) again =
    (place : ℕ) × (again ≡ Write fd Inline place count) × (bytes_at other Inline place count ≡ bytes_at pool Inline at count)
AsksTheSame pool other (Poke fd offset at count) again =
    (place : ℕ) × (again ≡ Poke fd offset place count) × (bytes_at other Inline place count ≡ bytes_at pool Inline at count)
AsksTheSame pool other event again = again ≡ event

-- as many events, each of which asks for the same
abbrev pub AskTheSame : Pool → Pool → List Event → List Event → Type 0
AskTheSame pool other [] [] = Unit {0}
AskTheSame pool other (event ∷ events) (again ∷ agains) = AsksTheSame pool other event again × AskTheSame pool other events agains
AskTheSame pool other events agains = ⊥

-- a byte that ends no word, and no line
abbrev pub is_plain : ℕ → Bool
is_plain byte = not (is_blank byte) && (not (byte == 10) && not (byte == 13))

-- bytes that are one word of a line
abbrev pub is_one_word : List ℕ → Bool
is_one_word word = is_word word && (not (begins_comment word) && list_all is_plain word)

-- the file at a place has a name that is one word, and that no file before it has
pub record IsFileNamed (files : List DataFileSeen) (place : ℕ) : Type 0 where
  pub word : is_one_word (file_name_in (slice_get files place)) ≡ true
  pub first : position (is_file_named (file_name_in (slice_get files place))) files ≡ Some place

-- the numbers of a request of the mixer device are of 32 bits
abbrev pub HasSmallSettings : MixRequest → Type 0
HasSmallSettings (SetMaster volume) = volume < 2 ^ 32
HasSmallSettings GetMaster = Unit {0}
HasSmallSettings (SetSlot slot volume) = (slot < 2 ^ 32) × (volume < 2 ^ 32)
HasSmallSettings (GetSlot slot) = slot < 2 ^ 32
HasSmallSettings (Mute slot on) = (slot < 2 ^ 32) × (on < 2 ^ 32)

-- the numbers of an event are of 32 bits, as they are in every script
abbrev pub HasSmallNumbers : Event → Type 0
HasSmallNumbers (Write fd source at count) = (at < 2 ^ 32) × (count < 2 ^ 32)
HasSmallNumbers (Poke fd offset at count) = offset < 2 ^ 32
HasSmallNumbers (Ioctl fd request) = IfSome (argument_of request) (λ argument. argument < 2 ^ 32)
HasSmallNumbers (Join fd group) = group < 2 ^ 32
HasSmallNumbers (StartGroup fd group) = group < 2 ^ 32
HasSmallNumbers (Mixer request) = HasSmallSettings request
HasSmallNumbers (Intr frames) = frames < 2 ^ 32
HasSmallNumbers event = Unit {0}

-- a script that a device takes, whose text is no longer than a text may be
pub record IsWritable (device : DeviceSeen) (files : List DataFileSeen) (script : Script) : Type 0 where
  pub fits : AllFit device files script
  pub small : All HasSmallNumbers script.events
  pub bytes : IsBytes script.inline_bytes
  pub named : (place : ℕ) → place < length files → IsFileNamed files place
  pub count : length script.events ≤ EVENTS
  pub frames : all_frames_taken script.events * device_frame_bytes device ≤ DEVICE_BYTES
  pub text : length (text_of files script) ≤ TEXT_BYTES
