-- What each line asks for, judged by itself, is within what a device and a write allow.
use Rattle.std.proofs.Common.{ℕ, ◌<◌, ◌≤◌, List, [], ◌∷◌, length, Option, Some, None, Result, Ok, Err, arith, IfOk, codes, ◌≡◌, ◌+◌, refl, subst, position}
use Rattle.std.specs.Option.{IfSome}
use Rattle.std.specs.Str.{bytes_eq}
use Rattle.hex.specs.Hex.{decode_of}
use Rattle.hex.specs.declared.error.FromHexError.{FromHexError}
use Rattle.std.proofs.lemmas.Bool.Decides.{nat_tests}
use Rattle.std.proofs.lemmas.Result.{IfOk-weaker}
use Rattle.std.proofs.lemmas.List.Quantifiers.{position-Some}
use Rattle.pcm_format.specs.declared.format.Format.TheVariants.{U8}
use Rattle.pcm_format.specs.declared.layout.Layout.TheVariants.{One}
use Rattle.pcm_format.specs.declared.settings.TheConstants.{RATE_LEAST, RATE_MOST}
use Rattle.pcm_oss.specs.declared.event.Event.{Event}
use Rattle.pcm_wave.specs.DataFiles.{DataFileSeen}
use Rattle.pcm_desk.specs.declared.limits.TheConstants.{DESCRIPTORS, READ_BYTES, WRITE_BYTES}
use Rattle.pcm_desk.specs.Device.{DeviceSeen, block_frames, ring_frames}
use Rattle.pcm_desk.specs.Events.{Fits}
use Rattle.pcm_script.specs.declared.fault.ScriptKind.{ScriptKind}
use Rattle.pcm_script.specs.declared.fault.ScriptKind.TheVariants.{Word, Name}
use Rattle.pcm_script.specs.declared.fault.LineFault.{LineFault}
use Rattle.pcm_script.specs.declared.line_event.LineEvent.{LineEvent}
use Rattle.pcm_script.specs.declared.line_event.LineEvent.TheVariants.{Write, Poke, Whole}
use Rattle.pcm_script.specs.declared.names.Command.{Command}
use Rattle.pcm_script.specs.declared.names.Command.TheVariants as commands
use Rattle.pcm_script.specs.declared.request.Setter.{Setter}
use Rattle.pcm_script.specs.declared.request.Setter.TheVariants as setters
use Rattle.pcm_script.specs.Names.{command_named}
use Rattle.pcm_script.specs.Numbers.{number_in, within, number_within}
use Rattle.pcm_script.specs.Requests.{as_full, as_plain, asked_with, request_named}
use Rattle.pcm_script.specs.Commands.{descriptor_in, way_in, or_fault, format_in, layout_in, rate_in, short_bytes, bytes_in, argument_in, ending_within, file_in, is_file_named, length_in, size_of, open_line, write_line, most_offset, send_line, poke_line, read_line, ioctl_line, close_line, asked_alone, asked_of_one, asked_of_two, control_in, mixer_line, interrupt_line, as_whole, asked_by, command_line, line_event}
use Rattle.pcm_script.specs.Answers.{Asks}
use Rattle.pcm_script.specs.Collecting.{own_bytes}
use Rattle.pcm_script.specs.Lines.{empty_script, pool_of}
use Rattle.pcm_script.proofs.Judgements.{IfOk-then, IfOk-after, IfOk-either}

-- an interrupt without a number is one that the device can make
pub record HasBlocks (device : DeviceSeen) : Type 0 where
  pub some : 0 < block_frames device
  pub room : block_frames device ≤ ring_frames device

-- an event fits a device and these files, whatever bytes lines have
abbrev pub FitsAlone : DeviceSeen → List DataFileSeen → Event → Type 0
FitsAlone device files event = HasBlocks device → Fits device (pool_of files empty_script) event

abbrev pub IsWithin : DeviceSeen → List DataFileSeen → LineEvent → Type 0
IsWithin device files (Write fd bytes) = (fd < DESCRIPTORS) × (length bytes ≤ WRITE_BYTES)
IsWithin device files (Poke fd offset bytes) = (fd < DESCRIPTORS) × (length bytes ≤ WRITE_BYTES)
IsWithin device files (Whole event) = FitsAlone device files event

-- ---- words

within-range : (least most number : ℕ) → IfOk (within least most number) (λ n. (least ≤ n) × (n ≤ most))
within-range least most number = grind (arith, nat_tests)

-- bytes that end within a body
ending_within-room : (size at count : ℕ) → IfOk (ending_within size (at + count) count) (λ n. at + n ≤ size)
ending_within-room size at count = grind (arith, nat_tests)

number_within-range : (least most : ℕ) (word : List ℕ) → IfOk (number_within least most word) (λ n. (least ≤ n) × (n ≤ most))
number_within-range least most word = IfOk-after (number_in word) (within least most) _ (within-range least most)

descriptor-range : (word : List ℕ) → IfOk (descriptor_in word) (λ fd. fd < DESCRIPTORS)
descriptor-range word = IfOk-weaker (descriptor_in word) (λ n. (0 ≤ n) × (n ≤ 63)) (λ fd. fd < DESCRIPTORS) (λ n range. omega arith) (number_within-range 0 63 word)

short_bytes-room : (decoded : Result (List ℕ) FromHexError) → IfOk (short_bytes decoded) (λ bytes. length bytes ≤ WRITE_BYTES)
short_bytes-room (Ok bytes) = grind (arith, nat_tests)
short_bytes-room (Err fault) = tt

bytes_in-room : (word : List ℕ) → IfOk (bytes_in word) (λ bytes. length bytes ≤ WRITE_BYTES)
bytes_in-room word =
    IfOk-either (bytes_eq word (codes "-")) (Ok []) (short_bytes (decode_of word)) (λ bytes. length bytes ≤ WRITE_BYTES)
    (omega arith) (short_bytes-room (decode_of word))

-- ---- files

-- a file
pub some_file : DataFileSeen
some_file = record { name = []; bytes = []; wave = record { format = U8; layout = One; rate = 0; at = 0; len = 0 } }

found-place : {A : Type 0} (found : Option A) {P : A → Type 0} → ((value : A) → found ≡ Some value → P value) → IfOk (or_fault found Name) P
found-place None h = tt
found-place (Some value) h = h value refl

length_in-room : (size at : ℕ) (word : List ℕ) → IfOk (length_in size at word) (λ count. at + count ≤ size)
length_in-room size at word = IfOk-after (number_in word) _ _ (λ count. ending_within-room size at count)

-- ---- commands

open_line-within : (device : DeviceSeen) (files : List DataFileSeen) (arguments : List (List ℕ)) → IfOk (open_line arguments) (FitsAlone device files)
unfolding open_line
open_line-within device files [] = tt
open_line-within device files (d ∷ []) = tt
open_line-within device files (d ∷ w ∷ []) =
    IfOk-then (descriptor_in d) _ _ (FitsAlone device files) (descriptor-range d)
    (λ fd low. IfOk-after (way_in w) _ (FitsAlone device files) (λ way blocks. (low, record { least = omega arith; most = omega arith })))
open_line-within device files (d ∷ w ∷ f ∷ []) = tt
open_line-within device files (d ∷ w ∷ f ∷ c ∷ []) = tt
open_line-within device files (d ∷ w ∷ f ∷ c ∷ r ∷ []) =
    IfOk-then (descriptor_in d) _ _ (FitsAlone device files) (descriptor-range d)
    (λ fd low. IfOk-after (way_in w) _ (FitsAlone device files)
    (λ way. IfOk-after (format_in f) _ (FitsAlone device files)
    (λ format. IfOk-after (layout_in c) _ (FitsAlone device files)
    (λ layout. IfOk-then (rate_in r) _ _ (FitsAlone device files) (number_within-range RATE_LEAST RATE_MOST r)
    (λ rate range blocks. (low, record { least = range.0; most = range.1 }))))))
open_line-within device files (d ∷ w ∷ f ∷ c ∷ r ∷ x ∷ more) = tt

write_line-within : (device : DeviceSeen) (files : List DataFileSeen) (arguments : List (List ℕ)) → IfOk (write_line arguments) (IsWithin device files)
unfolding write_line
write_line-within device files [] = tt
write_line-within device files (d ∷ []) = tt
write_line-within device files (d ∷ h ∷ []) =
    IfOk-then (descriptor_in d) _ _ (IsWithin device files) (descriptor-range d)
    (λ fd low. IfOk-then (bytes_in h) _ _ (IsWithin device files) (bytes_in-room h) (λ bytes short. (low, short)))
write_line-within device files (d ∷ h ∷ x ∷ more) = tt

-- a word that names a file gives its place
file_in-place : (files : List DataFileSeen) (word : List ℕ) → IfOk (file_in files word) (λ file. file < length files)
file_in-place files word =
    found-place (position (is_file_named word) files) (λ place e. (position-Some (is_file_named word) files place some_file e).0)

send_line-within : (device : DeviceSeen) (files : List DataFileSeen) (arguments : List (List ℕ)) → IfOk (send_line files arguments) (FitsAlone device files)
unfolding send_line
send_line-within device files [] = tt
send_line-within device files (d ∷ []) = tt
send_line-within device files (d ∷ f ∷ []) = tt
send_line-within device files (d ∷ f ∷ o ∷ []) = tt
send_line-within device files (d ∷ f ∷ o ∷ l ∷ []) =
    IfOk-then (descriptor_in d) _ _ (FitsAlone device files) (descriptor-range d)
    (λ fd low. IfOk-then (file_in files f) _ _ (FitsAlone device files) (file_in-place files f)
    (λ file there. IfOk-after (number_in o) _ (FitsAlone device files)
    (λ at. IfOk-then (length_in (size_of files file) at l) _ _ (FitsAlone device files) (length_in-room (size_of files file) at l)
    (λ count room blocks. (low, tt, record { has = there; within = room })))))
send_line-within device files (d ∷ f ∷ o ∷ l ∷ x ∷ more) = tt

poke_line-within : (device : DeviceSeen) (files : List DataFileSeen) (arguments : List (List ℕ)) → IfOk (poke_line arguments) (IsWithin device files)
unfolding poke_line
poke_line-within device files [] = tt
poke_line-within device files (d ∷ []) = tt
poke_line-within device files (d ∷ o ∷ []) = tt
poke_line-within device files (d ∷ o ∷ h ∷ []) =
    IfOk-then (descriptor_in d) _ _ (IsWithin device files) (descriptor-range d)
    (λ fd low. IfOk-after (number_within 0 most_offset o) _ (IsWithin device files)
    (λ offset. IfOk-then (bytes_in h) _ _ (IsWithin device files) (bytes_in-room h) (λ bytes short. (low, short))))
poke_line-within device files (d ∷ o ∷ h ∷ x ∷ more) = tt

read_line-within : (device : DeviceSeen) (files : List DataFileSeen) (arguments : List (List ℕ)) → IfOk (read_line arguments) (FitsAlone device files)
unfolding read_line
read_line-within device files [] = tt
read_line-within device files (d ∷ []) = tt
read_line-within device files (d ∷ l ∷ []) =
    IfOk-then (descriptor_in d) _ _ (FitsAlone device files) (descriptor-range d)
    (λ fd low. IfOk-then (number_within 0 READ_BYTES l) _ _ (FitsAlone device files) (number_within-range 0 READ_BYTES l) (λ count range blocks. (low, range.1)))
read_line-within device files (d ∷ l ∷ x ∷ more) = tt

-- what is asked with an argument is asked of a descriptor
asked_with-within : (device : DeviceSeen) (files : List DataFileSeen) (setter : Setter) (fd argument : ℕ) → fd < DESCRIPTORS
    → FitsAlone device files (asked_with setter fd argument)
asked_with-within device files setters.SetFmt fd argument low = λ blocks. low
asked_with-within device files setters.Speed fd argument low = λ blocks. low
asked_with-within device files setters.Channels fd argument low = λ blocks. low
asked_with-within device files setters.SetFragment fd argument low = λ blocks. low
asked_with-within device files setters.SetTrigger fd argument low = λ blocks. low
asked_with-within device files setters.SetPlayVol fd argument low = λ blocks. low
asked_with-within device files setters.Join fd argument low = λ blocks. low
asked_with-within device files setters.StartGroup fd argument low = λ blocks. low

ioctl_line-within : (device : DeviceSeen) (files : List DataFileSeen) (arguments : List (List ℕ)) → IfOk (ioctl_line arguments) (FitsAlone device files)
unfolding ioctl_line
ioctl_line-within device files [] = tt
ioctl_line-within device files (d ∷ []) = tt
ioctl_line-within device files (d ∷ name ∷ []) =
    IfOk-after (as_plain (request_named name)) _ (FitsAlone device files)
    (λ named. IfOk-then (descriptor_in d) _ _ (FitsAlone device files) (descriptor-range d)
    (λ fd low. IfOk-after (or_fault named Name) _ (FitsAlone device files) (λ request blocks. low)))
ioctl_line-within device files (d ∷ name ∷ a ∷ []) =
    IfOk-after (as_full (request_named name)) _ (FitsAlone device files)
    (λ named. IfOk-then (descriptor_in d) _ _ (FitsAlone device files) (descriptor-range d)
    (λ fd low. IfOk-after (or_fault named Name) _ (FitsAlone device files)
    (λ setter. IfOk-after (argument_in setter a) _ (FitsAlone device files) (λ argument. asked_with-within device files setter fd argument low))))
ioctl_line-within device files (d ∷ name ∷ a ∷ x ∷ more) = tt

close_line-within : (device : DeviceSeen) (files : List DataFileSeen) (arguments : List (List ℕ)) → IfOk (close_line arguments) (FitsAlone device files)
unfolding close_line
close_line-within device files [] = tt
close_line-within device files (d ∷ []) = IfOk-then (descriptor_in d) _ _ (FitsAlone device files) (descriptor-range d) (λ fd low blocks. low)
close_line-within device files (d ∷ x ∷ more) = tt

-- what is asked of the mixer device is always within
mixer_line-within : (device : DeviceSeen) (files : List DataFileSeen) (arguments : List (List ℕ)) → IfOk (mixer_line arguments) (FitsAlone device files)
unfolding mixer_line
mixer_line-within device files [] = tt
mixer_line-within device files (c ∷ []) =
    IfOk-after (control_in c) _ (FitsAlone device files)
    (λ control. IfOk-after (asked_alone control) _ (FitsAlone device files) (λ request blocks. tt))
mixer_line-within device files (c ∷ a ∷ []) =
    IfOk-after (control_in c) _ (FitsAlone device files)
    (λ control. IfOk-after (asked_of_one control a) _ (FitsAlone device files) (λ request blocks. tt))
mixer_line-within device files (c ∷ s ∷ a ∷ []) =
    IfOk-after (control_in c) _ (FitsAlone device files)
    (λ control. IfOk-after (asked_of_two control s a) _ (FitsAlone device files) (λ request blocks. tt))
mixer_line-within device files (c ∷ s ∷ a ∷ x ∷ more) = tt

interrupt_line-within : (device : DeviceSeen) (files : List DataFileSeen) (arguments : List (List ℕ)) → IfOk (interrupt_line device arguments) (FitsAlone device files)
unfolding interrupt_line
interrupt_line-within device files [] = λ blocks. (blocks.some, blocks.room)
interrupt_line-within device files (n ∷ []) =
    IfOk-then (number_within 1 (ring_frames device) n) _ _ (FitsAlone device files) (number_within-range 1 (ring_frames device) n) (λ frames range blocks. range)
interrupt_line-within device files (n ∷ x ∷ more) = tt

whole-within : (device : DeviceSeen) (files : List DataFileSeen) (asked : Result Event ScriptKind) → IfOk asked (FitsAlone device files)
    → IfOk (as_whole asked) (IsWithin device files)
whole-within device files (Ok event) fits = fits
whole-within device files (Err kind) fits = tt

asked_by-within : (device : DeviceSeen) (files : List DataFileSeen) (command : Command) (arguments : List (List ℕ))
    → IfOk (asked_by device files command arguments) (IsWithin device files)
asked_by-within device files commands.Open arguments = whole-within device files (open_line arguments) (open_line-within device files arguments)
asked_by-within device files commands.Write arguments = write_line-within device files arguments
asked_by-within device files commands.Send arguments = whole-within device files (send_line files arguments) (send_line-within device files arguments)
asked_by-within device files commands.Poke arguments = poke_line-within device files arguments
asked_by-within device files commands.Read arguments = whole-within device files (read_line arguments) (read_line-within device files arguments)
asked_by-within device files commands.Ioctl arguments = whole-within device files (ioctl_line arguments) (ioctl_line-within device files arguments)
asked_by-within device files commands.Close arguments = whole-within device files (close_line arguments) (close_line-within device files arguments)
asked_by-within device files commands.Mixer arguments = whole-within device files (mixer_line arguments) (mixer_line-within device files arguments)
asked_by-within device files commands.Intr arguments = whole-within device files (interrupt_line device arguments) (interrupt_line-within device files arguments)

command_line-within : (device : DeviceSeen) (files : List DataFileSeen) (word : List ℕ) (arguments : List (List ℕ))
    → IfOk (command_line device files word arguments) (IsWithin device files)
unfolding command_line
command_line-within device files word arguments =
    IfOk-after (or_fault (command_named word) Word) _ (IsWithin device files) (λ command. asked_by-within device files command arguments)

-- what each line asks for is within
pub line_event-within : (device : DeviceSeen) (files : List DataFileSeen) (words : List (List ℕ))
    → IfOk (line_event device files words) (λ asked. IfSome asked (IsWithin device files))
unfolding line_event
line_event-within device files [] = tt
line_event-within device files (word ∷ arguments) =
    IfOk-then (command_line device files word arguments) _ (IsWithin device files) (λ asked. IfSome asked (IsWithin device files))
    (command_line-within device files word arguments) (λ event within. within)

own_bytes-room : (device : DeviceSeen) (files : List DataFileSeen) (line : LineEvent) → IsWithin device files line → length (own_bytes line) ≤ WRITE_BYTES
own_bytes-room device files (Write fd bytes) within = within.1
own_bytes-room device files (Poke fd offset bytes) within = within.1
own_bytes-room device files (Whole event) within = omega arith

-- no line names more bytes than a write has
pub asked-room : (device : DeviceSeen) (files : List DataFileSeen) (words : List (List ℕ)) (answer : Result (Option LineEvent) LineFault) (line : LineEvent)
    → Asks answer (line_event device files words) → answer ≡ Ok (Some line) → length (own_bytes line) ≤ WRITE_BYTES
asked-room device files words answer line gives same =
    let judged : line_event device files words ≡ Ok (Some line) = subst (λ r. Asks r (line_event device files words)) same gives in
    own_bytes-room device files line (subst (λ r. IfOk r (λ asked. IfSome asked (IsWithin device files))) judged (line_event-within device files words))
