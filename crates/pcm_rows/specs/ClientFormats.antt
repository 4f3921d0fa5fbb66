-- Scripts with one client in other settings than the device's.
use Prim.Native.String.{String}
use Rattle.std.specs.Prelude.{ℕ, ◌+◌, List, [], ◌∷◌, ◌++◌, codes, length, Result}
use Rattle.pcm_oss.specs.declared.event.Event.TheVariants.{Open, Write, Close, Intr}
use Rattle.pcm_wave.specs.declared.pool.Source.TheVariants.{Inline}
use Rattle.pcm_oss.specs.declared.event.Way.TheVariants.{Play}
use Rattle.pcm_format.specs.declared.format.Format.{Format}
use Rattle.pcm_format.specs.declared.format.Format.TheVariants.{U8, S16Le, U16Le, S24Be}
use Rattle.pcm_format.specs.declared.layout.Layout.{Layout}
use Rattle.pcm_format.specs.declared.layout.Layout.TheVariants.{One, Two, Six, Eight}
use Rattle.pcm_format.specs.declared.settings.Settings.{Settings}
use Rattle.pcm_desk.specs.Usual.{usual_device}
use Rattle.pcm_script.specs.declared.script.Script.{Script}
use Rattle.pcm_verdict.specs.Faults.{Fault}
use Rattle.pcm_rows.specs.Calls.{joined, judged}

-- a format and a layout at the rate of the device
abbrev pub at_usual_rate : Format → Layout → Settings
at_usual_rate format layout = record { format = format; layout = layout; rate = 48000 }

-- a client with settings writes once and closes; after the silent ring `frames` frames of it are handed over
abbrev pub client_text : List ℕ → List ℕ → List ℕ → List ℕ
client_text settings hex frames = joined (
    (codes "open 0 play " ++ settings) ∷
    (codes "write 0 " ++ hex) ∷
    codes "close 0" ∷
    codes "intr 1024" ∷
    (codes "intr " ++ frames) ∷ [])

-- what it is judged to be, by its settings, the digits that it writes and its frames
abbrev pub client_judged : String → String → String → Result Script Fault
client_judged settings hex frames = judged usual_device (client_text (codes settings) (codes hex) (codes frames))

abbrev pub client_script : Settings → List ℕ → ℕ → Script
client_script settings bytes frames = record {
  events = Open 0 Play settings ∷ Write 0 Inline 0 (length bytes) ∷ Close 0 ∷ Intr 1024 ∷ Intr frames ∷ [];
  inline_bytes = bytes;
  device_frames = 1024 + frames;
}

abbrev pub client_lines : List ℕ → List ℕ → List ℕ
client_lines bytes frames = joined (
    codes "1: ok 0" ∷ (codes "2: ok " ++ bytes) ∷ codes "3: ok" ∷ codes "4: ok 1024" ∷ (codes "5: ok " ++ frames) ∷ [])

-- 24 bits with the highest byte first: 384 and -129
abbrev pub two_of_24_bits : List ℕ
two_of_24_bits = 0x00 ∷ 0x01 ∷ 0x80 ∷ 0xff ∷ 0xff ∷ 0x7f ∷ []

abbrev pub big_endian_script : Script
big_endian_script = client_script (at_usual_rate S24Be Two) two_of_24_bits 1

-- 16 bits without a sign: the midpoint and the greatest value
abbrev pub unsigned_script : Script
unsigned_script = client_script (at_usual_rate U16Le Two) (0x00 ∷ 0x80 ∷ 0xff ∷ 0xff ∷ []) 1

-- bytes of one channel: the midpoint, the greatest value and the least
abbrev pub three_bytes : List ℕ
three_bytes = 0x80 ∷ 0xff ∷ 0x00 ∷ []

-- and these with a sign, as numbers of 16 bits
abbrev pub three_numbers : List ℕ
three_numbers = 0 ∷ 0x7f00 ∷ 0x8000 ∷ []

abbrev pub mono_script : Script
mono_script = client_script (at_usual_rate U8 One) three_bytes 3

-- six channels: 100, 200, 300 and 400 at the front, the centre and the low frequency effects, and a silent back
abbrev pub surround_script : Script
surround_script = client_script (at_usual_rate S16Le Six)
    (0x64 ∷ 0x00 ∷ 0xc8 ∷ 0x00 ∷ 0x2c ∷ 0x01 ∷ 0x90 ∷ 0x01 ∷ 0x00 ∷ 0x00 ∷ 0x00 ∷ 0x00 ∷ []) 1

-- six channels, with 32767 at the front left, the centre and the back left
abbrev pub loud_script : Script
loud_script = client_script (at_usual_rate S16Le Six)
    (0xff ∷ 0x7f ∷ 0x00 ∷ 0x00 ∷ 0xff ∷ 0x7f ∷ 0x00 ∷ 0x00 ∷ 0xff ∷ 0x7f ∷ 0x00 ∷ 0x00 ∷ []) 1

-- eight channels of a byte: a value for each position, and 64 for the low frequency effects
abbrev pub eight_script : Script
eight_script = client_script (at_usual_rate U8 Eight)
    (0x90 ∷ 0x70 ∷ 0x80 ∷ 0xc0 ∷ 0x80 ∷ 0x80 ∷ 0x90 ∷ 0x70 ∷ []) 1
