-- A script of some events, for rows.
use Rattle.std.specs.Prelude.{ℕ, List, [], ◌∷◌, codes}
use Rattle.pcm_format.specs.declared.format.Format.TheVariants.{U8}
use Rattle.pcm_format.specs.declared.layout.Layout.TheVariants.{Two}
use Rattle.pcm_format.specs.declared.settings.Settings.{Settings}
use Rattle.pcm_oss.specs.declared.event.Event.{Event}
use Rattle.pcm_oss.specs.declared.event.Event.TheVariants.{Write}
use Rattle.pcm_wave.specs.declared.pool.Source.TheVariants.{File}
use Rattle.pcm_wave.specs.DataFiles.{DataFileSeen}
use Rattle.pcm_script.specs.declared.script.Script.{Script}
use Rattle.pcm_text.specs.Texts.{text_of}

-- a file of this name
abbrev pub song_file : DataFileSeen
song_file = record { name = codes "song"; bytes = []; wave = record { format = U8; layout = Two; rate = 8000; at = 0; len = 0 } }

-- settings of an open
abbrev pub small_settings : Settings
small_settings = record { format = U8; layout = Two; rate = 8000 }

-- some bytes of a file that is sent
abbrev pub sent : Event
sent = Write 10 (File 0) 2 40

-- a script of these events, whose writes find these bytes
abbrev pub script_of_events : List Event → Script
script_of_events events = record { events = events; inline_bytes = 1 ∷ 10 ∷ 255 ∷ 0 ∷ []; device_frames = 0 }

-- what is written of these events
abbrev pub text_for : List Event → List ℕ
text_for events = text_of (song_file ∷ []) (script_of_events events)

abbrev pub line_alone : Event → List ℕ
line_alone event = text_for (event ∷ [])
