-- The gain of a slot at each position, and of all that is mixed: what was set last, by the frames mixed when it was set.
use Rattle.std.specs.Prelude.{ℕ, Bool, ◌&&◌, ◌||◌, not, nat_le, ◌==◌, if◌then◌else◌, List, [], ◌∷◌}
use Rattle.pcm_feeder.specs.declared.stage.Gain.{Gain}
use Rattle.pcm_feeder.specs.Layouts.{unity}
use Rattle.pcm_oss.specs.Volumes.{gain_of}
use Rattle.pcm_mixdev.specs.Mixers.{Levels, master_gain, slot_gain}
use Rattle.pcm_desk.specs.declared.play_book.PlayBook.{PlayBook}
use Rattle.pcm_desk.specs.declared.map_book.MapBook.{MapBook}
use Rattle.pcm_desk.specs.PlayBooks.{is_play_free}
use Rattle.pcm_desk.specs.RunStates.{is_unheld}

-- a gain, and how many frames were mixed when it was set
pub record GainSet : Type 0 where
  pub position : ℕ
  pub gain : Gain

-- how loud a slot is: the volume of its book, which counts once it is open
pub record Loudness : Type 0 where
  pub free : Bool
  pub volume : ℕ

abbrev pub play_loudness : PlayBook → Loudness
play_loudness book = record { free = is_play_free book.state; volume = book.volume }

abbrev pub map_loudness : MapBook → Loudness
map_loudness book = record { free = is_unheld book.state; volume = book.volume }

-- the gain of a volume
abbrev pub loudness_gain : Loudness → Gain
loudness_gain loudness = gain_of loudness.volume

-- the gain of a book's volume
abbrev pub book_gain : PlayBook → Gain
book_gain book = loudness_gain (play_loudness book)

abbrev pub map_gain : MapBook → Gain
map_gain book = loudness_gain (map_loudness book)

-- a slot that was free is open
abbrev pub begins : Loudness → Loudness → Bool
begins old new = old.free && not new.free

-- the volume of a slot is set: an opening begins with one, or it changes
abbrev pub sets_volume : Loudness → Loudness → Bool
sets_volume old new = begins old new || not (new.volume == old.volume)

-- the gains of a slot after an event, the newest first, from how loud it was and is
abbrev pub gains_after : ℕ → Loudness → Loudness → List GainSet → List GainSet
gains_after position old new gains =
    if sets_volume old new then record { position = position; gain = loudness_gain new } ∷ gains else gains

-- the gain at a position: the last one that was set there or before
abbrev pub last_gain : List GainSet → ℕ → Gain
last_gain [] position = unity
last_gain (set ∷ sets) position = if nat_le set.position position then set.gain else last_gain sets position

-- ---- the mixer device

-- two gains are the same on both sides
abbrev pub is_same_gain : Gain → Gain → Bool
is_same_gain old new = old.left == new.left && old.right == new.right

-- the gains that a fader was set to after an event, the newest first, from the gain that it had and has
abbrev pub fader_after : ℕ → Gain → Gain → List GainSet → List GainSet
fader_after position old new gains = if is_same_gain old new then gains else record { position = position; gain = new } ∷ gains

-- what the faders of the mixer device were set to: that of each slot that is mixed, by its number, and that of all that is mixed
pub record Faders : Type 0 where
  pub slots : ℕ → List GainSet
  pub master : List GainSet

-- before the first event
abbrev pub faders_at_start : Faders
faders_at_start = record { slots = λ slot. []; master = [] }

-- after an event, from the volumes and mutes that were and are
abbrev pub faders_after : ℕ → Levels → Levels → Faders → Faders
faders_after position old new faders = record {
  slots = λ slot. fader_after position (slot_gain old slot) (slot_gain new slot) (faders.slots slot);
  master = fader_after position (master_gain old) (master_gain new) faders.master;
}

-- the gain of a slot at a position, and of all that is mixed there
abbrev pub slot_gain_at : Faders → ℕ → ℕ → Gain
slot_gain_at faders slot position = last_gain (faders.slots slot) position

abbrev pub master_gain_at : Faders → ℕ → Gain
master_gain_at faders position = last_gain faders.master position
