-- What a parent becomes when the borrower of one of its parts returns it.
use Rattle.std.specs.Prelude.{ℕ, ◌-◌}
use Rattle.std.specs.Borrow.{Lends, MutBor, Fml, RattleType}
use Rattle.pcm_sequence.specs.Fixed.{with_fixed_item}
use Rattle.pcm_play.specs.declared.channel.PlayChannelOf.{PlayChannelOf}
use Rattle.pcm_play.specs.contracts.channel.PlayChannelOf.{the_row as channel_row}
use Rattle.pcm_record.specs.declared.channel.RecordChannelOf.{RecordChannelOf}
use Rattle.pcm_record.specs.contracts.channel.RecordChannelOf.{the_row as recorder_row}
use Rattle.pcm_map.specs.declared.channel.MapChannelOf.{MapChannelOf}
use Rattle.pcm_map.specs.contracts.channel.MapChannelOf.{the_row as map_row}
use Rattle.pcm_mixdev.specs.Mixers.{Levels}
use Rattle.pcm_mixdev.specs.contracts.mixer_device.MixDev.{the_row as mixer_row}
use Rattle.pcm_vchan.specs.declared.parent.ParentOf.{ParentOf}
use Rattle.pcm_vchan.specs.contracts.parent.ParentOf.{the_row}

-- a parent with another channel in a slot
abbrev pub with_channel : {B : Type 0} → ParentOf B → ℕ → PlayChannelOf B → ParentOf B
with_channel parent slot channel = record parent { channels = with_fixed_item parent.channels slot channel }

-- the parent ends with the channel as its borrower left it
abbrev pub LendsChannel : (R : RattleType) → MutBor (ParentOf R.Denot) → ℕ → MutBor (PlayChannelOf R.Denot) → Fml
LendsChannel R parent slot channel = Lends (the_row R) (channel_row R) parent channel (λ last. with_channel parent.now slot last)

-- a parent with another channel in a slot for recording
abbrev pub with_recorder : {B : Type 0} → ParentOf B → ℕ → RecordChannelOf B → ParentOf B
with_recorder parent slot channel = record parent { recorders = with_fixed_item parent.recorders slot channel }

-- the parent ends with the channel that records as its borrower left it
abbrev pub LendsRecorder : (R : RattleType) → MutBor (ParentOf R.Denot) → ℕ → MutBor (RecordChannelOf R.Denot) → Fml
LendsRecorder R parent slot channel = Lends (the_row R) (recorder_row R) parent channel (λ last. with_recorder parent.now slot last)

-- where the mapped channel of a slot stands among these, which are numbered after those that play
abbrev pub map_place : {B : Type 0} → ParentOf B → ℕ → ℕ
map_place parent number = number - parent.device.play_slots

-- a parent with another mapped channel at a place
abbrev pub with_map_channel : {B : Type 0} → ParentOf B → ℕ → MapChannelOf B → ParentOf B
with_map_channel parent place channel = record parent { maps = with_fixed_item parent.maps place channel }

-- the parent ends with the mapped channel there as its borrower left it
abbrev pub LendsMapAt : (R : RattleType) → MutBor (ParentOf R.Denot) → ℕ → MutBor (MapChannelOf R.Denot) → Fml
LendsMapAt R parent place channel = Lends (the_row R) (map_row R) parent channel (λ last. with_map_channel parent.now place last)

-- and with that of a slot, by its number
abbrev pub LendsMap : (R : RattleType) → MutBor (ParentOf R.Denot) → ℕ → MutBor (MapChannelOf R.Denot) → Fml
LendsMap R parent number channel = LendsMapAt R parent (map_place parent.now number) channel

-- a parent with other volumes and mutes
abbrev pub with_mixer : {B : Type 0} → ParentOf B → Levels → ParentOf B
with_mixer parent mixer = record parent { mixer = mixer }

-- the parent ends with the mixer device as its borrower left it
abbrev pub LendsMixer : (R : RattleType) → MutBor (ParentOf R.Denot) → MutBor Levels → Fml
LendsMixer R parent mixer = Lends (the_row R) mixer_row parent mixer (λ last. with_mixer parent.now last)
