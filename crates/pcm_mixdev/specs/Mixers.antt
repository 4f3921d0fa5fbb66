-- The mixer device: what is asked of it, and the gains that it gives.
use Rattle.std.specs.Prelude.{ℕ, List, Bool, true, false, ◌&&◌, nat_le, nat_lt, ◌==◌, if◌then◌else◌, replicate, slice_index_or, slice_set, Result, Ok, Err}
use Rattle.std.specs.List.{list_all}
use Rattle.pcm_feeder.specs.declared.stage.Gain.{Gain}
use Rattle.pcm_oss.specs.declared.event.TheConstants.{SLOTS}
use Rattle.pcm_oss.specs.declared.mix_request.MixRequest.{MixRequest}
use Rattle.pcm_oss.specs.declared.mix_request.MixRequest.TheVariants.{SetMaster, GetMaster, SetSlot, GetSlot, Mute}
use Rattle.pcm_oss.specs.declared.reply.Answer.{Answer}
use Rattle.pcm_oss.specs.declared.reply.Answer.TheVariants.{Done, Number}
use Rattle.pcm_oss.specs.declared.reply.Errno.{Errno}
use Rattle.pcm_oss.specs.declared.reply.Errno.TheVariants.{Inval}
use Rattle.pcm_oss.specs.declared.volume.TheConstants.{VOLUME}
use Rattle.pcm_oss.specs.Volumes.{gain_of, is_volume}

-- the volume of all that is mixed, and by slot the volumes and which slots are muted
pub record Levels : Type 0 where
  pub master : ℕ
  pub volumes : List ℕ
  pub muted : List Bool

-- before anything is asked, all is at full volume and no slot is muted
abbrev pub full_mixer : Levels
full_mixer = record { master = VOLUME; volumes = replicate SLOTS VOLUME; muted = replicate SLOTS false }

-- the volume of a slot
abbrev pub slot_volume : Levels → ℕ → ℕ
slot_volume mixer slot = slice_index_or mixer.volumes slot VOLUME

-- it isn't heard
abbrev pub is_muted : Levels → ℕ → Bool
is_muted mixer slot = slice_index_or mixer.muted slot false

-- the volume of all that is mixed and those of the slots are volumes
abbrev pub are_volumes : ℕ → List ℕ → Bool
are_volumes master volumes = is_volume master && list_all is_volume volumes

-- ---- requests

-- a request is accepted if its volume is one, its slot is below `slots`, and its mute is 0 or 1
abbrev pub may_ask : ℕ → MixRequest → Bool
may_ask slots (SetMaster volume) = is_volume volume
may_ask slots GetMaster = true
may_ask slots (SetSlot slot volume) = nat_lt slot slots && is_volume volume
may_ask slots (GetSlot slot) = nat_lt slot slots
may_ask slots (Mute slot on) = nat_lt slot slots && nat_le on 1

-- what an accepted one leaves: it changes the one thing that it sets
abbrev pub asked_mixer : MixRequest → Levels → Levels
asked_mixer (SetMaster volume) mixer = record mixer { master = volume }
asked_mixer (SetSlot slot volume) mixer = record mixer { volumes = slice_set mixer.volumes slot volume }
asked_mixer (Mute slot on) mixer = record mixer { muted = slice_set mixer.muted slot (on == 1) }
asked_mixer request mixer = mixer

-- and its answer: a volume, unless it mutes
abbrev pub told_mixer : MixRequest → Levels → Answer
told_mixer (SetMaster volume) mixer = Number volume
told_mixer GetMaster mixer = Number mixer.master
told_mixer (SetSlot slot volume) mixer = Number volume
told_mixer (GetSlot slot) mixer = Number (slot_volume mixer slot)
told_mixer (Mute slot on) mixer = Done

-- the mixer after a request, where there are `slots` slots
abbrev pub mixer_after : ℕ → MixRequest → Levels → Levels
mixer_after slots request mixer = if may_ask slots request then asked_mixer request mixer else mixer

-- and the reply
abbrev pub mixer_reply : ℕ → MixRequest → Levels → Result Answer Errno
mixer_reply slots request mixer = if may_ask slots request then Ok (told_mixer request mixer) else Err Inval

-- ---- gains

-- a gain of nothing
abbrev pub no_gain : Gain
no_gain = record { left = 0; right = 0 }

-- the gain of a slot: that of its volume, or of nothing while it is muted
abbrev pub slot_gain : Levels → ℕ → Gain
slot_gain mixer slot = if is_muted mixer slot then no_gain else gain_of (slot_volume mixer slot)

-- the gain of all that is mixed
abbrev pub master_gain : Levels → Gain
master_gain mixer = gain_of mixer.master
