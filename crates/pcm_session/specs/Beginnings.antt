-- What a session begins with.
use Rattle.std.specs.Prelude.{[], Ok}
use Rattle.pcm_oss.specs.declared.reply.Answer.TheVariants.{Done}
use Rattle.pcm_oss.specs.Replies.{Reply}
use Rattle.pcm_feeder.specs.declared.kind.Kind.{Kind}
use Rattle.pcm_feeder.specs.Kept.{Kept}
use Rattle.pcm_feeder.specs.declared.rack.RacksOf.{RacksOf}
use Rattle.pcm_feeder.specs.Racks.{AreRacks, list_of}
use Rattle.pcm_engine.specs.declared.engine.EngineOf.{EngineOf}
use Rattle.pcm_engine.specs.Engines.{AreReady}

-- what is answered before anything is asked
abbrev pub first_reply : Reply
first_reply = record { result = Ok Done; bytes = [] }

-- An engine can be cloned with these racks: it is ready, and the boxes of each rack are of their places' kinds.
pub record CanBeCloned {B : Type 0} (kind : B → Kind) (kept : B → Kept) (engine : EngineOf B) (racks : RacksOf B) : Type 0 where
  pub ready : AreReady kind kept engine
  pub kinds : AreRacks kind (list_of racks)
