-- What a path is that goes on where another one is, and what a channel needs and leaves that does.
use Rattle.std.specs.Prelude.{◌≡◌, ◌≤◌, ℕ, Bool, true, false}
use Rattle.pcm_feeder.specs.declared.kind.Kind.{Kind}
use Rattle.pcm_feeder.specs.Kept.{Kept}
use Rattle.pcm_chain.specs.Chains.{marks_in, AreFitted}
use Rattle.pcm_chain.specs.Resumes.{Resumes}
use Rattle.pcm_path.specs.Paths.{HasBoxes}
use Rattle.pcm_path.specs.declared.path.PathOf.{PathOf}

-- a path can go on where another one is: it has the boxes of a rack, its ring has room for that one's, and the chain of that one is fitted
-- where somebody has it
pub record CanResumePath {B : Type 0} (kind : B → Kind) (kept : B → Kept) (held : Bool) (other path : PathOf B) : Type 0 where
  pub kinds : HasBoxes kind path
  pub room : other.ring.size ≤ path.ring.max
  pub fitted : held ≡ true → AreFitted kept other.chain

-- It has its device and its boxes still. Its ring is that one's, in the room that it has; so is its chain where somebody has that one, and
-- else it stays.
pub record PathResumes {B : Type 0} (kind : B → Kind) (kept : B → Kept) (mark : B → ℕ) (held : Bool) (other old new : PathOf B) : Type 0 where
  pub device : new.device ≡ old.device
  pub ring : new.ring ≡ record other.ring { max = old.ring.max }
  pub kinds : HasBoxes kind new
  pub marks : marks_in mark new.chain ≡ marks_in mark old.chain
  pub goes : held ≡ true → Resumes kind kept mark other.chain old.chain new.chain
  pub stays : held ≡ false → new.chain ≡ old.chain

-- a channel can go on where another one is: both are of one device, it has the boxes of a rack, and the other's chain is fitted unless it is free
pub record CanResumeChannel {B C : Type 0} (path : C → PathOf B) (is_free : C → Bool) (kind : B → Kind) (kept : B → Kept) (other channel : C) : Type 0 where
  pub device : (path other).device ≡ (path channel).device
  pub kinds : HasBoxes kind (path channel)
  pub fitted : is_free other ≡ false → AreFitted kept (path other).chain

-- it is of its device and has its boxes still, and stands so for what the other stands for
pub record ChannelResumes {B C : Type 0} (path : C → PathOf B) (stands_as : C → C → Type 0) (kind : B → Kind) (mark : B → ℕ)
    (other old new : C) : Type 0 where
  pub device_same : (path new).device ≡ (path old).device
  pub kinds : HasBoxes kind (path new)
  pub marks : marks_in mark (path new).chain ≡ marks_in mark (path old).chain
  pub stands : stands_as other new
