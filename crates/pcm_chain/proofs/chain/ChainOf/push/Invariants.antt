use Rattle.std.proofs.Common.{◌≡◌, ◌≤◌, ◌+◌, ◌-◌, ◌*◌, min, ℕ, List, length, take, All}
use Rattle.pcm_num.specs.Limit.{FitsBits}
use Rattle.pcm_format.specs.Formats.{bytes_of}
use Rattle.pcm_format.specs.Frames.{Frame}
use Rattle.pcm_format.specs.Layouts.{channels_of}
use Rattle.pcm_feeder.specs.Racks.{HaveKinds}
use Rattle.pcm_chain.specs.Chains.{boxes_in, plan_in}
use Rattle.pcm_chain.specs.Pushes.{pushed_frames, room_for, HasRecorded, HasRecordedFar, Pushes, PushesFar}
use Rattle.pcm_chain.proofs.chain.ChainOf.push.Given as goal

-- `eaten` frames were eaten, and the frames made of them were kept as far as there was room
abbrev pub invariant-loop-eaten : goal.invariant-loop-eaten
invariant-loop-eaten g l = record {
  within : l.eaten ≤ l.frames;
  count : length (pushed_frames (plan_in l.fn.self) l.input) ≡ l.frames;
  samples : length l.input ≡ l.frames * channels_of (plan_in l.fn.self).source;
  most : l.pushed.came ≤ l.eaten * 256;
  plan : plan_in l.self ≡ plan_in l.fn.self;
  kinds : HaveKinds g.B.Feeder.kind (boxes_in l.fn.self) → HaveKinds g.B.Feeder.kind (boxes_in l.self);
  far : (eaten : ℕ) → HasRecordedFar g.B.Feeder.kept l.tables l.fn.self eaten → PushesFar g.B.Feeder.kept l.tables l.eaten l.fn.self l.self l.pushed eaten;
  fits : All (FitsBits 32) (take (l.eaten * l.channels) l.input);
  kept : l.pushed.kept ≡ min l.pushed.came (room_for (plan_in l.fn.self) l.format l.fn.ring);
  bytes : length l.ring.bytes ≡ length l.fn.ring.bytes + l.pushed.kept * (channels_of (plan_in l.fn.self).target * bytes_of l.format);
  size : l.ring.size ≡ l.fn.ring.size;
  max : l.ring.max ≡ l.fn.ring.max;
  pushes : (x : List Frame) → HasRecorded g.B.Feeder.kept l.tables l.fn.self x
      → Pushes g.B.Feeder.kept l.tables l.format (take l.eaten (pushed_frames (plan_in l.fn.self) l.input)) l.fn.self l.self x l.pushed l.fn.ring.bytes l.ring.bytes;
}

abbrev pub decreases-loop-eaten : goal.decreases-loop-eaten
decreases-loop-eaten g l = l.frames - l.eaten
