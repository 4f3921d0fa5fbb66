use Rattle.std.proofs.Common.{◌≡◌, ◌≤◌, ◌-◌, ◌*◌, ℕ, List, length, drop}
use Rattle.pcm_format.specs.Formats.{bytes_of}
use Rattle.pcm_format.specs.Frames.{Frame}
use Rattle.pcm_format.specs.Layouts.{channels_of}
use Rattle.pcm_feeder.specs.Racks.{HaveKinds}
use Rattle.pcm_chain.specs.Chains.{boxes_in, plan_in, AreFitted, ChainStands}
use Rattle.pcm_chain.specs.Far.{ChainIsSoFar}
use Rattle.pcm_chain.specs.Pulls.{waiting_frames, IsPastTheEnd, GoesFar, Pulls}
use Rattle.pcm_chain.proofs.chain.ChainOf.pull.Given as goal

-- `asked` frames were asked for, and the loop has done what one pull of them does
abbrev pub invariant-loop-asked : goal.invariant-loop-asked
invariant-loop-asked g l = record {
  within : l.asked ≤ l.want;
  most : l.pulled.given ≤ l.asked;
  there : l.pulled.eaten ≤ l.waiting;
  waiting : l.waiting ≡ length (waiting_frames (plan_in l.fn.self) l.format l.fn.ring.bytes);
  plan : plan_in l.self ≡ plan_in l.fn.self;
  kinds : HaveKinds g.B.Feeder.kind (boxes_in l.fn.self) → HaveKinds g.B.Feeder.kind (boxes_in l.self);
  fitted : AreFitted g.B.Feeder.kept l.self;
  bytes : l.ring.bytes ≡ drop (l.pulled.eaten * (channels_of (plan_in l.fn.self).source * bytes_of l.format)) l.fn.ring.bytes;
  size : l.ring.size ≡ l.fn.ring.size;
  room : l.ring.max ≡ l.fn.ring.max;
  far : (n quiet before : ℕ) → ChainIsSoFar g.B.Feeder.kept l.tables l.fn.self n quiet before
      → IsPastTheEnd l.ended quiet (waiting_frames (plan_in l.fn.self) l.format l.fn.ring.bytes)
      → GoesFar g.B.Feeder.kept l.tables l.ended l.asked (length (waiting_frames (plan_in l.fn.self) l.format l.fn.ring.bytes)) l.fn.self l.self n before l.pulled l.out;
  pulls : (x : List Frame) (quiet before : ℕ) → ChainStands g.B.Feeder.kept l.tables l.fn.self x quiet before
      → IsPastTheEnd l.ended quiet (waiting_frames (plan_in l.fn.self) l.format l.fn.ring.bytes)
      → Pulls g.B.Feeder.kept l.tables l.gain l.ended l.asked (waiting_frames (plan_in l.fn.self) l.format l.fn.ring.bytes) l.fn.self l.self x before l.pulled l.fn.out l.out;
}

abbrev pub decreases-loop-asked : goal.decreases-loop-asked
decreases-loop-asked g l = l.want - l.asked
