use Rattle.std.proofs.Common.{◌≡◌, ◌≤◌, ◌+◌, ◌-◌, ◌*◌, ℕ, false, List, length, take, All}
use Rattle.pcm_num.specs.Limit.{FitsBits}
use Rattle.pcm_format.specs.Frames.{Frame}
use Rattle.pcm_format.specs.Layouts.{channels_of}
use Rattle.pcm_rate.specs.Rates.{need}
use Rattle.pcm_feeder.specs.Layouts.{unity}
use Rattle.pcm_feeder.specs.Racks.{HaveKinds}
use Rattle.pcm_plan.specs.Plans.{rate_in_plan}
use Rattle.pcm_chain.specs.Chains.{boxes_in, plan_in, AreFitted, ChainStands}
use Rattle.pcm_chain.specs.Gives.{filling_frames}
use Rattle.pcm_chain.specs.Far.{ChainIsSoFar}
use Rattle.pcm_chain.specs.Pulls.{GoesFar, Pulls}
use Rattle.pcm_chain.specs.Pushes.{pushed_frames}
use Rattle.pcm_chain.proofs.chain.ChainOf.give.Given as goal

-- `asked` frames were asked for, and given where the input suffices
abbrev pub invariant-loop-asked : goal.invariant-loop-asked
invariant-loop-asked g l = record {
  within : l.asked ≤ l.want;
  wanted : l.want ≡ filling_frames (plan_in l.fn.self) l.fn.out;
  fills : length l.fn.out ≡ l.want * channels_of (plan_in l.fn.self).target;
  there : l.eaten ≤ l.frames;
  count : length (pushed_frames (plan_in l.fn.self) l.input) ≡ l.frames;
  samples : length l.input ≡ l.frames * channels_of (plan_in l.fn.self).source;
  plan : plan_in l.self ≡ plan_in l.fn.self;
  kinds : HaveKinds g.B.Feeder.kind (boxes_in l.fn.self) → HaveKinds g.B.Feeder.kind (boxes_in l.self);
  fitted : AreFitted g.B.Feeder.kept l.self;
  fits : All (FitsBits 32) (take (l.eaten * l.source) l.input);
  far : (n given : ℕ) → ChainIsSoFar g.B.Feeder.kept l.tables l.fn.self n 0 given
      → need (rate_in_plan (plan_in l.fn.self)) (given + l.want) ≤ n + length (pushed_frames (plan_in l.fn.self) l.input)
      → GoesFar g.B.Feeder.kept l.tables false l.asked (length (pushed_frames (plan_in l.fn.self) l.input)) l.fn.self l.self n given (record { given = l.asked; eaten = l.eaten }) l.out;
  pulls : (x : List Frame) (given : ℕ) → ChainStands g.B.Feeder.kept l.tables l.fn.self x 0 given
      → need (rate_in_plan (plan_in l.fn.self)) (given + l.want) ≤ length x + length (pushed_frames (plan_in l.fn.self) l.input)
      → Pulls g.B.Feeder.kept l.tables unity false l.asked (pushed_frames (plan_in l.fn.self) l.input) l.fn.self l.self x given (record { given = l.asked; eaten = l.eaten }) l.fn.out l.out;
}

abbrev pub decreases-loop-asked : goal.decreases-loop-asked
decreases-loop-asked g l = l.want - l.asked
