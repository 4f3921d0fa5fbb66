use Rattle.std.proofs.Common.{◌≡◌, ◌+◌, ◌≤◌}
use Rattle.pcm_feeder.specs.Pace.{IsStep}
use Rattle.pcm_feeder.specs.Streams.{written}
use Rattle.feed_rate.specs.Outputs.{next_frames, tail_after}
use Rattle.feed_rate.proofs.fitted.Fitted.walk.Given as goal

-- the first frames are written, the next one lies at the step, and no frame past those that it needs was taken in
abbrev pub invariant-loop-j : goal.invariant-loop-j
invariant-loop-j g l =
    let by = g.I.Interpolator in
    let entry = l.fn.interpolator in
    record {
      frames : l.output ≡ written (next_frames (by.seen entry).method l.tables l.self.pace (by.seen entry).tail l.input l.j) l.fn.output;
      step : IsStep l.self.pace l.step l.j;
      method : (by.seen l.interpolator).method ≡ (by.seen entry).method;
      tail : (by.seen l.interpolator).tail ≡ tail_after (by.seen entry).method (by.seen entry).tail l.input (by.seen l.interpolator).passed;
      order : (by.seen l.interpolator).passed ≤ l.start + l.step.frames;
      within : (by.seen l.interpolator).passed ≤ l.moved.eaten;
    }
