use Rattle.std.proofs.Common.{◌≡◌, ◌-◌, ◌*◌, ◌≤◌, ◌++◌}
use Rattle.pcm_desk.specs.Events.{all_frames_taken}
use Rattle.pcm_soak.specs.declared.limits.TheConstants.{DRAWN_EVENTS}
use Rattle.pcm_soak.specs.Soak.{drawn_events, soak_events}
use Rattle.pcm_soak.proofs.script.soak_script.Given as goal

-- the events so far, with those that are still to be drawn, and the frames that they take
abbrev pub invariant-loop : goal.invariant-loop
invariant-loop l = record {
  events : l.events.items ++ drawn_events (DRAWN_EVENTS - l.counter) l.draws.state ≡ soak_events l.n;
  frames : l.device_frames ≡ all_frames_taken l.events.items;
  few : l.device_frames ≤ 256 * l.counter;
}
