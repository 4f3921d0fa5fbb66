use Rattle.std.proofs.Common.{◌≤◌, length, refl, ◌∙◌, ap, arith}
use Rattle.std.proofs.lemmas.List.{take_all}
use Rattle.pcm_desk.specs.Events.{frames_taken}
use Rattle.pcm_replay.specs.Playing.{greatest_taken}
use Rattle.pcm_replay.proofs.Plays.{greatest-more, takes-none}
use Rattle.pcm_replay.proofs.replay.greatest_taken.Goals as goal
use Rattle.pcm_replay.proofs.replay.greatest_taken.Goals.{in-Intr, in_default}

pub loop-event-init : goal.loop-event-init
loop-event-init c = refl

-- one event more
pub loop-event-preserved : goal.loop-event-preserved
loop-event-preserved c =
    elim c.match-event.branch [
      | in-Intr w ↦ greatest-more c.args.events.now c.loop-event.event-index c.loop-event.most c.match-event.most w.in-Intr.frames _
          c.loop-event-test.true (ap frames_taken w.in-Intr.is) c.loop-event.invariant
          (w.most-is ∙ grind (arith, w.max-most.ensures))
      | in_default w ↦ greatest-more c.args.events.now c.loop-event.event-index c.loop-event.most c.match-event.most 0 _
          c.loop-event-test.true (takes-none _ w.in_default.not-Intr) c.loop-event.invariant
          (omega (arith, w.most-is))
    ]

pub returns : goal.returns
returns c =
    let past : length c.args.events.now ≤ c.loop-event.event-index = omega (arith, c.loop-event-test.false) in
    c.loop-event.invariant ∙ ap greatest_taken (take_all c.loop-event.event-index c.args.events.now past)
