-- One output after another.
use Rattle.pcm_feeder.specs.Pace.{rate_by, phase_by}
use Rattle.pcm_feeder.proofs.Paces.{IsPlaced, placed-within, placed-past}
use Rattle.pcm_feeder.proofs.pace.Pace.after.Goals as goal

pub returns-then-phase-self : goal.returns-then-phase-self
returns-then-phase-self c = λ j at.
    let pace = c.args.self.now in
    let step = c.args.step in
    let here : IsPlaced (rate_by pace) (phase_by pace) pace.factor pace.dst step.frames step.phase j = record
    { frames_is = at.frames; parts_is = at.phase; below = at.below } in
    let next = placed-past (rate_by pace) (phase_by pace) pace.factor pace.dst pace.whole pace.part step.frames step.phase j pace.fraction
    here c.if-phase-self.true in
    record { frames = next.frames_is; phase = next.parts_is; below = next.below }

pub returns-else-phase-self : goal.returns-else-phase-self
returns-else-phase-self c = λ j at.
    let pace = c.args.self.now in
    let step = c.args.step in
    let here : IsPlaced (rate_by pace) (phase_by pace) pace.factor pace.dst step.frames step.phase j = record
    { frames_is = at.frames; parts_is = at.phase; below = at.below } in
    let next = placed-within (rate_by pace) (phase_by pace) pace.factor pace.dst pace.whole pace.part step.frames step.phase j pace.fraction
    here c.if-phase-self.false in
    record { frames = next.frames_is; phase = next.parts_is; below = next.below }
