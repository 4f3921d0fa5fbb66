-- The last frames move on.
use Rattle.std.proofs.Common.{◌≤◌, ◌*◌, ◌++◌, take, drop, length, sym, ap, ◌∙◌, arith}
use Rattle.std.proofs.Math.Nat.{mul-le-mul_right}
use Rattle.std.proofs.lemmas.List.{append-nil}
use Rattle.pcm_feeder.specs.Streams.{frames_of}
use Rattle.pcm_feeder.specs.LastFrames.{frames_kept}
use Rattle.pcm_feeder.proofs.KeptFrames.{frames-kept}
use Rattle.pcm_feeder.proofs.last_frames.LastFrames.eat.Goals as goal

pub returns-clause-kept : goal.returns-clause-kept
returns-clause-kept c =
    let last = c.args.self.now in
    let channels = last.channels in
    let fits : last.frames * channels ≤ length
    last.samples = omega (arith, last.room, mul-le-mul_right channels last.few, last.limits.most) in
    ap (λ n. frames_of channels (take n (c.move_on.new.kept ++ drop n last.samples))) last.size
    ∙ frames-kept channels last.frames c.args.eaten last.samples c.move_on.new.kept c.args.input.now (frames_kept last)
    (omega (arith, last.limits.least)) fits c.requires
    (rw (← last.size) c.move_on.ensures) (ap (λ n. frames_of channels (take n last.samples)) (sym last.size)
    ∙ sym (append-nil (frames_kept last)))
