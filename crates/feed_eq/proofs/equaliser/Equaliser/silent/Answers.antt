-- Silent pairs are silent frames.
use Rattle.std.proofs.Common.{◌≡◌, ◌+◌, ◌*◌, replicate, ap, ◌∙◌, arith}
use Rattle.std.proofs.lemmas.List.{take-replicate}
use Rattle.pcm_feeder.specs.Streams.{silence}
use Rattle.feed_eq.specs.Pairs.{pair_frames}
use Rattle.feed_eq.proofs.Equalising.{silent-pairs}
use Rattle.feed_eq.proofs.equaliser.Equaliser.silent.Goals as goal

pub returns-clause-silence : goal.returns-clause-silence
returns-clause-silence c =
    let n = c.args.sections + 1 in
    let last = c.silent-last.result in
    let count : 2 * n ≡ 2 + 2 * c.args.sections = omega arith in
    ap pair_frames (take-replicate n 5 last (omega (arith, c.requires.few)))
    ∙ silent-pairs c.args.channels n last c.silent-last.ensures.silence
    ∙ ap (λ k. replicate k (silence c.args.channels)) count
