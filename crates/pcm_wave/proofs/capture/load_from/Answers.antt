use Rattle.std.proofs.Common.{◌≡◌, ◌+◌, ◌-◌, ◌*◌, ◌/◌, ◌<◌, ◌++◌, length, pos, replicate, ap, ◌∙◌, arith}
use Rattle.std.specs.List.{flat_map, range_with_len}
use Rattle.std.proofs.lemmas.List.Elements.{All-from_get_or}
use Rattle.pcm_format.specs.Frames.{frame_at, whole_frames}
use Rattle.pcm_format.specs.Layouts.{channels_of}
use Rattle.pcm_wave.proofs.Captures.{body-bits, loaded-frames}
use Rattle.pcm_wave.proofs.capture.load_from.Goals as goal

pub returns-clause-loaded : goal.returns-clause-loaded
returns-clause-loaded c =
    let s = c.args.settings in
    let body = c.args.body.now in
    let first = c.min-first.result in
    let count = c.min-count.result in
    let channels = c.channels.result in
    let whole : length body / c.frame_bytes.result ≡ whole_frames s (length body) = ap (λ n. length body / n) c.frame_bytes.ensures in
    let rest = c.args.frames - count in
    let all : count + rest ≡ c.args.frames = omega (arith, c.min-count.ensures) in
    let samples : (count + rest) * channels_of s.layout ≡ c.args.frames * channels_of s.layout = ap (λ n. n * channels_of s.layout) all in
    let front : count * channels ≡ count * channels_of s.layout = ap (λ n. count * n) c.channels.ensures in
    let left : length c.split_at_mut-there.result.1.now ≡ rest * channels_of
    s.layout = omega (arith, samples, front, c.requires.room, c.split_at_mut-there.ensures.back_len) in
    ap (λ part. part ++ c.fill.new.self) c.load_part.ensures
    ∙ ap (λ part. flat_map (frame_at s body) (range_with_len first count) ++ part)
    (c.fill.ensures.after (λ y same. same) ∙ ap (λ n. replicate n (pos 0)) left)
    ∙ loaded-frames s body c.args.from c.args.frames first count (omega (arith, whole, c.min-first.ensures))
    (omega (arith, whole, c.min-count.ensures))

pub returns-clause-fits : goal.returns-clause-fits
returns-clause-fits c =
    λ k. body-bits c.args.settings c.args.body.now k
    (All-from_get_or (λ byte. byte < 256) c.args.body.now 0 (λ i below. (c.type_inv.body i).fits))
