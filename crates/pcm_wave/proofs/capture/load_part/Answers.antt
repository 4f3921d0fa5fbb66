use Rattle.std.proofs.Common.{◌≡◌, ◌+◌, ◌-◌, ◌*◌, take, drop, ap, ◌∙◌, arith}
use Rattle.std.specs.List.{flat_map, range_with_len}
use Rattle.pcm_format.specs.Frames.{frame_at, frame_bytes}
use Rattle.pcm_format.specs.Samples.{samples}
use Rattle.pcm_format.proofs.Ranges.{flat_map-range-shift}
use Rattle.pcm_format.proofs.Streams.{samples-part}
use Rattle.pcm_wave.proofs.capture.load_part.Goals as goal

pub returns : goal.returns
returns c =
    let s = c.args.settings in
    let body = c.args.body.now in
    let first = c.args.first in
    let size = c.frame_bytes-size.result in
    let begin : first * size ≡ first * frame_bytes s = ap (λ n. first * n) c.frame_bytes-size.ensures in
    let end : (first + c.args.count) * size ≡ (first + c.args.count) * frame_bytes s = ap (λ n. (first + c.args.count) * n)
    c.frame_bytes-size.ensures in
    let long : (first + c.args.count) * size - first * size ≡ c.args.count * frame_bytes s = omega (arith, begin, end) in
    let start : first + 0 ≡ first = omega arith in
    c.load_frames.ensures
    ∙ ap (λ n. samples s.format (take n (drop (first * size) body))) long
    ∙ ap (λ n. samples s.format (take (c.args.count * frame_bytes s) (drop n body))) begin
    ∙ samples-part s body first c.args.count c.requires.there
    ∙ flat_map-range-shift (frame_at s body) first 0 c.args.count
    ∙ ap (λ n. flat_map (frame_at s body) (range_with_len n c.args.count)) start
