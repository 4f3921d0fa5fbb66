-- A feed turns each frame by itself.
use Rattle.std.proofs.Common.{◌≡◌, ◌/◌, length, map, take, min, refl, sym, ap, ◌∙◌, arith}
use Rattle.pcm_feeder.specs.Kept.{fresh}
use Rattle.pcm_feeder.specs.Maps.{kept_for}
use Rattle.pcm_feeder.specs.Stages.{channels_in}
use Rattle.pcm_feeder.specs.Streams.{frames_of, written}
use Rattle.pcm_feeder.specs.Turns.{fed, MapsFrames}
use Rattle.pcm_feeder.proofs.Frames.{length-frames_of}
use Rattle.pcm_feeder.proofs.Unrated.{fed-maps}
use Rattle.pcm_feeder.proofs.map_feeder.MapFeederFeeder.feed.Goals as goal

pub returns : goal.returns
returns g c =
    let by = g.M.FrameMap in
    let made = c.in-Some.fitted in
    let spec = by.stage made in
    let f = by.mapped made c.args.pull.gain in
    let want = c.args.pull.want in
    let samples = c.args.input.now in
    let old = c.args.output.now in
    let n = c.min-frames.result in
    let list = frames_of (channels_in spec) samples in
    let kept = kept_for by.stage c.args.self.now.fitted in
    let before : kept ≡ fresh spec = ap (kept_for by.stage) c.in-Some.is in
    let does : MapsFrames spec f list want (fed kept c.args.tables.now c.args.pull.gain samples want) =
    rw before (fed-maps spec (by.mapped made) c.args.tables.now c.args.pull.gain samples want (g.met.M.FrameMap.maps made)) in
    let count : min want (length list) ≡ n =
    ap (min want) (length-frames_of (channels_in spec) samples)
    ∙ sym (c.min-frames.ensures ∙ ap (λ k. min want (length samples / k)) c.channels.ensures.value) in
    record {
      eaten = sym (does.eaten ∙ count);
      given = sym (does.given ∙ count);
      most = omega (arith, c.min-frames.ensures);
      frames = c.put_frames.ensures ∙ ap (λ k. written (map f (take k list)) old) (sym count)
          ∙ ap (λ frames. written frames old) (sym does.frames);
      kept = before ∙ sym does.kept;
      spec = refl;
      kind = refl;
      mark = refl;
    }
