-- One frame after another is copied, and then all of them.
use Rattle.std.proofs.Common.{◌≡◌, ◌+◌, ℕ, refl, ap, ◌∙◌, arith}
use Rattle.std.proofs.lemmas.List.FromFn.{length-map-range_with_len}
use Rattle.pcm_sequence.specs.Fixed.{fixed_items}
use Rattle.pcm_format.specs.Frames.{Frame}
use Rattle.pcm_feeder.specs.Streams.{written}
use Rattle.pcm_feeder.proofs.Writing.{write-step}
use Rattle.feed_rate.proofs.Histories.{made-channels}
use Rattle.feed_poly.specs.Places.{window_frame, window_sample, frames_from}
use Rattle.feed_poly.proofs.Copies.{written-all}
use Rattle.feed_poly.proofs.window.Window.keep.Goals as goal

pub loop-k-preserved : goal.loop-k-preserved
loop-k-preserved c =
    let window = c.args.self.now in
    let items = fixed_items window.samples in
    let next : ℕ → Frame = λ i. window_frame window.channels items (window.at + i) in
    write-step window.channels next c.loop-k.samples c.copy_frame.new.frame c.copy_frame.new.frame c.args.samples.now c.loop-k.k
    (λ i. length-map-range_with_len (λ channel. window_sample items channel (window.at + i)) 0 window.channels)
    c.loop-k.invariant refl c.copy_frame.ensures

pub returns : goal.returns
returns c =
    let window = c.args.self.now in
    let items = fixed_items window.samples in
    let all : c.loop-k.k ≡ window.taps = omega (arith, c.loop-k.auto.k-end, c.loop-k-test.false) in
    let have = made-channels window.channels window.taps (λ i channel. window_sample items channel (window.at + i)) in
    c.loop-k.invariant
    ∙ ap (λ n. written (frames_from window.channels n items window.at) c.args.samples.now) all
    ∙ written-all window.channels window.taps (frames_from window.channels window.taps items window.at) c.args.samples.now have
    (length-map-range_with_len (λ i. window_frame window.channels items (window.at + i)) 0 window.taps) c.requires
