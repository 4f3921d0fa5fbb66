-- Each sample comes from its place.
use Rattle.std.proofs.Common.{◌≡◌, ◌<◌, ◌+◌, ◌*◌, ◌++◌, ◌∷◌, [], ℕ, ℤ, pos, w32, FitsSigned, to_z, of_z, length, ap, ◌∙◌, sym, rules, arith}
use Rattle.std.proofs.lemmas.Int.{to_z-of_z}
use Rattle.std.proofs.lemmas.List.{get_or_read, take_more_set}
use Rattle.std.proofs.lemmas.List.FromFn.{map-range_with_len_more}
use Rattle.pcm_sequence.specs.Fixed.{fixed_items}
use Rattle.pcm_sequence.proofs.Items.{items-count}
use Rattle.feed_poly.specs.Places.{window_sample, window_frame}
use Rattle.feed_poly.proofs.window.Window.copy_frame.Goals as goal

pub loop-channel-preserved : goal.loop-channel-preserved
loop-channel-preserved c =
    let window = c.args.self.now in
    let items = fixed_items window.samples in
    let at = window.at + c.args.k in
    let channel = c.loop-channel.channel in
    let read = c.index.result.now in
    let f : ℕ → ℤ = λ n. window_sample items n at in
    let below : channel * 128 + at < length items = omega (
      arith,
      items-count window.samples,
      window.size,
      window.inside,
      window.most,
      window.limits.most,
      c.requires.there,
      c.loop-channel-test.true,
    ) in
    let fits : FitsSigned w32 read = search rules in
    let is : to_z w32 (of_z w32 read) ≡ f channel = to_z-of_z w32 read fits
    ∙ get_or_read items (channel * 128 + at) read below c.index.ensures (pos 0) in
    take_more_set c.loop-channel.frame channel (to_z w32 (of_z w32 read))
    (omega (arith, c.loop-channel-test.true, c.requires.room, c.loop-channel.auto.frame))
    ∙ ap (λ list. list ++ to_z w32 (of_z w32 read) ∷ []) c.loop-channel.invariant
    ∙ ap (λ z. window_frame channel items at ++ z ∷ []) is
    ∙ sym (map-range_with_len_more f 0 channel channel (omega arith))
