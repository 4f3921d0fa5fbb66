use Rattle.std.proofs.Common.{◌≡◌, ◌++◌, ◌∷◌, [], ℕ, ℤ, w32, FitsSigned, to_z, of_z, ap, ◌∙◌, sym, rules, arith}
use Rattle.std.proofs.lemmas.Int.{to_z-of_z}
use Rattle.std.proofs.lemmas.List.{take_more_set}
use Rattle.std.proofs.lemmas.List.FromFn.{map-range_with_len_more}
use Rattle.pcm_feeder.specs.Sums.{scaled_down}
use Rattle.feed_poly.specs.Rows.{weighted, channel_in, row_frame}
use Rattle.feed_poly.specs.Window.{window_frames}
use Rattle.feed_poly.proofs.row.Row.put_frame.Goals as goal

pub loop-channel-preserved : goal.loop-channel-preserved
loop-channel-preserved c =
    let row = c.args.self in
    let frames = window_frames c.args.window.now in
    let channel = c.loop-channel.channel in
    let f : ℕ → ℤ = λ n. scaled_down row.shift (weighted row.coefs.now (channel_in n frames)) in
    let fits : FitsSigned w32 c.sample.result = search rules in
    let is : to_z w32 (of_z w32 c.sample.result) ≡ f channel = to_z-of_z w32 c.sample.result fits ∙ c.sample.ensures
    ∙ ap (λ list. scaled_down row.shift (weighted row.coefs.now list)) c.channel.ensures.value in
    take_more_set c.loop-channel.output channel (to_z w32 (of_z w32 c.sample.result))
    (omega (arith, c.loop-channel-test.true, c.requires.channels))
    ∙ ap (λ list. list ++ to_z w32 (of_z w32 c.sample.result) ∷ []) c.loop-channel.invariant
    ∙ ap (λ z. row_frame row.shift row.coefs.now channel frames ++ z ∷ []) is
    ∙ sym (map-range_with_len_more f 0 channel channel (omega arith))
