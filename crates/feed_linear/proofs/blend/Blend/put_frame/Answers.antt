use Rattle.std.proofs.Common.{◌+ℤ◌, ◌*ℤ◌, ◌-◌, get_or, pos, w32, FitsSigned, ◌∙◌, rules, arith}
use Rattle.std.proofs.lemmas.Int.{to_z-of_z}
use Rattle.pcm_num.specs.Floor.{floor_div}
use Rattle.feed_linear.proofs.Blends.{put-sample}
use Rattle.feed_linear.proofs.blend.Blend.put_frame.Goals as goal

pub loop-channel-preserved : goal.loop-channel-preserved
loop-channel-preserved c =
    let l = c.loop-channel in
    let blend = c.args.self in
    let d = blend.whole.divisor in
    let sample_fits : FitsSigned w32 (get_or c.args.frame.now l.channel (pos 0)) = search rules in
    let next_fits : FitsSigned w32 (get_or c.args.next.now l.channel (pos 0)) = search rules in
    let result_fits : FitsSigned w32 c.sample.result = search rules in
    put-sample (λ a b. floor_div (a *ℤ pos (d - blend.parts) +ℤ b *ℤ pos blend.parts) d) c.args.frame.now c.args.next.now l.output l.channel _
    (omega arith) (omega arith) (omega arith) (to_z-of_z w32 c.sample.result result_fits ∙ simp to_z-of_z at c.sample.ensures) l.invariant
