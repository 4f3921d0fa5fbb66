use Rattle.std.proofs.Common.{◌≡◌, ◌+ℤ◌, get_or, pos, to_z, of_z, w32, sym, subst, ◌∙◌, rules, arith, add-one}
use Rattle.std.proofs.lemmas.Int.{to_z-of_z}
use Rattle.std.proofs.lemmas.List.Elements.{All-set}
use Rattle.pcm_num.specs.Limit.{FitsBits}
use Rattle.pcm_num.proofs.Limits.{clamped-fits}
use Rattle.pcm_mix.specs.Mix.{limited_sum}
use Rattle.pcm_mix.proofs.Blocks.{mixed-step}
use Rattle.pcm_mix.proofs.mix.mix_samples.Goals as goal

pub loop-at-preserved : goal.loop-at-preserved
loop-at-preserved c =
    let bits = c.args.limits.bits in
    let a = get_or c.loop-at.acc c.loop-at.at (pos 0) in
    let b = get_or c.args.add.now c.loop-at.at (pos 0) in
    let a_is = to_z-of_z w32 a (search rules) in
    let b_is = to_z-of_z w32 b (search rules) in
    let sum_is : to_z w32 (of_z w32 c.sum.result) ≡ limited_sum bits a b = to_z-of_z w32 c.sum.result (search rules) ∙ c.sum.ensures
    ∙ (λ i. limited_sum bits (a_is i) (b_is i)) in
    let fits : FitsBits bits (to_z w32 (of_z w32 c.sum.result)) = subst (FitsBits bits) (sym sum_is) (clamped-fits bits (a +ℤ b)) in (
      All-set (FitsBits bits) c.loop-at.acc c.loop-at.at (to_z w32 (of_z w32 c.sum.result)) fits c.loop-at.invariant.0,
      rw add-one (mixed-step bits c.loop-at.acc c.args.add.now c.loop-at.at _ (pos 0) (omega arith) c.loop-at-test.true sum_is
          ∙ c.loop-at.invariant.1),
    )
