use Rattle.std.proofs.Common.{◌≡◌, ◌+◌, ◌*◌, ◌-◌, w32, FitsSigned, take, drop, ap, ◌∙◌, arith, rules}
use Rattle.std.proofs.lemmas.Int.{to_z-of_z}
use Rattle.pcm_state.specs.Samples.{spelled_sample}
use Rattle.pcm_state.proofs.Pieces.{piece-more}
use Rattle.pcm_state.proofs.samples.load_samples.Goals as goal

pub loop-i-preserved : goal.loop-i-preserved
loop-i-preserved c =
    let l = c.loop-i in
    let small : FitsSigned w32 c.load_sample.result = search rules in
    let bytes = c.args.bytes.now in
    let long : 4 * l.i + 4 - 4 * l.i ≡ 4 = omega arith in
    rw (to_z-of_z w32 c.load_sample.result small) (piece-more spelled_sample 4 l.out bytes l.i c.load_sample.result (omega arith)
    (c.load_sample.ensures ∙ ap (λ n. take n (drop (4 * l.i) bytes)) long) l.invariant)
