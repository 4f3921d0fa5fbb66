use Rattle.std.proofs.Common.{◌≡◌, ◌+◌, ◌*◌, ◌-◌, take, drop, ap, ◌∙◌, arith}
use Rattle.pcm_state.specs.Numbers.{spelled_number}
use Rattle.pcm_state.proofs.Pieces.{piece-more}
use Rattle.pcm_state.proofs.numbers.load_numbers.Goals as goal

pub loop-i-preserved : goal.loop-i-preserved
loop-i-preserved c =
    let l = c.loop-i in
    let bytes = c.args.bytes.now in
    let long : 8 * l.i + 8 - 8 * l.i ≡ 8 = omega arith in
    piece-more spelled_number 8 l.out bytes l.i c.load_number.result (omega arith)
    (c.load_number.ensures ∙ ap (λ n. take n (drop (8 * l.i) bytes)) long) l.invariant
