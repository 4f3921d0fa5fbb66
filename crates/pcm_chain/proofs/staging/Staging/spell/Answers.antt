use Rattle.std.proofs.Common.{◌≡◌, ◌*◌, ◌/◌, ap, arith}
use Rattle.std.proofs.Math.Nat.{mul_assoc, mul-le-mul_right, div-mul-le_self}
use Rattle.std.proofs.lemmas.List.{length-take-le}
use Rattle.pcm_num.specs.Limit.{FitsBits}
use Rattle.pcm_format.specs.Formats.{bits_of, bytes_of}
use Rattle.pcm_chain.proofs.Pushing.{front-each}
use Rattle.pcm_chain.proofs.staging.Staging.spell.Goals as goal

pub spell_behind-requires-clause-room : goal.spell_behind-requires-clause-room
spell_behind-requires-clause-room c =
    let n = c.min-kept.result in
    let w = bytes_of c.args.format in
    let size = c.args.channels * c.bytes.result in
    let size_is : size ≡ c.args.channels * w = ap (λ k. c.args.channels * k) c.bytes.ensures in
    let fits = mul-le-mul_right {m = n} {n = c.free.result / size} size (omega (arith, c.min-kept.ensures)) in
    let most = div-mul-le_self c.free.result size in
    let narrow = mul-le-mul_right {m = n} {n = c.args.count} c.args.channels (omega (arith, c.min-kept.ensures)) in
    let long = length-take-le (n * c.args.channels) c.args.samples.now (omega (arith, narrow, c.requires.samples)) in
    omega (arith, ap (λ k. k * w) long, mul_assoc n c.args.channels w, ap (λ k. n * k) size_is, fits, most, c.free.ensures.count)

pub spell_behind-requires-clause-range : goal.spell_behind-requires-clause-range
spell_behind-requires-clause-range c =
    let narrow = mul-le-mul_right {m = c.min-kept.result} {n = c.args.count} c.args.channels (omega (arith, c.min-kept.ensures)) in
    front-each (FitsBits (bits_of c.args.format)) (c.min-kept.result * c.args.channels) (c.args.count * c.args.channels) c.args.samples.now
    (omega (arith, narrow)) c.requires.range
