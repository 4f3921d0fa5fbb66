use Rattle.std.proofs.Common.{◌<◌, ◌-◌, ◌*◌, ◌^◌, ◌≤◌, rules}
use Rattle.std.proofs.lemmas.Nat.{pow_pos}
use Rattle.pcm_format.specs.Formats.{bits_of}
use Rattle.pcm_format.specs.Samples.{half_of}
use Rattle.pcm_format.proofs.Spelling.{half_of-within}
use Rattle.pcm_format.proofs.sample.number_for.Goals as goal

pub overflow_cast-result : goal.overflow_cast-result
overflow_cast-result c =
    let above : 0 < half_of c.args.f = pow_pos (bits_of c.args.f - 1) in
    let most : 2 * half_of c.args.f ≤ 2 ^ 32 = half_of-within c.args.f in
    search rules
