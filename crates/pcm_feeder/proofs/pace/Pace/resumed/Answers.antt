-- The phase in lowest terms is a whole number of parts.
use Rattle.std.proofs.Common.{◌≡◌, ◌+◌, ◌*◌, ◌%◌, sym, ap, ◌∙◌, arith}
use Rattle.std.proofs.lemmas.Nat.{div-add-mod'}
use Rattle.pcm_feeder.proofs.pace.Pace.resumed.Goals as goal

pub returns-clause-phase : goal.returns-clause-phase
returns-clause-phase c =
    let pace = c.new-pace.result in
    let rate = c.new-pace.ensures.rate in
    let phase = c.args.progress.phase in
    let parts : phase % pace.factor ≡ 0 = c.requires.phase.parts (pace.whole * pace.dst + pace.part) pace.dst (record {
      factor = pace.factor;
      src_is = sym (ap (λ r. r.src) rate) ∙ pace.fraction.src;
      dst_is = sym (ap (λ r. r.dst) rate) ∙ pace.fraction.dst;
    }) in
    omega (arith, div-add-mod' phase pace.factor, parts)
