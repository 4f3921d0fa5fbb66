use Rattle.std.proofs.Common.{◌+◌, arith}
use Rattle.std.proofs.lemmas.List.{take_rest}
use Rattle.pcm_script.specs.Words.{is_blank}
use Rattle.pcm_script.proofs.Cuts.{split-first, split-only}
use Rattle.pcm_script.proofs.words.first_part.Goals as goal

pub returns-in-Some-clause-parts : goal.returns-in-Some-clause-parts
returns-in-Some-clause-parts c =
    rw (take_rest c.args.text.now (c.in-Some.end + 1))
    (split-first is_blank c.args.text.now c.in-Some.end c.in-Some.ensures.0.high c.in-Some.ensures.1
    (λ i below. c.in-Some.ensures.0.before i (omega arith) below))

pub returns-in-None-clause-parts : goal.returns-in-None-clause-parts
returns-in-None-clause-parts c = split-only is_blank c.args.text.now (λ i below. c.in-None.ensures i (omega arith) below)
