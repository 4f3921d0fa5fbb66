use Rattle.std.proofs.Common.{◌+◌, arith}
use Rattle.std.proofs.lemmas.List.{take_rest}
use Rattle.memchr.specs.Find.{is_byte}
use Rattle.pcm_script.proofs.Cuts.{split-first, split-only}
use Rattle.pcm_script.proofs.lines.first_line.Goals as goal

pub returns-in-Some-clause-lines : goal.returns-in-Some-clause-lines
returns-in-Some-clause-lines c =
    rw (take_rest c.args.text.now (c.in-Some.end + 1))
    (split-first (is_byte 10) c.args.text.now c.in-Some.end c.in-Some.ensures.0.high c.in-Some.ensures.1
    (λ i below. c.in-Some.ensures.0.before i (omega arith) below))

pub returns-in-None-clause-lines : goal.returns-in-None-clause-lines
returns-in-None-clause-lines c = split-only (is_byte 10) c.args.text.now (λ i below. c.in-None.ensures i (omega arith) below)
