use Rattle.std.proofs.Common.{arith, rules}
use Rattle.pcm_report.proofs.Puts.{put-next}
use Rattle.pcm_report.proofs.line.write_line.Goals as goal

pub returns : goal.returns
returns c =
    let put = put-next (put-next (put-next c.put_number-at.ensures.put c.put_text-at.ensures.put) c.put_result-at.ensures.put)
    c.put_text.ensures.put in
    record { line = search rules; rest = put.rest; within = omega arith }
