use Rattle.std.proofs.Common.{arith}
use Rattle.pcm_report.proofs.Puts.{put-next}
use Rattle.pcm_report.proofs.line.put_result.Goals as goal

pub returns-in-Err : goal.returns-in-Err
returns-in-Err c =
    record {
      put = rw c.in-Err.is (rw (← c.errno_word.ensures.word) (put-next c.put_text-at.ensures.put c.put_text.ensures.put));
      within = omega arith;
    }
