use Rattle.std.proofs.Common.{arith}
use Rattle.pcm_report.proofs.Puts.{put-next}
use Rattle.pcm_report.proofs.line.put_answer.Goals as goal

pub returns-in-Number : goal.returns-in-Number
returns-in-Number c =
    record {
      put = rw (c.in-Number.is, ← c.from.ensures) (put-next c.put_text-at.ensures.put c.put_number.ensures.put);
      within = omega arith;
    }

pub returns-in-Errors : goal.returns-in-Errors
returns-in-Errors c =
    record {
      put = rw (c.in-Errors.is, ← c.from-in-Errors.ensures, ← c.from-in-Errors-2.ensures)
          (put-next (put-next c.put_text-at-in-Errors.ensures.put c.put_field-at.ensures.put) c.put_field.ensures.put);
      within = omega arith;
    }

pub returns-in-Got : goal.returns-in-Got
returns-in-Got c =
    record {
      put = rw (c.in-Got.is, ← c.from-in-Got.ensures)
          (put-next (put-next (put-next c.put_text-at-in-Got.ensures.put c.put_number-at.ensures.put) c.put_text-at-in-Got-2.ensures.put)
          c.put_bytes.ensures.put);
      within = omega arith;
    }
