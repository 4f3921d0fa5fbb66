use Rattle.std.proofs.Common.{arith}
use Rattle.pcm_report.proofs.Puts.{put-next}
use Rattle.pcm_report.proofs.line.put_pointer.Goals as goal

pub returns : goal.returns
returns c =
    record {
      put = rw (← c.from.ensures) (put-next
          (put-next (put-next c.put_text-at.ensures.put c.put_field-at.ensures.put) c.put_field-at-2.ensures.put) c.put_field.ensures.put);
      within = omega arith;
    }
