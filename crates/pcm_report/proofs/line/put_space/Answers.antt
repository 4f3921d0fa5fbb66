use Rattle.std.proofs.Common.{arith}
use Rattle.pcm_report.proofs.Puts.{put-next}
use Rattle.pcm_report.proofs.line.put_space.Goals as goal

pub returns : goal.returns
returns c =
    let fragments = put-next c.put_text-at.ensures.put c.put_field-at.ensures.put in
    record {
      put = rw (← c.from.ensures, ← c.from-2.ensures, ← c.from-3.ensures, ← c.from-4.ensures)
          (put-next (put-next (put-next fragments c.put_field-at-2.ensures.put) c.put_field-at-3.ensures.put) c.put_field.ensures.put);
      within = omega arith;
    }
