use Rattle.pcm_report.proofs.Puts.{put-next}
use Rattle.pcm_report.proofs.texts.put_field.Goals as goal

pub returns-clause-put : goal.returns-clause-put
returns-clause-put c =
    put-next (put-next (put-next c.put_text-at.ensures.put c.put_text-at-2.ensures.put) c.put_text-at-3.ensures.put)
    c.put_number.ensures.put
