use Rattle.pcm_report.proofs.Puts.{put-next}
use Rattle.pcm_soak_command.proofs.tally_line.put_count.Goals as goal

pub returns-clause-put : goal.returns-clause-put
returns-clause-put c = put-next c.put_text-at.ensures.put c.put_number.ensures.put
