use Rattle.pcm_report.proofs.Puts.{put-hexadecimal}
use Rattle.pcm_report.proofs.texts.put_hex.Goals as goal

pub returns-clause-put : goal.returns-clause-put
returns-clause-put c = put-hexadecimal _ _ _ _ c.encode.ensures c.requires.room
