use Rattle.std.proofs.Common.{◌∙◌}
use Rattle.pcm_report.proofs.Puts.{put-part}
use Rattle.pcm_report.proofs.texts.put_text.Goals as goal

pub returns-clause-put : goal.returns-clause-put
returns-clause-put c = put-part _ _ _ _ (c.copy_from_slice.ensures.after ∙ c.as_bytes.ensures.value) c.requires.room
