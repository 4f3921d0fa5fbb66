-- The reply to an event.
use Rattle.std.specs.Prelude.{ℕ, List, Result, Ok}
use Rattle.pcm_oss.specs.declared.reply.Answer.{Answer}
use Rattle.pcm_oss.specs.declared.reply.Answer.TheVariants.{Got}
use Rattle.pcm_oss.specs.declared.reply.Errno.{Errno}

-- a result, and the bytes that a read got
pub record Reply : Type 0 where
  pub result : Result Answer Errno
  pub bytes : List ℕ

-- how many bytes come with a result
abbrev pub bytes_due : Result Answer Errno → ℕ
bytes_due (Ok (Got count)) = count
bytes_due told = 0
