-- The outcome of an event, whatever kind of book it is of: the book after it, and the reply.
use Rattle.std.specs.Prelude.{Ok, Err}
use Rattle.pcm_oss.specs.declared.reply.Answer.{Answer}
use Rattle.pcm_oss.specs.declared.reply.Answer.TheVariants.{Done}
use Rattle.pcm_oss.specs.declared.reply.Errno.{Errno}
use Rattle.pcm_desk.specs.declared.turn.Turn.{Turn}

-- the book, and an answer about it
abbrev pub telling : {B : Type 0} → Answer → B → Turn B
telling answer book = record { book = book; reply = Ok answer }

-- the book changes, and the answer is Done
abbrev pub doing : {B : Type 0} → B → Turn B
doing book = telling Done book

-- the book stays as it was, and the reply is why
abbrev pub refused : {B : Type 0} → Errno → B → Turn B
refused errno book = record { book = book; reply = Err errno }
