use Rattle.std.proofs.Common.{sym, ◌∙◌}
use Rattle.pcm_status.proofs.Held.{play-taken}
use Rattle.pcm_status.proofs.replies.reply_of.Goals as goal

pub channel_reply-requires-clause-taken : goal.channel_reply-requires-clause-taken
channel_reply-requires-clause-taken g c way = play-taken c.args.engine.now c.args.fd c.in-Some.held (sym c.held.ensures ∙ c.in-Some.is) way
