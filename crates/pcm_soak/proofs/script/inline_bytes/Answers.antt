use Rattle.pcm_soak.proofs.Drawn.{inline_bytes-more}
use Rattle.pcm_soak.proofs.script.inline_bytes.Goals as goal

pub loop-j-preserved : goal.loop-j-preserved
loop-j-preserved c = inline_bytes-more c.args.n c.loop-j.j _ _ _ c.in_ok-push.ensures.items c.inline_byte.ensures c.loop-j.invariant
