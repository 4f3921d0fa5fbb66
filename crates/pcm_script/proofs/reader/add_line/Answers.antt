use Rattle.std.proofs.Common.{rules}
use Rattle.pcm_script.proofs.Asked.{asked-room}
use Rattle.pcm_script.proofs.reader.add_line.Goals as goal

pub add-requires : goal.add-requires
add-requires c = asked-room _ _ _ c.event_of.result c.in-Some.line c.event_of.ensures (search rules)
