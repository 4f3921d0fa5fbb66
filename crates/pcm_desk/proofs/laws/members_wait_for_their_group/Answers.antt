use Rattle.pcm_desk.proofs.Members.{waits-after, waits-always, waits-start}
use Rattle.pcm_desk.proofs.laws.members_wait_for_their_group.Goals as goal

pub returns : goal.returns
returns c = record { start = waits-start; after = waits-after; always = waits-always }
