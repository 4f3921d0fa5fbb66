use Rattle.std.proofs.Common.{length}
use Rattle.pcm_save.proofs.slots.+size_all.Given as goal

abbrev pub decreases-size_all : goal.decreases-size_all
decreases-size_all g l = length l.channels.now
