use Rattle.std.proofs.Common.{length}
use Rattle.pcm_save.proofs.slots.+save_all.Given as goal

abbrev pub decreases-save_all : goal.decreases-save_all
decreases-save_all g l = length l.channels.now
