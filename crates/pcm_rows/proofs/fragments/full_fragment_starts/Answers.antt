-- The whole text computes, and is too long for a search.
use Rattle.std.proofs.Common.{refl}
use Rattle.pcm_rows.proofs.Computing.{row}
use Rattle.pcm_rows.proofs.fragments.full_fragment_starts.Goals as goal

pub returns-clause-device : goal.returns-clause-device
unfolding row
returns-clause-device c = refl
