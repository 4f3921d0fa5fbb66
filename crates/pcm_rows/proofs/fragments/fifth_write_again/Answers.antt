-- The whole text computes, and is too long for a search.
use Rattle.std.proofs.Common.{refl}
use Rattle.pcm_rows.proofs.Computing.{row}
use Rattle.pcm_rows.proofs.fragments.fifth_write_again.Goals as goal

pub returns-clause-verdict : goal.returns-clause-verdict
unfolding row
returns-clause-verdict c = refl
