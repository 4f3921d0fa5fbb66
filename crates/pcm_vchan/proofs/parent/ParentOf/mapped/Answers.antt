use Rattle.std.proofs.Common.{refl}
use Rattle.pcm_vchan.proofs.Channels.{parent_same}
use Rattle.pcm_vchan.proofs.parent.ParentOf.mapped.Goals as goal

pub returns : goal.returns
returns g c = (
  (refl, λ w. parent_same _ _ refl refl refl refl refl refl refl refl refl refl),
  record
      { writes_back = tt; value = c.index_mut.ensures.value },
)
