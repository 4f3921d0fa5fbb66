-- What a request of either way does to an opening: nothing, or it sets the opening up again, before a run.
use Rattle.std.proofs.Common.{◌≡◌, ℕ, Bool, true, ◌⊎◌, arith}
use Rattle.std.proofs.lemmas.Bool.Decides.{nat_tests}
use Rattle.pcm_desk.specs.Types.{Opening, Request}
use Rattle.pcm_oss.specs.Fragments.{AreFragments}
use Rattle.pcm_oss.proofs.Limits.{asked-fragments}
use Rattle.pcm_feeder.specs.Limits.{IsRate}
use Rattle.pcm_desk.specs.Openings.{ask}

-- other settings or other fragments, within the limits, and nothing else
pub record Sets (old new : Opening) : Type 0 where
  pub rate : IsRate old.settings.rate → IsRate new.settings.rate
  pub fragments : AreFragments old.fragments → AreFragments new.fragments
  pub trigger : new.trigger ≡ old.trigger
  pub told : new.told ≡ old.told

pub opening-ask-does : (setup : Bool) (bit : ℕ) (request : Request) (opening : Opening)
    → let new : Opening = (ask setup bit request opening).book in (new ≡ opening) ⊎ ((setup ≡ true) × Sets opening new)
opening-ask-does setup bit request opening = grind (arith, nat_tests, asked-fragments)
