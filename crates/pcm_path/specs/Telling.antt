-- What a path is on which a run goes on from what was kept of it.
use Rattle.std.specs.Prelude.{◌≡◌, ◌≤◌, ◌-◌, ℕ, ℤ, List, length}
use Rattle.pcm_format.specs.declared.settings.Settings.{Settings}
use Rattle.pcm_feeder.specs.declared.kind.Kind.{Kind}
use Rattle.pcm_feeder.specs.Filters.{Filters}
use Rattle.pcm_feeder.specs.Kept.{Kept}
use Rattle.pcm_feeder.specs.Limits.{AreFilters}
use Rattle.pcm_oss.specs.declared.event.Way.{Way}
use Rattle.pcm_rate.specs.Rates.{need}
use Rattle.pcm_plan.specs.Plans.{PlanSeen}
use Rattle.pcm_chain.specs.Chains.{marks_in}
use Rattle.pcm_chain.specs.Far.{ChainIsSoFar}
use Rattle.pcm_chain.specs.Pasts.{past_of, CanTell}
use Rattle.pcm_desk.specs.declared.opening.Opening.{Opening}
use Rattle.pcm_desk.specs.Device.{seen}
use Rattle.pcm_desk.specs.Openings.{ring_bytes}
use Rattle.pcm_path.specs.Paths.{path_rate, CanBegin, HasBoxes, IsPlanned, Serves}
use Rattle.pcm_path.specs.Ways.{plan_between}
use Rattle.pcm_path.specs.declared.path.PathOf.{PathOf}

-- the plan between a path's device and a client of a way with these settings
abbrev pub plan_for : {B : Type 0} → Way → Filters → Settings → PathOf B → PlanSeen
plan_for way filters settings path = plan_between way (seen filters path.device) settings

-- A run of an opening can go on from what was kept of it: one could begin, these bytes have room in its ring, and the counts and the
-- samples are some of its plan, by filters within their limits.
pub record CanTellPath {B : Type 0} (kind : B → Kind) (way : Way) (filters : Filters) (opening : Opening) (bytes : List ℕ)
    (eaten given : ℕ) (samples : List ℤ) (path : PathOf B) : Type 0 where
  pub begins : CanBegin kind opening path
  pub room : length bytes ≤ ring_bytes opening
  pub can : AreFilters filters → CanTell (plan_for way filters opening.settings path) eaten given samples

-- it does: the path serves the opening with the boxes that it had, these bytes wait in it, and its chain is so far and keeps these
-- samples, whichever the filters are
pub record HasToldPath {B : Type 0} (kind : B → Kind) (kept : B → Kept) (mark : B → ℕ) (way : Way) (filters : Filters)
    (opening : Opening) (bytes : List ℕ) (eaten given : ℕ) (samples : List ℤ) (old new : PathOf B) : Type 0 where
  pub device : new.device ≡ old.device
  pub serves : Serves opening new
  pub planned : IsPlanned way filters opening.settings new
  pub kinds : HasBoxes kind new
  pub marks : marks_in mark new.chain ≡ marks_in mark old.chain
  pub ring : new.ring.bytes ≡ bytes
  pub keeps : past_of kept new.chain ≡ samples
  pub far : (other : Filters) → ChainIsSoFar kept other new.chain eaten (need (path_rate new) given - eaten) given
