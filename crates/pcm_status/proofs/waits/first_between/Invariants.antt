use Rattle.std.proofs.Common.{◌≡◌, ◌<◌, ◌≤◌, ◌-◌, true, false}
use Rattle.pcm_engine.specs.Engines.{desk_of, device_of}
use Rattle.pcm_status.specs.declared.limits.TheConstants.{FRAMES_MOST}
use Rattle.pcm_status.specs.Waits.{goes_on_after}
use Rattle.pcm_status.proofs.waits.first_between.Given as goal

-- after fewer frames a client can't go on, and after more it can
abbrev pub invariant-loop-after : goal.invariant-loop-after
invariant-loop-after g l =
    (l.before < l.after) × (l.after ≤ FRAMES_MOST)
    × (goes_on_after (device_of l.fn.engine) (desk_of l.fn.engine) l.fn.fd l.fn.bytes l.before ≡ false)
    × (goes_on_after (device_of l.fn.engine) (desk_of l.fn.engine) l.fn.fd l.fn.bytes l.after ≡ true)

abbrev pub decreases-loop-after : goal.decreases-loop-after
decreases-loop-after g l = l.after - l.before
