use Rattle.std.proofs.Common.{refl, sym, ◌∙◌, arith}
use Rattle.pcm_engine.proofs.Tested.{wait-all, wait-more}
use Rattle.pcm_engine.proofs.places.record_members_wait.Goals.{else-groups-slot-ne0-via-then-groups-slot-ne0+else-not-record_waits_at, else-groups-slot-ne0-via-else-groups-slot-ne0}
use Rattle.pcm_engine.proofs.places.record_members_wait.Goals as goal

pub loop-slot-preserved : goal.loop-slot-preserved
loop-slot-preserved g c =
    wait-more _ c.args.groups.now c.args.channels.now c.loop-slot.slot c.loop-slot.invariant
    (λ some. elim c.else-groups-slot-ne0.branch [
      | else-groups-slot-ne0-via-then-groups-slot-ne0+else-not-record_waits_at w ↦ sym w.record_waits_at.ensures ∙ w.if-not-record_waits_at.false
      | else-groups-slot-ne0-via-else-groups-slot-ne0 w ↦ absurd (omega (arith, some, w.if-groups-slot-ne0.false))
    ])

pub returns : goal.returns
returns g c = (λ passed. wait-all _ c.args.groups.now c.args.channels.now c.loop-slot.slot c.loop-slot.invariant (omega (arith, c.loop-slot-test.false)), λ wait. refl)
