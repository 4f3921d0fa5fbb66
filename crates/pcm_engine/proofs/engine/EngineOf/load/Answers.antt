use Rattle.std.proofs.Common.{sym, ◌∙◌, subst, arith, refl, true≢false}
use Rattle.pcm_engine.specs.Types.{Device}
use Rattle.pcm_bus.specs.Handovers.{IsPlannedBy}
use Rattle.pcm_desk.specs.Device.{seen}
use Rattle.pcm_save.specs.Parents.{parent_state}
use Rattle.pcm_save.proofs.Joining.{behind}
use Rattle.pcm_engine.specs.declared.load_fault.LoadFault.TheVariants.{Memory}
use Rattle.pcm_engine.proofs.Judging.{judged-in-order}
use Rattle.pcm_engine.proofs.KnownByState.{states-known}
use Rattle.pcm_engine.proofs.Loaded.{parts-state}
use Rattle.pcm_engine.proofs.Loading.{are-made, handed-fits, loaded-from, loaded-racks, mixed-life}
use Rattle.pcm_engine.proofs.Placed.{stand-once}
use Rattle.pcm_engine.proofs.Taken.{behind-head, descriptors-read, handed-read, head-cause, head-left, memory-cause, parent-can, parent-left, refused-as, same-place}
use Rattle.pcm_engine.proofs.engine.EngineOf.load.Goals as goal

pub load_all-requires-clause-made : goal.load_all-requires-clause-made
load_all-requires-clause-made g c =
    let parent = c.in_ok-parent.parent in
    let made = c.in_ok-parent.ensures in
    record {
      bus_kinds = made.bus_kinds;
      planned = subst (λ (device : Device). IsPlannedBy (seen c.args.tables device) parent.bus.chain) (sym made.device) made.planned;
      fits = handed-fits c.args.tables c.args.device c.in_ok-handed.handed parent c.requires.limits c.in_ok-handed.ensures.life made.device;
      boxes = record {
        playing = λ slot other there. (made.channels slot other there).kinds;
        recording = λ slot other there. (made.recording slot other there).kinds;
        mapped = λ slot other there. (made.mapped slot other there).kinds;
      };
    }

pub judge-requires : goal.judge-requires
judge-requires g c =
    let made = c.in_ok-parent.ensures in
    let few = c.in_ok-handed.ensures.life in
    let from = loaded-from g.B.Feeder.kind g.B.Feeder.kept g.B.Feeder.mark c.args.tables c.args.device c.in_ok-handed.handed _ c.in_ok-parent.parent c.load_all.new.parent
    (are-made g.B.Feeder.kind g.B.Feeder.kept c.args.tables c.args.device c.in_ok-parent.parent made.device made.channels made.recording made.mapped) c.in_ok-load_all.ensures.loaded in
    record {
      handed = omega (arith, from.handed_is, few);
      mixed = omega (arith, from.bus.level, mixed-life (seen c.args.tables c.args.device) c.load_all.new.parent.handed c.requires.limits (omega (arith, from.handed_is, few)));
    }

pub invariant_of-result-clause-order : goal.invariant_of-result-clause-order
invariant_of-result-clause-order g c =
    let made = c.in_ok-parent.ensures in
    let few = c.in_ok-handed.ensures.life in
    let from = loaded-from g.B.Feeder.kind g.B.Feeder.kept g.B.Feeder.mark c.args.tables c.args.device c.in_ok-handed.handed _ c.in_ok-parent.parent c.load_all.new.parent
    (are-made g.B.Feeder.kind g.B.Feeder.kept c.args.tables c.args.device c.in_ok-parent.parent made.device made.channels made.recording made.mapped) c.in_ok-load_all.ensures.loaded in
    judged-in-order g.B.Feeder.kind g.B.Feeder.kept c.args.tables c.load_all.new.parent c.in_ok-descriptors.descriptors from.served c.in_ok-judge.ensures.place
    c.in_ok-descriptors.ensures.apart (omega (arith, from.handed_is, few))

pub returns-clause-state : goal.returns-clause-state
returns-clause-state g c =
    let made = c.in_ok-parent.ensures in
    let descriptors = c.in_ok-descriptors.ensures in
    parts-state g.B.Feeder.kind g.B.Feeder.kept c.args.device c.args.tables c.in_ok-handed.handed c.args.bytes.now _ _
    (record {
      from = loaded-from g.B.Feeder.kind g.B.Feeder.kept g.B.Feeder.mark c.args.tables c.args.device c.in_ok-handed.handed _ c.in_ok-parent.parent c.load_all.new.parent
          (are-made g.B.Feeder.kind g.B.Feeder.kept c.args.tables c.args.device c.in_ok-parent.parent made.device made.channels made.recording made.mapped) c.in_ok-load_all.ensures.loaded;
      place = c.in_ok-judge.ensures.place;
      whole = descriptors.whole;
      filters_are = refl;
      limits = c.requires.limits;
    })
    (record { head = c.in_ok-handed.ensures.head; described = descriptors.state; rest_is = refl })

pub returns-clause-clone : goal.returns-clause-clone
returns-clause-clone g c = λ engine of has.
    states-known g.B.Feeder.kind g.B.Feeder.kept c.args.device c.args.tables c.args.bytes.now engine _ of
    (record { device_is = c.in_ok-load_all.ensures.loaded.device_same ∙ c.in_ok-parent.ensures.device; filters_are = refl }) has (returns-clause-state g c)

pub returns-clause-racks : goal.returns-clause-racks
returns-clause-racks g c = loaded-racks g.B.Feeder.kind g.B.Feeder.kept g.B.Feeder.mark c.args.tables c.in_ok-handed.handed _ _ c.in_ok-parent.parent c.load_all.new.parent _ c.in_ok-parent.ensures.racks c.in_ok-load_all.ensures.loaded

-- ---- why bytes are refused

pub returns-in_err-handed-clause-cause : goal.returns-in_err-handed-clause-cause
returns-in_err-handed-clause-cause g c =
    refused-as _ c.in_err-handed.field-0.0 c.from_residual.result c.from_residual.ensures.1
    (head-cause g.B.Feeder.kind g.B.Feeder.kept c.args.device c.args.tables c.args.bytes.now c.in_err-handed.field-0.0 c.in_err-handed.ensures.named c.in_err-handed.ensures.taken)

pub returns-in_err-descriptors-clause-cause : goal.returns-in_err-descriptors-clause-cause
returns-in_err-descriptors-clause-cause g c =
    refused-as _ c.in_err-descriptors.field-0.0 c.from_residual-in_err-descriptors.result c.from_residual-in_err-descriptors.ensures.1
    (behind-head g.B.Feeder.kind g.B.Feeder.kept c.args.device c.args.tables c.args.bytes.now c.in_ok-handed.handed c.in_err-descriptors.field-0.0 c.in_ok-handed.ensures.head
    (λ engine of has fits. c.in_err-descriptors.ensures.taken engine.descriptors (parent_state g.B.Feeder.kept engine.parent) has.whole.descriptors (stand-once engine.parent engine.descriptors engine.order.apart)
    (behind c.args.bytes.now 24 ∙ head-left g.B.Feeder.kind g.B.Feeder.kept c.args.bytes.now engine has)))

pub returns-in_err-parent-clause-cause : goal.returns-in_err-parent-clause-cause
returns-in_err-parent-clause-cause g c =
    refused-as _ Memory c.from_residual-in_err-parent.result c.from_residual-in_err-parent.ensures.1 (memory-cause g.B.Feeder.kind g.B.Feeder.kept c.args.device c.args.tables c.args.bytes.now Memory refl)

pub returns-in_err-load_all-clause-cause : goal.returns-in_err-load_all-clause-cause
returns-in_err-load_all-clause-cause g c =
    let made = c.in_ok-parent.ensures in
    refused-as _ c.in_err-load_all.field-0.0 c.from_residual-in_err-load_all.result c.from_residual-in_err-load_all.ensures.1
    (behind-head g.B.Feeder.kind g.B.Feeder.kept c.args.device c.args.tables c.args.bytes.now c.in_ok-handed.handed c.in_err-load_all.field-0.0 c.in_ok-handed.ensures.head
    (λ engine of has fits. c.in_err-load_all.ensures.taken engine.parent
    (parent-can g.B.Feeder.kind g.B.Feeder.kept c.args.device c.args.tables c.args.bytes.now engine c.in_ok-parent.parent of has fits
    (are-made g.B.Feeder.kind g.B.Feeder.kept c.args.tables c.args.device c.in_ok-parent.parent made.device made.channels made.recording made.mapped))
    (parent-left g.B.Feeder.kind g.B.Feeder.kept c.args.bytes.now engine has)))

pub returns-in_err-judge-clause-cause : goal.returns-in_err-judge-clause-cause
returns-in_err-judge-clause-cause g c =
    let made = c.in_ok-parent.ensures in
    let descriptors = c.in_ok-descriptors.ensures in
    let from = loaded-from g.B.Feeder.kind g.B.Feeder.kept g.B.Feeder.mark c.args.tables c.args.device c.in_ok-handed.handed _ c.in_ok-parent.parent c.load_all.new.parent
    (are-made g.B.Feeder.kind g.B.Feeder.kept c.args.tables c.args.device c.in_ok-parent.parent made.device made.channels made.recording made.mapped) c.in_ok-load_all.ensures.loaded in
    refused-as _ c.in_err-judge.field-0.0 c.from_residual-in_err-judge.result c.from_residual-in_err-judge.ensures.1
    (behind-head g.B.Feeder.kind g.B.Feeder.kept c.args.device c.args.tables c.args.bytes.now c.in_ok-handed.handed c.in_err-judge.field-0.0 c.in_ok-handed.ensures.head
    (λ engine of has fits.
    let same = descriptors-read engine.descriptors c.in_ok-descriptors.descriptors (parent_state g.B.Feeder.kept engine.parent) has.whole.descriptors descriptors.whole descriptors.state
    (behind c.args.bytes.now 24 ∙ head-left g.B.Feeder.kind g.B.Feeder.kept c.args.bytes.now engine has) in
    absurd (true≢false (sym (c.in_err-judge.ensures.taken (same-place g.B.Feeder.kind g.B.Feeder.kept c.args.device c.args.tables c.in_ok-handed.handed c.args.bytes.now _ engine c.load_all.new.parent c.in_ok-descriptors.descriptors
    of has from (parent-left g.B.Feeder.kind g.B.Feeder.kept c.args.bytes.now engine has) (handed-read g.B.Feeder.kind g.B.Feeder.kept c.args.device c.args.tables c.args.bytes.now c.in_ok-handed.handed engine of has c.in_ok-handed.ensures.head)
    same.held same.groups))))))

pub returns-in_err-captured-clause-cause : goal.returns-in_err-captured-clause-cause
returns-in_err-captured-clause-cause g c =
    refused-as _ Memory c.from_residual-in_err-captured.result c.from_residual-in_err-captured.ensures.1 (memory-cause g.B.Feeder.kind g.B.Feeder.kept c.args.device c.args.tables c.args.bytes.now Memory refl)
