use Rattle.std.proofs.Common.{◌≡◌, ℕ, ◌+◌, ◌-◌, ◌*◌, w64, FitsSigned, List, ◌++◌, length, take, refl, sym, ap, ◌∙◌, subst, arith, rules, true≢false}
use Rattle.std.proofs.lemmas.Int.{to_z-of_z}
use Rattle.std.proofs.lemmas.List.{length-append}
use Rattle.std.proofs.lemmas.Option.{none-some}
use Rattle.pcm_format.specs.Frames.{frame_bytes}
use Rattle.pcm_feeder.specs.Filters.{Filters}
use Rattle.pcm_feeder.specs.Kept.{Kept}
use Rattle.pcm_rate.specs.Rates.{need, IsRatio}
use Rattle.pcm_ring.specs.Ring.{Ring, free_bytes}
use Rattle.pcm_plan.specs.Plans.{PlanSeen, rate_in_plan}
use Rattle.pcm_chain.specs.Chains.{plan_in}
use Rattle.pcm_chain.specs.Pasts.{past_of, past_sizes}
use Rattle.pcm_chain.proofs.Far.{far-fitted}
use Rattle.pcm_chain.proofs.Known.{length-past-of}
use Rattle.pcm_desk.specs.declared.device.Device.{Device}
use Rattle.pcm_desk.specs.Device.{DeviceSeen, device_filters, mixed_for, parent_plan, seen}
use Rattle.pcm_desk.proofs.Ratios.{parent-ratio}
use Rattle.pcm_bus.specs.Handovers.{IsPlannedBy}
use Rattle.pcm_vchan.specs.declared.parent.ParentOf.{ParentOf}
use Rattle.pcm_state.specs.MixerRows.{mixer_row, FitsMixer}
use Rattle.pcm_state.specs.Numbers.{spelled_numbers}
use Rattle.pcm_state.specs.Samples.{sample_bytes}
use Rattle.pcm_state.proofs.Spelled.{length-numbers, length-samples}
use Rattle.pcm_save.specs.Joined.{three-joined}
use Rattle.pcm_save.specs.Outputs.{output_state, CanOutputBeLoaded}
use Rattle.pcm_save.specs.Parts.{HasRow, IsPart}
use Rattle.pcm_save.proofs.AlikeOutputs.{mixer-long}
use Rattle.pcm_save.proofs.Bus.{made-told, needed-in_time, refilled}
use Rattle.pcm_save.proofs.Loading.{join, length-part, parts-front}
use Rattle.pcm_save.proofs.Taken.{front-left, front-room, row-front, rows-same, samples-long}
use Rattle.pcm_save.proofs.output.load_output.Goals as goal

pub tell-requires : goal.tell-requires
tell-requires g c =
    let device = seen c.args.tables.now c.args.parent.now.device in
    let plan = c.copy-plan.result in
    let is : plan ≡ parent_plan device = c.copy-plan.ensures ∙ c.plan.ensures ∙ c.requires.planned.plan_is in
    let long : length c.load_past.new.past ≡ c.past_size.result = search rules in
    record {
      kinds = c.requires.kinds;
      can = record {
        in_time = needed-in_time (rate_in_plan plan) c.args.handed c.need.result (subst IsRatio (sym (ap rate_in_plan is)) (parent-ratio device c.requires.planned.limits)) c.need.ensures;
        size = long ∙ c.past_size.ensures.size ∙ ap (λ (p : PlanSeen). past_sizes p.stages) (sym (c.copy-plan.ensures ∙ c.plan.ensures));
      };
    }

pub invariant_of-parent-3-clause-passed_is : goal.invariant_of-parent-3-clause-passed_is
invariant_of-parent-3-clause-passed_is g c =
    let small : FitsSigned w64 c.passed-passed.result = search rules in
    to_z-of_z w64 c.passed-passed.result small ∙ c.passed-passed.ensures

pub invariant_of-parent-3-clause-full : goal.invariant_of-parent-3-clause-full
invariant_of-parent-3-clause-full g c =
    let parent = c.args.parent.now in
    let waiting = c.in_ok-waiting.waiting.now in
    let size = length-part c.args.bytes.now 264 c.fill.result waiting c.in_ok-waiting.ensures.part in
    ap (λ (r : Ring). length r.bytes) c.put.ensures.kept
    ∙ ap length (refilled parent.ring.bytes c.clear.new.self.bytes waiting parent.ring.size c.put.result (free_bytes c.clear.new.self) (parent.full ∙ sym parent.size) (size ∙ c.fill.ensures.count)
    (ap (λ (r : Ring). r.bytes) c.clear.ensures) (ap (λ (r : Ring). r.size - length c.clear.new.self.bytes) c.clear.ensures) c.put.ensures.count)
    ∙ size ∙ c.fill.ensures.count ∙ parent.full

pub returns-clause-loaded : goal.returns-clause-loaded
returns-clause-loaded g c =
    let kept = g.B.Feeder.kept in
    let parent = c.args.parent.now in
    let device = seen c.args.tables.now parent.device in
    let plan = c.copy-plan.result in
    let is : plan ≡ parent_plan device = c.copy-plan.ensures ∙ c.plan.ensures ∙ c.requires.planned.plan_is in
    let told = c.tell.ensures in
    let bytes = c.args.bytes.now in
    let mixer = c.in_ok-mixer.mixer in
    let waiting = c.in_ok-waiting.waiting.now in
    let samples = c.load_past.new.past in
    let row : mixer_row mixer ≡ c.load_row.new.row = search rules in
    let size = length-part bytes 264 c.fill.result waiting c.in_ok-waiting.ensures.part in
    let fits : FitsMixer mixer = search rules in
    let rows : length c.load_row.new.row ≡ 33 = search rules in
    let ring : c.put.new.self.bytes ≡ waiting = ap (λ (r : Ring). r.bytes) c.put.ensures.kept
    ∙ refilled parent.ring.bytes c.clear.new.self.bytes waiting parent.ring.size c.put.result (free_bytes c.clear.new.self) (parent.full ∙ sym parent.size) (size ∙ c.fill.ensures.count)
    (ap (λ (r : Ring). r.bytes) c.clear.ensures) (ap (λ (r : Ring). r.size - length c.clear.new.self.bytes) c.clear.ensures) c.put.ensures.count in
    record {
      within = c.in_ok-load_past.ensures.past.within;
      told = join (spelled_numbers (mixer_row mixer)) c.put.new.self.bytes (sample_bytes (past_of kept c.tell.new.self)) (spelled_numbers (mixer_row mixer)) waiting (sample_bytes samples)
          refl ring (ap sample_bytes told.keeps)
          ∙ parts-front bytes 264 (length waiting) (4 * length samples) (spelled_numbers (mixer_row mixer)) waiting (sample_bytes samples)
          (subst (λ numbers. IsPart bytes 0 264 (spelled_numbers numbers)) (sym row)
          (subst (λ n. IsPart bytes 0 (8 * n) (spelled_numbers c.load_row.new.row)) rows c.in_ok-load_row.ensures.row))
          (subst (λ n. IsPart bytes 264 n waiting) (sym size) c.in_ok-waiting.ensures.part) c.in_ok-load_past.ensures.past;
      mixer = fits;
      device_same = refl;
      playing_same = refl;
      recording_same = refl;
      mapped_same = refl;
      kinds = told.kinds;
      marks = told.marks;
      has_bus = record {
        planned = record { limits = c.requires.planned.limits; plan_is = told.plan_is ∙ is };
        made = made-told kept device c.tell.new.self plan c.need.result c.args.handed is told.plan_is c.need.ensures (told.far c.args.tables.now);
        level = c.need.ensures ∙ ap (λ (p : PlanSeen). need (rate_in_plan p) c.args.handed) is;
      };
      handed_is = refl;
    }

-- ---- what was saved is taken

-- its row is read,
row-saved : {B : Type 0} (kept : B → Kept) (saved : ParentOf B) (bytes rest : List ℕ) → bytes ≡ output_state kept saved ++ rest → HasRow bytes (mixer_row saved.mixer)
row-saved kept saved bytes rest front =
    let past = sample_bytes (past_of kept saved.bus.chain) in
    row-front (mixer_row saved.mixer) (saved.ring.bytes ++ (past ++ rest)) bytes (front ∙ three-joined (spelled_numbers (mixer_row saved.mixer)) saved.ring.bytes past rest)

-- and there are as many bytes as are read
output-long : {B : Type 0} (kept : B → Kept) (filters : Filters) (saved parent : ParentOf B) (fill samples : ℕ) → CanOutputBeLoaded kept filters saved parent → IsPlannedBy (seen filters parent.device) parent.bus.chain
    → fill ≡ length parent.ring.bytes → samples ≡ past_sizes (plan_in parent.bus.chain).stages → 264 + fill + 4 * samples ≡ length (output_state kept saved)
output-long kept filters saved parent fill samples can planned full few =
    let past = sample_bytes (past_of kept saved.bus.chain) in
    let device : DeviceSeen = seen filters saved.device in
    let ring : length saved.ring.bytes ≡ length parent.ring.bytes = saved.full ∙ ap (λ (d : Device). d.ring_frames * frame_bytes d.settings) can.device ∙ sym parent.full in
    let plan : plan_in saved.bus.chain ≡ plan_in parent.bus.chain = can.bus.planned.plan_is ∙ ap (λ (d : Device). parent_plan (seen filters d)) can.device ∙ sym planned.plan_is in
    let keeps : length (past_of kept saved.bus.chain) ≡ samples =
    length-past-of kept saved.bus.chain (far-fitted kept (device_filters device) saved.bus.chain (mixed_for device saved.handed) 0 saved.handed can.bus.made.far)
    ∙ ap (λ (p : PlanSeen). past_sizes p.stages) plan ∙ sym few in
    omega (
      arith,
      length-append (spelled_numbers (mixer_row saved.mixer)) (saved.ring.bytes ++ past),
      length-append saved.ring.bytes past,
      length-numbers (mixer_row saved.mixer),
      mixer-long saved.mixer can.mixer,
      length-samples (past_of kept saved.bus.chain),
      ring,
      keeps,
      full,
    )

pub returns-in_err-load_row-clause-taken : goal.returns-in_err-load_row-clause-taken
returns-in_err-load_row-clause-taken g c = λ saved rest can front.
    let read = row-saved g.B.Feeder.kept saved c.args.bytes.now rest front in
    absurd (true≢false (sym (c.in_err-load_row.ensures.taken (omega (arith, read.within, mixer-long saved.mixer can.mixer)))))

pub returns-in_err-mixer-clause-taken : goal.returns-in_err-mixer-clause-taken
returns-in_err-mixer-clause-taken g c = λ saved rest can front.
    let read = row-saved g.B.Feeder.kept saved c.args.bytes.now rest front in
    let rows : length c.load_row.new.row ≡ 33 = search rules in
    let same = rows-same c.args.bytes.now c.load_row.new.row (mixer_row saved.mixer) (mixer-long saved.mixer can.mixer ∙ sym rows) c.in_ok-load_row.ensures.row read in
    absurd (none-some saved.mixer (search rules ∙ c.mixer_from_row.ensures.some saved.mixer can.mixer same))

pub returns-in_err-waiting-clause-taken : goal.returns-in_err-waiting-clause-taken
returns-in_err-waiting-clause-taken g c = λ saved rest can front.
    let long = output-long g.B.Feeder.kept c.args.tables.now saved c.args.parent.now c.fill.result _ can c.requires.planned c.fill.ensures.count refl in
    absurd (true≢false (sym (c.in_err-waiting.ensures.taken (omega (arith, front-room c.args.bytes.now (output_state g.B.Feeder.kept saved) rest _ front long)))))

pub returns-in_err-load_past-clause-taken : goal.returns-in_err-load_past-clause-taken
returns-in_err-load_past-clause-taken g c = λ saved rest can front.
    let many = samples-long c.args.past.now c.past_size.result 2560 c.past_size.ensures.most c.requires.room in
    let size = length-part c.args.bytes.now 264 c.fill.result c.in_ok-waiting.waiting.now c.in_ok-waiting.ensures.part in
    let long = output-long g.B.Feeder.kept c.args.tables.now saved c.args.parent.now (length c.in_ok-waiting.waiting.now) (length (take c.past_size.result c.args.past.now)) can c.requires.planned (size ∙ c.fill.ensures.count) (many ∙ c.past_size.ensures.size) in
    absurd (true≢false (sym (c.in_err-load_past.ensures.taken (front-room c.args.bytes.now (output_state g.B.Feeder.kept saved) rest _ front long))))

pub returns-clause-taken : goal.returns-clause-taken
returns-clause-taken g c = λ saved rest can front.
    let many = c.load_past.ensures.len ∙ samples-long c.args.past.now c.past_size.result 2560 c.past_size.ensures.most c.requires.room in
    let size = length-part c.args.bytes.now 264 c.fill.result c.in_ok-waiting.waiting.now c.in_ok-waiting.ensures.part in
    let long = output-long g.B.Feeder.kept c.args.tables.now saved c.args.parent.now (length c.in_ok-waiting.waiting.now) (length c.load_past.new.past) can c.requires.planned (size ∙ c.fill.ensures.count) (many ∙ c.past_size.ensures.size) in
    front-left c.args.bytes.now (output_state g.B.Feeder.kept saved) rest _ front long
