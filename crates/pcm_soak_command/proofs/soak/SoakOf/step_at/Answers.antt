use Rattle.std.proofs.Common.{◌≡◌, ℕ, ◌+◌, ◌≤◌, List, take, length, refl, sym, ◌∙◌, ap, subst, arith, length-take-le}
use Rattle.std.proofs.lemmas.List.{take_more}
use Rattle.pcm_desk.specs.Usual.{usual_device}
use Rattle.pcm_engine.specs.Engines.{device_of}
use Rattle.pcm_soak.specs.Tallies.{total}
use Rattle.pcm_soak_command.specs.Soaking.{HasSoaked, ring_room}
use Rattle.pcm_soak_command.proofs.Running.{front, life-left}
use Rattle.pcm_soak_command.proofs.Soaking.{handed-on, soaked}
use Rattle.pcm_soak_command.proofs.soak.SoakOf.step_at.Goals as goal

-- the events up to this one were run
pub returns : goal.returns
returns g c =
    let soak = c.args.self.now in
    let pool = c.args.pool.now in
    let xs = c.args.events.now in
    let events = take c.args.at xs in
    let stepped = c.step-count.ensures.stepped in
    let told = c.step-count.ensures.told in
    let piece = take c.step-count.result c.step-count.new.out in
    let block : c.deref.result.now ≡ c.step-count.new.out =
    c.deref.ensures.value ∙ front _ c.step-count.new.out _ (c.step-count.auto.out ∙ c.deref_mut.ensures.len) in
    let is : device_of soak.engine ≡ usual_device = c.requires.soaked.engine.device_is in
    let count : c.step-count.result ≤ ring_room usual_device = handed-on (device_of soak.engine) pool xs c.args.at c.step-count.result _ is
    c.requires.runs.fits c.requires.there stepped.count in
    let room : length c.step-count.new.out ≡ ring_room usual_device = c.step-count.auto.out ∙ c.deref_mut.ensures.len
    ∙ c.requires.soaked.room in
    let size : length piece ≡ c.step-count.result = length-take-le c.step-count.result c.step-count.new.out (omega (arith, count, room)) in
    let heard : total (take c.step-count.result c.deref.result.now) ≡ total piece = ap
    (λ (bytes : List ℕ). total (take c.step-count.result bytes)) block in
    let sizes : length (take c.step-count.result c.deref.result.now) ≡ length piece = ap
    (λ (bytes : List ℕ). length (take c.step-count.result bytes)) block in
    record {
      soaked = subst (HasSoaked g.B.Feeder.kind g.B.Feeder.kept _ pool) (sym (take_more xs c.args.at _ c.requires.there))
          (soaked g.B.Feeder.kind g.B.Feeder.kept soak _ pool events _ piece c.step-count.new.reply c.count.new.self
          (record {
            device = stepped.rules.device;
            ready = stepped.ready;
            stands = told.stands events;
            handed = stepped.rules.handed;
            bytes = told.bytes events;
            replied = told.reply events;
            counts = c.count.ensures.counted;
            within = c.count.ensures.within;
            heard = c.hear.ensures.heard ∙ ap (λ (sum : ℕ). record c.count.new.self { sum = c.count.new.self.sum + sum }) heard;
            few = omega (arith, c.hear.ensures.few, heard, sizes, size, count);
            room = refl;
            line_room = refl;
          })
          c.requires.soaked);
    }

-- the bytes that are heard are there
pub slice_bounds-hear-end : goal.slice_bounds-hear-end
slice_bounds-hear-end g c =
    let soak = c.args.self.now in
    let pool = c.args.pool.now in
    let xs = c.args.events.now in
    let stepped = c.step-count.ensures.stepped in
    let told = c.step-count.ensures.told in
    let block : c.deref.result.now ≡ c.step-count.new.out =
    c.deref.ensures.value ∙ front _ c.step-count.new.out _ (c.step-count.auto.out ∙ c.deref_mut.ensures.len) in
    let is : device_of soak.engine ≡ usual_device = c.requires.soaked.engine.device_is in
    let count : c.step-count.result ≤ ring_room usual_device = handed-on (device_of soak.engine) pool xs c.args.at c.step-count.result _ is
    c.requires.runs.fits c.requires.there stepped.count in
    let room : length c.step-count.new.out ≡ ring_room usual_device = c.step-count.auto.out ∙ c.deref_mut.ensures.len
    ∙ c.requires.soaked.room in
    let size : length (take c.step-count.result c.step-count.new.out) ≡ c.step-count.result = length-take-le c.step-count.result
    c.step-count.new.out (omega (arith, count, room)) in
    sym (ap (λ (bytes : List ℕ). length (take c.step-count.result bytes)) block ∙ size)

within : (count n m : ℕ) → count ≤ m → n ≡ m → count ≤ n
within count n m less same = omega (arith, less, same)

-- the engine can step on it: its bytes have room, and its frames are left
pub step-count-requires-clause-can : goal.step-count-requires-clause-can
step-count-requires-clause-can g c =
    let soaked = c.requires.soaked in
    let events = c.requires.runs in
    let device = device_of c.args.self.now.engine in
    let room : length c.deref_mut.result.now ≡ ring_room usual_device = c.deref_mut.ensures.len ∙ soaked.room in
    record {
      ready = soaked.engine.ready;
      room = within _ _ _ (handed-on device c.args.pool.now c.args.events.now c.args.at _ _ soaked.engine.device_is events.fits
          c.requires.there refl) room;
      life = life-left g.B.Feeder.kind g.B.Feeder.kept c.args.self.now.engine _ c.args.pool.now c.args.events.now c.args.at _ soaked.engine
          events.fits (omega (arith, events.count)) c.requires.there;
    }
