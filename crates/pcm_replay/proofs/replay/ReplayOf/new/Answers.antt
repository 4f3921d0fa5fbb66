use Rattle.std.proofs.Common.{ℕ, ◌*◌, ◌∙◌, ap, sym, refl}
use Rattle.pcm_desk.specs.Device.{DeviceSeen, device_frame_bytes}
use Rattle.pcm_replay.specs.Playing.{greatest_taken}
use Rattle.pcm_replay.proofs.replay.ReplayOf.new.Goals as goal

pub returns-clause-played : goal.returns-clause-played
returns-clause-played g c = λ pool. record {
  engine = record {
    device_is = refl;
    stands = c.in_ok-new.ensures.stands pool;
    ready = c.in_ok-new.ensures.ready;
    handed = c.in_ok-new.ensures.handed;
  };
  line_room = c.new-4.ensures.len ∙ c.in_ok-vec-2.ensures.len;
  room = c.new-3.ensures.len ∙ c.in_ok-vec.ensures.len
      ∙ ap (λ (most : ℕ). most * c.frame_bytes.result) c.greatest_taken.ensures
      ∙ ap (λ (bytes : ℕ). greatest_taken c.args.events.now * bytes) c.frame_bytes.ensures
      ∙ ap (λ (device : DeviceSeen). greatest_taken c.args.events.now * device_frame_bytes device) (sym c.in_ok-new.ensures.device);
}
