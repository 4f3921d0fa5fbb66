use Rattle.std.proofs.Common.{ℕ, ◌*◌, ◌∙◌, ap, arith}
use Rattle.pcm_format.specs.Frames.{frame_bytes}
use Rattle.pcm_config.specs.declared.config.Config.{Config}
use Rattle.pcm_config.specs.Configs.{device_seen}
use Rattle.pcm_soak.specs.declared.tally.Tally.{Tally}
use Rattle.pcm_soak_command.proofs.Soaking.{IsWithin-none}
use Rattle.pcm_soak_command.proofs.soak.SoakOf.new.Goals as goal

pub returns : goal.returns
returns g c =
    let config : Config = c.default_config-config.result in
    record {
      soaked = λ pool. record {
        engine = record {
          device_is = c.in_ok-new.ensures.device ∙ ap device_seen c.default_config-config.ensures;
          stands = c.in_ok-new.ensures.stands pool;
          ready = c.in_ok-new.ensures.ready;
          handed = c.in_ok-new.ensures.handed;
        };
        tally = c.none.ensures;
        within = IsWithin-none c.none.result c.none.ensures;
        sum = omega (arith, ap (λ (tally : Tally). tally.sum) c.none.ensures);
        line_room = c.new-4.ensures.len ∙ c.in_ok-vec-2.ensures.len;
        room = c.new-3.ensures.len ∙ c.in_ok-vec.ensures.len
            ∙ ap (λ (bytes : ℕ). config.device.ring_frames * bytes) c.frame_bytes.ensures
            ∙ ap (λ (settled : Config). settled.device.ring_frames * frame_bytes settled.device.settings) c.default_config-config.ensures;
      };
    }
