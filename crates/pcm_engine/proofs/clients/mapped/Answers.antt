use Rattle.std.proofs.Common.{◌≡◌, ◌-◌, ℕ, refl, ap, ◌∙◌, get_or, arith}
use Rattle.pcm_vchan.specs.Lending.{with_map_channel}
use Rattle.pcm_vchan.specs.Parents.{map_channels}
use Rattle.pcm_engine.proofs.clients.mapped.Goals as goal

pub returns : goal.returns
returns g c =
    let parent = c.args.parent.now in
    let same : c.number_of-number.result - parent.device.play_slots ≡ c.args.place = omega (arith, c.number_of-number.ensures) in (
      (refl, λ w. ap (λ (place : ℕ). with_map_channel parent place w) same),
      record {
        writes_back = tt;
        value = c.mapped.ensures.value
            ∙ ap (λ (place : ℕ). get_or (map_channels parent) place c.mapped.result.now) same;
      },
    )
