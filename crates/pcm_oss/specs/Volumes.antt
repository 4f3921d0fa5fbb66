-- Volumes: the left side in the low byte, the right side in the next.
use Rattle.std.specs.Prelude.{◌≡◌, ℕ, ◌*◌, ◌/◌, ◌%◌, Bool, ◌&&◌, nat_le, nat_lt}
use Rattle.pcm_feeder.specs.declared.stage.Gain.{Gain}
use Rattle.pcm_feeder.specs.Limits.{IsGain}

-- from 0 to 100 on each side, and no higher bit
abbrev pub is_volume : ℕ → Bool
is_volume volume = nat_le (volume % 256) 100 && nat_le (volume / 256 % 256) 100 && nat_lt volume 65536

-- the gain of a volume on each side: hundredths of one, rounded down
abbrev pub gain_of : ℕ → Gain
gain_of volume = record {
  left = volume % 256 * 65536 / 100;
  right = volume / 256 % 256 * 65536 / 100;
}

-- the gain of a volume, which is at most one on each side
pub record IsGainOf (volume : ℕ) (gain : Gain) : Type 0 where
  pub value : gain ≡ gain_of volume
  pub limits : IsGain gain
