-- The bits of a trigger, one a way.
use Rattle.std.specs.Prelude.{ℕ, ◌+◌, ◌/◌, ◌%◌, Bool, nat_lt, nat_le, ◌==◌}
use Rattle.pcm_desk.specs.declared.trigger.TheConstants.{PLAY_BIT, RECORD_BIT}

-- the bits of both ways, by which a trigger is set on
abbrev pub both_bits : ℕ
both_bits = PLAY_BIT + RECORD_BIT

-- whether a number has a bit of no way, which every channel refuses
abbrev pub has_other_bits : ℕ → Bool
has_other_bits bits = nat_lt both_bits bits

-- whether a number has the bit of a way
abbrev pub has_bit : ℕ → ℕ → Bool
has_bit bit bits = bits / bit % 2 == 1

-- the same of the way that plays, of a number without other bits
abbrev pub has_play_bit : ℕ → Bool
has_play_bit bits = nat_le PLAY_BIT bits
