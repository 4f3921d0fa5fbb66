-- The mix: at each position a fold over the slots, each at its gain, limited after each addition; and all of it at one gain.
use Rattle.std.specs.Prelude.{ℕ, Option, Some, None, fold}
use Rattle.std.specs.List.{range_with_len}
use Rattle.pcm_format.specs.Frames.{Frame}
use Rattle.pcm_mix.specs.Mix.{mixed}

-- what each slot gives at each position: a frame, or nothing
abbrev pub Table : Type 0
Table = ℕ → ℕ → Option Frame

-- a slot that gives nothing adds nothing
abbrev pub adding : ℕ → Frame → Option Frame → Frame
adding bits sum None = sum
adding bits sum (Some frame) = mixed bits sum frame

-- the sum of the first slots of a table at a position, from silence on
abbrev pub mix_of : ℕ → Frame → Table → ℕ → ℕ → Frame
mix_of bits silent table slots position =
    fold (λ sum slot. adding bits sum (table slot position)) silent (range_with_len 0 slots)
