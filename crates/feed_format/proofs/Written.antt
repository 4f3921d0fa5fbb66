-- The frames that a depth stage gives, as interleaved samples.
use Rattle.std.proofs.Common.{◌≡◌, ◌≤◌, ◌*◌, ◌/◌, ℕ, ℤ, List, ◌++◌, length, map, take, drop, ap, ◌∙◌, arith}
use Rattle.std.proofs.Math.Nat.{mul-le-mul_right, div-mul-le_self}
use Rattle.std.proofs.lemmas.List.{length-map, length-take-le}
use Rattle.pcm_format.specs.Samples.{at_depth}
use Rattle.pcm_feeder.specs.Streams.{frames_of, interleaved, written}
use Rattle.pcm_feeder.specs.Stages.{at_bits}
use Rattle.pcm_feeder.proofs.Frames.{interleaved-map, interleaved-take}

-- the first n frames at fewer bits are the first samples at fewer bits
interleaved-depth : (bits c n : ℕ) (samples : List ℤ) → n ≤ length samples / c
    → interleaved (map (at_bits bits) (take n (frames_of c samples))) ≡ map (at_depth bits) (take (n * c) samples)
interleaved-depth bits c n samples within =
    interleaved-map (at_depth bits) (take n (frames_of c samples)) ∙ ap (map (at_depth bits)) (interleaved-take c n samples within)

-- and so they stand at the front of what was there
pub written-depth : (bits c n : ℕ) (samples old : List ℤ) → n ≤ length samples / c
    → written (map (at_bits bits) (take n (frames_of c samples))) old ≡ map (at_depth bits) (take (n * c) samples) ++ drop (n * c) old
written-depth bits c n samples old within =
    let fits : n * c ≤ length samples = omega (arith, mul-le-mul_right c within, div-mul-le_self (length samples) c) in
    let has : length (map (at_depth bits) (take (n * c) samples)) ≡ n * c = length-map (take (n * c) samples) (at_depth bits) ∙ length-take-le (n * c) samples fits in
    ap (λ list. list ++ drop (length list) old) (interleaved-depth bits c n samples within)
    ∙ ap (λ k. map (at_depth bits) (take (n * c) samples) ++ drop k old) has
