-- The frames of a window as samples: copied out of it, and taken into another.
use Rattle.std.proofs.Common.{◌≡◌, ◌<◌, ◌*◌, ◌/◌, ℕ, ℤ, List, ◌++◌, length, take, drop, replicate, ap, ◌∙◌, arith}
use Rattle.std.proofs.Math.Nat.{mul-div_cancel}
use Rattle.std.proofs.lemmas.List.{append-nil, drop_all, drop_at, take_all, length-replicate}
use Rattle.pcm_format.specs.Frames.{Frame}
use Rattle.pcm_feeder.specs.Streams.{HaveChannels, frames_of, interleaved, moved_on, silence, written}
use Rattle.pcm_feeder.proofs.Frames.{length-frames_of, length-interleaved}

-- frames that were written over all samples
pub written-all : (c n : ℕ) (frames : List Frame) (old : List ℤ) → HaveChannels c frames → length frames ≡ n → length old ≡ n * c
    → written frames old ≡ interleaved frames
written-all c n frames old have count long =
    let joined = interleaved frames in
    let all : length joined ≡ n * c = length-interleaved c frames have ∙ ap (λ k. k * c) count in
    ap (λ rest. joined ++ rest) (drop_all (length joined) old (omega (arith, all, long))) ∙ append-nil joined

-- as many frames as a window has, taken into a silent one, are all that it has
pub taken-all : (c n : ℕ) (samples : List ℤ) → 0 < c → length samples ≡ n * c
    → moved_on (replicate n (silence c)) (drop 0 (take n (frames_of c samples))) ≡ frames_of c samples
taken-all c n samples above size =
    let list = frames_of c samples in
    let before = replicate n (silence c) in
    let count : length list ≡ n = length-frames_of c samples ∙ ap (λ k. k / c) size ∙ mul-div_cancel n above in
    ap (moved_on before) (take_all n list (omega (arith, count)))
    ∙ ap (λ k. drop k (before ++ list)) count
    ∙ drop_at before list n (length-replicate n (silence c))
