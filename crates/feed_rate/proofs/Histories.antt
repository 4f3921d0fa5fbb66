-- The frames that an interpolator keeps: that each has its channels, and how they move on.
use Rattle.std.proofs.Common.{◌≡◌, ℕ, ℤ, List, [], ◌++◌, length, map, take, get_or, ap, ◌∙◌}
use Rattle.std.specs.List.{range_with_len}
use Rattle.std.proofs.lemmas.List.{append-nil}
use Rattle.std.proofs.lemmas.List.Elements.{All-map}
use Rattle.std.proofs.lemmas.List.FromFn.{length-map-range_with_len}
use Rattle.pcm_format.specs.Frames.{Frame}
use Rattle.pcm_feeder.specs.declared.last_frames.LastFrames.{LastFrames}
use Rattle.pcm_feeder.specs.LastFrames.{frames_kept, kept_after_eating}
use Rattle.pcm_feeder.specs.Streams.{frames_of, HaveChannels, moved_on}
use Rattle.pcm_feeder.proofs.Frames.{frames_of-channels}

-- frames that are made sample by sample
pub made-channels : (c n : ℕ) (sample : ℕ → ℕ → ℤ) → HaveChannels c (map (λ i. map (sample i) (range_with_len 0 c)) (range_with_len 0 n))
made-channels c n sample =
    let P : Frame → Type 0 = λ frame. length frame ≡ c in
    All-map P (λ i. map (sample i) (range_with_len 0 c)) (range_with_len 0 n) (λ i d below. length-map-range_with_len (sample (get_or (range_with_len 0 n) i d)) 0 c)

-- ---- the last frames of an interpolator that takes none in before a feed ends

-- have their channels
pub last-channels : (last : LastFrames) → HaveChannels last.channels (frames_kept last)
last-channels last = frames_of-channels last.channels (take last.len last.samples)

-- and move on at its end
pub last-on : (last new : LastFrames) (input : List ℤ) (eaten : ℕ) (before : List Frame) → frames_kept new ≡ kept_after_eating last input eaten
    → frames_kept last ≡ before ++ [] → frames_kept new ≡ moved_on before (take eaten (frames_of last.channels input))
last-on last new input eaten before is was = is ∙ ap (λ tail. moved_on tail (take eaten (frames_of last.channels input))) (was ∙ append-nil before)
