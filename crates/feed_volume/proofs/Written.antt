-- The frames that a volume stage gives, written at the front of its output.
use Rattle.std.proofs.Common.{◌≡◌, ◌≤◌, ◌*◌, ℕ, ℤ, List, ◌++◌, length, map, take, drop, ap, ◌∙◌}
use Rattle.std.proofs.lemmas.List.{length-take-le}
use Rattle.std.proofs.lemmas.List.Elements.{All-take}
use Rattle.pcm_format.specs.Frames.{Frame}
use Rattle.pcm_format.specs.Layouts.{channels_of}
use Rattle.pcm_format.specs.declared.layout.Layout.{Layout}
use Rattle.pcm_format.proofs.Streams.{channels_of-above}
use Rattle.pcm_feeder.specs.declared.stage.Gain.{Gain}
use Rattle.pcm_feeder.specs.Layouts.{at_gain}
use Rattle.pcm_feeder.specs.Streams.{frames_of, written}
use Rattle.pcm_feeder.proofs.Frames.{frames_of-channels, interleaved-take}
use Rattle.pcm_feeder.proofs.Mapped.{frames-there}
use Rattle.pcm_feeder.proofs.AtGains.{unity-same}

-- ---- a gain of one on both sides

-- copies the samples
pub written-unity : (layout : Layout) (gain : Gain) (n : ℕ) (samples old : List ℤ) → gain.left ≡ 65536 → gain.right ≡ 65536 → n * channels_of layout ≤ length samples
    → written (map (at_gain layout gain) (take n (frames_of (channels_of layout) samples))) old ≡ take (n * channels_of layout) samples ++ drop (n * channels_of layout) old
written-unity layout gain n samples old l r fits =
    let c = channels_of layout in
    let P : Frame → Type 0 = λ frame. length frame ≡ c in
    let list = take n (frames_of c samples) in
    ap (λ frames. written frames old) (unity-same layout gain list l r (All-take P n (frames_of c samples) (frames_of-channels c samples)))
    ∙ ap (λ joined. joined ++ drop (length joined) old) (interleaved-take c n samples (frames-there c (length samples) n (channels_of-above layout) fits))
    ∙ ap (λ k. take (n * c) samples ++ drop k old) (length-take-le (n * c) samples fits)
