-- Silence through a stage is silence.
use Rattle.std.proofs.Common.{◌≡◌, ℕ, zero, suc, ℤ, pos, ◌+ℤ◌, ◌*ℤ◌, List, [], ◌∷◌, length, map, replicate, refl, ap, ◌∙◌, arith, fold}
use Rattle.std.specs.Simd.Lanes.{zip2}
use Rattle.std.proofs.lemmas.Int.{ints}
use Rattle.pcm_num.specs.Floor.{floor_div}
use Rattle.pcm_num.specs.Limit.{clamped}
use Rattle.pcm_format.proofs.Spelling.{at_depth-silence}
use Rattle.pcm_format.specs.Layouts.{positions_of, channels_of}
use Rattle.pcm_format.specs.declared.layout.Layout.{Layout}
use Rattle.pcm_format.specs.declared.layout.Position.{Position}
use Rattle.pcm_feeder.specs.declared.stage.Gain.{Gain}
use Rattle.pcm_feeder.specs.Layouts.{weight, gathered, in_layout, side_gain, at_gain}
use Rattle.pcm_feeder.specs.Streams.{silence}
use Rattle.pcm_feeder.specs.Stages.{at_bits}
use Rattle.pcm_format.proofs.Streams.{length-positions}

-- a weighted sum of zeros
sum-silence : (w : Position → ℕ) (positions : List Position) (n : ℕ) → fold ◌+ℤ◌ (pos 0) (zip2 (λ p s. pos (w p) *ℤ s) positions (replicate n (pos 0))) ≡ pos 0
sum-silence w [] n = refl
sum-silence w (p ∷ positions) zero = refl
sum-silence w (p ∷ positions) (suc n) =
    let first : (pos 0 +ℤ (pos (w p) *ℤ pos 0)) ≡ pos 0 = omega (arith, ints) in
    ap (λ z. fold ◌+ℤ◌ z (zip2 (λ p s. pos (w p) *ℤ s) positions (replicate n (pos 0)))) first ∙ sum-silence w positions n

-- a list of one value
map-same : {X : Type 0} (g : X → ℤ) (v : ℤ) (list : List X) → ((x : X) → g x ≡ v) → map g list ≡ replicate (length list) v
map-same g v [] same = refl
map-same g v (x ∷ list) same = ap (λ z. z ∷ map g list) (same x) ∙ ap (λ rest. v ∷ rest) (map-same g v list same)

gathered-silence : (from to : Layout) (target : Position) → gathered from to target (silence (channels_of from)) ≡ pos 0
gathered-silence from to target =
    ap (λ z. clamped 32 (floor_div z 65536)) (sum-silence (λ source. weight to target source) (positions_of from) (channels_of from))

pub in_layout-silence : (from to : Layout) → in_layout from to (silence (channels_of from)) ≡ silence (channels_of to)
in_layout-silence from to =
    map-same (λ target. gathered from to target (silence (channels_of from))) (pos 0) (positions_of to) (gathered-silence from to)
    ∙ ap (λ n. replicate n (pos 0)) (length-positions to)

zip-silence : (gain : Gain) (positions : List Position)
    → zip2 (λ p s. floor_div (s *ℤ pos (side_gain gain p)) 65536) positions (replicate (length positions) (pos 0)) ≡ replicate (length positions) (pos 0)
zip-silence gain [] = refl
zip-silence gain (p ∷ positions) =
    let none : (pos 0 *ℤ pos (side_gain gain p)) ≡ pos 0 = omega (arith, ints) in
    ap (λ z. floor_div z 65536 ∷ zip2 (λ p s. floor_div (s *ℤ pos (side_gain gain p)) 65536) positions (replicate (length positions) (pos 0))) none
    ∙ ap (λ rest. pos 0 ∷ rest) (zip-silence gain positions)

pub at_gain-silence : (layout : Layout) (gain : Gain) → at_gain layout gain (silence (channels_of layout)) ≡ silence (channels_of layout)
at_gain-silence layout gain =
    rw (← length-positions layout) (zip-silence gain (positions_of layout))

pub at_bits-silence : (bits channels : ℕ) → at_bits bits (silence channels) ≡ silence channels
at_bits-silence bits zero = refl
at_bits-silence bits (suc n) = ap (λ z. z ∷ at_bits bits (silence n)) (at_depth-silence bits) ∙ ap (λ rest. pos 0 ∷ rest) (at_bits-silence bits n)
