-- What a client records is within the bits of its format.
use Rattle.std.proofs.Common.{◌≡◌, ◌≤◌, ◌<◌, ◌+◌, ◌-◌, ◌*◌, ◌/◌, ◌%◌, ◌^◌, ◌==◌, ℕ, zero, suc, ℤ, pos, negsuc, neg_ℤ, ◌+ℤ◌, ◌-ℤ◌, ◌*ℤ◌, ◌≤ℤ◌, List, [], ◌∷◌, ◌++◌, map, get_or, refl, sym, subst, arith}
use Rattle.std.specs.Prelude.{All}
use Rattle.std.specs.List.{range_with_len}
use Rattle.std.specs.Simd.Lanes.{zip2}
use Rattle.std.proofs.Math.Nat.{mul-le-mul_right, div-lt_iff_lt-mul, mod-lt}
use Rattle.std.proofs.lemmas.Bool.{cond_both, eqb-true}
use Rattle.std.proofs.lemmas.Int.{ints}
use Rattle.std.proofs.lemmas.List.Elements.{All-nil, All-cons, All-head, All-tail, All-map, All-replicate}
use Rattle.pcm_num.specs.Floor.{floor_div}
use Rattle.pcm_num.specs.Limit.{FitsBits}
use Rattle.pcm_num.proofs.Limits.{clamped-fits, FitsBits-floor_div}
use Rattle.pcm_format.specs.declared.layout.Layout.{Layout}
use Rattle.pcm_format.specs.declared.layout.Position.{Position}
use Rattle.pcm_format.specs.declared.settings.Settings.{Settings}
use Rattle.pcm_format.specs.Formats.{bits_of}
use Rattle.pcm_format.specs.Frames.{Frame}
use Rattle.pcm_format.specs.Layouts.{channels_of, positions_of}
use Rattle.pcm_format.proofs.Spelling.{bits_of-above, bits_of-within, silence-fits}
use Rattle.pcm_feeder.specs.declared.stage.Spec.{Spec}
use Rattle.pcm_feeder.specs.declared.stage.Spec.TheVariants.{Matrix, Hold, Linear, Poly, Depth}
use Rattle.pcm_feeder.specs.declared.table.Table.{Table}
use Rattle.pcm_feeder.specs.Filters.{Filters}
use Rattle.pcm_feeder.specs.Layouts.{unity, gathered, weight}
use Rattle.pcm_feeder.specs.Sums.{sum_of}
use Rattle.pcm_feeder.specs.Limits.{IsRate}
use Rattle.pcm_feeder.specs.Stages.{channels_out, conv, all_outputs, blended, coef, filtered, table_at}
use Rattle.pcm_feeder.specs.Streams.{Stream, silence, stream_of}
use Rattle.pcm_plan.specs.Fits.{HaveBits}
use Rattle.pcm_plan.specs.Plans.{converting, depth_stages, plan_record}
use Rattle.pcm_plan.specs.Through.{through, rec, recs}
use Rattle.pcm_plan.proofs.Fits.{each-converting, each-converter}

-- a frame of samples of `bits` bits
abbrev FrameHasBits : ℕ → Frame → Type 0
FrameHasBits bits frame = All (FitsBits bits) frame

-- a stream of such frames
abbrev HasBits : ℕ → Stream → Type 0
HasBits bits x = (place : ℤ) → FrameHasBits bits (x place)

-- ---- points on a line

-- a product with a sample
record IsProduct (weight : ℕ) (product : ℤ) : Type 0 where
  low : neg_ℤ (pos (2 ^ 31 * weight)) ≤ℤ product
  high : product ≤ℤ pos ((2 ^ 31 - 1) * weight)

product-within : (a : ℤ) (weight : ℕ) → FitsBits 32 a → IsProduct weight (a *ℤ pos weight)
product-within (pos n) weight fits =
    let most = mul-le-mul_right {m = n} {n = 2 ^ 31 - 1} weight (omega (arith, ints, fits.high)) in
    record { low = omega (arith, ints); high = omega (arith, ints) }
product-within (negsuc n) weight fits =
    let most = mul-le-mul_right {m = suc n} {n = 2 ^ 31} weight (omega (arith, ints, fits.low)) in
    record { low = omega (arith, ints); high = omega (arith, ints) }

-- a mean of samples
quotient-fits : (z : ℤ) (d : ℕ) → 0 < d → IsProduct d z → FitsBits 32 (floor_div z d)
quotient-fits (pos m) d above within =
    let below = (div-lt_iff_lt-mul {k = d} {x = m} {y = 2 ^ 31} above).1 (omega (arith, ints, within.high)) in
    record { low = omega (arith, ints); high = omega (arith, ints) }
quotient-fits (negsuc m) d above within =
    let below = (div-lt_iff_lt-mul {k = d} {x = m} {y = 2 ^ 31} above).1 (omega (arith, ints, within.low)) in
    record { low = omega (arith, ints); high = omega (arith, ints) }

point-fits : (a b : ℤ) (here next d : ℕ) → 0 < d → here + next ≡ d → FitsBits 32 a → FitsBits 32 b → FitsBits 32 (floor_div (a *ℤ pos here +ℤ b *ℤ pos next) d)
point-fits a b here next d above all first second =
    let p = product-within a here first in
    let q = product-within b next second in
    quotient-fits (a *ℤ pos here +ℤ b *ℤ pos next) d above
    (record { low = omega (arith, ints, p.low, q.low); high = omega (arith, ints, p.high, q.high) })

-- two frames that go through a function together
zip-fits : (f : ℤ → ℤ → ℤ) → ((a b : ℤ) → FitsBits 32 a → FitsBits 32 b → FitsBits 32 (f a b)) → (frame next : Frame)
    → FrameHasBits 32 frame → FrameHasBits 32 next → FrameHasBits 32 (zip2 f frame next)
zip-fits f fits [] next first second = All-nil (FitsBits 32)
zip-fits f fits (a ∷ frame) [] first second = All-nil (FitsBits 32)
zip-fits f fits (a ∷ frame) (b ∷ next) first second =
    All-cons (FitsBits 32) (f a b) (zip2 f frame next)
    (fits a b (All-head (FitsBits 32) a frame first) (All-head (FitsBits 32) b next second))
    (zip-fits f fits frame next (All-tail (FitsBits 32) a frame first) (All-tail (FitsBits 32) b next second))

blended-fits : (dst f : ℕ) (frame next : Frame) → f < dst → FrameHasBits 32 frame → FrameHasBits 32 next → FrameHasBits 32 (blended dst f frame next)
blended-fits dst f frame next below =
    zip-fits (λ a b. floor_div (a *ℤ pos (dst - f) +ℤ b *ℤ pos f) dst) (λ a b. point-fits a b (dst - f) f dst (omega arith) (omega arith)) frame next

-- ---- stages

silence-bits : (bits channels : ℕ) → FrameHasBits bits (silence channels)
silence-bits bits channels = All-replicate (FitsBits bits) channels (pos 0) (silence-fits bits)

-- a stage whose outputs have 32 bits where what it takes has
abbrev KeepsBits : Filters → Spec → Type 0
KeepsBits tables spec = (x : Stream) → HasBits 32 x → (k : ℕ) → FrameHasBits 32 (conv spec tables unity x k)

-- a sample of another layout
gathered-fits : (from to : Layout) (target : Position) (frame : Frame) → FitsBits 32 (gathered from to target frame)
gathered-fits from to target frame =
    clamped-fits 32 (floor_div (sum_of (zip2 (λ source sample. pos (weight to target source) *ℤ sample) (positions_of from) frame)) 65536)

-- a sample through a filter
filtered-fits : (table : Table) (taps row : ℕ) (around : Stream) (channel : ℕ) → FitsBits 32 (filtered table taps row around channel)
filtered-fits table taps row around channel =
    let sum = sum_of (map (λ j. coef table row j *ℤ get_or (around (pos (j + 1) -ℤ pos (taps / 2))) channel (pos 0)) (range_with_len 0 taps)) in
    clamped-fits 32 (floor_div (sum +ℤ pos (2 ^ (table.shift - 1))) (2 ^ table.shift))

matrix-keeps : (tables : Filters) (from to : Layout) → KeepsBits tables (Matrix from to)
unfolding conv
matrix-keeps tables from to x has k =
    All-map (FitsBits 32) (λ target. gathered from to target (x (pos k))) (positions_of to) (λ i d below. gathered-fits from to (get_or (positions_of to) i d) (x (pos k)))

hold-keeps : (tables : Filters) (src dst channels : ℕ) → KeepsBits tables (Hold src dst channels)
unfolding conv
hold-keeps tables src dst channels x has k = has (pos (k * src / dst) +ℤ pos 0)

line-keeps : (tables : Filters) (src dst channels : ℕ) → 0 < dst → KeepsBits tables (Linear src dst channels)
unfolding conv
line-keeps tables src dst channels above x has k =
    blended-fits dst (k * src % dst) (x (pos (k * src / dst) +ℤ pos 0)) (x (pos (k * src / dst) +ℤ pos 1)) (mod-lt (k * src) above)
    (has (pos (k * src / dst) +ℤ pos 0)) (has (pos (k * src / dst) +ℤ pos 1))

filter-keeps : (tables : Filters) (src dst channels table taps : ℕ) → KeepsBits tables (Poly src dst channels table taps)
unfolding conv
filter-keeps tables src dst channels table taps x has k =
    let row = k * src % dst * (table_at tables table).phases / dst in
    let around : Stream = λ a. x (pos (k * src / dst) +ℤ a) in
    All-map (FitsBits 32) (filtered (table_at tables table) taps row around) (range_with_len 0 channels)
    (λ i d below. filtered-fits (table_at tables table) taps row around (get_or (range_with_len 0 channels) i d))

-- the stage to fewer bits
depth-bits : (tables : Filters) (bits channels : ℕ) (x : Stream) (k : ℕ) → 1 ≤ bits → bits ≤ 32 → HasBits 32 x → FrameHasBits bits (conv (Depth bits channels) tables unity x k)
unfolding conv
depth-bits tables bits channels x k least most has =
    All-map (FitsBits bits) (λ sample. floor_div sample (2 ^ (32 - bits))) (x (pos k))
    (λ i d below. FitsBits-floor_div bits (get_or (x (pos k)) i d) least most (has (pos k) i d below))

-- ---- all stages

stages-keep : (tables : Filters) (specs : List Spec) (x : Stream) → All (KeepsBits tables) specs → HasBits 32 x → HasBits 32 (through tables unity specs x)
stages-keep tables [] x keep has = has
stages-keep tables (spec ∷ specs) x keep has =
    stages-keep tables specs (all_outputs spec tables unity x) (All-tail (KeepsBits tables) spec specs keep) next
  where
    next : HasBits 32 (all_outputs spec tables unity x)
    next (pos k) = All-head (KeepsBits tables) spec specs keep x has k
    next (negsuc k) = silence-bits 32 (channels_out spec)

-- stages in two parts
through-append : (tables : Filters) (before after : List Spec) (x : Stream) (place : ℤ)
    → through tables unity (before ++ after) x place ≡ through tables unity after (through tables unity before x) place
through-append tables [] after x place = refl
through-append tables (spec ∷ before) after x place = through-append tables before after (all_outputs spec tables unity x) place

converting-keeps : (tables : Filters) (quality : ℕ) (source target : Settings) → IsRate target.rate → All (KeepsBits tables) (converting tables quality source target)
converting-keeps tables quality source target rate =
    each-converting (KeepsBits tables) tables quality source target (matrix-keeps tables source.layout target.layout)
    (λ layout differs. each-converter (KeepsBits tables) tables quality source.rate target.rate (channels_of layout)
    (hold-keeps tables source.rate target.rate (channels_of layout))
    (line-keeps tables source.rate target.rate (channels_of layout) (omega (arith, rate.least)))
    (λ place below. filter-keeps tables source.rate target.rate (channels_of layout) place (table_at tables place).taps))

depth-end-bits : (tables : Filters) (bits channels : ℕ) (x : Stream) (k : ℕ) → 1 ≤ bits → bits ≤ 32 → HasBits 32 x → FrameHasBits bits (through tables unity (depth_stages bits channels) x (pos k))
depth-end-bits tables bits channels x k least most has =
    cond_both (bits == 32) [] (Depth bits channels ∷ []) (λ specs. FrameHasBits bits (through tables unity specs x (pos k)))
    (λ whole. subst (λ n. FrameHasBits n (x (pos k))) (sym (eqb-true bits 32 whole)) (has (pos k)))
    (λ fewer. depth-bits tables bits channels x k least most has)

-- a list of such frames is a stream of such frames
stream-bits : (channels : ℕ) (frames : List Frame) → HaveBits 32 frames → HasBits 32 (stream_of channels frames)
stream-bits channels [] have (pos k) = silence-bits 32 channels
stream-bits channels (frame ∷ frames) have (pos zero) = All-head (FrameHasBits 32) frame frames have
stream-bits channels (frame ∷ frames) have (pos (suc k)) = stream-bits channels frames (All-tail (FrameHasBits 32) frame frames have) (pos k)
stream-bits channels frames have (negsuc k) = silence-bits 32 channels

-- a frame that a client records has the bits of its format
pub rec-bits : (tables : Filters) (quality : ℕ) (client device : Settings) (frames : List Frame) (k : ℕ) → IsRate client.rate → HaveBits 32 frames
    → All (FitsBits (bits_of client.format)) (rec (plan_record tables quality client device) tables frames k)
rec-bits tables quality client device frames k rate have =
    let bits = bits_of client.format in
    let way = converting tables quality device client in
    let last = depth_stages bits (channels_of client.layout) in
    let x = stream_of (channels_of device.layout) frames in
    subst (FrameHasBits bits) (sym (through-append tables way last x (pos k)))
    (depth-end-bits tables bits (channels_of client.layout) (through tables unity way x) k (bits_of-above client.format) (bits_of-within client.format)
    (stages-keep tables way x (converting-keeps tables quality device client rate) (stream-bits (channels_of device.layout) frames have)))

-- and so have several
pub recs-bits : (tables : Filters) (quality : ℕ) (client device : Settings) (frames : List Frame) (from count : ℕ) → IsRate client.rate → HaveBits 32 frames
    → HaveBits (bits_of client.format) (recs (plan_record tables quality client device) tables frames from count)
recs-bits tables quality client device frames from count rate have =
    let plan = plan_record tables quality client device in
    All-map (FrameHasBits (bits_of client.format)) (rec plan tables frames) (range_with_len from count)
    (λ i d below. rec-bits tables quality client device frames (get_or (range_with_len from count) i d) rate have)
