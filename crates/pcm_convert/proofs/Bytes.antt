-- The bytes of a converted body, block by block.
use Rattle.std.proofs.Common.{◌≡◌, ◌≤◌, ◌+◌, ◌-◌, ◌*◌, ℕ, zero, suc, List, ◌++◌, length, map, take, drop, refl, sym, ap, ◌∙◌, arith}
use Rattle.std.specs.List.{range_with_len}
use Rattle.std.proofs.Math.Nat.{mul-le-mul_right}
use Rattle.std.proofs.Math.Seq.{take-add}
use Rattle.std.proofs.lemmas.List.{take_all}
use Rattle.std.proofs.lemmas.List.Elements.{All-drop}
use Rattle.pcm_format.specs.declared.settings.Settings.{Settings}
use Rattle.pcm_format.specs.Frames.{Frame, frame_bytes, frames, spelled_frames}
use Rattle.pcm_format.specs.Layouts.{channels_of}
use Rattle.pcm_format.proofs.Ranges.{map-range-shift, part-of-range}
use Rattle.pcm_feeder.specs.Layouts.{unity}
use Rattle.pcm_feeder.specs.Limits.{IsRate}
use Rattle.pcm_feeder.specs.Streams.{HaveChannels}
use Rattle.pcm_plan.specs.Through.{rec, recs}
use Rattle.pcm_plan.proofs.Through.{length-outs, outs-channels}
use Rattle.pcm_convert.specs.Conversions.{block_after, block_count, conversion_plan, all_converted, converted_body, converted_frames}
use Rattle.pcm_feeder.specs.Filters.{no_filters}
use Rattle.pcm_convert.proofs.Blocks.{conversion-fits}
use Rattle.pcm_convert.proofs.Bodies.{bytes-drop, bytes-take, frames-channels, length-bytes}

-- a part of a list that a function makes
part-from : {X : Type 0} (g : ℕ → X) (given n all : ℕ) → n ≤ all - given → take n (drop given (map g (range_with_len 0 all))) ≡ map g (range_with_len given n)
part-from g given zero all within = refl
part-from g given (suc n) all within =
    let start : given + 0 ≡ given = omega arith in
    part-of-range g given (suc n) all (omega arith) ∙ map-range-shift g given 0 (suc n) ∙ ap (λ s. map g (range_with_len s (suc n))) start

-- converted frames have the channels of the target
converted-channels : (source target : Settings) (bytes : List ℕ) → IsRate source.rate → IsRate target.rate → HaveChannels (channels_of target.layout) (all_converted source target bytes)
converted-channels source target bytes from to =
    outs-channels (conversion_plan source target) no_filters unity (frames source bytes) 0 (converted_frames source target bytes)
    (conversion-fits source target from to) (frames-channels source bytes)

-- how many bytes a converted body has
pub length-body : (source target : Settings) (bytes : List ℕ) → IsRate source.rate → IsRate target.rate
    → length (converted_body source target bytes) ≡ converted_frames source target bytes * frame_bytes target
length-body source target bytes from to =
    length-bytes target.format (channels_of target.layout) (all_converted source target bytes) (converted-channels source target bytes from to)
    ∙ ap (λ n. n * frame_bytes target) (length-outs (conversion_plan source target) no_filters unity (frames source bytes) 0 (converted_frames source target bytes))

-- a block is the bytes of the next frames
pub block-frames : (source target : Settings) (bytes : List ℕ) (given : ℕ) → IsRate source.rate → IsRate target.rate
    → block_after source target bytes given ≡ spelled_frames target.format (take (block_count source target bytes given) (drop given (all_converted source target bytes)))
block-frames source target bytes given from to =
    let n = block_count source target bytes given in
    let c = channels_of target.layout in
    let all = all_converted source target bytes in
    let have = converted-channels source target bytes from to in
    ap (take (n * frame_bytes target)) (bytes-drop target.format c given all have)
    ∙ bytes-take target.format c n (drop given all) (All-drop (λ (frame : Frame). length frame ≡ c) given all have)

-- which are those that the plan gives from there on
pub block-recs : (source target : Settings) (bytes : List ℕ) (given n : ℕ) → IsRate source.rate → IsRate target.rate → n ≡ block_count source target bytes given
    → spelled_frames target.format (recs (conversion_plan source target) no_filters (frames source bytes) given n) ≡ block_after source target bytes given
block-recs source target bytes given n from to count =
    let all = converted_frames source target bytes in
    let within : block_count source target bytes given ≤ all - given = omega arith in
    ap (λ k. spelled_frames target.format (recs (conversion_plan source target) no_filters (frames source bytes) given k)) count
    ∙ ap (spelled_frames target.format)
    (sym (part-from (rec (conversion_plan source target) no_filters (frames source bytes)) given (block_count source target bytes given) all within))
    ∙ sym (block-frames source target bytes given from to)

-- it stands after those before it
pub block-joined : (source target : Settings) (bytes : List ℕ) (given : ℕ)
    → take (given * frame_bytes target) (converted_body source target bytes) ++ block_after source target bytes given
    ≡ take ((given + block_count source target bytes given) * frame_bytes target) (converted_body source target bytes)
block-joined source target bytes given =
    let n = block_count source target bytes given in
    let z = frame_bytes target in
    let body = converted_body source target bytes in
    let sum : given * z + n * z ≡ (given + n) * z = omega arith in
    sym (take-add (given * z) (n * z) body) ∙ ap (λ m. take m body) sum

-- and once all frames were given they are the whole body
pub blocks-whole : (source target : Settings) (bytes : List ℕ) (given : ℕ) → IsRate source.rate → IsRate target.rate → converted_frames source target bytes ≤ given
    → take (given * frame_bytes target) (converted_body source target bytes) ≡ converted_body source target bytes
blocks-whole source target bytes given from to all =
    take_all (given * frame_bytes target) (converted_body source target bytes)
    (omega (arith, length-body source target bytes from to, mul-le-mul_right (frame_bytes target) all))
