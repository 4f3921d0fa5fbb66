-- Frames that are put at their gains one by one, in place.
use Rattle.std.proofs.Common.{◌≡◌, ◌<◌, ◌≤◌, ◌+◌, ◌*◌, ◌/◌, ◌%◌, ℕ, ℤ, List, ◌++◌, length, map, take, drop, get_or, sym, ap, ◌∙◌, arith}
use Rattle.std.proofs.Math.Nat.{div-add-mod'}
use Rattle.std.proofs.lemmas.List.{append-nil, drop_all, drop_at, length-map, length-take-le, take_all}
use Rattle.std.proofs.lemmas.List.Elements.{All-map, All-take}
use Rattle.pcm_format.specs.Frames.{Frame}
use Rattle.pcm_feeder.specs.Streams.{frames_of, interleaved, written}
use Rattle.pcm_feeder.proofs.Frames.{frames_of-channels, length-frames_of, length-interleaved}
use Rattle.pcm_feeder.specs.Gains.{at_gains}
use Rattle.pcm_feeder.proofs.AtGains.{length-at_gains}

-- the samples of the first frames, at their gains
length-first : (gains : List ℕ) (k : ℕ) (samples : List ℤ) → k ≤ length samples / length gains
    → length (interleaved (map (at_gains gains) (take k (frames_of (length gains) samples)))) ≡ k * length gains
length-first gains k samples within =
    let n = length gains in
    let all = frames_of n samples in
    let list = take k all in
    let P : Frame → Type 0 = λ frame. length frame ≡ n in
    let have = All-take P k all (frames_of-channels n samples) in
    length-interleaved n (map (at_gains gains) list) (All-map P (at_gains gains) list (λ i d below. length-at_gains gains (get_or list i d) (have i d below)))
    ∙ ap (λ (c : ℕ). c * n) (length-map list (at_gains gains) ∙ length-take-le k all (omega (arith, length-frames_of n samples)))

-- the frames after them are as they were
pub rest-stays : (gains : List ℕ) (k : ℕ) (samples now : List ℤ) → k + 1 ≤ length samples / length gains
    → now ≡ written (map (at_gains gains) (take k (frames_of (length gains) samples))) samples → drop (k * length gains) now ≡ drop (k * length gains) samples
rest-stays gains k samples now within is =
    let n = length gains in
    let made = interleaved (map (at_gains gains) (take k (frames_of n samples))) in
    let long = length-first gains k samples (omega arith) in
    ap (drop (k * n)) is ∙ drop_at made (drop (length made) samples) (k * n) long ∙ ap (λ (c : ℕ). drop c samples) long

-- in the end all are at their gains
pub faded-all : (gains : List ℕ) (k : ℕ) (samples : List ℤ) → 0 < length gains → length samples % length gains ≡ 0 → length samples / length gains ≤ k
    → written (map (at_gains gains) (take k (frames_of (length gains) samples))) samples ≡ interleaved (map (at_gains gains) (frames_of (length gains) samples))
faded-all gains k samples above even past =
    let n = length gains in
    let all = frames_of n samples in
    let end = length-first gains (length samples / n) samples (omega arith) in
    let count = length-frames_of n samples in
    let whole = take_all k all (omega (arith, count)) in
    let joined = interleaved (map (at_gains gains) all) in
    let long : length joined ≡ length samples / n * n = ap (λ (list : List Frame). length (interleaved (map (at_gains gains) list))) (sym (take_all (length samples / n) all (omega (arith, count)))) ∙ end in
    ap (λ (list : List Frame). written (map (at_gains gains) list) samples) whole
    ∙ ap (λ (rest : List ℤ). joined ++ rest) (drop_all (length joined) samples (omega (arith, long, div-add-mod' (length samples) n)))
    ∙ append-nil joined
