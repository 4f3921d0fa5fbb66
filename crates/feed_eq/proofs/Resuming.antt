-- What an equaliser keeps, as samples one after another.
use Rattle.std.proofs.Common.{◌≡◌, ◌<◌, ◌≤◌, ◌+◌, ◌*◌, ◌%◌, ℕ, ℤ, List, [], ◌∷◌, ◌++◌, length, take, drop, get_or, set, sym, ap, ◌∙◌, append_assoc, arith}
use Rattle.std.proofs.Math.Nat.{mul-mod_left, mul-le-mul_right}
use Rattle.std.proofs.Math.Seq.{take-add}
use Rattle.std.proofs.lemmas.List.{append-nil, length-append, length-take-le, take_at, take_more}
use Rattle.std.proofs.lemmas.List.Concat.{flat_map-append}
use borrow.Rule.Slice.PartMut.{put_mid, post_of}
use Rattle.pcm_format.specs.Frames.{Frame}
use Rattle.pcm_feeder.specs.declared.last_frames.LastFrames.{LastFrames}
use Rattle.pcm_feeder.specs.LastFrames.{frames_kept}
use Rattle.pcm_feeder.specs.Streams.{frames_of, interleaved}
use Rattle.pcm_feeder.proofs.Frames.{frames_of-append, interleaved-frames_of}
use Rattle.feed_eq.specs.Pairs.{pair_frames}
use Rattle.feed_eq.proofs.Equalising.{front-more}

-- the samples of the pairs before one
abbrev pub pair_at : ℕ → ℕ → ℕ
pair_at c at = at * (2 * c)

next-at : (c at : ℕ) → pair_at c (at + 1) ≡ pair_at c at + 2 * c
next-at c at = omega arith

whole-at : (c at : ℕ) → pair_at c at % c ≡ 0
whole-at c at =
    let parts : pair_at c at ≡ 2 * at * c = omega arith in
    ap (λ n. n % c) parts ∙ mul-mod_left (2 * at) c

-- each pair lies within the samples of them all
pub pair-within : (c at sections long : ℕ) → at < sections + 1 → long ≡ (2 + 2 * sections) * c → pair_at c at + 2 * c ≤ long
pair-within c at sections long below all =
    let past : at + 1 ≤ sections + 1 = omega (arith, below) in
    omega (arith, mul-le-mul_right (2 * c) past, all)

-- ---- copied

-- pairs up to one, and that one
with-next : (at : ℕ) (lasts : List LastFrames) (d : LastFrames) → at < length lasts
    → pair_frames (take (at + 1) lasts) ≡ pair_frames (take at lasts) ++ frames_kept (get_or lasts at d)
with-next at lasts d below =
    ap pair_frames (take_more lasts at d below)
    ∙ flat_map-append frames_kept (take at lasts) (get_or lasts at d ∷ [])
    ∙ ap (λ list. pair_frames (take at lasts) ++ list) (append-nil (frames_kept (get_or lasts at d)))

-- one pair more is copied behind them
pub copied-next : (c at : ℕ) (lasts : List LastFrames) (d : LastFrames) (old piece : List ℤ) → at < length lasts
    → pair_at c at + 2 * c ≤ length old
    → take (pair_at c at) old ≡ interleaved (pair_frames (take at lasts)) → frames_of c piece ≡ frames_kept (get_or lasts at d)
    → length piece ≡ 2 * c
    → take (pair_at c (at + 1)) (put_mid (pair_at c at) (2 * c) old piece) ≡ interleaved (pair_frames (take (at + 1) lasts))
copied-next c at lasts d old piece below room before same two =
    let a = pair_at c at in
    let front = take a old in
    let done = pair_frames (take at lasts) in
    let seam : length (front ++ piece) ≡ pair_at c (at + 1) =
    omega (arith, length-append front piece, length-take-le a old (omega (arith, room)), two, next-at c at) in
    ap (take (pair_at c (at + 1))) (sym (append_assoc front piece (post_of a (2 * c) old)))
    ∙ take_at (front ++ piece) (post_of a (2 * c) old) (pair_at c (at + 1)) seam
    ∙ ap (λ list. list ++ piece) before
    ∙ ap (λ list. interleaved done ++ list) (sym (interleaved-frames_of c piece (ap (λ n. n % c) two ∙ mul-mod_left 2 c)) ∙ ap interleaved same)
    ∙ sym (flat_map-append (λ (frame : Frame). frame) done (frames_kept (get_or lasts at d)))
    ∙ ap interleaved (sym (with-next at lasts d below))

-- ---- gone on from

-- one pair more is the next samples
pub taken-next : (c at : ℕ) (lasts : List LastFrames) (new : LastFrames) (samples : List ℤ) → 0 < c → at < length lasts
    → pair_at c at + 2 * c ≤ length samples → pair_frames (take at lasts) ≡ frames_of c (take (pair_at c at) samples)
    → frames_kept new ≡ frames_of c (take (2 * c) (drop (pair_at c at) samples))
    → pair_frames (take (at + 1) (set lasts at new)) ≡ frames_of c (take (pair_at c (at + 1)) samples)
taken-next c at lasts new samples above below room before is =
    let a = pair_at c at in
    let front = take a samples in
    let even : length front % c ≡ 0 = ap (λ n. n % c) (length-take-le a samples (omega (arith, room))) ∙ whole-at c at in
    front-more at lasts new below
    ∙ ap (λ list. list ++ frames_kept new) before
    ∙ ap (λ list. frames_of c front ++ list) is
    ∙ sym (frames_of-append c front (take (2 * c) (drop a samples)) above even)
    ∙ ap (frames_of c) (sym (take-add a (2 * c) samples))
    ∙ ap (λ n. frames_of c (take n samples)) (sym (next-at c at))
