-- Two frames side by side, out of two kept and those that come.
use Rattle.std.proofs.Common.{◌≡◌, ◌≤◌, ◌<◌, ◌+◌, ◌-◌, ◌*◌, ◌/◌, ◌%◌, ℕ, ℤ, pos, List, ◌++◌, length, take, drop, get_or, sym, ap, ◌∙◌, arith}
use Rattle.std.proofs.Math.Nat.{mul-mod_left}
use Rattle.std.proofs.Math.Seq.{drop-append-add, take-append_seam}
use Rattle.std.proofs.lemmas.List.{take-take, take-append-le, drop-append-le, drop-drop, drop-take, drop_at, length-drop, length-append}
use Rattle.std.proofs.lemmas.List.FromFn.{get_or-map-range_with_len}
use Rattle.pcm_feeder.specs.Streams.{frames_of, stream_of, silence}
use Rattle.pcm_feeder.proofs.Frames.{frame_in, frames_of-append}
use Rattle.pcm_feeder.proofs.Mapped.{frames-there}

-- a frame among both, by where its samples begin
frame-at : (c place at : ℕ) (kept input : List ℤ) → 0 < c → length kept ≡ 2 * c → place * c ≡ at → at + c ≤ length kept + length input
    → take c (drop at (kept ++ input)) ≡ stream_of c (frames_of c kept ++ frames_of c input) (pos place)
frame-at c place at kept input above two begins there =
    let all = kept ++ input in
    let even : length kept % c ≡ 0 = ap (λ n. n % c) two ∙ mul-mod_left 2 c in
    let next : place + 1 ≤ length all / c = frames-there c (length all) (place + 1) above (omega (arith, length-append kept input, begins)) in
    let below : place < length all / c = omega arith in
    ap (λ n. take c (drop n all)) (sym begins)
    ∙ sym (get_or-map-range_with_len (frame_in c all) 0 (length all / c) place place (silence c) below (omega arith))
    ∙ ap (λ frames. get_or frames place (silence c)) (frames_of-append c kept input above even)

-- the first one kept, and the second
pub first-kept : (c place : ℕ) (kept input : List ℤ) → 0 < c → length kept ≡ 2 * c → place ≡ 0 → take c kept ≡ stream_of c (frames_of c kept ++ frames_of c input) (pos place)
first-kept c place kept input above two is =
    sym (take-append-le c kept input (omega (arith, two))) ∙ frame-at c place 0 kept input above two (omega (arith, ap (λ n. n * c) is)) (omega (arith, two))

pub second-kept : (c place : ℕ) (kept input : List ℤ) → 0 < c → length kept ≡ 2 * c → place ≡ 1 → drop c kept ≡ stream_of c (frames_of c kept ++ frames_of c input) (pos place)
second-kept c place kept input above two is =
    let long : length (drop c kept) ≡ c = omega (arith, length-drop c kept, two) in
    sym (take-append_seam (drop c kept) input) ∙ ap (λ n. take n (drop c kept ++ input)) long
    ∙ ap (take c) (sym (drop-append-le c kept input (omega (arith, two))))
    ∙ frame-at c place c kept input above two (omega (arith, ap (λ n. n * c) is)) (omega (arith, two))

-- the first that comes
pub first-come : (c place : ℕ) (kept input : List ℤ) → 0 < c → length kept ≡ 2 * c → place ≡ 2 → c ≤ length input
    → take c input ≡ stream_of c (frames_of c kept ++ frames_of c input) (pos place)
first-come c place kept input above two is there =
    ap (take c) (sym (drop_at kept input (2 * c) two)) ∙ frame-at c place (2 * c) kept input above two (omega (arith, ap (λ n. n * c) is)) (omega (arith, two))

-- and two that come side by side
pub pair-first : (c place : ℕ) (kept input : List ℤ) → 0 < c → length kept ≡ 2 * c → 2 ≤ place → place * c ≤ length input
    → take c (take ((place - 2) * c + 2 * c - (place - 2) * c) (drop ((place - 2) * c) input)) ≡ stream_of c (frames_of c kept ++ frames_of c input) (pos place)
pair-first c place kept input above two behind there =
    let at = (place - 2) * c in
    let back : place ≡ place - 2 + 2 = omega arith in
    let begins : place * c ≡ length kept + at = omega (arith, two, ap (λ n. n * c) back) in
    take-take c (at + 2 * c - at) (drop at input) (omega arith)
    ∙ ap (take c) (sym (drop-append-add kept input at))
    ∙ frame-at c place (length kept + at) kept input above two begins (omega (arith, two, begins))

pub pair-next : (c place : ℕ) (kept input : List ℤ) → 0 < c → length kept ≡ 2 * c → 2 ≤ place → place * c ≤ length input
    → drop c (take ((place - 2) * c + 2 * c - (place - 2) * c) (drop ((place - 2) * c) input)) ≡ stream_of c (frames_of c kept ++ frames_of c input) (pos (place + 1))
pair-next c place kept input above two behind there =
    let at = (place - 2) * c in
    let back : place ≡ place - 2 + 2 = omega arith in
    let width : at + 2 * c - at ≡ c + c = omega arith in
    let begins : (place + 1) * c ≡ length kept + (at + c) = omega (arith, two, ap (λ n. n * c) back) in
    ap (λ n. drop c (take n (drop at input))) width
    ∙ drop-take c c (drop at input)
    ∙ ap (take c) (drop-drop c at input ∙ sym (drop-append-add kept input (at + c)))
    ∙ frame-at c (place + 1) (length kept + (at + c)) kept input above two begins (omega (arith, two, begins))
