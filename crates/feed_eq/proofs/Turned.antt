-- The samples that a section makes, by their places, and a whole pass.
use Rattle.std.proofs.Common.{◌≡◌, ◌<◌, ◌≤◌, ◌+◌, ◌*◌, ◌/◌, ◌%◌, ℕ, ℤ, pos, ◌+ℤ◌, ◌-ℤ◌, List, ◌++◌, length, drop, get_or, inl, inr, sym, ap, ◌∙◌, subst, arith}
use Rattle.std.proofs.Math.Nat.{mul-le-mul_right, div-add-mod', mod-lt, mul-mod_left, mul-div_cancel}
use Rattle.std.proofs.lemmas.Bool.{cases_lt}
use Rattle.std.proofs.lemmas.Int.{ints}
use Rattle.std.proofs.lemmas.List.{ext_get_or, get_or-append-add, get_or_append_left, get_or-take, get_or-drop, length-append, drop_at}
use Rattle.std.proofs.lemmas.List.FromFn.{get_or-map-range_with_len}
use Rattle.pcm_feeder.specs.declared.section.Section.{Section}
use Rattle.pcm_feeder.specs.Sections.{weighed, sample_of, section_frame, section_on}
use Rattle.pcm_feeder.specs.Streams.{silence, stream_of, frames_of, interleaved}
use Rattle.pcm_feeder.proofs.Frames.{frame_in, frames_of-append, frames_of-interleaved, length-frames_of, length-interleaved}
use Rattle.pcm_feeder.proofs.Sections.{next, next-at, next-channels, length-next, behind-next}
use Rattle.feed_eq.specs.declared.lane.Lane.{Lane}
use Rattle.feed_eq.specs.Added.{added}
use Rattle.feed_eq.specs.Lanes.{sample_in, added_by, IsLaneAt, IsPassed, HoldsChannels, PutsFrames, PutsChannels}

-- ---- samples and frames

-- a sample of a frame
frame-sample : (c : ℕ) (samples : List ℤ) (k j : ℕ) → k < length samples / c → j < c → sample_of (stream_of c (frames_of c samples) (pos k)) j ≡ sample_in c samples k j
frame-sample c samples k j below within =
    ap (λ frame. get_or frame j (pos 0)) (get_or-map-range_with_len (frame_in c samples) 0 (length samples / c) k k (silence c) below (omega arith))
    ∙ get_or-take c (drop (k * c) samples) j (pos 0) within
    ∙ get_or-drop (k * c) samples j (pos 0)

-- samples after two frames
pub sample-behind : (c : ℕ) (front samples : List ℤ) (k j : ℕ) → length front ≡ 2 * c → sample_in c (front ++ samples) (k + 2) j ≡ sample_in c samples k j
sample-behind c front samples k j two =
    let place : (k + 2) * c + j ≡ length front + (k * c + j) = omega (arith, two) in
    ap (λ p. get_or (front ++ samples) p (pos 0)) place ∙ get_or-append-add front samples (k * c + j) (pos 0)

-- what a channel adds after the two frames in front
pub lane-front : (section : Section) (c : ℕ) (input output samples made : List ℤ) (channel : ℕ) (lane : Lane) → channel < c → length input ≡ 2 * c → length output ≡ 2 * c
    → IsLaneAt section c input output 0 channel lane → IsLaneAt section c (input ++ samples) (output ++ made) 0 channel lane
lane-front section c input output samples made channel lane within first second at =
    let early : (front behind : List ℤ) (k : ℕ) → k < 2 → length front ≡ 2 * c → sample_in c front k channel ≡ sample_in c (front ++ behind) k channel =
    λ front behind k few two. let low : k * c ≤ 1 * c = mul-le-mul_right c (omega (arith, few)) in
    sym (get_or_append_left front behind (pos 0) (k * c + channel) (omega (arith, low, within, two))) in
    let share : (k : ℕ) → k < 2 → (b a : ℤ) → added_by c input output k channel b a ≡ added_by c (input ++ samples) (output ++ made) k channel b a =
    λ k few b a. ap (λ z. added b a z (sample_in c output k channel)) (early input samples k few first) ∙ ap (added b a (sample_in c (input ++ samples) k channel)) (early output made k few second) in
    record {
      next = at.next
          ∙ ap (λ z. z +ℤ added_by c input output (0 + 1) channel section.b1 section.a1) (share 0 (omega arith) section.b2 section.a2)
          ∙ ap (λ z. added_by c (input ++ samples) (output ++ made) 0 channel section.b2 section.a2 +ℤ z) (share (0 + 1) (omega arith) section.b1 section.a1);
      later = at.later ∙ share (0 + 1) (omega arith) section.b2 section.a2;
    }

-- ---- what a section makes

-- its samples
abbrev pub made_by : Section → ℕ → List ℤ → List ℤ → List ℤ → List ℤ
made_by section c input output samples = interleaved (section_on c section (frames_of c input) (frames_of c output) (frames_of c samples))

-- the frames that two frames of samples are
two-frames : (c : ℕ) (front : List ℤ) → 0 < c → length front ≡ 2 * c → (length (frames_of c front) ≡ 2) × (length front % c ≡ 0)
two-frames c front above two =
    (length-frames_of c front ∙ ap (λ n. n / c) two ∙ mul-div_cancel 2 above, ap (λ n. n % c) two ∙ mul-mod_left 2 c)

-- its frames
on-next : (section : Section) (c : ℕ) (input output samples : List ℤ) → 0 < c → length output ≡ 2 * c
    → section_on c section (frames_of c input) (frames_of c output) (frames_of c samples)
    ≡ next section c (frames_of c output) (stream_of c (frames_of c input ++ frames_of c samples)) (length (frames_of c samples))
on-next section c input output samples above two =
    let given = frames_of c output in
    let x = stream_of c (frames_of c input ++ frames_of c samples) in
    let n = length (frames_of c samples) in
    ap (drop 2) (behind-next section c given x n) ∙ drop_at given (next section c given x n) 2 (two-frames c output above two).0

pub length-made : (section : Section) (c : ℕ) (input output samples : List ℤ) → 0 < c → length output ≡ 2 * c → length samples % c ≡ 0 → length (made_by section c input output samples) ≡ length samples
length-made section c input output samples above two even =
    let given = frames_of c output in
    let x = stream_of c (frames_of c input ++ frames_of c samples) in
    let n = length (frames_of c samples) in
    ap (λ list. length (interleaved list)) (on-next section c input output samples above two)
    ∙ length-interleaved c (next section c given x n) (next-channels section c given x n)
    ∙ ap (λ k. k * c) (length-next section c given x n ∙ length-frames_of c samples)
    ∙ omega (arith, div-add-mod' (length samples) c, even)

-- cut into frames they are its outputs
pub frames-made : (c : ℕ) (section : Section) (input output samples new : List ℤ) → 0 < c → length output ≡ 2 * c → new ≡ made_by section c input output samples
    → frames_of c new ≡ section_on c section (frames_of c input) (frames_of c output) (frames_of c samples)
frames-made c section input output samples new above two is =
    let given = frames_of c output in
    let x = stream_of c (frames_of c input ++ frames_of c samples) in
    let n = length (frames_of c samples) in
    let made = on-next section c input output samples above two in
    ap (frames_of c) is
    ∙ ap (λ list. frames_of c (interleaved list)) made
    ∙ frames_of-interleaved c (next section c given x n) above (next-channels section c given x n)
    ∙ sym made

-- are the outputs of its inputs
pub is-passed : (section : Section) (c : ℕ) (input output samples : List ℤ) → 0 < c → length input ≡ 2 * c → length output ≡ 2 * c → length samples % c ≡ 0
    → IsPassed section c (length samples / c) (input ++ samples) (output ++ made_by section c input output samples)
is-passed section c input output samples above first second even = record {
  each = λ k j below within.
      let made = made_by section c input output samples in
      let given = frames_of c output in
      let list = frames_of c input ++ frames_of c samples in
      let n = length (frames_of c samples) in
      let new = next section c given (stream_of c list) n in
      let count : n ≡ length samples / c = length-frames_of c samples in
      let x_is : frames_of c (input ++ samples) ≡ list = frames_of-append c input samples above (two-frames c input above first).1 in
      let y_is : frames_of c (output ++ made) ≡ given ++ new =
      frames_of-append c output made above (two-frames c output above second).1
      ∙ ap (λ l. given ++ frames_of c (interleaved l)) (on-next section c input output samples above second)
      ∙ ap (λ l. given ++ l) (frames_of-interleaved c new above (next-channels section c given (stream_of c list) n)) in
      let two = (two-frames c output above second).0 in
      let all_x : length (input ++ samples) / c ≡ length samples / c + 2 = sym (length-frames_of c (input ++ samples)) ∙ ap length x_is ∙ length-append (frames_of c input) (frames_of c samples) ∙ omega (arith, count, (two-frames c input above first).0) in
      let all_y : length (output ++ made) / c ≡ length samples / c + 2 = sym (length-frames_of c (output ++ made)) ∙ ap length y_is ∙ length-append given new ∙ omega (arith, count, two, length-next section c given (stream_of c list) n) in
      let in_x : (i : ℕ) → i ≤ 2 → sample_of (stream_of c list (pos (k + i))) j ≡ sample_in c (input ++ samples) (k + i) j =
      λ i few. ap (λ l. sample_of (stream_of c l (pos (k + i))) j) (sym x_is) ∙ frame-sample c (input ++ samples) (k + i) j (omega (arith, below, all_x, few)) within in
      let in_y : (i : ℕ) → i ≤ 2 → sample_of (stream_of c (given ++ new) (pos (k + i))) j ≡ sample_in c (output ++ made) (k + i) j =
      λ i few. ap (λ l. sample_of (stream_of c l (pos (k + i))) j) (sym y_is) ∙ frame-sample c (output ++ made) (k + i) j (omega (arith, below, all_y, few)) within in
      let x = stream_of c list in
      let y = stream_of c (given ++ new) in
      let here : length given + k ≡ k + 2 = omega (arith, two) in
      let back : k + 2 ≡ length given + k = omega (arith, two) in
      let one : (pos (k + 2) -ℤ pos 1) ≡ pos (k + 1) = omega (arith, ints) in
      let none : (pos (k + 2) -ℤ pos 2) ≡ pos (k + 0) = omega (arith, ints) in
      let zero_on : k + 0 ≡ k = omega arith in
      sym (in_y 2 (omega arith))
      ∙ ap (λ i. sample_of (y (pos i)) j) back
      ∙ ap (λ frame. sample_of frame j) (get_or-append-add given new k (silence c) ∙ next-at section c given x n k (silence c) (omega (arith, below, count)))
      ∙ ap (λ i. sample_of (section_frame section c x y (pos i)) j) here
      ∙ get_or-map-range_with_len (λ i. weighed section (sample_of (x (pos (k + 2))) i) (sample_of (x (pos (k + 2) -ℤ pos 1)) i) (sample_of (x (pos (k + 2) -ℤ pos 2)) i) (sample_of (y (pos (k + 2) -ℤ pos 1)) i) (sample_of (y (pos (k + 2) -ℤ pos 2)) i)) 0 c j j (pos 0) within (omega arith)
      ∙ ap (λ p. weighed section (sample_of (x (pos (k + 2))) j) (sample_of (x p) j) (sample_of (x (pos (k + 2) -ℤ pos 2)) j) (sample_of (y p) j) (sample_of (y (pos (k + 2) -ℤ pos 2)) j)) one
      ∙ ap (λ p. weighed section (sample_of (x (pos (k + 2))) j) (sample_of (x (pos (k + 1))) j) (sample_of (x p) j) (sample_of (y (pos (k + 1))) j) (sample_of (y p) j)) none
      ∙ ap (λ v. weighed section v (sample_of (x (pos (k + 1))) j) (sample_of (x (pos (k + 0))) j) (sample_of (y (pos (k + 1))) j) (sample_of (y (pos (k + 0))) j)) (in_x 2 (omega arith))
      ∙ ap (λ v. weighed section (sample_in c (input ++ samples) (k + 2) j) v (sample_of (x (pos (k + 0))) j) (sample_of (y (pos (k + 1))) j) (sample_of (y (pos (k + 0))) j)) (in_x 1 (omega arith))
      ∙ ap (λ v. weighed section (sample_in c (input ++ samples) (k + 2) j) (sample_in c (input ++ samples) (k + 1) j) v (sample_of (y (pos (k + 1))) j) (sample_of (y (pos (k + 0))) j)) (in_x 0 (omega arith) ∙ ap (λ i. sample_in c (input ++ samples) i j) zero_on)
      ∙ ap (λ v. weighed section (sample_in c (input ++ samples) (k + 2) j) (sample_in c (input ++ samples) (k + 1) j) (sample_in c (input ++ samples) k j) v (sample_of (y (pos (k + 0))) j)) (in_y 1 (omega arith))
      ∙ ap (λ v. weighed section (sample_in c (input ++ samples) (k + 2) j) (sample_in c (input ++ samples) (k + 1) j) (sample_in c (input ++ samples) k j) (sample_in c (output ++ made) (k + 1) j) v) (in_y 0 (omega arith) ∙ ap (λ i. sample_in c (output ++ made) i j) zero_on);
}

-- ---- channels in two parts

-- channels that are not turned yet hold their inputs
pub holds-on : (c from to : ℕ) (front y old samples : List ℤ) → to ≤ c → length front ≡ 2 * c → length samples ≡ length old → PutsFrames c 0 from (length old / c) y old samples
    → HoldsChannels c from to (front ++ old) samples
holds-on c from to front y old samples fits two same before = record {
  each = λ k j below least most.
      before.stay k j (subst (λ n. k < n / c) same below) (omega (arith, most, fits)) (inr (inr least)) ∙ sym (sample-behind c front old k j two);
}

-- the ones, and then the others
pub puts-on : (c middle to : ℕ) (y old samples new : List ℤ) → middle ≤ to → to ≤ c → length samples ≡ length old → PutsFrames c 0 middle (length old / c) y old samples → PutsChannels c middle to y samples new
    → PutsFrames c 0 to (length old / c) y old new
puts-on c middle to y old samples new grows fits same before after =
    let there : (k : ℕ) → k < length old / c → k < length samples / c = λ k below. subst (λ n. k < n / c) (sym same) below in
    record {
      put = λ k j below least most. elim (cases_lt j middle) [
        | inl early ↦ after.stay k j (there k below) (omega (arith, most, fits)) (inr (inl early)) ∙ before.put k j below least early
        | inr late ↦ after.put k j (there k below) late most
      ];
      stay = λ k j below within away. elim away [
        | inl past ↦ absurd (omega (arith, below, past))
        | inr column ↦ elim column [
          | inl none ↦ absurd (omega (arith, none))
          | inr behind ↦ after.stay k j (there k below) within (inr (inr behind)) ∙ before.stay k j below within (inr (inr (omega (arith, behind, grows))))
        ]
      ];
    }

-- once all channels are turned the samples are what the section makes
pub all-turned : (section : Section) (c : ℕ) (input output old new : List ℤ) → 0 < c → length output ≡ 2 * c → length old % c ≡ 0 → length new ≡ length old
    → PutsFrames c 0 c (length old / c) (output ++ made_by section c input output old) old new → new ≡ made_by section c input output old
all-turned section c input output old new above two even same puts =
    let made = made_by section c input output old in
    let long = length-made section c input output old above two even in
    ext_get_or (pos 0) new made (same ∙ sym long)
    (λ q below.
    let k = q / c in
    let j = q % c in
    let whole : q ≡ k * c + j = sym (div-add-mod' q c) in
    let within : j < c = mod-lt q above in
    let there : k < length old / c =
    (let all = div-add-mod' (length old) c in
    elim (cases_lt k (length old / c)) [
      | inl less ↦ less
      | inr past ↦ absurd (omega (arith, mul-le-mul_right c past, whole, all, even, below, same))
    ]) in
    ap (λ p. get_or new p (pos 0)) whole ∙ puts.put k j there (omega arith) within ∙ sample-behind c output made k j two ∙ ap (λ p. get_or made p (pos 0)) (sym whole))
