-- The frames of a window: at the begin, after more, and one channel of them.
use Rattle.std.proofs.Common.{◌≡◌, ◌<◌, ◌≤◌, ◌+◌, ◌-◌, ◌*◌, ◌/◌, ℕ, zero, suc, ℤ, pos, List, [], ◌∷◌, ◌++◌, length, map, take, drop, replicate, get_or, refl, sym, ap, ◌∙◌, arith}
use Rattle.std.specs.List.{range_with_len}
use Rattle.std.proofs.lemmas.List.{length-append, length-take-le, drop-drop, drop-append-le, append_assoc, append-nil, take_more, get_or-replicate, length-replicate, length-drop, get_or-take, get_or-drop}
use Rattle.std.proofs.lemmas.List.FromFn.{fill_by_all, get_or-map-range_with_len}
use Rattle.pcm_format.specs.Frames.{Frame}
use Rattle.pcm_format.proofs.Ranges.{map-range-same}
use Rattle.pcm_feeder.specs.Streams.{frames_of, silence, moved_on}
use Rattle.pcm_feeder.proofs.Frames.{frame_in, length-frames_of}
use Rattle.pcm_feeder.proofs.Mapped.{frames-there}
use Rattle.feed_poly.specs.Places.{window_sample, window_frame, frames_from}
use Rattle.feed_poly.specs.Rows.{channel_in}

-- ---- the frames move on

-- by none
pub moved-none : (tail : List Frame) → moved_on tail [] ≡ tail
moved-none tail = append-nil tail

-- by some, and then by more
pub moved-more : (tail some more : List Frame) → moved_on (moved_on tail some) more ≡ moved_on tail (some ++ more)
moved-more tail some more =
    let a = length some in
    let b = length more in
    ap (drop b) (sym (drop-append-le a (tail ++ some) more (omega (arith, length-append tail some))))
    ∙ drop-drop b a ((tail ++ some) ++ more)
    ∙ ap (λ list. drop (a + b) list) (append_assoc tail some more)
    ∙ ap (λ n. drop n (tail ++ (some ++ more))) (sym (length-append some more))

-- frames up to one, and that one
part-more : (from k : ℕ) (list : List Frame) (d : Frame) → from ≤ k → k < length list → drop from (take k list) ++ get_or list k d ∷ [] ≡ drop from (take (k + 1) list)
part-more from k list d order below =
    sym (drop-append-le from (take k list) (get_or list k d ∷ []) (omega (arith, length-take-le k list (omega arith))))
    ∙ ap (drop from) (sym (take_more list k d below))

-- no frames
part-none : (k : ℕ) (list : List Frame) → drop k (take k list) ≡ []
part-none zero list = refl
part-none (suc k) [] = refl
part-none (suc k) (x ∷ list) = part-none k list

pub eaten-none : (tail list : List Frame) (k : ℕ) → tail ≡ moved_on tail (drop k (take k list))
eaten-none tail list k = sym (ap (moved_on tail) (part-none k list) ∙ moved-none tail)

-- a loop takes one frame more in
pub eaten-more : (tail now new : List Frame) (c from k : ℕ) (input : List ℤ) → 0 < c → from ≤ k → (k + 1) * c ≤ length input
    → now ≡ moved_on tail (drop from (take k (frames_of c input))) → new ≡ moved_on now (take (k * c + c - k * c) (drop (k * c) input) ∷ [])
    → new ≡ moved_on tail (drop from (take (k + 1) (frames_of c input)))
eaten-more tail now new c from k input above order there before after =
    let list = frames_of c input in
    let width : k * c + c - k * c ≡ c = omega arith in
    let within : k + 1 ≤ length input / c = frames-there c (length input) (k + 1) above there in
    let below : k < length list = omega (arith, length-frames_of c input) in
    let frame : take (k * c + c - k * c) (drop (k * c) input) ≡ get_or list k [] =
    ap (λ n. take n (drop (k * c) input)) width ∙ sym (get_or-map-range_with_len (frame_in c input) 0 (length input / c) k k [] (omega arith) (omega arith)) in
    after
    ∙ ap (λ f. moved_on now (f ∷ [])) frame
    ∙ ap (λ t. moved_on t (get_or list k [] ∷ [])) before
    ∙ moved-more tail (drop from (take k list)) (get_or list k [] ∷ [])
    ∙ ap (moved_on tail) (part-more from k list [] order below)

-- frames up to a place, then those up to a later one
pub eaten-on : (tail now new list : List Frame) (from to : ℕ) → from ≤ to → now ≡ moved_on tail (take from list) → new ≡ moved_on now (drop from (take to list)) → new ≡ moved_on tail (take to list)
eaten-on tail now new list from to order before after =
    after
    ∙ ap (λ t. moved_on t (drop from (take to list))) before
    ∙ moved-more tail (take from list) (drop from (take to list))
    ∙ ap (moved_on tail) (joined from to list order)
  where
    joined : (from to : ℕ) (list : List Frame) → from ≤ to → take from list ++ drop from (take to list) ≡ take to list
    joined zero to list h = refl
    joined (suc from) zero list h = absurd (omega arith)
    joined (suc from) (suc to) [] h = refl
    joined (suc from) (suc to) (x ∷ list) h = ap (λ rest. x ∷ rest) (joined from to list (omega arith))

-- ---- at the begin

-- silent samples are silent frames
pub silent-frames : (c taps : ℕ) (samples : List ℤ) → 0 < taps → taps ≤ 64 → c ≤ 8 → ((k : ℕ) → k < 1024 → get_or samples k (pos 0) ≡ pos 0)
    → frames_from c taps samples 0 ≡ replicate taps (silence c)
silent-frames c taps samples some most channels silent =
    map-range-same (λ i. window_frame c samples (0 + i)) (λ i. silence c) taps (λ i below. frame i below) ∙ all taps (silence c)
  where
    all : {X : Type 0} (n : ℕ) (x : X) → map (λ i. x) (range_with_len 0 n) ≡ replicate n x
    all n x = sym (fill_by_all (λ i. x) (replicate n x) n x (length-replicate n x) (λ k below. get_or-replicate n k x x below))

    frame : (i : ℕ) → i < taps → window_frame c samples (0 + i) ≡ silence c
    frame i below =
        map-range-same (λ channel. window_sample samples channel (0 + i)) (λ channel. pos 0) c (λ channel less. silent (channel * 128 + (0 + i)) (omega arith)) ∙ all c (pos 0)

-- ---- one channel

-- a part of a list, element by element
pub part-is : (samples : List ℤ) (p n : ℕ) → p + n ≤ length samples → take n (drop p samples) ≡ map (λ i. get_or samples (p + i) (pos 0)) (range_with_len 0 n)
part-is samples p n within =
    fill_by_all (λ i. get_or samples (p + i) (pos 0)) (take n (drop p samples)) n (pos 0) (length-take-le n (drop p samples) (omega (arith, length-drop p samples)))
    (λ k below. get_or-take n (drop p samples) k (pos 0) below ∙ get_or-drop p samples k (pos 0))

-- one function after another
pub map-twice : {X Y Z : Type 0} (f : Y → Z) (g : X → Y) (list : List X) → map f (map g list) ≡ map (λ x. f (g x)) list
map-twice f g [] = refl
map-twice f g (x ∷ list) = ap (λ rest. f (g x) ∷ rest) (map-twice f g list)

-- the samples of a channel lie side by side
pub channel-is : (c taps at channel : ℕ) (samples : List ℤ) → channel < c → c ≤ 8 → at < taps → taps ≤ 64 → length samples ≡ 1024
    → take (channel * 128 + at + taps - (channel * 128 + at)) (drop (channel * 128 + at) samples) ≡ channel_in channel (frames_from c taps samples at)
channel-is c taps at channel samples below most inside fits size =
    let p = channel * 128 + at in
    let width : p + taps - p ≡ taps = omega arith in
    let frames : ℕ → Frame = λ i. window_frame c samples (at + i) in
    ap (λ n. take n (drop p samples)) width
    ∙ part-is samples p taps (omega (arith, size))
    ∙ map-range-same (λ i. get_or samples (p + i) (pos 0)) (λ i. get_or (frames i) channel (pos 0)) taps
    (λ i less.
    let place : p + i ≡ channel * 128 + (at + i) = omega arith in
    ap (λ n. get_or samples n (pos 0)) place ∙ sym (get_or-map-range_with_len (λ n. window_sample samples n (at + i)) 0 c channel channel (pos 0) below (omega arith)))
    ∙ sym (map-twice (λ frame. get_or frame channel (pos 0)) frames (range_with_len 0 taps))
