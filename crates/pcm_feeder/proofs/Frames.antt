-- Interleaved samples and frames: cut, joined, and loaded from bytes.
use Rattle.std.proofs.Common.{◌≡◌, ◌<◌, ◌≤◌, ◌+◌, ◌*◌, ◌/◌, ◌%◌, ℕ, zero, suc, ℤ, List, [], ◌∷◌, ◌++◌, length, map, take, drop, get_or, refl, sym, ap, ◌∙◌, arith}
use Rattle.std.specs.List.{range_with_len}
use Rattle.std.proofs.Math.Nat.{mul-le-mul_right, mul-div_cancel, add-mul-div_right, div-add-mod', zero-div, mod_self, div-div-eq-div-mul}
use Rattle.std.proofs.Math.Seq.{take-add, drop-append-add}
use Rattle.std.proofs.lemmas.List.{length-take, length-drop, length-append, take-append-le, drop-append-le, drop-drop, take_at, append_assoc, take_all, map-append, append-nil}
use Rattle.std.proofs.lemmas.List.Concat.{flat_map-append}
use Rattle.std.proofs.lemmas.List.Elements.{All-head, All-tail, All-map}
use Rattle.std.proofs.lemmas.List.FromFn.{length-map-range_with_len, get_or-range_with_len, length-range_with_len, take-map-range_with_len}
use Rattle.pcm_format.proofs.Ranges.{map-range-same, map-range-shift, map-range-add, part-of-range}
use Rattle.pcm_format.proofs.Streams.{length-samples}
use Rattle.pcm_format.specs.declared.settings.Settings.{Settings}
use Rattle.pcm_format.specs.Formats.{bytes_of}
use Rattle.pcm_format.specs.Layouts.{channels_of}
use Rattle.pcm_format.specs.Samples.{sample_at, samples}
use Rattle.pcm_format.specs.Frames.{Frame, frame_at, frames}
use Rattle.pcm_feeder.specs.Streams.{HaveChannels, frames_of, interleaved, written}

-- ---- frames

-- frame k of interleaved samples
abbrev pub frame_in : ℕ → List ℤ → ℕ → Frame
frame_in channels samples k = take channels (drop (k * channels) samples)

-- samples hold as many frames as they have whole parts of that size
pub length-frames_of : (c : ℕ) (samples : List ℤ) → length (frames_of c samples) ≡ length samples / c
length-frames_of c samples = length-map-range_with_len (frame_in c samples) 0 (length samples / c)

-- whole frames have no part left
whole : (c n : ℕ) → n % c ≡ 0 → n / c * c ≡ n
whole c n even = omega (arith, div-add-mod' n c)

-- frames from frame a on, joined again
joined-from : (c : ℕ) (samples : List ℤ) (a n : ℕ) → interleaved (map (frame_in c samples) (range_with_len a n)) ≡ take (n * c) (drop (a * c) samples)
joined-from c samples a zero = let none : zero * c ≡ 0 = omega arith in rw none refl
joined-from c samples a (suc n) =
    let next : a * c + c ≡ (a + 1) * c = omega arith in
    let all : c + n * c ≡ suc n * c = omega arith in
    ap (λ rest. frame_in c samples a ++ rest) (joined-from c samples (a + 1) n ∙ ap (λ m. take (n * c) (drop m samples)) (sym next) ∙ ap (take (n * c)) (sym (drop-drop c (a * c) samples)))
    ∙ sym (take-add c (n * c) (drop (a * c) samples))
    ∙ ap (λ m. take m (drop (a * c) samples)) all

-- whole frames, joined again, are the samples
pub interleaved-frames_of : (c : ℕ) (samples : List ℤ) → length samples % c ≡ 0 → interleaved (frames_of c samples) ≡ samples
interleaved-frames_of c samples even =
    let start : 0 * c ≡ 0 = omega arith in
    joined-from c samples 0 (length samples / c)
    ∙ ap (λ m. take (length samples / c * c) (drop m samples)) start
    ∙ take_all (length samples / c * c) samples (omega (arith, whole c (length samples) even))

-- the first frames, joined again, are the first samples
pub interleaved-take : (c n : ℕ) (samples : List ℤ) → n ≤ length samples / c → interleaved (take n (frames_of c samples)) ≡ take (n * c) samples
interleaved-take c n samples within =
    let start : 0 * c ≡ 0 = omega arith in
    ap interleaved (take-map-range_with_len (frame_in c samples) 0 (length samples / c) n within)
    ∙ joined-from c samples 0 n
    ∙ ap (λ m. take (n * c) (drop m samples)) start

-- each frame of whole frames has its channels
pub frames_of-channels : (c : ℕ) (samples : List ℤ) → HaveChannels c (frames_of c samples)
frames_of-channels c samples =
    let n = length samples / c in
    let P : Frame → Type 0 = λ frame. length frame ≡ c in
    All-map P (frame_in c samples) (range_with_len 0 n)
    (λ i d below.
    let here : i < n = omega (arith, length-range_with_len 0 n) in
    let place : get_or (range_with_len 0 n) i d ≡ i = get_or-range_with_len 0 n i d here ∙ omega arith in
    rw place (omega (arith, length-take c (drop (i * c) samples), length-drop (i * c) samples, mul-le-mul_right c here, div-add-mod' (length samples) c)))

-- frames of samples that more follow
pub frames_of-append : (c : ℕ) (samples more : List ℤ) → 0 < c → length samples % c ≡ 0 → frames_of c (samples ++ more) ≡ frames_of c samples ++ frames_of c more
frames_of-append c samples more above even =
    let n = length samples / c in
    let m = length more / c in
    let same = whole c (length samples) even in
    let all : length (samples ++ more) ≡ length more + n * c = omega (arith, length-append samples more) in
    let count : length (samples ++ more) / c ≡ n + m = ap (λ z. z / c) all ∙ add-mul-div_right (length more) n above ∙ omega arith in
    let none : n + 0 ≡ n = omega arith in
    ap (λ z. map (frame_in c (samples ++ more)) (range_with_len 0 z)) count
    ∙ map-range-add (frame_in c (samples ++ more)) 0 n m
    ∙ ap (λ front. front ++ map (frame_in c (samples ++ more)) (range_with_len (0 + n) m))
    (map-range-same (frame_in c (samples ++ more)) (frame_in c samples) n (λ i below. frame_in-append c samples more i (omega (arith, mul-le-mul_right c below))))
    ∙ ap (λ back. frames_of c samples ++ back)
    (ap (λ s. map (frame_in c (samples ++ more)) (range_with_len s m)) (omega arith)
    ∙ sym (map-range-shift (frame_in c (samples ++ more)) n 0 m)
    ∙ map-range-same (λ i. frame_in c (samples ++ more) (n + i)) (frame_in c more) m (λ i below. frame_in-past c samples more n i (sym same)))
  where
    frame_in-append : (c : ℕ) (samples more : List ℤ) (i : ℕ) → i * c + c ≤ length samples → frame_in c (samples ++ more) i ≡ frame_in c samples i
    frame_in-append c samples more i within =
        ap (take c) (drop-append-le (i * c) samples more (omega arith))
        ∙ take-append-le c (drop (i * c) samples) more (omega (arith, length-drop (i * c) samples))

    frame_in-past : (c : ℕ) (samples more : List ℤ) (n i : ℕ) → length samples ≡ n * c → frame_in c (samples ++ more) (n + i) ≡ frame_in c more i
    frame_in-past c samples more n i same =
        let place : (n + i) * c ≡ length samples + i * c = omega arith in
        ap (λ z. take c (drop z (samples ++ more))) place ∙ ap (take c) (drop-append-add samples more (i * c))

-- one frame
pub frames_of-one : (c : ℕ) (frame : Frame) → 0 < c → length frame ≡ c → frames_of c frame ≡ frame ∷ []
frames_of-one c frame above has =
    let one : length frame / c ≡ 1 = ap (λ z. z / c) (omega arith) ∙ mul-div_cancel 1 above in
    let start : 0 * c ≡ 0 = omega arith in
    ap (λ z. map (frame_in c frame) (range_with_len 0 z)) one
    ∙ ap (λ z. take c (drop z frame) ∷ []) start
    ∙ ap (λ f. f ∷ []) (take_all c frame (omega arith))

-- joined frames have the samples of them all
pub length-interleaved : (c : ℕ) (list : List Frame) → HaveChannels c list → length (interleaved list) ≡ length list * c
length-interleaved c [] have = omega arith
length-interleaved c (frame ∷ list) have =
    let P : Frame → Type 0 = λ f. length f ≡ c in
    omega (arith, length-append frame (interleaved list), All-head P frame list have, length-interleaved c list (All-tail P frame list have))

-- joined frames, cut again, are the frames
pub frames_of-interleaved : (c : ℕ) (list : List Frame) → 0 < c → HaveChannels c list → frames_of c (interleaved list) ≡ list
frames_of-interleaved c [] above have = let none : 0 / c ≡ 0 = zero-div c in ap (λ z. map (frame_in c []) (range_with_len 0 z)) none
frames_of-interleaved c (frame ∷ list) above have =
    let P : Frame → Type 0 = λ f. length f ≡ c in
    let head = All-head P frame list have in
    frames_of-append c frame (interleaved list) above (ap (λ n. n % c) head ∙ mod_self c)
    ∙ ap (λ front. front ++ frames_of c (interleaved list)) (frames_of-one c frame above head)
    ∙ ap (λ rest. frame ∷ rest) (frames_of-interleaved c list above (All-tail P frame list have))

-- a function of each sample, on the joined frames
pub interleaved-map : (f : ℤ → ℤ) (list : List Frame) → interleaved (map (map f) list) ≡ map f (interleaved list)
interleaved-map f [] = refl
interleaved-map f (frame ∷ list) = ap (λ rest. map f frame ++ rest) (interleaved-map f list) ∙ sym (map-append f frame (interleaved list))

-- the samples of bytes, cut into frames, are the frames of the bytes
pub frames_of-samples : (settings : Settings) (bytes : List ℕ) → frames_of (channels_of settings.layout) (samples settings.format bytes) ≡ frames settings bytes
frames_of-samples settings bytes =
    let c = channels_of settings.layout in
    let w = bytes_of settings.format in
    let n = length bytes / w in
    let count : length (samples settings.format bytes) / c ≡ length bytes / (c * w) =
    ap (λ z. z / c) (length-samples settings.format bytes) ∙ div-div-eq-div-mul (length bytes) w c ∙ ap (λ z. length bytes / z) (omega arith) in
    map-range-same (frame_in c (samples settings.format bytes)) (frame_at settings bytes) (length (samples settings.format bytes) / c)
    (λ k below. part-of-range (sample_at settings.format bytes) (k * c) c n
    (omega (arith, mul-le-mul_right c below, div-add-mod' (length (samples settings.format bytes)) c, length-samples settings.format bytes)))
    ∙ ap (λ z. map (frame_at settings bytes) (range_with_len 0 z)) count

-- one more frame after those that were written
pub written-more : (list : List Frame) (frame : Frame) (old : List ℤ) (n : ℕ) → length (interleaved list) ≡ n
    → take n (written list old) ++ (frame ++ drop (n + length frame) (written list old)) ≡ written (list ++ frame ∷ []) old
written-more list frame old n count =
    let joined = interleaved list in
    let rest = drop (length joined) old in
    let all : interleaved (list ++ frame ∷ []) ≡ joined ++ frame = flat_map-append (λ f. f) list (frame ∷ []) ∙ ap (λ l. joined ++ l) (append-nil frame) in
    let place : n + length frame ≡ length joined + length frame = ap (λ k. k + length frame) (sym count) in
    ap (λ l. l ++ (frame ++ drop (n + length frame) (written list old))) (take_at joined rest n count)
    ∙ ap (λ k. joined ++ (frame ++ drop k (joined ++ rest))) place
    ∙ ap (λ l. joined ++ (frame ++ l)) (drop-append-add joined rest (length frame) ∙ drop-drop (length frame) (length joined) old)
    ∙ sym (append_assoc joined frame (drop (length joined + length frame) old))
    ∙ ap (λ k. (joined ++ frame) ++ drop k old) (sym (length-append joined frame))
    ∙ ap (λ l. l ++ drop (length l) old) (sym all)
