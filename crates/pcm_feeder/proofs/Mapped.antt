-- Frames that are put through a function one by one, and written one after another.
use Rattle.std.proofs.Common.{◌≡◌, ◌<◌, ◌≤◌, ◌+◌, ◌*◌, ◌/◌, ℕ, ℤ, List, [], ◌∷◌, ◌++◌, length, map, take, drop, get_or, sym, ap, ◌∙◌, arith}
use Rattle.std.proofs.Math.Nat.{le-div_iff_mul-le}
use Rattle.std.proofs.lemmas.List.{length-map, length-take-le, drop-drop, map-append}
use Rattle.std.proofs.lemmas.List.Elements.{All-map, All-take}
use Rattle.std.proofs.lemmas.List.FromFn.{take-map-range_with_len, map-range_with_len_more}
use borrow.Rule.Slice.PartMut.{put_mid}
use Rattle.pcm_format.specs.Frames.{Frame}
use Rattle.pcm_feeder.specs.Streams.{frames_of, interleaved, written}
use Rattle.pcm_feeder.proofs.Frames.{frame_in, frames_of-channels, length-interleaved, length-frames_of, written-more}

-- one frame more of interleaved samples
take-more : (c k : ℕ) (samples : List ℤ) → k + 1 ≤ length samples / c → take (k + 1) (frames_of c samples) ≡ take k (frames_of c samples) ++ frame_in c samples k ∷ []
take-more c k samples within =
    let n = length samples / c in
    take-map-range_with_len (frame_in c samples) 0 n (k + 1) within
    ∙ map-range_with_len_more (frame_in c samples) 0 k k (omega arith)
    ∙ ap (λ list. list ++ frame_in c samples k ∷ []) (sym (take-map-range_with_len (frame_in c samples) 0 n k (omega arith)))

-- the samples that come of the first k frames
length-first : (f : Frame → Frame) (taken given k : ℕ) (samples : List ℤ) → ((frame : Frame) → length frame ≡ taken → length (f frame) ≡ given) → k ≤ length samples / taken
    → length (interleaved (map f (take k (frames_of taken samples)))) ≡ k * given
length-first f taken given k samples gives within =
    let list = take k (frames_of taken samples) in
    let Takes : Frame → Type 0 = λ frame. length frame ≡ taken in
    let Gives : Frame → Type 0 = λ frame. length frame ≡ given in
    let have = All-take Takes k (frames_of taken samples) (frames_of-channels taken samples) in
    length-interleaved given (map f list) (All-map Gives f list (λ i d below. gives (get_or list i d) (have i d below)))
    ∙ ap (λ n. n * given) (length-map list f ∙ length-take-le k (frames_of taken samples) (omega (arith, length-frames_of taken samples)))

-- one frame more is written
pub put-more : (f : Frame → Frame) (taken given k : ℕ) (samples old output piece : List ℤ) → ((frame : Frame) → length frame ≡ taken → length (f frame) ≡ given) → k + 1 ≤ length samples / taken
    → output ≡ written (map f (take k (frames_of taken samples))) old → piece ≡ f (frame_in taken samples k) → length piece ≡ given
    → put_mid (k * given) given output piece ≡ written (map f (take (k + 1) (frames_of taken samples))) old
put-more f taken given k samples old output piece gives within before is long =
    let frames = take k (frames_of taken samples) in
    let list = map f frames in
    ap (λ out. put_mid (k * given) given out piece) before
    ∙ ap (λ rest. take (k * given) (written list old) ++ (piece ++ rest)) (drop-drop given (k * given) (written list old))
    ∙ ap (λ n. take (k * given) (written list old) ++ (piece ++ drop (k * given + n) (written list old))) (sym long)
    ∙ written-more list piece old (k * given) (length-first f taken given k samples gives (omega arith))
    ∙ ap (λ frame. written (list ++ frame ∷ []) old) is
    ∙ ap (λ all. written all old) (sym (map-append f frames (frame_in taken samples k ∷ [])) ∙ ap (map f) (sym (take-more taken k samples within)))

-- k frames whose samples are all there are whole
pub frames-there : (c n k : ℕ) → 0 < c → k * c ≤ n → k ≤ n / c
frames-there c n k above fits = (le-div_iff_mul-le {k = c} {x = k} {y = n} above).1 fits
