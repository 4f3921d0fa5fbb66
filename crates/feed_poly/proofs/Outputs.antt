-- The next frames of a feeder, out of the frames in its window.
use Rattle.std.proofs.Common.{◌≡◌, ◌<◌, ◌≤◌, ◌+◌, ◌*◌, ◌/◌, ℕ, zero, suc, ℤ, pos, ◌+ℤ◌, ◌-ℤ◌, ◌*ℤ◌, List, [], ◌∷◌, ◌++◌, length, map, take, drop, get_or, IsSomeAnd, slice_get, refl, sym, ap, ◌∙◌, arith}
use Rattle.std.specs.List.{range_with_len}
use Rattle.std.specs.Simd.Lanes.{zip2}
use Rattle.std.proofs.Math.Seq.{take-append-add}
use Rattle.std.proofs.lemmas.Int.{ints}
use Rattle.std.proofs.lemmas.List.{get_or-drop, get_or-take, length-take-le, length-drop, length-append}
use Rattle.std.proofs.lemmas.List.FromFn.{fill_by_all, length-map-range_with_len}
use Rattle.std.proofs.Math.Nat.{mul-le-mul_right}
use Rattle.pcm_sequence.specs.Fixed.{fixed_items}
use Rattle.pcm_format.specs.Frames.{Frame}
use Rattle.pcm_format.proofs.Ranges.{map-range-same}
use Rattle.pcm_feeder.specs.declared.table.Table.{Table}
use Rattle.pcm_feeder.specs.Sums.{sum_of, scaled_down}
use Rattle.pcm_feeder.specs.Limits.{IsTable}
use Rattle.pcm_feeder.specs.Stages.{coef, filtered, filtered_frame}
use Rattle.pcm_feeder.specs.Streams.{Stream, silence, stream_of, moved_on}
use Rattle.feed_poly.specs.declared.window.Window.{Window}
use Rattle.feed_poly.specs.Places.{window_frame}
use Rattle.feed_poly.specs.Rows.{row_in, channel_in, weighted, row_frame}
use Rattle.feed_poly.specs.Window.{window_frames}
use Rattle.feed_poly.proofs.Windows.{part-is, map-twice}

-- ---- one row

-- products of two lists that are made from functions of the index
zip-range : (f : ℤ → ℤ → ℤ) (g h : ℕ → ℤ) (a n : ℕ) → zip2 f (map g (range_with_len a n)) (map h (range_with_len a n)) ≡ map (λ i. f (g i) (h i)) (range_with_len a n)
zip-range f g h a zero = refl
zip-range f g h a (suc n) = ap (λ rest. f (g a) (h a) ∷ rest) (zip-range f g h (a + 1) n)

-- a channel of frames, by the frames
channel-by : (channel n : ℕ) (frames : List Frame) (d : Frame) → length frames ≡ n → channel_in channel frames ≡ map (λ i. get_or (get_or frames i d) channel (pos 0)) (range_with_len 0 n)
channel-by channel n frames d long =
    ap (channel_in channel) (fill_by_all (λ i. get_or frames i d) frames n d long (λ k below. refl))
    ∙ map-twice (λ frame. get_or frame channel (pos 0)) (λ i. get_or frames i d) (range_with_len 0 n)

-- frames that lie around a place, through a row, are what the filter gives there
filtered-is : (table : Table) (taps row channel : ℕ) (frames : List Frame) (d : Frame) (near : Stream) → table.taps ≡ taps → row * taps + taps ≤ length table.coefs → length frames ≡ taps
    → ((i : ℕ) → i < taps → get_or frames i d ≡ near (pos (i + 1) -ℤ pos (taps / 2)))
    → scaled_down table.shift (weighted (row_in table row) (channel_in channel frames)) ≡ filtered table taps row near channel
filtered-is table taps row channel frames d near has fits long lies =
    let coefs : row_in table row ≡ map (coef table row) (range_with_len 0 taps) =
    ap (λ n. take n (drop (row * table.taps) table.coefs)) has
    ∙ part-is table.coefs (row * table.taps) taps (omega (arith, fits, ap (λ n. row * n) has)) in
    ap (λ list. scaled_down table.shift (weighted list (channel_in channel frames))) coefs
    ∙ ap (λ list. scaled_down table.shift (weighted (map (coef table row) (range_with_len 0 taps)) list)) (channel-by channel taps frames d long)
    ∙ ap (λ list. scaled_down table.shift (sum_of list))
    (zip-range ◌*ℤ◌ (coef table row) (λ i. get_or (get_or frames i d) channel (pos 0)) 0 taps
    ∙ map-range-same (λ i. coef table row i *ℤ get_or (get_or frames i d) channel (pos 0))
    (λ i. coef table row i *ℤ get_or (near (pos (i + 1) -ℤ pos (taps / 2))) channel (pos 0)) taps
    (λ i below. ap (λ frame. coef table row i *ℤ get_or frame channel (pos 0)) (lies i below)))

-- ---- the window around an output

-- a frame of the window, among those kept before and those that come
frame-in : (tail list : List Frame) (e i : ℕ) (d : Frame) → e ≤ length list → i < length tail → get_or (moved_on tail (take e list)) i d ≡ get_or (tail ++ list) (e + i) d
frame-in tail list e i d within below =
    let long : length (take e list) ≡ e = length-take-le e list within in
    ap (λ n. get_or (drop n (tail ++ take e list)) i d) long
    ∙ get_or-drop e (tail ++ take e list) i d
    ∙ ap (λ all. get_or all (e + i) d) (sym (take-append-add tail list e))
    ∙ get_or-take (length tail + e) (tail ++ list) (e + i) d (omega arith)

-- what a row makes of the frames of a window is the filter's output there
pub output-is : (filter : Table) (taps c dst parts row shift needed : ℕ) (coefs : List ℤ) (before now list : List Frame)
    → IsTable filter → filter.taps ≡ taps → length now ≡ taps → needed ≤ length list → now ≡ moved_on before (take needed list)
    → row ≡ parts * filter.phases / dst → row < filter.phases → coefs ≡ row_in filter row → shift ≡ filter.shift
    → row_frame shift coefs c now ≡ filtered_frame filter taps c dst parts (λ a. stream_of c (before ++ list) (pos (taps + needed) -ℤ pos (1 + taps / 2) +ℤ a))
output-is filter taps c dst parts row shift needed coefs before now list is has long within moved which there coefs_is shift_is =
    let near : Stream = λ a. stream_of c (before ++ list) (pos (taps + needed) -ℤ pos (1 + taps / 2) +ℤ a) in
    let d = silence c in
    let next : row + 1 ≤ filter.phases = omega arith in
    let fits : row * taps + taps ≤ length filter.coefs = omega (arith, is.coefs, mul-le-mul_right taps next, ap (λ n. filter.phases * n) has) in
    let even : taps ≡ 2 * (taps / 2) = rw has at is.taps.even in
    let count : length now ≡ length before = ap length moved ∙ omega (arith, length-drop (length (take needed list)) (before ++ take needed list), length-append before (take needed list)) in
    let lies : (i : ℕ) → i < taps → get_or now i d ≡ near (pos (i + 1) -ℤ pos (taps / 2)) = λ i below.
    let here : pos (needed + i) ≡ (pos (taps + needed) -ℤ pos (1 + taps / 2) +ℤ (pos (i + 1) -ℤ pos (taps / 2))) = omega (arith, ints, even) in
    ap (λ frames. get_or frames i d) moved ∙ frame-in before list needed i d within (omega (arith, long, count, below)) ∙ ap (stream_of c (before ++ list)) here in
    ap (λ n. row_frame n coefs c now) shift_is
    ∙ ap (λ l. row_frame filter.shift l c now) coefs_is
    ∙ map-range-same (λ channel. scaled_down filter.shift (weighted (row_in filter row) (channel_in channel now))) (filtered filter taps row near) c
    (λ channel less. filtered-is filter taps row channel now d near has fits long lies)
    ∙ ap (λ r. map (filtered filter taps r near) (range_with_len 0 c)) which

-- the window has as many frames as the filter has taps
pub window-taps : (window : Window) → length (window_frames window) ≡ window.taps
window-taps window = length-map-range_with_len (λ i. window_frame window.channels (fixed_items window.samples) (window.at + i)) 0 window.taps

-- ---- the filter

-- a table that is found is there
pub table-there : (list : List Table) (place : ℕ) (P : Table → Type 0) → IsSomeAnd (slice_get list place) P → place < length list
table-there [] place P h = absurd h
table-there (x ∷ list) zero P h = omega arith
table-there (x ∷ list) (suc k) P h = let below = table-there list k P h in omega (arith, below)

-- and has what it was asked for
pub table-has : (list : List Table) (place : ℕ) (P : Table → Type 0) (d : Table) → IsSomeAnd (slice_get list place) P → P (get_or list place d)
table-has [] place P d h = absurd h
table-has (x ∷ list) zero P d h = h
table-has (x ∷ list) (suc k) P d h = table-has list k P d h
