-- Weighted sums, and rows of weights that are filled from their front.
use Rattle.std.proofs.Common.{◌≡◌, ◌<◌, ◌≤◌, ◌+◌, ◌^◌, ℕ, suc, ℤ, pos, negsuc, neg_ℤ, ◌+ℤ◌, ◌*ℤ◌, ◌≤ℤ◌, List, [], ◌∷◌, ◌++◌, length, map, take, set, get_or, Some, slice_get, FitsSigned, w32, refl, sym, ap, ◌∙◌, arith}
use Rattle.std.specs.Simd.Lanes.{zip2}
use Rattle.std.proofs.Math.Nat.{mul-le-mul_right}
use Rattle.std.proofs.lemmas.Int.{ints}
use Rattle.std.proofs.lemmas.List.{length-map, length-take-le, get_or-map, get_or-take, map-append, take_more, take_more_set}
use Rattle.std.proofs.lemmas.List.Sums.{fold-append}
use Rattle.std.proofs.lemmas.Option.{slice_get_within, get_or_from_slice_get}
use Rattle.pcm_num.specs.Floor.{floor_div}
use Rattle.pcm_num.specs.Limit.{clamped}
use Rattle.pcm_format.specs.Frames.{Frame}
use Rattle.pcm_format.specs.Layouts.{channels_of, positions_of}
use Rattle.pcm_format.specs.declared.layout.Layout.{Layout}
use Rattle.pcm_format.specs.declared.layout.Position.{Position}
use Rattle.pcm_format.proofs.Streams.{channels_of-most, length-positions}
use Rattle.pcm_feeder.specs.Layouts.{weight, gathered, in_layout}
use Rattle.pcm_feeder.specs.Sums.{sum_of}
use Rattle.feed_matrix.specs.Weights.{row_of, weighted_sum, AreWeights}

-- ---- sums

-- the bounds of a sample times a weight
pub weighted-low : (w : ℕ) (x : ℤ) → w ≤ 65536 → FitsSigned w32 x → neg_ℤ (pos (2 ^ 47)) ≤ℤ (pos w *ℤ x)
weighted-low w (pos n) most fits = omega (arith, ints)
weighted-low w (negsuc n) most fits = omega (arith, ints, fits, mul-le-mul_right {m = w} {n = 65536} (suc n) most)

pub weighted-high : (w : ℕ) (x : ℤ) → w ≤ 65536 → FitsSigned w32 x → (pos w *ℤ x) ≤ℤ pos (2 ^ 47)
weighted-high w (pos n) most fits = omega (arith, ints, fits, mul-le-mul_right {m = w} {n = 65536} n most)
weighted-high w (negsuc n) most fits = omega (arith, ints)

-- two lists, each one longer
zip-more : {A B C : Type 0} (f : A → B → C) (xs : List A) (ys : List B) (x : A) (y : B) → length xs ≡ length ys
    → zip2 f (xs ++ x ∷ []) (ys ++ y ∷ []) ≡ zip2 f xs ys ++ f x y ∷ []
zip-more f [] [] x y same = refl
zip-more f [] (b ∷ ys) x y same = absurd (omega arith)
zip-more f (a ∷ xs) [] x y same = absurd (omega arith)
zip-more f (a ∷ xs) (b ∷ ys) x y same = ap (λ rest. f a b ∷ rest) (zip-more f xs ys x y (omega arith))

-- one sample more
pub weighted_sum-more : (row : List ℕ) (frame : Frame) (i : ℕ) → i < length row → i < length frame
    → weighted_sum (take (i + 1) row) (take (i + 1) frame) ≡ (weighted_sum (take i row) (take i frame) +ℤ (pos (get_or row i 0) *ℤ get_or frame i (pos 0)))
weighted_sum-more row frame i h k =
    let f : ℕ → ℤ → ℤ = λ w x. pos w *ℤ x in
    let same : length (take i row) ≡ length (take i frame) = length-take-le i row (omega arith) ∙ sym (length-take-le i frame (omega arith)) in
    ap (λ l. weighted_sum l (take (i + 1) frame)) (take_more row i 0 h)
    ∙ ap (λ l. weighted_sum (take i row ++ get_or row i 0 ∷ []) l) (take_more frame i (pos 0) k)
    ∙ ap sum_of (zip-more f (take i row) (take i frame) (get_or row i 0) (get_or frame i (pos 0)) same)
    ∙ fold-append ◌+ℤ◌ (pos 0) (zip2 f (take i row) (take i frame)) (f (get_or row i 0) (get_or frame i (pos 0)) ∷ [])

-- ---- rows

-- by the weights of each position
zip-row : (w : Position → ℕ) (positions : List Position) (frame : Frame)
    → zip2 (λ weight sample. pos weight *ℤ sample) (map w positions) frame ≡ zip2 (λ source sample. pos (w source) *ℤ sample) positions frame
zip-row w [] frame = refl
zip-row w (p ∷ positions) [] = refl
zip-row w (p ∷ positions) (x ∷ frame) = ap (λ rest. (pos (w p) *ℤ x) ∷ rest) (zip-row w positions frame)

-- the sample of a position, by its row
pub row-gathers : (from to : Layout) (target : Position) (frame : Frame)
    → clamped 32 (floor_div (weighted_sum (row_of from to target) frame) 65536) ≡ gathered from to target frame
row-gathers from to target frame =
    ap (λ list. clamped 32 (floor_div (sum_of list) 65536)) (zip-row (weight to target) (positions_of from) frame)

-- ---- lists filled from their front

-- one element more
pub filled-more : {X : Type 0} (list out : List X) (i : ℕ) (x d : X) → i < length out → i < length list → x ≡ get_or list i d
    → take i out ≡ take i list → take (i + 1) (set out i x) ≡ take (i + 1) list
filled-more list out i x d room within is before =
    take_more_set out i x room ∙ ap (λ front. front ++ x ∷ []) before ∙ ap (λ y. take i list ++ y ∷ []) is ∙ sym (take_more list i d within)

-- one row more
pub filled-rows : (from to : Layout) (rows : List (List ℕ)) (i : ℕ) (row : List ℕ) (target : Position) → i < length rows → slice_get (positions_of to) i ≡ Some target
    → take (channels_of from) row ≡ row_of from to target → map (take (channels_of from)) (take i rows) ≡ take i (map (row_of from to) (positions_of to))
    → map (take (channels_of from)) (take (i + 1) (set rows i row)) ≡ take (i + 1) (map (row_of from to) (positions_of to))
filled-rows from to rows i row target room read is before =
    let all = map (row_of from to) (positions_of to) in
    let there = slice_get_within (positions_of to) i target read in
    let place = ap (row_of from to) (sym (get_or_from_slice_get (positions_of to) i target target read)) ∙ sym (get_or-map (row_of from to) (positions_of to) i target [] there) in
    ap (map (take (channels_of from))) (take_more_set rows i row room) ∙ map-append (take (channels_of from)) (take i rows) (row ∷ [])
    ∙ ap (λ front. front ++ take (channels_of from) row ∷ []) before ∙ ap (λ x. take i all ++ x ∷ []) (is ∙ place)
    ∙ sym (take_more all i [] (omega (arith, there, length-map (positions_of to) (row_of from to))))

-- a row of weights
pub row-at : (from to : Layout) (rows : List (List ℕ)) (at : ℕ) (d : Position) → AreWeights from to rows → at < length (positions_of to)
    → take (channels_of from) (get_or rows at []) ≡ row_of from to (get_or (positions_of to) at d)
row-at from to rows at d are there =
    let within : at < channels_of to = omega (arith, there, length-positions to) in
    let front = take (channels_of to) rows in
    let count : length front ≡ channels_of to = length-take-le (channels_of to) rows (omega (arith, are.count, channels_of-most to)) in
    sym (get_or-map (take (channels_of from)) front at [] [] (omega (arith, within, count)) ∙ ap (take (channels_of from)) (get_or-take (channels_of to) rows at [] within))
    ∙ ap (λ list. get_or list at []) are.fronts ∙ get_or-map (row_of from to) (positions_of to) at d [] there

-- ---- frames

-- a frame in another layout has a sample for each of its positions
pub length-in_layout : (from to : Layout) (frame : Frame) → length (in_layout from to frame) ≡ channels_of to
length-in_layout from to frame = length-map (positions_of to) (λ target. gathered from to target frame) ∙ length-positions to
