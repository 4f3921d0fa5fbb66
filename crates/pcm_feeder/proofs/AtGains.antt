-- Frames at the gains of their channels.
use Rattle.std.proofs.Common.{◌≡◌, ◌<◌, ◌+◌, ℕ, zero, suc, ℤ, pos, ◌*ℤ◌, List, [], ◌∷◌, ◌++◌, length, map, take, get_or, set, refl, sym, ap, ◌∙◌, arith}
use Rattle.std.specs.Simd.Lanes.{zip2}
use Rattle.std.proofs.lemmas.Simd.{length-zip2}
use Rattle.std.proofs.lemmas.List.{take_more_set}
use Rattle.std.proofs.lemmas.List.Elements.{All-head, All-tail}
use Rattle.pcm_num.specs.Floor.{floor_div}
use Rattle.pcm_num.proofs.Floors.{floor_div-mul}
use Rattle.pcm_format.specs.Frames.{Frame}
use Rattle.pcm_format.specs.Layouts.{channels_of, positions_of}
use Rattle.pcm_format.specs.declared.layout.Layout.{Layout}
use Rattle.pcm_format.specs.declared.layout.Position.{Position}
use Rattle.pcm_format.specs.declared.layout.Position.TheVariants.{M, FL, FR, FC, LFE, BL, BR, SL, SR}
use Rattle.pcm_format.proofs.Streams.{length-positions}
use Rattle.pcm_feeder.specs.declared.stage.Gain.{Gain}
use Rattle.pcm_feeder.specs.Layouts.{side_gain, at_gain}
use Rattle.pcm_feeder.specs.Streams.{HaveChannels}
use Rattle.pcm_feeder.specs.Gains.{scaled, at_gains}

-- ---- a gain for each channel

-- one sample more
gains-suc : (gains : List ℕ) (frame : Frame) (i : ℕ) → i < length gains → i < length frame
    → at_gains (take (suc i) gains) (take (suc i) frame) ≡ at_gains (take i gains) (take i frame) ++ scaled (get_or gains i 0) (get_or frame i (pos 0)) ∷ []
gains-suc [] frame i h k = absurd (omega arith)
gains-suc (g ∷ gains) [] i h k = absurd (omega arith)
gains-suc (g ∷ gains) (x ∷ frame) zero h k = refl
gains-suc (g ∷ gains) (x ∷ frame) (suc i) h k = ap (λ rest. scaled g x ∷ rest) (gains-suc gains frame i (omega arith) (omega arith))

gains-more : (gains : List ℕ) (frame : Frame) (i : ℕ) → i < length gains → i < length frame
    → at_gains (take (i + 1) gains) (take (i + 1) frame) ≡ at_gains (take i gains) (take i frame) ++ scaled (get_or gains i 0) (get_or frame i (pos 0)) ∷ []
gains-more gains frame i h k =
    let on : i + 1 ≡ suc i = omega arith in
    ap (λ n. at_gains (take n gains) (take n frame)) on ∙ gains-suc gains frame i h k

-- and it is written
pub put-sample : (gains : List ℕ) (frame output : Frame) (i : ℕ) (v : ℤ) → i < length gains → i < length frame → i < length output
    → v ≡ scaled (get_or gains i 0) (get_or frame i (pos 0)) → take i output ≡ at_gains (take i gains) (take i frame)
    → take (i + 1) (set output i v) ≡ at_gains (take (i + 1) gains) (take (i + 1) frame)
put-sample gains frame output i v h k room is before =
    take_more_set output i v room ∙ ap (λ front. front ++ v ∷ []) before ∙ ap (λ x. at_gains (take i gains) (take i frame) ++ x ∷ []) is
    ∙ sym (gains-more gains frame i h k)

-- a frame has as many samples as before
pub length-at_gains : (gains : List ℕ) (frame : Frame) → length frame ≡ length gains → length (at_gains gains frame) ≡ length gains
length-at_gains gains frame same = length-zip2 scaled gains frame (omega arith)

-- ---- a gain of one on both sides

side-unity : (gain : Gain) (position : Position) → gain.left ≡ 65536 → gain.right ≡ 65536 → side_gain gain position ≡ 65536
side-unity gain M l r = omega arith
side-unity gain FL l r = l
side-unity gain FR l r = r
side-unity gain FC l r = omega arith
side-unity gain LFE l r = omega arith
side-unity gain BL l r = l
side-unity gain BR l r = r
side-unity gain SL l r = l
side-unity gain SR l r = r

zip-unity : (gain : Gain) (positions : List Position) (frame : Frame) → gain.left ≡ 65536 → gain.right ≡ 65536 → length frame ≡ length positions
    → zip2 (λ position sample. floor_div (sample *ℤ pos (side_gain gain position)) 65536) positions frame ≡ frame
zip-unity gain [] [] l r same = refl
zip-unity gain [] (x ∷ frame) l r same = absurd (omega arith)
zip-unity gain (p ∷ positions) [] l r same = absurd (omega arith)
zip-unity gain (p ∷ positions) (x ∷ frame) l r same =
    ap (λ first. first ∷ zip2 (λ position sample. floor_div (sample *ℤ pos (side_gain gain position)) 65536) positions frame)
    (ap (λ g. floor_div (x *ℤ pos g) 65536) (side-unity gain p l r) ∙ floor_div-mul x 65536 (omega arith))
    ∙ ap (λ rest. x ∷ rest) (zip-unity gain positions frame l r (omega arith))

-- changes no frame
pub unity-same : (layout : Layout) (gain : Gain) (list : List Frame) → gain.left ≡ 65536 → gain.right ≡ 65536 → HaveChannels (channels_of layout) list
    → map (at_gain layout gain) list ≡ list
unity-same layout gain [] l r have = refl
unity-same layout gain (frame ∷ list) l r have =
    let P : Frame → Type 0 = λ f. length f ≡ channels_of layout in
    ap (λ first. first ∷ map (at_gain layout gain) list)
    (zip-unity gain (positions_of layout) frame l r (omega (arith, All-head P frame list have, length-positions layout)))
    ∙ ap (λ rest. frame ∷ rest) (unity-same layout gain list l r (All-tail P frame list have))
