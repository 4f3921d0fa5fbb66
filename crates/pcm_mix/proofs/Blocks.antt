-- A block mixed onto a block: its length, its samples, its parts.
use Rattle.std.proofs.Common.{◌≡◌, ◌<◌, ◌≤◌, ◌+◌, ◌-◌, ℕ, zero, suc, ℤ, ◌+ℤ◌, List, [], ◌∷◌, ◌++◌, length, take, drop, set, get_or, refl, sym, ap, ◌∙◌, arith}
use Rattle.std.proofs.Math.Seq.{take-add}
use Rattle.std.proofs.lemmas.List.{append-nil, append_assoc, drop_all, drop_at, drop-drop, length-drop, length-take, length-take-le, take-append-drop, take_at}
use Rattle.std.proofs.lemmas.Slice.{between_to_end}
use Rattle.std.proofs.lemmas.List.Elements.{All-nil, All-cons}
use Rattle.std.specs.Prelude.{All}
use Rattle.std.specs.List.{between}
use borrow.Rule.Slice.PartMut.{put_mid}
use Rattle.pcm_num.specs.Limit.{FitsBits}
use Rattle.pcm_num.proofs.Limits.{clamped-fits}
use Rattle.pcm_mix.specs.Mix.{limited_sum, mixed}

-- each sum fits the bits
pub mixed-fits : (bits : ℕ) (acc add : List ℤ) → All (FitsBits bits) (mixed bits acc add)
mixed-fits bits [] add = All-nil (FitsBits bits)
mixed-fits bits (x ∷ xs) [] = All-nil (FitsBits bits)
mixed-fits bits (x ∷ xs) (y ∷ ys) =
    All-cons (FitsBits bits) (limited_sum bits x y) (mixed bits xs ys) (clamped-fits bits (x +ℤ y)) (mixed-fits bits xs ys)

-- a mixed block is as long as the block before
pub length-mixed : (bits : ℕ) (acc add : List ℤ) → length acc ≡ length add → length (mixed bits acc add) ≡ length acc
length-mixed bits [] add h = refl
length-mixed bits (x ∷ xs) [] h = absurd (omega arith)
length-mixed bits (x ∷ xs) (y ∷ ys) h = let ih = length-mixed bits xs ys (omega arith) in omega arith

-- blocks that are joined are mixed each by itself
pub mixed-append : (bits : ℕ) (acc more add other : List ℤ) → length acc ≡ length add
    → mixed bits (acc ++ more) (add ++ other) ≡ mixed bits acc add ++ mixed bits more other
mixed-append bits [] more [] other h = refl
mixed-append bits [] more (y ∷ ys) other h = absurd (omega arith)
mixed-append bits (x ∷ xs) more [] other h = absurd (omega arith)
mixed-append bits (x ∷ xs) more (y ∷ ys) other h =
    ap (λ zs. limited_sum bits x y ∷ zs) (mixed-append bits xs more ys other (omega arith))

-- a sample of the mixed block
pub get_or-mixed : (bits : ℕ) (acc add : List ℤ) (i : ℕ) (d : ℤ) → i < length acc → i < length add
    → get_or (mixed bits acc add) i d ≡ limited_sum bits (get_or acc i d) (get_or add i d)
get_or-mixed bits [] add i d h k = absurd (omega arith)
get_or-mixed bits (x ∷ xs) [] i d h k = absurd (omega arith)
get_or-mixed bits (x ∷ xs) (y ∷ ys) zero d h k = refl
get_or-mixed bits (x ∷ xs) (y ∷ ys) (suc i) d h k = get_or-mixed bits xs ys i d (omega arith) (omega arith)

-- a walk over both blocks: one sample more is mixed, and the rest is still to mix
pub mixed-step : (bits : ℕ) (xs ys : List ℤ) (i : ℕ) (v d : ℤ) → i < length xs → i < length ys
    → v ≡ limited_sum bits (get_or xs i d) (get_or ys i d)
    → take (suc i) (set xs i v) ++ mixed bits (drop (suc i) (set xs i v)) (drop (suc i) ys) ≡ take i xs ++ mixed bits (drop i xs) (drop i ys)
mixed-step bits [] ys i v d h k e = absurd (omega arith)
mixed-step bits (x ∷ xs) [] i v d h k e = absurd (omega arith)
mixed-step bits (x ∷ xs) (y ∷ ys) zero v d h k e = ap (λ z. z ∷ mixed bits xs ys) e
mixed-step bits (x ∷ xs) (y ∷ ys) (suc i) v d h k e =
    ap (λ zs. x ∷ zs) (mixed-step bits xs ys i v d (omega arith) (omega arith) e)

-- the two ends of blocks are mixed each by itself
pub mixed-parts : (bits k : ℕ) (acc add : List ℤ) → length acc ≡ length add
    → mixed bits (take k acc) (take k add) ++ mixed bits (drop k acc) (drop k add) ≡ mixed bits acc add
mixed-parts bits k acc add h =
    sym (mixed-append bits (take k acc) (drop k acc) (take k add) (drop k add) (omega (arith, length-take k acc, length-take k add)))
    ∙ (λ i. mixed bits (take-append-drop k acc i) (take-append-drop k add i))

-- a walk over both blocks by several samples at once: of a block that is mixed up to a place, so many samples more are mixed
pub mixed-more : (bits at more : ℕ) (acc add before : List ℤ) → length acc ≡ length add → at ≤ length acc
    → before ≡ mixed bits (take at acc) (take at add) ++ drop at acc
    → take at before ++ (mixed bits (take more (drop at before)) (take more (drop at add)) ++ drop more (drop at before))
    ≡ mixed bits (take (at + more) acc) (take (at + more) add) ++ drop (at + more) acc
mixed-more bits at more acc add before h k e =
    let front = mixed bits (take at acc) (take at add) in
    let next = mixed bits (take more (drop at acc)) (take more (drop at add)) in
    let long : length front ≡ at =
    length-mixed bits (take at acc) (take at add) (omega (arith, length-take at acc, length-take at add)) ∙ length-take-le at acc k in
    let front_is : take at before ≡ front = ap (take at) e ∙ take_at front (drop at acc) at long in
    let back_is : drop at before ≡ drop at acc = ap (drop at) e ∙ drop_at front (drop at acc) at long in
    let joined : mixed bits (take (at + more) acc) (take (at + more) add) ≡ front ++ next =
    (λ i. mixed bits (take-add at more acc i) (take-add at more add i))
    ∙ mixed-append bits (take at acc) (take more (drop at acc)) (take at add) (take more (drop at add)) (omega (arith, length-take at acc, length-take at add)) in
    (λ i. front_is i ++ (mixed bits (take more (back_is i)) (take more (drop at add)) ++ drop more (back_is i)))
    ∙ sym (append_assoc front next (drop more (drop at acc)))
    ∙ (λ i. sym joined i ++ drop-drop more at acc i)

-- the end of a block, as a slice
abbrev end_of : ℕ → List ℤ → List ℤ
end_of at xs = between at (length xs) xs

end-of : (at : ℕ) (xs : List ℤ) → end_of at xs ≡ drop at xs
end-of at xs = between_to_end xs at (length xs) (omega arith)

put-end : (at : ℕ) (xs ys : List ℤ) → put_mid at (length xs - at) xs ys ≡ take at xs ++ ys
put-end at xs ys =
    ap (λ more. take at xs ++ (ys ++ more)) (drop_all (length xs - at) (drop at xs) (omega (arith, length-drop at xs))) ∙ ap (λ piece. take at xs ++ piece) (append-nil ys)

-- the same where the samples are mixed in the ends of both blocks
pub mixed-in_end : (bits at more : ℕ) (acc add before piece : List ℤ) → length acc ≡ length add → at ≤ length acc
    → before ≡ mixed bits (take at acc) (take at add) ++ drop at acc
    → piece ≡ mixed bits (take more (end_of at before)) (take more (end_of at add)) ++ drop more (end_of at before)
    → put_mid at (length before - at) before piece ≡ mixed bits (take (at + more) acc) (take (at + more) add) ++ drop (at + more) acc
mixed-in_end bits at more acc add before piece h k e p =
    put-end at before piece
    ∙ ap (λ end. take at before ++ end) (p ∙ (λ i. mixed bits (take more (end-of at before i)) (take more (end-of at add i)) ++ drop more (end-of at before i)))
    ∙ mixed-more bits at more acc add before h k e

-- and where all the samples left are
pub mixed-end : (bits at : ℕ) (acc add before piece : List ℤ) → length acc ≡ length add → at ≤ length acc
    → before ≡ mixed bits (take at acc) (take at add) ++ drop at acc
    → piece ≡ mixed bits (end_of at before) (end_of at add)
    → put_mid at (length before - at) before piece ≡ mixed bits acc add
mixed-end bits at acc add before piece h k e p =
    let front = mixed bits (take at acc) (take at add) in
    let long = length-mixed bits (take at acc) (take at add) (omega (arith, length-take at acc, length-take at add)) ∙ length-take-le at acc k in
    put-end at before piece
    ∙ ap (λ end. take at before ++ end) (p ∙ (λ i. mixed bits (end-of at before i) (end-of at add i)))
    ∙ (λ i. take at (e i) ++ mixed bits (drop at (e i)) (drop at add))
    ∙ (λ i. take_at front (drop at acc) at long i ++ mixed bits (drop_at front (drop at acc) at long i) (drop at add))
    ∙ mixed-parts bits at acc add h
