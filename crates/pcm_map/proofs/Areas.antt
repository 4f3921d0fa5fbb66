-- The bytes of an area, taken in turn: in parts, and in one row.
use Rattle.std.proofs.Common.{◌≡◌, ℕ, ◌+◌, ◌-◌, ◌%◌, ◌<◌, ◌≤◌, true, cond, min, List, ◌++◌, length, map, take, drop, get_or, inl, inr, sym, ap, ◌∙◌, arith, length-append, length-take, length-drop}
use Rattle.std.specs.List.{range_with_len}
use Rattle.std.specs.Prelude.{nat_le}
use Rattle.std.proofs.Math.Nat.{mod-add-mod, mod-eq_of_lt, mod_self}
use Rattle.std.proofs.lemmas.Bool.{cases_lt}
use Rattle.std.proofs.Math.Seq.{take-append-add}
use Rattle.std.proofs.lemmas.Bool.Decides.{nat_tests}
use Rattle.std.proofs.lemmas.List.{append_assoc, drop-take, get_or-take, get_or-drop, take-take}
use Rattle.std.proofs.lemmas.List.FromFn.{fill_by_all, length-map-range_with_len}
use Rattle.pcm_format.proofs.Ranges.{map-range-same, map-range-shift, map-range-add}
use Rattle.pcm_sound.specs.Areas.{area_bytes, poked}

-- as many as were asked for
pub length-area_bytes : (area : List ℕ) (from count : ℕ) → length (area_bytes area from count) ≡ count
length-area_bytes area from count = length-map-range_with_len (λ place. get_or area (place % length area) 0) from count

-- in two parts
pub area-add : (area : List ℕ) (from n m : ℕ) → area_bytes area from (n + m) ≡ area_bytes area from n ++ area_bytes area (from + n) m
area-add area from n m = map-range-add (λ place. get_or area (place % length area) 0) from n m

-- place by place
area-places : (area : List ℕ) (from count : ℕ) → area_bytes area from count ≡ map (λ i. get_or area ((from + i) % length area) 0) (range_with_len 0 count)
area-places area from count =
    let start : from + 0 ≡ from = omega arith in
    ap (λ s. map (λ place. get_or area (place % length area) 0) (range_with_len s count)) (sym start)
    ∙ sym (map-range-shift (λ place. get_or area (place % length area) 0) from 0 count)

-- whole turns before them change none
pub area-turned : (area : List ℕ) (from count : ℕ) → area_bytes area (from % length area) count ≡ area_bytes area from count
area-turned area from count =
    area-places area (from % length area) count
    ∙ map-range-same (λ i. get_or area ((from % length area + i) % length area) 0) (λ i. get_or area ((from + i) % length area) 0) count
    (λ i below. ap (λ place. get_or area place 0) (mod-add-mod from (length area) i))
    ∙ sym (area-places area from count)

-- after the last byte comes the first
area-round : (area : List ℕ) (count : ℕ) → area_bytes area (length area) count ≡ area_bytes area 0 count
area-round area count = sym (area-turned area (length area) count) ∙ ap (λ from. area_bytes area from count) (mod_self (length area))

-- before the end they stand in one row
pub area-row : (area : List ℕ) (from count : ℕ) → from + count ≤ length area → take count (drop from area) ≡ area_bytes area from count
area-row area from count within =
    fill_by_all (λ i. get_or area ((from + i) % length area) 0) (take count (drop from area)) count 0 (omega (arith, length-take count (drop from area), length-drop from area))
    (λ i below. get_or-take count (drop from area) i 0 below ∙ get_or-drop from area i 0 ∙ (let here : from + i < length area = omega arith in ap (λ place. get_or area place 0) (sym (mod-eq_of_lt here))))
    ∙ sym (area-places area from count)

-- the row up to the end of the area, or as much of it as was asked for, and the others from its front on
pub area-split : (area : List ℕ) (from count : ℕ) → from < length area → take (min count (length area - from)) (drop from area) ++ area_bytes area 0 (count - min count (length area - from)) ≡ area_bytes area from count
area-split area from count there =
    elim (cases_lt (length area - from) count) [
      | inl past ↦ (
          let row : min count (length area - from) ≡ length area - from = omega arith in
          let end : from + (length area - from) ≡ length area = omega arith in
          let all : (length area - from) + (count - (length area - from)) ≡ count = omega arith in
          ap (λ n. take n (drop from area) ++ area_bytes area 0 (count - n)) row
          ∙ ap (λ front. front ++ area_bytes area 0 (count - (length area - from))) (area-row area from (length area - from) (omega arith))
          ∙ ap (λ rest. area_bytes area from (length area - from) ++ rest) (sym (ap (λ s. area_bytes area s (count - (length area - from))) end ∙ area-round area (count - (length area - from))))
          ∙ sym (area-add area from (length area - from) (count - (length area - from)))
          ∙ ap (λ n. area_bytes area from n) all)
      | inr within ↦ (
          let row : min count (length area - from) ≡ count = omega arith in
          let none : count - count ≡ 0 = omega arith in
          let start : from + count ≤ length area = omega arith in
          let more : count + 0 ≡ count = omega arith in
          ap (λ n. take n (drop from area) ++ area_bytes area 0 (count - n)) row
          ∙ ap (λ front. front ++ area_bytes area 0 (count - count)) (area-row area from count start)
          ∙ ap (λ n. area_bytes area from count ++ area_bytes area 0 n) none
          ∙ sym (area-add area from count 0)
          ∙ ap (λ n. area_bytes area from n) more)
    ]

-- ---- what is written

-- bytes that are written into the front of a list, as far as its area goes
pub front-poked : (list bytes : List ℕ) (size offset : ℕ) → size ≤ length list → offset + length bytes ≤ size
    → take size (take offset list ++ (bytes ++ drop (offset + length bytes) list)) ≡ take offset (take size list) ++ bytes ++ drop (offset + length bytes) (take size list)
front-poked list bytes size offset room fits =
    let n : ℕ = offset + length bytes in
    let rest : ℕ = size - n in
    let whole : size ≡ n + rest = omega arith in
    let front : List ℕ = take offset list ++ bytes in
    let long : length front ≡ n = omega (arith, length-append (take offset list) bytes, length-take offset list) in
    let reach : size ≡ length front + rest = omega (arith, whole, long) in
    ap (take size) (sym (append_assoc (take offset list) bytes (drop n list)))
    ∙ ap (λ k. take k (front ++ drop n list)) reach
    ∙ take-append-add front (drop n list) rest
    ∙ ap (λ back. front ++ back) (sym (drop-take n rest list) ∙ ap (λ k. drop n (take k list)) (sym whole))
    ∙ ap (λ start. start ++ bytes ++ drop n (take size list)) (sym (take-take offset size list (omega arith)))

-- what fits in an area is written into it
pub poked-within : (offset : ℕ) (bytes area : List ℕ) → offset + length bytes ≤ length area → take offset area ++ bytes ++ drop (offset + length bytes) area ≡ poked offset bytes area
poked-within offset bytes area fits =
    let e : nat_le (offset + length bytes) (length area) ≡ true = grind (arith, nat_tests) in
    ap (λ b. cond b (take offset area ++ bytes ++ drop (offset + length bytes) area) area) (sym e)
