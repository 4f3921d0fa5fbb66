-- How many frames are enough for the next outputs, and how many outputs they allow.
use Rattle.std.proofs.Common.{◌≡◌, ◌<◌, ◌≤◌, ◌⊎◌, inl, inr, ◌+◌, ◌-◌, ◌*◌, ◌/◌, ℕ, zero, suc, min, Bool, true, false, refl, ap, arith}
use Rattle.std.proofs.Math.Nat.{div-add-mod', div-lt_iff_lt-mul, mod-lt}
use Rattle.pcm_rate.specs.declared.rate.Rate.{Rate}
use Rattle.pcm_rate.specs.Rates.{IsRatio, can, len, need}
use Rattle.pcm_rate.proofs.Counts.{can-greatest, can-le-len, len_grows, need_grows}
use Rattle.pcm_chain.specs.Counts.{allowed_in_all}

-- the quotient of a sum is at most one above the sum of the quotients
quotient-add : (a b d : ℕ) → 0 < d → (a + b) / d ≤ a / d + b / d + 1
quotient-add a b d above =
    let below = (div-lt_iff_lt-mul {k = d} {x = a + b} {y = a / d + b / d + 2} above).1
    (omega (arith, div-add-mod' a d, div-add-mod' b d, mod-lt a above, mod-lt b above)) in
    omega arith

-- wherever a stream stands, b outputs more use at most what the first b + 1 outputs use
pub need-add : (rate : Rate) (given b : ℕ) → 0 < rate.dst → need rate (given + b) ≤ need rate given + need rate (b + 1)
need-add rate zero b dst =
    let none : zero + b ≡ b = omega arith in
    omega (arith, ap (need rate) none, need_grows rate b (b + 1) dst (omega arith))
need-add rate (suc g) b dst =
    let first : suc g + b ≡ suc (g + b) = omega arith in
    let next : b + 1 ≡ suc b = omega arith in
    let product : (g + b) * rate.src ≡ g * rate.src + b * rate.src = omega arith in
    omega (arith, ap (need rate) first, ap (need rate) next, ap (λ z. z / rate.dst) product, quotient-add (g * rate.src) (b * rate.src) rate.dst dst)

-- how many outputs a block of at most b gives, where w of all frames are there
pub record IsCounted (rate : Rate) (ended : Bool) (b w all given : ℕ) : Type 0 where
  pub count : min b (allowed_in_all ended rate w - given) ≡ min b (len rate all - given)
  -- the frames that are there are all, or they allow the block
  pub sure : (w ≡ all) ⊎ (given + b ≤ can rate w)

pub count-block : (rate : Rate) (ended : Bool) (b e w all given : ℕ) → IsRatio rate → w ≤ all → (ended ≡ true → w ≡ all)
    → (ended ≡ false → (need rate given ≤ e) × (e + need rate (b + 1) ≤ w)) → IsCounted rate ended b w all given
count-block rate true b e w all given ratio within last more =
    let same = last refl in
    record { count = ap (λ n. min b (len rate n - given)) same; sure = inl same }
count-block rate false b e w all given ratio within last more =
    let enough = more refl in
    let fits : need rate (given + b) ≤ w = omega (arith, need-add rate given b ratio.dst, enough.0, enough.1) in
    let allowed = (can-greatest rate ratio.src ratio.dst (given + b) w).0 fits in
    let most = can-le-len rate w ratio.src in
    let grows = len_grows rate w all ratio.src within in
    record { count = omega arith; sure = inr allowed }
