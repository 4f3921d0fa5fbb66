-- The counts of a change of rate: which is the greatest, their order, their periods.
use Rattle.std.proofs.Common.{◌≡◌, ◌↔◌, ◌<◌, ◌≤◌, ◌+◌, ◌-◌, ◌*◌, ◌/◌, ℕ, zero, suc, inl, inr, refl, ap, ◌∙◌, arith}
use Rattle.std.proofs.lemmas.Bool.{cases_lt}
use Rattle.std.proofs.Math.Nat.{div-lt_iff_lt-mul, le-div_iff_mul-le, add-mul-div_right, mul-le-mul_right, mul-pos, lt_of_mul-lt-mul_right, mul-div-mul_right, div-mul-le_self}
use Rattle.pcm_rate.specs.declared.rate.Rate.{Rate}
use Rattle.pcm_rate.specs.Rates.{need, len, can, div_up, unchanged, IsRatio, IsGreatest, IsPeriod, IsPeriodic, IsReduced, HasSameCounts}

-- ---- quotients

-- a quotient by the multiple of the divisor that is added
pub div_more : (a b d k : ℕ) → 0 < d → b ≡ a + k * d → b / d ≡ a / d + k
div_more a b d k above same = ap (λ z. z / d) same ∙ add-mul-div_right a k above

-- a quotient grows with its dividend
pub div_grows : (a b d : ℕ) → 0 < d → a ≤ b → a / d ≤ b / d
div_grows a b d above h = (le-div_iff_mul-le {k = d} {x = a / d} {y = b} above).1 (omega (arith, div-mul-le_self a d))

-- the quotient of a sum is at most one above the sum of the quotients
pub div_apart : (a b d : ℕ) → 0 < d → (a + b) / d ≤ a / d + b / d + 1
div_apart a b d above =
    let x = a / d in
    let y = b / d in
    let first = (div-lt_iff_lt-mul {k = d} {x = a} {y = x + 1} above).0 (omega arith) in
    let second = (div-lt_iff_lt-mul {k = d} {x = b} {y = y + 1} above).0 (omega arith) in
    let both : (a + b) / d < x + y + 2 = (div-lt_iff_lt-mul {k = d} {x = a + b} {y = x + y + 2} above).1 (omega (arith, first, second)) in
    omega (arith, both)

-- what is below a quotient rounded up
pub below_div_up : (j m s : ℕ) → 0 < s → (suc j ≤ div_up m s) ↔ (j * s < m)
below_div_up j m s above =
    let h = le-div_iff_mul-le {k = s} {x = suc j} {y = m + (s - 1)} above in
    (λ q. omega (arith, h.0 q), λ q. h.1 (omega arith))

-- ---- how many outputs are allowed

-- an output from a phase on is allowed exactly where it reaches no further
pub output_allowed : (rate : Rate) (phase j n : ℕ) → 0 < rate.src → 0 < rate.dst
    → ((phase + j * rate.src) / rate.dst + 1 + rate.lookahead ≤ n) ↔ (suc j ≤ div_up ((n - rate.lookahead) * rate.dst - phase) rate.src)
output_allowed rate phase j n src dst =
    let room = n - rate.lookahead in
    let place = div-lt_iff_lt-mul {k = rate.dst} {x = phase + j * rate.src} {y = room} dst in
    let up = below_div_up j (room * rate.dst - phase) rate.src src in
    (λ q. up.1 (omega (arith, place.0 (omega arith))), λ q. let fits : (phase + j * rate.src) / rate.dst < room = place.1 (omega (arith, up.0 q)) in omega arith)

-- `can` is the greatest number of outputs
pub can-greatest : (rate : Rate) → 0 < rate.src → 0 < rate.dst → IsGreatest rate
can-greatest rate src dst zero n = (λ q. omega arith, λ q. omega arith)
can-greatest rate src dst (suc c) n =
    let h = output_allowed rate 0 c n src dst in
    let place : (0 + c * rate.src) / rate.dst ≡ c * rate.src / rate.dst = ap (λ z. z / rate.dst) (omega arith) in
    let room : div_up ((n - rate.lookahead) * rate.dst - 0) rate.src ≡ can rate n = ap (λ z. div_up z rate.src) (omega arith) in
    (λ q. omega (arith, h.0 (omega arith)), λ q. omega (arith, h.1 (omega arith)))

-- and at most as many as last as long as the input
pub can-le-len : (rate : Rate) (n : ℕ) → 0 < rate.src → can rate n ≤ len rate n
can-le-len rate n src =
    let m = mul-le-mul_right {m = n - rate.lookahead} {n = n} rate.dst (omega arith) in
    div_grows ((n - rate.lookahead) * rate.dst + (rate.src - 1)) (n * rate.dst + (rate.src - 1)) rate.src src (omega arith)

-- more frames last for no fewer outputs
pub len_grows : (rate : Rate) (n m : ℕ) → 0 < rate.src → n ≤ m → len rate n ≤ len rate m
len_grows rate n m src h =
    let product = mul-le-mul_right {m = n} {n = m} rate.dst h in
    div_grows (n * rate.dst + (rate.src - 1)) (m * rate.dst + (rate.src - 1)) rate.src src (omega arith)

-- more outputs need no fewer frames
pub need_grows : (rate : Rate) (c e : ℕ) → 0 < rate.dst → c ≤ e → need rate c ≤ need rate e
need_grows rate zero e dst h = omega arith
need_grows rate (suc c) zero dst h = absurd (omega arith)
need_grows rate (suc c) (suc e) dst h =
    let below : c ≤ e = omega arith in
    omega (arith, div_grows (c * rate.src) (e * rate.src) rate.dst dst (mul-le-mul_right rate.src below))

-- n outputs after c others need at most the frames that last as long, one more, and the lookahead
pub need-apart : (rate : Rate) (c n : ℕ) → 0 < rate.dst → need rate (c + n) ≤ need rate c + n * rate.src / rate.dst + 1 + rate.lookahead
need-apart rate zero zero dst = omega arith
need-apart rate zero (suc n) dst =
    let place : 0 + suc n ≡ suc n = omega arith in
    let first : need rate (0 + suc n) ≡ need rate (suc n) = ap (need rate) place in
    let most = div_grows (n * rate.src) (suc n * rate.src) rate.dst dst (mul-le-mul_right {m = n} {n = suc n} rate.src (omega arith)) in
    omega (arith, first, most)
need-apart rate (suc c) n dst =
    let place : suc c + n ≡ suc (c + n) = omega arith in
    let first : need rate (suc c + n) ≡ need rate (suc (c + n)) = ap (need rate) place in
    let product : (c + n) * rate.src ≡ c * rate.src + n * rate.src = omega arith in
    let sum : (c + n) * rate.src / rate.dst ≡ (c * rate.src + n * rate.src) / rate.dst = ap (λ z. z / rate.dst) product in
    let most = div_apart (c * rate.src) (n * rate.src) rate.dst dst in
    omega (arith, first, sum, most)

-- some frames last for some outputs
pub len_above : (rate : Rate) (n : ℕ) → 0 < rate.src → 0 < rate.dst → 0 < n → 0 < len rate n
len_above rate n src dst some =
    let product = mul-pos some dst in
    let up = below_div_up 0 (n * rate.dst) rate.src src in
    up.1 (omega arith)

-- outputs that are allowed use no more than is there, and one more would
pub need-can : (rate : Rate) (n : ℕ) → IsRatio rate → need rate (can rate n) ≤ n
need-can rate n r = (can-greatest rate r.src r.dst (can rate n) n).1 (omega arith)

pub need-past : (rate : Rate) (c n : ℕ) → IsRatio rate → can rate n < c → n < need rate c
need-past rate c n r past =
    elim (cases_lt n (need rate c)) [
      | inl more ↦ more
      | inr fits ↦ absurd (let within = (can-greatest rate r.src r.dst c n).0 fits in omega arith)
    ]

-- without a change of rate each output uses a frame more
pub need-unchanged : (c : ℕ) → need unchanged c ≡ c
need-unchanged zero = refl
need-unchanged (suc c) = omega arith

pub can-unchanged : (n : ℕ) → can unchanged n ≡ n
can-unchanged n = omega arith

pub len-unchanged : (n : ℕ) → len unchanged n ≡ n
len-unchanged n = omega arith

-- ---- periods

need-periodic : (rate : Rate) (s d : ℕ) → IsPeriod rate s d → (c j : ℕ) → 0 < c → need rate (c + j * d) ≡ need rate c + j * s
need-periodic rate s d h zero j above = absurd (omega arith)
need-periodic rate s d h (suc c) j above =
    let first : suc c + j * d ≡ suc (c + j * d) = omega arith in
    let q = div_more (c * rate.src) ((c + j * d) * rate.src) rate.dst (j * s) h.dst_above (omega (arith, ap (λ z. j * z) h.same)) in
    ap (need rate) first ∙ omega (arith, q)

len-periodic : (rate : Rate) (s d : ℕ) → IsPeriod rate s d → (n j : ℕ) → len rate (n + j * s) ≡ len rate n + j * d
len-periodic rate s d h n j =
    div_more (n * rate.dst + (rate.src - 1)) ((n + j * s) * rate.dst + (rate.src - 1)) rate.src (j * d) h.src_above (omega (arith, ap (λ z. j * z) h.same))

above-product : (m d : ℕ) → 0 < m * d → 0 < m
above-product zero d above = absurd (omega arith)
above-product (suc m) d above = omega arith

-- outputs are allowed only where the frames pass the lookahead
can-above : (rate : Rate) (n : ℕ) → 0 < rate.src → 0 < can rate n → rate.lookahead < n
can-above rate n src above =
    let h = (below_div_up 0 ((n - rate.lookahead) * rate.dst) rate.src src).0 above in
    let room = above-product (n - rate.lookahead) rate.dst (omega arith) in
    omega arith

can-periodic : (rate : Rate) (s d : ℕ) → IsPeriod rate s d → (n j : ℕ) → 0 < can rate n → can rate (n + j * s) ≡ can rate n + j * d
can-periodic rate s d h n j above =
    let room = can-above rate n h.src_above above in
    let more : n + j * s - rate.lookahead ≡ n - rate.lookahead + j * s = omega arith in
    ap (len rate) more ∙ len-periodic rate s d h (n - rate.lookahead) j

-- a period more of frames is a period more of outputs
pub counts-periodic : (rate : Rate) (s d : ℕ) → IsPeriod rate s d → IsPeriodic rate s d
counts-periodic rate s d h = record {
  need = need-periodic rate s d h;
  can = can-periodic rate s d h;
  len = len-periodic rate s d h;
}

-- ---- rates divided by one factor

-- two numbers that bound the same numbers
pub same-bound : (a b : ℕ) → ((c : ℕ) → (c ≤ a) ↔ (c ≤ b)) → a ≡ b
same-bound a b h = omega (arith, (h a).0 (omega arith), (h b).1 (omega arith))

div_up-reduced : (m s g : ℕ) → 0 < s → 0 < g → div_up (m * g) (s * g) ≡ div_up m s
div_up-reduced m s g s_above g_above = same-bound (div_up (m * g) (s * g)) (div_up m s) (λ c. bound c)
  where
    bound : (c : ℕ) → (c ≤ div_up (m * g) (s * g)) ↔ (c ≤ div_up m s)
    bound zero = (λ q. omega arith, λ q. omega arith)
    bound (suc j) =
        let wide = below_div_up j (m * g) (s * g) (mul-pos s_above g_above) in
        let low = below_div_up j m s s_above in
        let order : j * (s * g) ≡ j * s * g = omega arith in (
          λ q. low.1 (lt_of_mul-lt-mul_right g (omega (arith, wide.0 q, order))),
          λ q. let next : suc (j * s) ≤ m = low.0 q in wide.1 (omega (arith, order, mul-le-mul_right g next)),
        )

pub counts-reduced : (rate low : Rate) → IsReduced rate low → HasSameCounts rate low
counts-reduced rate low h = record { place = place; need = needs; can = cans; len = lens }
  where
    place : (k : ℕ) → k * rate.src / rate.dst ≡ k * low.src / low.dst
    place k =
        let order : k * (low.src * h.factor) ≡ k * low.src * h.factor = omega arith in
        rw (h.src, h.dst, order) (mul-div-mul_right (k * low.src) low.dst h.above)

    needs : (c : ℕ) → need rate c ≡ need low c
    needs zero = refl
    needs (suc c) = omega (arith, place c, h.lookahead)

    lens : (n : ℕ) → len rate n ≡ len low n
    lens n =
        let order : n * (low.dst * h.factor) ≡ n * low.dst * h.factor = omega arith in
        rw (h.src, h.dst, order) (div_up-reduced (n * low.dst) low.src h.factor h.src_above h.above)

    cans : (n : ℕ) → can rate n ≡ can low n
    cans n = ap (λ k. len rate (n - k)) h.lookahead ∙ lens (n - low.lookahead)
