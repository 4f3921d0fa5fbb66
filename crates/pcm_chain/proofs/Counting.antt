-- What a block moves the counts of a chain by: it keeps to a block, the counts stay small, and they stand for those of the whole stream.
use Rattle.std.proofs.Common.{◌≡◌, ◌<◌, ◌≤◌, ◌⊎◌, ◌+◌, ◌-◌, ◌*◌, ◌/◌, min, max, ℕ, zero, suc, Bool, true, false, List, [], ◌∷◌, All, inl, inr, refl, sym, ap, ◌∙◌, arith}
use Rattle.std.proofs.lemmas.Bool.{cases_lt}
use Rattle.std.proofs.lemmas.List.Elements.{All-head, All-tail}
use Rattle.std.proofs.Math.Nat.{mul-le-mul_right, div-le_of_le-mul, div-mul-le_self, lt-div-mul-add, lt_of_mul-lt-mul_right, le-div_iff_mul-le, div-lt_iff_lt-mul}
use Rattle.pcm_rate.specs.declared.rate.Rate.{Rate}
use Rattle.pcm_rate.specs.Rates.{unchanged, IsRatio, IsPeriod, need, can, len}
use Rattle.pcm_rate.proofs.Counts.{div_grows, div_more, below_div_up, can-greatest, can-le-len, len_grows, need_grows, need-past, need-unchanged, counts-periodic}
use Rattle.pcm_feeder.specs.declared.stage.Spec.{Spec}
use Rattle.pcm_feeder.specs.declared.stage.Spec.TheVariants.{Matrix, Hold, Linear, Poly, Volume, Depth, Eq}
use Rattle.pcm_feeder.specs.Limits.{IsChange, IsSpec}
use Rattle.pcm_plan.specs.Plans.{PlanSeen, rate_among, rate_in_plan}
use Rattle.pcm_plan.specs.Fits.{IsPlan}
use Rattle.pcm_chain.specs.declared.counts.Counts.{Counts}
use Rattle.pcm_chain.specs.declared.counts.Advance.{Advance}
use Rattle.pcm_chain.specs.Counts.{allowed_in_all, fed_in_all, IsNear, InTime, AreBounded, Goes, StandFor}

-- ---- the sizes of counts

near-change : (src dst channels lookahead : ℕ) → IsChange src dst channels → lookahead ≤ 32 → IsNear (record { src = src; dst = dst; lookahead = lookahead })
near-change src dst channels lookahead is near =
    let source = is.source in
    let target = is.target in
    record {
      ratio = record { src = omega (arith, source.least); dst = omega (arith, target.least) };
      src = omega (arith, source.most, target.least);
      spread = omega (arith, source.least, target.most);
      dst = target.most;
      lookahead = near;
    }

-- c outputs last no longer than 48 frames each
pub place-near : (rate : Rate) (c : ℕ) → IsNear rate → c * rate.src / rate.dst ≤ 48 * c
place-near rate c near =
    let product = mul-le-mul_right {m = rate.src} {n = 48 * rate.dst} c (omega (arith, near.src)) in
    div-le_of_le-mul rate.dst {m = c * rate.src} {n = 48 * c} (omega (arith, product))

-- and need at most as many, and 33 more
pub need-near : (rate : Rate) (c : ℕ) → IsNear rate → need rate c ≤ 48 * c + 33
need-near rate zero near = omega arith
need-near rate (suc c) near = omega (arith, place-near rate c near, near.lookahead)

-- one output more needs few frames more
pub next-near : (rate : Rate) (c : ℕ) → IsNear rate → need rate (c + 1) ≤ need rate c + 48
next-near rate zero near =
    let place : 0 * rate.src / rate.dst ≤ 0 = div-le_of_le-mul rate.dst {m = 0 * rate.src} {n = 0} (omega arith) in
    omega (arith, place, near.lookahead)
next-near rate (suc c) near =
    let next : suc c + 1 ≡ suc (suc c) = omega arith in
    let src = near.src in
    let grown = div_grows (suc c * rate.src) (c * rate.src + 48 * rate.dst) rate.dst near.ratio.dst (omega arith) in
    let more = div_more (c * rate.src) (c * rate.src + 48 * rate.dst) rate.dst 48 near.ratio.dst refl in
    omega (arith, grown, more, ap (need rate) next)

-- so the counts stay small
pub eaten-near : (rate : Rate) (counts : Counts) → IsNear rate → AreBounded rate counts → counts.eaten ≤ 9216081
eaten-near rate counts near bounded =
    omega (arith, bounded.in_time.early, bounded.few, need-near rate counts.given near, need-near rate (counts.given + 1) near)

pub fed-near : (rate : Rate) (counts : Counts) → IsNear rate → AreBounded rate counts → fed_in_all rate counts ≤ 9216081
fed-near rate counts near bounded =
    omega (arith, eaten-near rate counts near bounded, bounded.few, need-near rate counts.given near)

-- ---- blocks

-- one output at least fits a block
pub block-some : (rate : Rate) (counts : Counts) → IsNear rate → counts.given + 1 ≤ can rate (fed_in_all rate counts + 256)
block-some rate counts near =
    (can-greatest rate near.ratio.src near.ratio.dst (counts.given + 1) (fed_in_all rate counts + 256)).0 (omega (arith, next-near rate counts.given near))

-- and what is allowed needs no more
pub block-reach : (rate : Rate) (counts : Counts) (more : ℕ) → IsNear rate → counts.given + more ≤ can rate (fed_in_all rate counts + 256)
    → need rate (counts.given + more) ≤ fed_in_all rate counts + 256
block-reach rate counts more near within = (can-greatest rate near.ratio.src near.ratio.dst (counts.given + more) (fed_in_all rate counts + 256)).1 within

-- ---- what is allowed

pub allowed-most : (ended : Bool) (rate : Rate) (n : ℕ) → IsRatio rate → allowed_in_all ended rate n ≤ len rate n
allowed-most true rate n ratio = omega arith
allowed-most false rate n ratio = can-le-len rate n ratio.src

pub allowed-least : (ended : Bool) (rate : Rate) (n : ℕ) → IsRatio rate → can rate n ≤ allowed_in_all ended rate n
allowed-least true rate n ratio = can-le-len rate n ratio.src
allowed-least false rate n ratio = omega arith

pub allowed-grows : (ended : Bool) (rate : Rate) (n m : ℕ) → IsRatio rate → n ≤ m → allowed_in_all ended rate n ≤ allowed_in_all ended rate m
allowed-grows true rate n m ratio h = len_grows rate n m ratio.src h
allowed-grows false rate n m ratio h = len_grows rate (n - rate.lookahead) (m - rate.lookahead) ratio.src (omega arith)

-- frames that outputs need allow them
pub needed-allowed : (ended : Bool) (rate : Rate) (c n : ℕ) → IsRatio rate → need rate c ≤ n → c ≤ allowed_in_all ended rate n
needed-allowed ended rate c n ratio h = omega (arith, allowed-least ended rate n ratio, (can-greatest rate ratio.src ratio.dst c n).0 h)

-- outputs past those that are allowed need more
pub past-allowed : (ended : Bool) (rate : Rate) (c n : ℕ) → IsRatio rate → allowed_in_all ended rate n < c → n < need rate c
past-allowed ended rate c n ratio past = need-past rate c n ratio (omega (arith, allowed-least ended rate n ratio))

-- ---- after a block

-- without a change of rate a block eats no more frames than are wanted
pub goes-level : (rate : Rate) (ended : Bool) (counts : Counts) (waiting want : ℕ) (advance : Advance) → rate ≡ unchanged → Goes rate ended counts waiting want advance → advance.eaten + advance.silent ≤ want
goes-level rate ended counts waiting want advance level goes =
    let given = goes.given in
    let now = ap (λ r. need r counts.given) level ∙ need-unchanged counts.given in
    let wanted = ap (λ r. need r (counts.given + want)) level ∙ need-unchanged (counts.given + want) in
    let next = ap (λ r. need r (counts.given + advance.given)) level ∙ need-unchanged (counts.given + advance.given) in
    omega (arith, goes.eaten, goes.silent, now, wanted, next)

-- the rate of a plan is within its limits
near-among : (specs : List Spec) → All IsSpec specs → IsNear (rate_among specs)
near-among [] limits = record { ratio = record { src = omega arith; dst = omega arith }; src = omega arith; spread = omega arith; dst = omega arith; lookahead = omega arith }
near-among (Matrix from to ∷ specs) limits = near-among specs (All-tail IsSpec (Matrix from to) specs limits)
near-among (Hold src dst channels ∷ specs) limits = near-change src dst channels 0 (All-head IsSpec (Hold src dst channels) specs limits) (omega arith)
near-among (Linear src dst channels ∷ specs) limits = near-change src dst channels 1 (All-head IsSpec (Linear src dst channels) specs limits) (omega arith)
near-among (Poly src dst channels table taps ∷ specs) limits =
    let is = All-head IsSpec (Poly src dst channels table taps) specs limits in
    let row = is.row in
    near-change src dst channels (taps / 2) is.change (omega (arith, row.even, row.most))
near-among (Volume layout ∷ specs) limits = near-among specs (All-tail IsSpec (Volume layout) specs limits)
near-among (Depth bits channels ∷ specs) limits = near-among specs (All-tail IsSpec (Depth bits channels) specs limits)
near-among (Eq channels sections ∷ specs) limits = near-among specs (All-tail IsSpec (Eq channels sections) specs limits)

pub rate-near : (plan : PlanSeen) → IsPlan plan → IsNear (rate_in_plan plan)
rate-near plan is = near-among plan.stages is.specs

-- a part of a number is no more than it
pub part-within : (whole part factor : ℕ) → 0 < whole → whole ≡ part * factor → part ≤ whole
part-within whole part zero above same = absurd (omega (arith, same))
part-within whole part (suc factor) above same = omega (arith, same)

pub in_time-after : (rate : Rate) (ended : Bool) (counts : Counts) (waiting want : ℕ) (advance : Advance) → IsRatio rate → InTime rate counts → Goes rate ended counts waiting want advance
    → InTime rate (record { eaten = counts.eaten + advance.eaten; given = counts.given + advance.given })
in_time-after rate ended counts waiting want advance ratio h goes = record { early = early (cases_lt advance.given want); late = late }
  where
    all : ℕ
    all = counts.eaten + advance.eaten

    after : ℕ
    after = counts.given + advance.given

    early : (advance.given < want) ⊎ (want ≤ advance.given) → all ≤ max (need rate after) (need rate (after + 1) - 1)
    early (inl fewer) =
        let given = goes.given in
        omega (arith, past-allowed ended rate (after + 1) all ratio (omega arith))
    early (inr enough) =
        let given = goes.given in
        let same : counts.given + want ≡ after = omega arith in
        omega (arith, goes.eaten, h.early, ap (need rate) same, need_grows rate counts.given after ratio.dst (omega arith), need_grows rate (counts.given + 1) (after + 1) ratio.dst (omega arith))

    late : after ≤ len rate all
    late = omega (arith, goes.given, h.late, allowed-most ended rate all ratio, len_grows rate counts.eaten all ratio.src (omega arith))

-- ---- without whole periods

-- the frames of whole periods before the last output were eaten
pub periods-eaten : (rate : Rate) (s d eaten given j : ℕ) → IsPeriod rate s d → given ≤ len rate eaten → j * d ≤ given - 1 → j * s ≤ eaten
periods-eaten rate s d eaten zero j period late within = none j within
  where
    none : (j : ℕ) → j * d ≤ zero - 1 → j * s ≤ eaten
    none j within =
        let src = period.src_above in
        let same = ap (λ z. j * z) period.same in
        let nothing : j * d * rate.src ≤ 0 * rate.src = mul-le-mul_right {m = j * d} {n = 0} rate.src (omega arith) in
        let less : j * s * rate.dst < (eaten + 1) * rate.dst = (let above = period.dst_above in omega arith) in
        let below : j * s < eaten + 1 = lt_of_mul-lt-mul_right rate.dst less in
        omega arith
periods-eaten rate s d eaten (suc given) j period late within =
    let same = ap (λ z. j * z) period.same in
    let used = (below_div_up given (eaten * rate.dst) rate.src period.src_above).0 late in
    let product = mul-le-mul_right {m = j * d} {n = given} rate.src (omega arith) in
    let below : j * s < eaten = lt_of_mul-lt-mul_right rate.dst (omega arith) in
    omega arith

-- counts in time stay so without whole periods
pub in_time-less : (rate : Rate) (s d eaten given j : ℕ) → IsPeriod rate s d → (0 < j → 0 < given) → InTime rate (record { eaten = eaten + j * s; given = given + j * d })
    → InTime rate (record { eaten = eaten; given = given })
in_time-less rate s d eaten given zero period begun h =
    let e : eaten + 0 * s ≡ eaten = omega arith in
    let g : given + 0 * d ≡ given = omega arith in
    rw (e, g) at h
in_time-less rate s d eaten given (suc i) period begun h =
    let j = suc i in
    let laws = counts-periodic rate s d period in
    let above : 0 < given = begun (omega arith) in
    let now = laws.need given j above in
    let more : given + j * d + 1 ≡ given + 1 + j * d = omega arith in
    let next = ap (need rate) more ∙ laws.need (given + 1) j (omega arith) in
    let lasts = laws.len eaten j in
    record { early = omega (arith, h.early, now, next); late = omega (arith, h.late, lasts) }

-- counts without as many whole periods as come before the last output
pub record AreSettled (rate : Rate) (s d eaten given j : ℕ) : Type 0 where
  pub eaten_within : j * s ≤ eaten
  pub given_within : j * d ≤ given
  pub bounded : AreBounded rate (record { eaten = eaten - j * s; given = given - j * d })
  pub begun : 0 < j → 0 < given - j * d

pub settled : (rate : Rate) (s d eaten given j : ℕ) → IsNear rate → IsPeriod rate s d → 0 < d → d ≤ rate.dst → InTime rate (record { eaten = eaten; given = given })
    → j ≡ (given - 1) / d → AreSettled rate s d eaten given j
settled rate s d eaten given j near period above within t is =
    let low : j * d ≤ given - 1 = omega (arith, ap (λ z. z * d) is, div-mul-le_self (given - 1) d) in
    let high = lt-div-mul-add {a = given - 1} {b = d} above in
    let front = periods-eaten rate s d eaten given j period t.late low in
    let e : eaten ≡ eaten - j * s + j * s = omega arith in
    let g : given ≡ given - j * d + j * d = omega arith in
    let begun : 0 < j → 0 < given - j * d = λ some. some-left j refl some low in
    record {
      eaten_within = front;
      given_within = omega arith;
      bounded = record {
        in_time = in_time-less rate s d (eaten - j * s) (given - j * d) j period begun (rw (← e, ← g) t);
        few = omega (arith, ap (λ z. z * d) is, high, within, near.dst);
      };
      begun = begun;
    }
  where
    some-left : (k : ℕ) → k ≡ j → 0 < k → j * d ≤ given - 1 → 0 < given - j * d
    some-left zero e some low = absurd (omega arith)
    some-left (suc k) e some low =
        let first = mul-le-mul_right {m = 1} {n = j} d (omega arith) in
        omega (arith, first)

-- what was left out grows by whole periods
pub stands-less : (rate : Rate) (s d : ℕ) (counts : Counts) (eaten given j left_eaten left_given : ℕ) → IsPeriod rate s d → StandFor rate counts eaten given
    → counts.eaten ≡ left_eaten + j * s → counts.given ≡ left_given + j * d → (0 < j → 0 < left_given)
    → StandFor rate (record { eaten = left_eaten; given = left_given }) eaten given
stands-less rate s d counts eaten given j left_eaten left_given period h e g begun = record {
  eaten_before = h.eaten_before + j * s;
  given_before = h.given_before + j * d;
  period = record { src_above = period.src_above; dst_above = period.dst_above; same = omega (arith, h.period.same, ap (λ z. j * z) period.same) };
  eaten_is = omega (arith, e, h.eaten_is);
  given_is = omega (arith, g, h.given_is);
  begun = λ some. some-left j begun g some;
}
  where
    some-left : (j : ℕ) → (0 < j → 0 < left_given) → counts.given ≡ left_given + j * d → 0 < h.given_before + j * d → (0 < left_given) ⊎ (rate ≡ unchanged)
    some-left zero begun g some = elim (h.begun (omega arith)) [ inl start ↦ inl (omega arith) | inr level ↦ inr level ]
    some-left (suc i) begun g some = inl (begun (omega arith))

-- counts stand for all frames after a block too
pub stands-more : (rate : Rate) (counts : Counts) (eaten given more_eaten more_given : ℕ) → StandFor rate counts eaten given
    → StandFor rate (record { eaten = counts.eaten + more_eaten; given = counts.given + more_given }) (eaten + more_eaten) (given + more_given)
stands-more rate counts eaten given more_eaten more_given h = record {
  eaten_before = h.eaten_before;
  given_before = h.given_before;
  period = h.period;
  eaten_is = omega (arith, h.eaten_is);
  given_is = omega (arith, h.given_is);
  begun = λ some. elim (h.begun some) [ inl start ↦ inl (omega (arith, start)) | inr level ↦ inr level ];
}

-- without a change of rate frames may be left out at any time, as many on both sides
pub stands-level : (rate : Rate) (counts : Counts) (eaten given more : ℕ) → rate ≡ unchanged → StandFor rate counts eaten given → StandFor rate counts (eaten + more) (given + more)
stands-level rate counts eaten given more level h = record {
  eaten_before = h.eaten_before + more;
  given_before = h.given_before + more;
  period = record { src_above = h.period.src_above; dst_above = h.period.dst_above; same = longer };
  eaten_is = omega (arith, h.eaten_is);
  given_is = omega (arith, h.given_is);
  begun = λ some. inr level;
}
  where
    longer : (h.eaten_before + more) * rate.dst ≡ (h.given_before + more) * rate.src
    longer = omega (arith, h.period.same, ap (λ (r : Rate). more * r.dst) level, ap (λ (r : Rate). more * r.src) level)

-- ---- counts of the whole stream

-- where no outputs were left out, no frames were
none-left : (rate : Rate) (s d : ℕ) → IsPeriod rate s d → d ≡ 0 → s ≡ 0
none-left rate zero d period none = refl
none-left rate (suc s) d period none =
    let product : d * rate.src ≡ 0 = ap (λ z. z * rate.src) none ∙ (let quiet : 0 * rate.src ≡ 0 = omega arith in quiet) in
    let above = period.dst_above in
    let grown = mul-le-mul_right {m = 1} {n = suc s} rate.dst (omega arith) in
    absurd (omega (arith, period.same, product, grown))

-- the need of outputs, by the counts
pub need-real : (rate : Rate) (counts : Counts) (eaten given more : ℕ) (h : StandFor rate counts eaten given) → need rate (given + more) ≡ need rate (counts.given + more) + h.eaten_before
need-real rate counts eaten given more h = at h.given_before refl
  where
    periods : 0 < counts.given → need rate (given + more) ≡ need rate (counts.given + more) + h.eaten_before
    periods some =
        let laws = counts-periodic rate h.eaten_before h.given_before h.period in
        let place : given + more ≡ counts.given + more + 1 * h.given_before = omega (arith, h.given_is) in
        ap (need rate) place ∙ laws.need (counts.given + more) 1 (omega arith) ∙ omega arith

    each : rate ≡ unchanged → need rate (given + more) ≡ need rate (counts.given + more) + h.eaten_before
    each level =
        let all = ap (λ r. need r (given + more)) level ∙ need-unchanged (given + more) in
        let counted = ap (λ r. need r (counts.given + more)) level ∙ need-unchanged (counts.given + more) in
        let same : h.eaten_before ≡ h.given_before = omega (arith, h.period.same, ap (λ (r : Rate). h.eaten_before * r.dst) level, ap (λ (r : Rate). h.given_before * r.src) level) in
        omega (arith, all, counted, same, h.given_is)

    at : (before : ℕ) → before ≡ h.given_before → need rate (given + more) ≡ need rate (counts.given + more) + h.eaten_before
    at zero e =
        let left = none-left rate h.eaten_before h.given_before h.period (sym e) in
        let place : given + more ≡ counts.given + more = omega (arith, h.given_is, e) in
        omega (arith, ap (need rate) place, left)
    at (suc before) e = elim (h.begun (omega arith)) [ inl some ↦ periods some | inr level ↦ each level ]

-- the outputs given need as much more than those counted
need-given : (rate : Rate) (counts : Counts) (eaten given : ℕ) (h : StandFor rate counts eaten given) → need rate given ≡ need rate counts.given + h.eaten_before
need-given rate counts eaten given h =
    let more : given + 0 ≡ given = omega arith in
    let same : counts.given + 0 ≡ counts.given = omega arith in
    omega (arith, need-real rate counts eaten given 0 h, ap (need rate) more, ap (need rate) same)

-- and so do the frames that went into the stages
pub fed-real : (rate : Rate) (counts : Counts) (eaten given : ℕ) (h : StandFor rate counts eaten given)
    → fed_in_all rate (record { eaten = eaten; given = given }) ≡ fed_in_all rate counts + h.eaten_before
fed-real rate counts eaten given h = omega (arith, h.eaten_is, need-given rate counts eaten given h)

-- nothing lasts for no output
pub len-none : (rate : Rate) → 0 < rate.src → len rate 0 ≡ 0
len-none rate src =
    let below = (div-lt_iff_lt-mul {k = rate.src} {x = 0 * rate.dst + (rate.src - 1)} {y = 1} src).1 (omega arith) in
    omega arith

some-len : (rate : Rate) (n : ℕ) → IsRatio rate → 0 < n → 0 < len rate n
some-len rate n ratio above =
    let product = mul-le-mul_right {m = 1} {n = n} rate.dst (omega arith) in
    let dst = ratio.dst in
    (below_div_up 0 (n * rate.dst) rate.src ratio.src).1 (omega arith)

-- frames that allow no output are no more than the lookahead
none-allowed : (rate : Rate) (n : ℕ) → IsRatio rate → can rate n ≡ 0 → n ≤ rate.lookahead
none-allowed rate n ratio none =
    elim (cases_lt rate.lookahead n) [
      | inl past ↦ absurd (let some = some-len rate (n - rate.lookahead) ratio (omega arith) in omega arith)
      | inr within ↦ within
    ]

-- how many outputs more are allowed, by the counts
pub allowed-real : (ended : Bool) (rate : Rate) (s d n given : ℕ) → IsPeriod rate s d
    → allowed_in_all ended rate (n + s) - (given + d) ≡ allowed_in_all ended rate n - given
allowed-real true rate s d n given period =
    let laws = counts-periodic rate s d period in
    let place : n + s ≡ n + 1 * s = omega arith in
    omega (arith, ap (len rate) place, laws.len n 1)
allowed-real false rate s d n given period = at (can rate n) refl
  where
    at : (c : ℕ) → c ≡ can rate n → can rate (n + s) - (given + d) ≡ can rate n - given
    at zero e =
        let laws = counts-periodic rate s d period in
        let ratio : IsRatio rate = record { src = period.src_above; dst = period.dst_above } in
        let within = none-allowed rate n ratio (sym e) in
        let grown = len_grows rate (n + s - rate.lookahead) s period.src_above (omega arith) in
        let place : s ≡ 0 + 1 * s = omega arith in
        let most : len rate s ≡ d = ap (len rate) place ∙ laws.len 0 1 ∙ (let none = len-none rate period.src_above in omega arith) in
        omega (arith, grown, most, e)
    at (suc c) e =
        let laws = counts-periodic rate s d period in
        let place : n + s ≡ n + 1 * s = omega arith in
        omega (arith, ap (can rate) place, laws.can n 1 (omega arith))

-- so a block moves the same by the counts of the whole stream
pub goes-real : (rate : Rate) (ended : Bool) (counts : Counts) (eaten given waiting want : ℕ) (advance : Advance) → StandFor rate counts eaten given
    → Goes rate ended counts waiting want advance → Goes rate ended (record { eaten = eaten; given = given }) waiting want advance
goes-real rate ended counts eaten given waiting want advance h goes = record { eaten = eats; given = gives; silent = silent }
  where
    fed : fed_in_all rate (record { eaten = eaten; given = given }) ≡ fed_in_all rate counts + h.eaten_before
    fed = fed-real rate counts eaten given h

    eats : advance.eaten ≡ min waiting (need rate (given + want) - fed_in_all rate (record { eaten = eaten; given = given }))
    eats = omega (arith, goes.eaten, fed, need-real rate counts eaten given want h)

    gives : advance.given ≡ min want (allowed_in_all ended rate (eaten + advance.eaten) - given)
    gives =
        let place : eaten + advance.eaten ≡ counts.eaten + advance.eaten + h.eaten_before = omega (arith, h.eaten_is) in
        let same = allowed-real ended rate h.eaten_before h.given_before (counts.eaten + advance.eaten) counts.given h.period in
        goes.given ∙ ap (min want) (sym same ∙ ap (λ n. allowed_in_all ended rate n - (counts.given + h.given_before)) (sym place) ∙ ap (λ n. allowed_in_all ended rate (eaten + advance.eaten) - n) (sym h.given_is))

    silent : advance.silent ≡ need rate (given + advance.given) - (fed_in_all rate (record { eaten = eaten; given = given }) + advance.eaten)
    silent = omega (arith, goes.silent, fed, need-real rate counts eaten given advance.given h)

-- and the counts of the whole stream are in time
pub in_time-real : (rate : Rate) (counts : Counts) (eaten given : ℕ) → StandFor rate counts eaten given → InTime rate counts → InTime rate (record { eaten = eaten; given = given })
in_time-real rate counts eaten given h t =
    let laws = counts-periodic rate h.eaten_before h.given_before h.period in
    let place : eaten ≡ counts.eaten + 1 * h.eaten_before = omega (arith, h.eaten_is) in
    record {
      early = omega (arith, t.early, h.eaten_is, need-given rate counts eaten given h, need-real rate counts eaten given 1 h);
      late = omega (arith, t.late, h.given_is, ap (len rate) place, laws.len counts.eaten 1);
    }

-- ---- what stages are offered

-- the last output that frames last for needs no more than they and the lookahead
pub len-need : (rate : Rate) (n : ℕ) → IsRatio rate → need rate (len rate n) ≤ n + rate.lookahead
len-need rate n ratio = at (len rate n) refl
  where
    at : (c : ℕ) → c ≡ len rate n → need rate c ≤ n + rate.lookahead
    at zero e = omega arith
    at (suc c) e =
        let used = (below_div_up c (n * rate.dst) rate.src ratio.src).0 (omega arith) in
        let place = (div-lt_iff_lt-mul {k = rate.dst} {x = c * rate.src} {y = n} ratio.dst).1 used in
        omega arith

-- and the next one needs more
pub need-past-len : (rate : Rate) (n : ℕ) → IsRatio rate → n + rate.lookahead < need rate (len rate n + 1)
need-past-len rate n ratio =
    let next : len rate n + 1 ≡ suc (len rate n) = omega arith in
    let src = ratio.src in
    let up = lt-div-mul-add {a = n * rate.dst + (rate.src - 1)} {b = rate.src} ratio.src in
    let place = (le-div_iff_mul-le {k = rate.dst} {x = n} {y = len rate n * rate.src} ratio.dst).1 (omega arith) in
    omega (arith, ap (need rate) next, place)

-- what is known where a block moves the counts of the whole stream
pub record Blocks (rate : Rate) (ended : Bool) (n quiet given waiting want : ℕ) (advance : Advance) : Type 0 where
  pub ratio : IsRatio rate
  pub in_time : InTime rate (record { eaten = n; given = given })
  pub silent : quiet ≡ need rate given - n
  pub past : 0 < quiet → (ended ≡ true) × (waiting ≡ 0)
  pub goes : Goes rate ended (record { eaten = n; given = given }) waiting want advance

-- the silence so far comes after all frames
still : (rate : Rate) (ended : Bool) (n quiet given waiting want : ℕ) (advance : Advance) → Blocks rate ended n quiet given waiting want advance → (quiet ≡ 0) ⊎ ((ended ≡ true) × (advance.eaten ≡ 0) × (waiting ≡ 0))
still rate ended n zero given waiting want advance h = inl refl
still rate ended n (suc quiet) given waiting want advance h =
    let past = h.past (omega arith) in
    let goes = h.goes in
    let none = past.1 in
    inr (past.0, omega (arith, goes.eaten), none)

-- all frames that the stages are offered are eaten
pub offers-all : (rate : Rate) (ended : Bool) (n quiet given waiting want : ℕ) (advance : Advance) → Blocks rate ended n quiet given waiting want advance
    → n + quiet + (advance.eaten + advance.silent) ≡ max (n + quiet) (min (n + quiet + (advance.eaten + advance.silent)) (need rate (given + want)))
offers-all rate ended n quiet given waiting want advance h =
    let goes = h.goes in
    let gives = goes.given in
    let used = need_grows rate (given + advance.given) (given + want) h.ratio.dst (omega arith) in
    omega (arith, h.silent, goes.eaten, goes.silent, used)

-- what they are offered is what the outputs need, or all
offered-is : (rate : Rate) (ended : Bool) (n quiet given waiting want : ℕ) (advance : Advance) → Blocks rate ended n quiet given waiting want advance
    → n + quiet + (advance.eaten + advance.silent) ≡ max (max n (need rate given) + advance.eaten) (need rate (given + advance.given))
offered-is rate ended n quiet given waiting want advance h = let goes = h.goes in omega (arith, h.silent, goes.silent)

-- one output more than are given needs more
offers-most : (rate : Rate) (ended : Bool) (n quiet given waiting want : ℕ) (advance : Advance) → Blocks rate ended n quiet given waiting want advance → advance.given < want
    → n + quiet + (advance.eaten + advance.silent) < need rate (given + advance.given + 1)
offers-most rate false n quiet given waiting want advance h fewer =
    let goes = h.goes in
    let gives = goes.given in
    let all = n + advance.eaten in
    let none : quiet ≡ 0 = elim (still rate false n quiet given waiting want advance h) [ inl e ↦ e | inr other ↦ absurd (let no = other.0 in cc) ] in
    let past = need-past rate (given + advance.given + 1) all h.ratio (omega arith) in
    let within : need rate (given + advance.given) ≤ all = fits advance.given refl (omega arith) in
    omega (arith, offered-is rate false n quiet given waiting want advance h, h.silent, within, past, none)
  where
    fits : (m : ℕ) → m ≡ advance.given → advance.given < want → need rate (given + advance.given) ≤ n + advance.eaten
    fits zero e fewer =
        let none : quiet ≡ 0 = elim (still rate false n quiet given waiting want advance h) [ inl e ↦ e | inr other ↦ absurd (let no = other.0 in cc) ] in
        let same : given + advance.given ≡ given = omega arith in
        omega (arith, h.silent, none, ap (need rate) same)
    fits (suc m) e fewer =
        let gives = h.goes.given in
        let last : given + advance.given ≤ can rate (n + advance.eaten) = omega arith in
        (can-greatest rate h.ratio.src h.ratio.dst (given + advance.given) (n + advance.eaten)).1 last
offers-most rate true n quiet given waiting want advance h fewer =
    let goes = h.goes in
    let gives = goes.given in
    let all = n + advance.eaten in
    let grown = len_grows rate n all h.ratio.src (omega arith) in
    let last : given + advance.given ≡ len rate all = omega (arith, h.in_time.late) in
    let next : given + advance.given + 1 ≡ len rate all + 1 = omega arith in
    let more = need_grows rate given (given + advance.given) h.ratio.dst (omega arith) in
    elim (still rate true n quiet given waiting want advance h) [
      | inl none ↦ omega (arith, offered-is rate true n quiet given waiting want advance h, h.silent, none, len-need rate all h.ratio, need-past-len rate all h.ratio, ap (need rate) last, ap (need rate) next)
      | inr other ↦ omega (arith, offered-is rate true n quiet given waiting want advance h, other.1, more, len-need rate all h.ratio, need-past-len rate all h.ratio, ap (need rate) last, ap (need rate) next)
    ]

-- so the converter gives what the counts say
pub offers-given : (rate : Rate) (ended : Bool) (n quiet given waiting want : ℕ) (advance : Advance) → Blocks rate ended n quiet given waiting want advance
    → advance.given ≡ min want (can rate (n + quiet + (advance.eaten + advance.silent)) - given)
offers-given rate ended n quiet given waiting want advance h =
    let goes = h.goes in
    let gives = goes.given in
    let all = n + quiet + (advance.eaten + advance.silent) in
    let least = (can-greatest rate h.ratio.src h.ratio.dst (given + advance.given) all).0 (omega (arith, offered-is rate ended n quiet given waiting want advance h)) in
    elim (cases_lt advance.given want) [
      | inl fewer ↦ elim (cases_lt (given + advance.given) (can rate all)) [
        | inl more ↦ absurd (omega (arith, offers-most rate ended n quiet given waiting want advance h fewer, (can-greatest rate h.ratio.src h.ratio.dst (given + advance.given + 1) all).1 (omega arith)))
        | inr most ↦ omega arith
      ]
      | inr enough ↦ omega arith
    ]

-- the silence after them all
pub offers-silent : (rate : Rate) (ended : Bool) (n quiet given waiting want : ℕ) (advance : Advance) → Blocks rate ended n quiet given waiting want advance
    → quiet + advance.silent ≡ need rate (given + advance.given) - (n + advance.eaten)
offers-silent rate ended n quiet given waiting want advance h =
    let goes = h.goes in
    let more = need_grows rate given (given + advance.given) h.ratio.dst (omega arith) in
    elim (still rate ended n quiet given waiting want advance h) [
      | inl none ↦ omega (arith, h.silent, goes.silent, none)
      | inr other ↦ omega (arith, h.silent, goes.silent, other.1, more)
    ]

-- it comes only where nothing more comes, and nothing waits
pub offers-ends : (rate : Rate) (ended : Bool) (n quiet given waiting want : ℕ) (advance : Advance) → Blocks rate ended n quiet given waiting want advance
    → 0 < quiet + advance.silent → (ended ≡ true) × (advance.eaten ≡ waiting)
offers-ends rate ended n quiet given waiting want advance h some =
    elim (still rate ended n quiet given waiting want advance h) [
      | inl none ↦ (over ended h none some, eats none)
      | inr other ↦ (other.0, other.1 ∙ sym other.2)
    ]
  where
    eats : quiet ≡ 0 → advance.eaten ≡ waiting
    eats none =
        let goes = h.goes in
        let gives = goes.given in
        let used = need_grows rate (given + advance.given) (given + want) h.ratio.dst (omega arith) in
        omega (arith, offers-silent rate ended n quiet given waiting want advance h, h.silent, goes.eaten, used)

    over : (over : Bool) → Blocks rate over n quiet given waiting want advance → quiet ≡ 0 → 0 < quiet + advance.silent → over ≡ true
    over true h none some = refl
    over false h none some = absurd (sure advance.given refl)
      where
        sure : (m : ℕ) → m ≡ advance.given → ⊥
        sure zero e =
            let same : given + advance.given ≡ given = omega arith in
            omega (arith, offers-silent rate false n quiet given waiting want advance h, h.silent, ap (need rate) same)
        sure (suc m) e =
            let gives = h.goes.given in
            let last : given + advance.given ≤ can rate (n + advance.eaten) = omega arith in
            omega (arith, offers-silent rate false n quiet given waiting want advance h, (can-greatest rate h.ratio.src h.ratio.dst (given + advance.given) (n + advance.eaten)).1 last)

-- frames are left that wait only where the outputs wanted need no more
pub offers-enough : (rate : Rate) (ended : Bool) (n quiet given waiting want : ℕ) (advance : Advance) → Blocks rate ended n quiet given waiting want advance
    → advance.eaten < waiting → need rate (given + want) ≤ n + advance.eaten
offers-enough rate ended n quiet given waiting want advance h fewer =
    let none : quiet ≡ 0 = elim (still rate ended n quiet given waiting want advance h) [ inl e ↦ e | inr other ↦ absurd (let all = other.2 in omega arith) ] in
    let goes = h.goes in
    omega (arith, goes.eaten, h.silent, none)

-- a pull goes as far as all frames that wait allow
pub offers-far : (rate : Rate) (ended : Bool) (n quiet given waiting want : ℕ) (advance : Advance) → Blocks rate ended n quiet given waiting want advance
    → (advance.given ≡ min want (allowed_in_all ended rate (n + waiting) - given)) × (n + advance.eaten ≡ max n (min (n + waiting) (need rate (given + want))))
offers-far rate ended n quiet given waiting want advance h = (gives (cases_lt advance.eaten waiting), eats)
  where
    eats : n + advance.eaten ≡ max n (min (n + waiting) (need rate (given + want)))
    eats =
        elim (still rate ended n quiet given waiting want advance h) [
          | inl none ↦ (let goes = h.goes in omega (arith, goes.eaten, h.silent, none))
          | inr other ↦ omega (arith, other.1, other.2)
        ]

    gives : (advance.eaten < waiting) ⊎ (waiting ≤ advance.eaten) → advance.given ≡ min want (allowed_in_all ended rate (n + waiting) - given)
    gives (inl fewer) =
        let goes = h.goes in
        let enough = offers-enough rate ended n quiet given waiting want advance h fewer in
        let here = needed-allowed ended rate (given + want) (n + advance.eaten) h.ratio enough in
        let more = allowed-grows ended rate (n + advance.eaten) (n + waiting) h.ratio (omega arith) in
        omega (arith, goes.given, here, more)
    gives (inr all) =
        let goes = h.goes in
        let same : advance.eaten ≡ waiting = omega (arith, goes.eaten) in
        goes.given ∙ ap (λ k. min want (allowed_in_all ended rate (n + k) - given)) same

-- the counts of an empty stream stand for it
pub none-stands : (rate : Rate) → IsRatio rate → StandFor rate (record { eaten = 0; given = 0 }) 0 0
none-stands rate ratio = record {
  eaten_before = 0;
  given_before = 0;
  period = record { src_above = ratio.src; dst_above = ratio.dst; same = omega arith };
  eaten_is = omega arith;
  given_is = omega arith;
  begun = λ some. absurd (omega arith);
}

-- and all counts stand for themselves
pub all-stand : (rate : Rate) (counts : Counts) → IsRatio rate → StandFor rate counts counts.eaten counts.given
all-stand rate counts ratio = record {
  eaten_before = 0;
  given_before = 0;
  period = record { src_above = ratio.src; dst_above = ratio.dst; same = omega arith };
  eaten_is = omega arith;
  given_is = omega arith;
  begun = λ some. absurd (omega arith);
}

-- ---- a block that is eaten whole

-- a block of outputs more needs some frames more
need-later : (rate : Rate) (c : ℕ) → IsNear rate → (need rate c + 2 ≤ need rate (c + 256)) × (need rate (c + 1) + 1 ≤ need rate (c + 256))
need-later rate zero near =
    let spread = near.spread in
    let dst = near.ratio.dst in
    let first : 1 ≤ 255 * rate.src / rate.dst = (le-div_iff_mul-le {k = rate.dst} {x = 1} {y = 255 * rate.src} dst).1 (omega arith) in
    let place : 0 * rate.src / rate.dst ≤ 0 = div-le_of_le-mul rate.dst {m = 0 * rate.src} {n = 0} (omega arith) in
    (omega (arith, first), omega (arith, first, place))
need-later rate (suc c) near =
    let spread = near.spread in
    let dst = near.ratio.dst in
    let here = div_grows (c * rate.src + 2 * rate.dst) ((c + 256) * rate.src) rate.dst dst (omega arith) in
    let more = div_more (c * rate.src) (c * rate.src + 2 * rate.dst) rate.dst 2 dst refl in
    let next = div_grows (suc c * rate.src + 1 * rate.dst) ((c + 256) * rate.src) rate.dst dst (omega arith) in
    let after = div_more (suc c * rate.src) (suc c * rate.src + 1 * rate.dst) rate.dst 1 dst refl in
    let late : suc c + 256 ≡ suc (c + 256) = omega arith in
    let past : suc c + 1 ≡ suc (suc c) = omega arith in
    (omega (arith, here, more, ap (need rate) late), omega (arith, next, after, ap (need rate) late, ap (need rate) past))

-- so a frame at least makes a block
pub piece-some : (rate : Rate) (counts : Counts) → IsNear rate → AreBounded rate counts → counts.eaten + 2 ≤ need rate (counts.given + 256)
piece-some rate counts near bounded =
    let later = need-later rate counts.given near in
    omega (arith, bounded.in_time.early, later.0, later.1)

-- and no more outputs come of it than have room
pub piece-reach : (rate : Rate) (counts : Counts) (frames : ℕ) → IsNear rate → counts.eaten + frames < need rate (counts.given + 256) → can rate (counts.eaten + frames) < counts.given + 256
piece-reach rate counts frames near below =
    elim (cases_lt (can rate (counts.eaten + frames)) (counts.given + 256)) [
      | inl fits ↦ fits
      | inr past ↦ absurd (let needed = (can-greatest rate near.ratio.src near.ratio.dst (counts.given + 256) (counts.eaten + frames)).1 past in omega (arith, needed, below))
    ]
