-- A change of rate in numbers of frames. k output frames at the rate `dst` last as long as
-- k * src / dst input frames.
use Rattle.std.specs.Prelude.{◌≡◌, ◌≤◌, ◌<◌, ◌↔◌, ℕ, zero, suc, ◌+◌, ◌-◌, ◌*◌, ◌/◌}
use Rattle.pcm_rate.specs.declared.rate.Rate.{Rate}

-- no change of rate: a frame for each frame
abbrev pub unchanged : Rate
unchanged = record { src = 1; dst = 1; lookahead = 0 }

-- a quotient, rounded up
abbrev pub div_up : ℕ → ℕ → ℕ
div_up a b = (a + (b - 1)) / b

-- how many input frames the first c outputs use
abbrev pub need : Rate → ℕ → ℕ
need rate zero = 0
need rate (suc c) = c * rate.src / rate.dst + 1 + rate.lookahead

-- how many outputs last as long as n input frames
abbrev pub len : Rate → ℕ → ℕ
len rate n = div_up (n * rate.dst) rate.src

-- how many outputs n input frames allow: the greatest c of which need is at most n
abbrev pub can : Rate → ℕ → ℕ
can rate n = len rate (n - rate.lookahead)

-- both rates are above 0
pub record IsRatio (rate : Rate) : Type 0 where
  pub src : 0 < rate.src
  pub dst : 0 < rate.dst

-- `can` is this greatest number
abbrev pub IsGreatest : Rate → Type 0
IsGreatest rate = (c n : ℕ) → (need rate c ≤ n) ↔ (c ≤ can rate n)

-- s input frames last as long as d outputs
pub record IsPeriod (rate : Rate) (s d : ℕ) : Type 0 where
  pub src_above : 0 < rate.src
  pub dst_above : 0 < rate.dst
  pub same : s * rate.dst ≡ d * rate.src

-- j periods more on one side are j periods more on the other
pub record IsPeriodic (rate : Rate) (s d : ℕ) : Type 0 where
  pub need : (c j : ℕ) → 0 < c → need rate (c + j * d) ≡ need rate c + j * s
  pub can : (n j : ℕ) → 0 < can rate n → can rate (n + j * s) ≡ can rate n + j * d
  pub len : (n j : ℕ) → len rate (n + j * s) ≡ len rate n + j * d

-- the same rates, both divided by one factor
pub record IsReduced (rate low : Rate) : Type 0 where
  pub factor : ℕ
  pub above : 0 < factor
  pub src_above : 0 < low.src
  pub dst_above : 0 < low.dst
  pub src : rate.src ≡ low.src * factor
  pub dst : rate.dst ≡ low.dst * factor
  pub lookahead : rate.lookahead ≡ low.lookahead

-- the same counts, and the same places under the outputs
pub record HasSameCounts (rate low : Rate) : Type 0 where
  pub place : (k : ℕ) → k * rate.src / rate.dst ≡ k * low.src / low.dst
  pub need : (c : ℕ) → need rate c ≡ need low c
  pub can : (n : ℕ) → can rate n ≡ can low n
  pub len : (n : ℕ) → len rate n ≡ len low n
