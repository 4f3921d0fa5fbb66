-- What a give means: a block that gives all that it is asked for, and all blocks.
use Rattle.std.proofs.Common.{◌≡◌, ◌≤◌, ◌+◌, ◌-◌, ◌*◌, ◌/◌, ℕ, ℤ, false, List, ◌++◌, length, take, drop, All, inl, inr, sym, ap, ◌∙◌, subst, arith}
use Rattle.std.proofs.lemmas.Bool.{cases_lt}
use Rattle.std.proofs.Math.Nat.{div-mul-le_self, mul-le-mul_right}
use Rattle.std.proofs.lemmas.List.{append-nil, drop_all, take_all, length-append}
use Rattle.pcm_num.specs.Limit.{FitsBits}
use Rattle.pcm_format.specs.Frames.{Frame}
use Rattle.pcm_format.specs.Layouts.{channels_of}
use Rattle.pcm_format.proofs.Streams.{channels_of-above}
use Rattle.pcm_rate.specs.declared.rate.Rate.{Rate}
use Rattle.pcm_rate.specs.Rates.{IsRatio, need}
use Rattle.pcm_rate.proofs.Counts.{can-greatest, need_grows}
use Rattle.pcm_feeder.specs.Filters.{Filters}
use Rattle.pcm_feeder.specs.Kept.{Kept}
use Rattle.pcm_feeder.specs.Layouts.{unity}
use Rattle.pcm_feeder.specs.Streams.{frames_of, interleaved, HaveChannels}
use Rattle.pcm_feeder.proofs.Frames.{length-frames_of, length-interleaved}
use Rattle.pcm_plan.specs.Fits.{IsPlan}
use Rattle.pcm_plan.specs.Plans.{PlanSeen, rate_in_plan}
use Rattle.pcm_plan.specs.Through.{recs}
use Rattle.pcm_plan.proofs.Fits.{ratio-in}
use Rattle.pcm_plan.proofs.Through.{length-outs, outs-channels}
use Rattle.pcm_chain.specs.declared.chain.ChainOf.{ChainOf}
use Rattle.pcm_chain.specs.declared.chain.Pulled.{Pulled}
use Rattle.pcm_chain.specs.declared.counts.Advance.{Advance}
use Rattle.pcm_chain.specs.declared.counts.Counts.{Counts}
use Rattle.pcm_chain.specs.Chains.{plan_in, ChainStands}
use Rattle.pcm_chain.specs.Counts.{Goes}
use Rattle.pcm_chain.specs.Bits.{bits_left}
use Rattle.pcm_chain.specs.Far.{ChainIsSoFar}
use Rattle.pcm_chain.specs.Gives.{GivesExactly, GivesFar, GivesNext, IsJustSoFar}
use Rattle.pcm_chain.specs.Pulls.{GoesFar, Pulls, PullsAsFar}
use Rattle.pcm_chain.specs.Pushes.{pushed_frames}
use Rattle.pcm_chain.proofs.Pulling.{IsBlock, block-far, block-pulls, end-taken, no-silence-behind, no-silence-far}
use Rattle.pcm_chain.proofs.Pushing.{parted-frames}

-- ---- a block

-- k frames have all their samples there
pub frames-within : (c k : ℕ) (samples : List ℤ) → k ≤ length (frames_of c samples) → k * c ≤ length samples
frames-within c k samples within =
    let count = length-frames_of c samples in
    let most = div-mul-le_self (length samples) c in
    omega (arith, mul-le-mul_right {m = k} {n = length samples / c} c (omega (arith, within, count)), most)

-- where more may come a block eats no silence
pub sure-silent : (rate : Rate) (counts : Counts) (waiting want : ℕ) (advance : Advance) → IsRatio rate → Goes rate false counts waiting want advance → advance.silent ≡ 0
sure-silent rate counts waiting want advance ratio goes =
    elim (cases_lt 0 advance.given) [
      | inl some ↦
          (let given = goes.given in
          let enough = (can-greatest rate ratio.src ratio.dst (counts.given + advance.given) (counts.eaten + advance.eaten)).1 (omega arith) in
          omega (arith, goes.silent, enough))
      | inr none ↦
          (let same : counts.given + advance.given ≡ counts.given = omega arith in
          omega (arith, goes.silent, ap (need rate) same))
    ]

-- what waits suffices for all that a block is asked for
block-full : (rate : Rate) (want n waiting given : ℕ) (pulled : Pulled) → IsRatio rate → PullsAsFar rate false want n waiting given pulled → need rate (given + want) ≤ n + waiting → pulled.given ≡ want
block-full rate want n waiting given pulled ratio far enough =
    let allowed = (can-greatest rate ratio.src ratio.dst (given + want) (n + waiting)).0 enough in
    omega (arith, far.given, allowed)

pub block-gives-far : {B : Type 0} (kept : B → Kept) (tables : Filters) (want : ℕ) (input : List Frame) (old new : ChainOf B) (advance : Advance) (start out : List ℤ) (n given : ℕ)
    → IsBlock kept tables unity false want input old new advance start out → ChainIsSoFar kept tables old n 0 given → need (rate_in_plan (plan_in old)) (given + want) ≤ n + length input
    → GoesFar kept tables false want (length input) old new n given (record { given = want; eaten = advance.eaten }) out
block-gives-far kept tables want input old new advance start out n given h stands enough =
    let far = block-far kept tables unity false want input old new advance start out n 0 given h stands (λ some. absurd (omega (arith, some))) in
    subst (λ m. GoesFar kept tables false want (length input) old new n given (record { given = m; eaten = advance.eaten }) out)
    (block-full (rate_in_plan (plan_in old)) want n (length input) given (record { given = advance.given; eaten = advance.eaten }) (ratio-in (plan_in old) stands.fits) far.goes.far enough) far.goes

pub block-gives : {B : Type 0} (kept : B → Kept) (tables : Filters) (want : ℕ) (input : List Frame) (old new : ChainOf B) (advance : Advance) (start out : List ℤ) (x : List Frame) (given : ℕ)
    → IsBlock kept tables unity false want input old new advance start out → ChainStands kept tables old x 0 given → need (rate_in_plan (plan_in old)) (given + want) ≤ length x + length input
    → Pulls kept tables unity false want input old new x given (record { given = want; eaten = advance.eaten }) start out
block-gives kept tables want input old new advance start out x given h stands enough =
    let pulls = block-pulls kept tables unity false want input old new advance start out x 0 given h stands (λ some. absurd (omega (arith, some))) in
    subst (λ m. Pulls kept tables unity false want input old new x given (record { given = m; eaten = advance.eaten }) start out)
    (block-full (rate_in_plan (plan_in old)) want (length x) (length input) given (record { given = advance.given; eaten = advance.eaten }) (ratio-in (plan_in old) stands.fits) pulls.far enough) pulls

-- ---- all blocks

-- the frames after those eaten
pub rest-frames : (plan now : PlanSeen) (eaten source : ℕ) (samples : List ℤ) → now ≡ plan → source ≡ channels_of plan.source → eaten ≤ length (pushed_frames plan samples)
    → pushed_frames now (take (length samples - eaten * source) (drop (eaten * source) samples)) ≡ drop eaten (pushed_frames plan samples)
rest-frames plan now eaten source samples same width within =
    let c = channels_of plan.source in
    ap (λ (p : PlanSeen). pushed_frames p (take (length samples - eaten * source) (drop (eaten * source) samples))) same
    ∙ ap (frames_of c) (end-taken (eaten * source) samples ∙ ap (λ n. drop (eaten * n) samples) width)
    ∙ (parted-frames c eaten samples (channels_of-above plan.source) (frames-within c eaten samples within)).1

-- a pull of all that is needed eats it all
pub all-eaten : (rate : Rate) (count n input given : ℕ) (pulled : Pulled) → IsRatio rate → n ≡ need rate given → input ≡ need rate (given + count) - need rate given
    → PullsAsFar rate false count n input given pulled → pulled.eaten ≡ input
all-eaten rate count n input given pulled ratio exact enough far =
    let grown = need_grows rate given (given + count) ratio.dst (omega arith) in
    omega (arith, far.eaten, enough, exact, grown)

pub pulls-give-far : {B : Type 0} (kept : B → Kept) (tables : Filters) (count eaten input : ℕ) (old new : ChainOf B) (out : List ℤ) (n given : ℕ)
    → plan_in new ≡ plan_in old → length out ≡ count * channels_of (plan_in old).target → IsJustSoFar kept tables old n given
    → input ≡ need (rate_in_plan (plan_in old)) (given + count) - need (rate_in_plan (plan_in old)) given
    → GoesFar kept tables false count input old new n given (record { given = count; eaten = eaten }) out → GivesFar kept tables input count old new n given out
pulls-give-far kept tables count eaten input old new out n given same fills exactly enough goes =
    let rate = rate_in_plan (plan_in old) in
    let ratio = ratio-in (plan_in old) exactly.far.fits in
    let every = all-eaten rate count n input given (record { given = count; eaten = eaten }) ratio exactly.exact enough goes.far in
    let grown = need_grows rate given (given + count) ratio.dst (omega arith) in
    record {
      exactly = record {
        far = subst (λ k. ChainIsSoFar kept tables new (n + k) 0 (given + count)) every
            (no-silence-far kept tables input new n given (record { given = count; eaten = eaten }) goes.behind);
        exact = subst (λ (p : PlanSeen). n + input ≡ need (rate_in_plan p) (given + count)) (sym same) (omega (arith, enough, exactly.exact, grown));
      };
      bits = subst (All (FitsBits (bits_left (plan_in old).stages))) (take_all (count * channels_of (plan_in old).target) out (omega (arith, fills))) goes.bits;
    }

-- and a give of the frames
pub pulls-give : {B : Type 0} (kept : B → Kept) (tables : Filters) (count eaten : ℕ) (input : List Frame) (old new : ChainOf B) (start out : List ℤ) (x : List Frame) (given : ℕ)
    → plan_in new ≡ plan_in old → length start ≡ count * channels_of (plan_in old).target → HaveChannels (channels_of (plan_in old).source) (x ++ input) → GivesExactly kept tables old x given
    → length input ≡ need (rate_in_plan (plan_in old)) (given + count) - need (rate_in_plan (plan_in old)) given
    → Pulls kept tables unity false count input old new x given (record { given = count; eaten = eaten }) start out → GivesNext kept tables input count old new x given out
pulls-give {B = B} kept tables count eaten input old new start out x given same fills have exactly enough pulls = record {
  exactly = record {
    stands = subst (λ list. ChainStands kept tables new (x ++ list) 0 (given + count)) (take_all eaten input (omega (arith, every)))
        (no-silence-behind kept tables input new x given (record { given = count; eaten = eaten }) pulls.stands);
    exact = subst (λ (p : PlanSeen). length (x ++ input) ≡ need (rate_in_plan p) (given + count)) (sym same) (omega (arith, length-append x input, enough, exactly.exact, grown));
  };
  frames = pulls.frames
      ∙ ap (λ list. interleaved made ++ list) (drop_all (length (interleaved made)) start (omega (arith, long, fills)))
      ∙ append-nil (interleaved made);
}
  where
    plan : PlanSeen
    plan = plan_in old

    rate : Rate
    rate = rate_in_plan plan

    is : IsPlan plan
    is = exactly.stands.fits

    made : List Frame
    made = recs plan tables (x ++ input) given count

    every : eaten ≡ length input
    every = all-eaten rate count (length x) (length input) given (record { given = count; eaten = eaten }) (ratio-in plan is) exactly.exact enough pulls.far

    grown : need rate given ≤ need rate (given + count)
    grown = need_grows rate given (given + count) (let ratio = ratio-in plan is in ratio.dst) (omega arith)

    long : length (interleaved made) ≡ count * channels_of plan.target
    long =
        length-interleaved (channels_of plan.target) made (outs-channels plan tables unity (x ++ input) given count is have)
        ∙ ap (λ n. n * channels_of plan.target) (length-outs plan tables unity (x ++ input) given count)
