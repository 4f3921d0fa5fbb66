-- What a pull means: a block, no block, and one pull after another.
use Rattle.std.proofs.Common.{◌≡◌, ◌<◌, ◌≤◌, ◌+◌, ◌-◌, ◌*◌, min, max, ℕ, zero, suc, ℤ, pos, Bool, false, List, [], ◌++◌, length, take, drop, get_or, replicate, inl, inr, All, refl, sym, ap, ◌∙◌, subst, arith}
use Rattle.std.proofs.lemmas.Bool.{cases_lt}
use Rattle.std.proofs.Math.Seq.{take-add, take-append-add}
use Rattle.std.proofs.lemmas.List.Concat.{flat_map-append}
use Rattle.std.proofs.lemmas.List.{append-nil, append_assoc, drop_all, drop_at, drop-drop, ext_get_or, take_at, length-append, length-drop, length-replicate, length-take-le, nil_from_length, take-append-drop, take_all}
use Rattle.std.proofs.lemmas.List.Elements.{All-nil, All-append, All-take, All-replicate}
use Rattle.std.proofs.lemmas.List.FromFn.{get_or-map-range_with_len}
use borrow.Rule.Slice.PartMut.{put_mid}
use Rattle.pcm_num.specs.Limit.{FitsBits}
use Rattle.pcm_format.specs.Frames.{Frame}
use Rattle.pcm_format.specs.Layouts.{channels_of}
use Rattle.pcm_rate.specs.declared.rate.Rate.{Rate}
use Rattle.pcm_rate.specs.Rates.{IsRatio, need, can}
use Rattle.pcm_rate.proofs.Counts.{can-greatest, need_grows}
use Rattle.pcm_feeder.specs.declared.stage.Gain.{Gain}
use Rattle.pcm_feeder.specs.declared.stage.Spec.{Spec}
use Rattle.pcm_feeder.specs.Filters.{Filters}
use Rattle.pcm_feeder.specs.Kept.{Kept}
use Rattle.pcm_feeder.specs.Streams.{silence, stream_of, interleaved, written, HaveChannels}
use Rattle.pcm_feeder.proofs.Frames.{length-interleaved}
use Rattle.pcm_feeder.proofs.Streams.{stream-silence-after}
use Rattle.pcm_plan.specs.Plans.{PlanSeen, rate_in_plan}
use Rattle.pcm_plan.specs.Fits.{HaveBits, IsPlan}
use Rattle.pcm_plan.specs.Through.{through, out, outs}
use Rattle.pcm_plan.proofs.Fits.{ratio-in}
use Rattle.pcm_plan.proofs.Through.{through-same, out-append, length-outs, outs-add, outs-channels}
use Rattle.pcm_chain.specs.declared.chain.ChainOf.{ChainOf}
use Rattle.pcm_chain.specs.declared.chain.Pulled.{Pulled}
use Rattle.pcm_chain.specs.declared.counts.Advance.{Advance}
use Rattle.pcm_chain.specs.Bits.{bits_left}
use Rattle.pcm_chain.specs.Boxes.{kept_in}
use Rattle.pcm_chain.specs.Chains.{boxes_in, plan_in, counts_in, StagesStand, ChainStands}
use Rattle.pcm_chain.specs.Counts.{allowed_in_all, AreBounded, Goes, StandFor}
use Rattle.pcm_chain.specs.Feeds.{fed_through, AreFed}
use Rattle.pcm_chain.specs.Far.{AreSoFar, ChainIsSoFar}
use Rattle.pcm_chain.specs.Pulls.{IsPastTheEnd, PullsAsFar, IsFarBehind, GoesFar, StandsBehind, Pulls}
use Rattle.pcm_chain.proofs.Bits.{interleaved-bits}
use Rattle.pcm_chain.proofs.Counting.{Blocks, past-allowed, goes-real, in_time-real, offers-all, offers-given, offers-silent, offers-ends, offers-enough, offers-far}
use Rattle.pcm_chain.proofs.Far.{Asks, chain-far, AreFarther, fed-far}
use Rattle.pcm_chain.proofs.Streaming.{stages-fed, comes-out}
use Rattle.pcm_chain.proofs.Waiting.{replicate-add}

-- ---- a block

-- the frames that a block offers to the first stage: those that it takes out of the ring, and silence after them
abbrev pub offered : ℕ → Advance → List Frame → List Frame
offered channels advance waiting = take advance.eaten waiting ++ replicate advance.silent (silence channels)

length-offered : (c : ℕ) (advance : Advance) (waiting : List Frame) → advance.eaten ≤ length waiting → length (offered c advance waiting) ≡ advance.eaten + advance.silent
length-offered c advance waiting within =
    omega (arith, length-append (take advance.eaten waiting) (replicate advance.silent (silence c)), length-take-le advance.eaten waiting within, length-replicate advance.silent (silence c))

-- silence that was eaten stays after all frames
moved-behind : (c quiet : ℕ) (advance : Advance) (x waiting : List Frame) → (0 < quiet → advance.eaten ≡ 0)
    → (x ++ replicate quiet (silence c)) ++ offered c advance waiting ≡ (x ++ take advance.eaten waiting) ++ replicate (quiet + advance.silent) (silence c)
moved-behind c zero advance x waiting none =
    let same : advance.silent ≡ zero + advance.silent = omega arith in
    ap (λ list. list ++ offered c advance waiting) (append-nil x)
    ∙ sym (append_assoc x (take advance.eaten waiting) (replicate advance.silent (silence c)))
    ∙ ap (λ n. (x ++ take advance.eaten waiting) ++ replicate n (silence c)) same
moved-behind c (suc quiet) advance x waiting none =
    let s = silence c in
    let front : take advance.eaten waiting ≡ [] = ap (λ n. take n waiting) (none (omega arith)) in
    ap (λ list. (x ++ replicate (suc quiet) s) ++ (list ++ replicate advance.silent s)) front
    ∙ append_assoc x (replicate (suc quiet) s) (replicate advance.silent s)
    ∙ ap (λ list. x ++ list) (replicate-add (suc quiet) advance.silent s)
    ∙ ap (λ list. list ++ replicate (suc quiet + advance.silent) s) (sym (append-nil x))
    ∙ ap (λ list. (x ++ list) ++ replicate (suc quiet + advance.silent) s) (sym front)

-- an output that was given is the plan's over all frames that wait too
heard-in-all : (plan : PlanSeen) (tables : Filters) (gain : Gain) (c quiet : ℕ) (x waiting : List Frame) (taken k : ℕ) → c ≡ channels_of plan.source → IsPlan plan
    → (taken < length waiting → k < can (rate_in_plan plan) (length (x ++ take taken waiting)))
    → through tables gain plan.stages (stream_of c ((x ++ take taken waiting) ++ replicate quiet (silence c))) (pos k) ≡ out plan tables (x ++ waiting) k gain
heard-in-all plan tables gain c quiet x waiting taken k same is enough =
    let front = x ++ take taken waiting in
    through-same tables gain plan.stages (stream_of c (front ++ replicate quiet (silence c))) (stream_of c front) (λ place. stream-silence-after c quiet front place) (pos k)
    ∙ ap (λ n. through tables gain plan.stages (stream_of n front) (pos k)) same
    ∙ elim (cases_lt taken (length waiting)) [
      | inl fewer ↦
          sym (out-append plan tables front (drop taken waiting) k gain is (enough fewer))
          ∙ ap (λ list. out plan tables list k gain) (append_assoc x (take taken waiting) (drop taken waiting) ∙ ap (λ list. x ++ list) (take-append-drop taken waiting))
      | inr all ↦ ap (λ list. out plan tables (x ++ list) k gain) (take_all taken waiting all)
    ]

-- what is known of a block
pub record IsBlock {B : Type 0} (kept : B → Kept) (tables : Filters) (gain : Gain) (ended : Bool) (want : ℕ) (waiting : List Frame) (old new : ChainOf B) (advance : Advance) (before after : List ℤ) : Type 0 where
  pub plan : plan_in new ≡ plan_in old
  pub bounded : AreBounded (rate_in_plan (plan_in old)) (counts_in old)
  pub goes : Goes (rate_in_plan (plan_in old)) ended (counts_in old) (length waiting) want advance
  pub within : advance.eaten ≤ length waiting
  pub counts : (eaten given : ℕ) → StandFor (rate_in_plan (plan_in old)) (counts_in old) eaten given → StandFor (rate_in_plan (plan_in old)) (counts_in new) (eaten + advance.eaten) (given + advance.given)
  pub have : HaveChannels (channels_of (plan_in old).source) waiting
  pub fed : AreFed (kept_in kept (boxes_in old)) (kept_in kept (boxes_in new)) tables gain want (plan_in old).stages (offered (channels_of (plan_in old).source) advance waiting)
  pub bits : HaveBits (bits_left (plan_in old).stages) (fed_through (kept_in kept (boxes_in old)) tables gain want (plan_in old).stages (offered (channels_of (plan_in old).source) advance waiting))
  pub out : after ≡ written (fed_through (kept_in kept (boxes_in old)) tables gain want (plan_in old).stages (offered (channels_of (plan_in old).source) advance waiting)) before

-- ---- how far a block goes

-- how many frames it offers in all
taken-offered : {B : Type 0} (kept : B → Kept) (tables : Filters) (gain : Gain) (ended : Bool) (want : ℕ) (waiting : List Frame) (old new : ChainOf B) (advance : Advance) (out_old out_new : List ℤ)
    → IsBlock kept tables gain ended want waiting old new advance out_old out_new → HaveChannels (channels_of (plan_in old).source) (offered (channels_of (plan_in old).source) advance waiting)
taken-offered kept tables gain ended want waiting old new advance out_old out_new h =
    let c = channels_of (plan_in old).source in
    let P : Frame → Type 0 = λ (frame : Frame). length frame ≡ c in
    All-append P (take advance.eaten waiting) (replicate advance.silent (silence c)) (All-take P advance.eaten waiting h.have) (All-replicate P advance.silent (silence c) (length-replicate c (pos 0)))

-- what a block means by the counts
pub record BlockFar {B : Type 0} (kept : B → Kept) (tables : Filters) (ended : Bool) (want : ℕ) (waiting : List Frame) (old new : ChainOf B) (n quiet before : ℕ) (advance : Advance) (out : List ℤ) : Type 0 where
  pub blocks : Blocks (rate_in_plan (plan_in old)) ended n quiet before (length waiting) want advance
  pub asks : Asks (rate_in_plan (plan_in old)) (n + quiet) before (length (offered (channels_of (plan_in old).source) advance waiting)) want advance.given
  pub goes : GoesFar kept tables ended want (length waiting) old new n before (record { given = advance.given; eaten = advance.eaten }) out

pub block-far : {B : Type 0} (kept : B → Kept) (tables : Filters) (gain : Gain) (ended : Bool) (want : ℕ) (waiting : List Frame) (old new : ChainOf B) (advance : Advance) (out_old out_new : List ℤ)
    (n quiet before : ℕ) → IsBlock kept tables gain ended want waiting old new advance out_old out_new → ChainIsSoFar kept tables old n quiet before → IsPastTheEnd ended quiet waiting
    → BlockFar kept tables ended want waiting old new n quiet before advance out_new
block-far {B = B} kept tables gain ended want waiting old new advance out_old out_new n quiet before h stands past =
    record { blocks = blocks; asks = asks; goes = record { far = record { given = far.0; eaten = far.1 }; bits = bits; behind = behind } }
  where
    plan : PlanSeen
    plan = plan_in old

    rate : Rate
    rate = rate_in_plan plan

    c : ℕ
    c = channels_of plan.source

    m : ℕ
    m = advance.given

    keeps : Spec → Kept
    keeps = kept_in kept (boxes_in old)

    input : List Frame
    input = offered c advance waiting

    blocks : Blocks rate ended n quiet before (length waiting) want advance
    blocks = record {
      ratio = ratio-in plan stands.fits;
      in_time = in_time-real rate (counts_in old) n before stands.counts h.bounded.in_time;
      silent = stands.silent;
      past = λ some. ((past some).0, ap length (past some).1);
      goes = goes-real rate ended (counts_in old) n before (length waiting) want advance stands.counts h.goes;
    }

    offered-all : length input ≡ advance.eaten + advance.silent
    offered-all = length-offered c advance waiting h.within

    asks : Asks rate (n + quiet) before (length input) want m
    asks = rw offered-all (record { all = offers-all rate ended n quiet before (length waiting) want advance blocks; gives = offers-given rate ended n quiet before (length waiting) want advance blocks })

    limits : IsPlan plan
    limits = stands.fits

    done : AreFarther (kept_in kept (boxes_in new)) tables plan.stages (n + quiet + length input) (before + m) m (channels_of plan.target) (fed_through keeps tables gain want plan.stages input)
    done = fed-far keeps (kept_in kept (boxes_in new)) tables gain want plan.stages c (channels_of plan.target) (n + quiet) input before m limits.specs limits.one_rate limits.follow stands.stages
        (taken-offered kept tables gain ended want waiting old new advance out_old out_new h) asks h.fed

    far : (advance.given ≡ min want (allowed_in_all ended rate (n + length waiting) - before)) × (n + advance.eaten ≡ max n (min (n + length waiting) (need rate (before + want))))
    far = offers-far rate ended n quiet before (length waiting) want advance blocks

    bits : All (FitsBits (bits_left plan.stages)) (take (m * channels_of plan.target) out_new)
    bits =
        let frames = fed_through keeps tables gain want plan.stages input in
        let list = interleaved frames in
        let long : length list ≡ m * channels_of plan.target = length-interleaved (channels_of plan.target) frames done.channels ∙ ap (λ k. k * channels_of plan.target) done.count in
        let front : take (m * channels_of plan.target) out_new ≡ list = ap (take (m * channels_of plan.target)) h.out ∙ take_at list (drop (length list) out_old) (m * channels_of plan.target) long in
        subst (All (FitsBits (bits_left plan.stages))) (sym front) (interleaved-bits (bits_left plan.stages) frames h.bits)

    total : n + quiet + length input ≡ n + advance.eaten + (quiet + advance.silent)
    total = omega (arith, offered-all)

    stand : PlanSeen → Type 0
    stand seen = AreSoFar (kept_in kept (boxes_in new)) tables seen.stages (n + advance.eaten + (quiet + advance.silent)) (before + m)

    behind : IsFarBehind kept tables ended (length waiting) new n before (record { given = advance.given; eaten = advance.eaten })
    behind = record {
      zeros = quiet + advance.silent;
      far = record {
        fits = subst IsPlan (sym h.plan) limits;
        counts = subst (λ (p : PlanSeen). StandFor (rate_in_plan p) (counts_in new) (n + advance.eaten) (before + m)) (sym h.plan) (h.counts n before stands.counts);
        silent = subst (λ (p : PlanSeen). quiet + advance.silent ≡ need (rate_in_plan p) (before + m) - (n + advance.eaten)) (sym h.plan)
            (offers-silent rate ended n quiet before (length waiting) want advance blocks);
        stages = subst stand (sym h.plan) (subst (λ k. AreSoFar (kept_in kept (boxes_in new)) tables plan.stages k (before + m)) total done.far);
      };
      ends = λ some. offers-ends rate ended n quiet before (length waiting) want advance blocks some;
    }

-- ---- what a block gives

pub block-pulls : {B : Type 0} (kept : B → Kept) (tables : Filters) (gain : Gain) (ended : Bool) (want : ℕ) (waiting : List Frame) (old new : ChainOf B) (advance : Advance) (out_old out_new : List ℤ)
    (x : List Frame) (quiet before : ℕ) → IsBlock kept tables gain ended want waiting old new advance out_old out_new → ChainStands kept tables old x quiet before → IsPastTheEnd ended quiet waiting
    → Pulls kept tables gain ended want waiting old new x before (record { given = advance.given; eaten = advance.eaten }) out_old out_new
unfolding block-far
block-pulls {B = B} kept tables gain ended want waiting old new advance out_old out_new x quiet before h stands past =
    record { far = by_counts.goes.far; frames = h.out ∙ ap (λ list. written list out_old) given-are; bits = subst (HaveBits (bits_left plan.stages)) given-are h.bits; stands = behind }
  where
    plan : PlanSeen
    plan = plan_in old

    rate : Rate
    rate = rate_in_plan plan

    c : ℕ
    c = channels_of plan.source

    n : ℕ
    n = length x

    m : ℕ
    m = advance.given

    keeps : Spec → Kept
    keeps = kept_in kept (boxes_in old)

    all : List Frame
    all = x ++ replicate quiet (silence c)

    input : List Frame
    input = offered c advance waiting

    by_counts : BlockFar kept tables ended want waiting old new n quiet before advance out_new
    by_counts = block-far kept tables gain ended want waiting old new advance out_old out_new n quiet before h (chain-far kept tables old x quiet before stands) past

    eaten-all : length all ≡ n + quiet
    eaten-all = omega (arith, length-append x (replicate quiet (silence c)), length-replicate quiet (silence c))

    asks : Asks rate (length all) before (length input) want m
    asks = subst (λ k. Asks rate k before (length input) want m) (sym eaten-all) by_counts.asks

    have : HaveChannels c input
    have = taken-offered kept tables gain ended want waiting old new advance out_old out_new h

    limits : IsPlan plan
    limits = stands.fits

    done : StagesStand (kept_in kept (boxes_in new)) tables plan.stages (all ++ input) (before + m) × (length (fed_through keeps tables gain want plan.stages input) ≡ m)
    done = stages-fed keeps (kept_in kept (boxes_in new)) tables gain want plan.stages c (channels_of plan.target) all input before m limits.specs limits.one_rate limits.follow stands.stages have asks h.fed

    none-more : 0 < quiet → advance.eaten ≡ 0
    none-more some = let none = ap length (past some).1 in let within = h.within in omega (arith, none, within)

    moved : all ++ input ≡ (x ++ take advance.eaten waiting) ++ replicate (quiet + advance.silent) (silence c)
    moved = moved-behind c quiet advance x waiting none-more

    count : length (x ++ take advance.eaten waiting) ≡ n + advance.eaten
    count = omega (arith, length-append x (take advance.eaten waiting), length-take-le advance.eaten waiting h.within)

    enough : (k : ℕ) → k < m → advance.eaten < length waiting → before + k < can rate (length (x ++ take advance.eaten waiting))
    enough k below fewer =
        let ratio = ratio-in plan limits in
        let needed = offers-enough rate ended n quiet before (length waiting) want advance by_counts.blocks fewer in
        let wanted : m ≤ want = (let far = by_counts.goes.far in omega (arith, far.given)) in
        let grown = need_grows rate (before + m) (before + want) ratio.dst (omega arith) in
        let allowed = (can-greatest rate ratio.src ratio.dst (before + m) (length (x ++ take advance.eaten waiting))).0 (omega (arith, count)) in
        omega (arith, allowed)

    given-at : (k : ℕ) → k < m → get_or (fed_through keeps tables gain want plan.stages input) k (silence (channels_of plan.target)) ≡ get_or (outs plan tables gain (x ++ waiting) before m) k (silence (channels_of plan.target))
    given-at k below =
        comes-out keeps tables gain want plan.stages c (channels_of plan.target) all input before m limits.specs limits.one_rate limits.late_gain limits.follow stands.stages have asks k below
        ∙ ap (λ list. through tables gain plan.stages (stream_of c list) (pos (before + k))) moved
        ∙ heard-in-all plan tables gain c (quiet + advance.silent) x waiting advance.eaten (before + k) refl limits (enough k below)
        ∙ sym (get_or-map-range_with_len (λ j. out plan tables (x ++ waiting) j gain) before m k (before + k) (silence (channels_of plan.target)) below refl)

    given-are : fed_through keeps tables gain want plan.stages input ≡ outs plan tables gain (x ++ waiting) before m
    given-are =
        ext_get_or (silence (channels_of plan.target)) (fed_through keeps tables gain want plan.stages input) (outs plan tables gain (x ++ waiting) before m)
        (done.1 ∙ sym (length-outs plan tables gain (x ++ waiting) before m))
        (λ k below. given-at k (omega (arith, done.1)))

    reached : ChainIsSoFar kept tables new (n + advance.eaten) (quiet + advance.silent) (before + m)
    reached = by_counts.goes.behind.far

    stand : PlanSeen → Type 0
    stand seen = StagesStand (kept_in kept (boxes_in new)) tables seen.stages ((x ++ take advance.eaten waiting) ++ replicate (quiet + advance.silent) (silence (channels_of seen.source))) (before + m)

    behind : StandsBehind kept tables ended waiting new x before (record { given = advance.given; eaten = advance.eaten })
    behind = record {
      zeros = quiet + advance.silent;
      stands = record {
        fits = reached.fits;
        frames = subst (λ (p : PlanSeen). HaveChannels (channels_of p.source) (x ++ take advance.eaten waiting)) (sym h.plan)
            (All-append (λ (frame : Frame). length frame ≡ c) x (take advance.eaten waiting) stands.frames (All-take (λ (frame : Frame). length frame ≡ c) advance.eaten waiting h.have));
        counts = subst (λ k. StandFor (rate_in_plan (plan_in new)) (counts_in new) k (before + m)) (sym count) reached.counts;
        silent = subst (λ k. quiet + advance.silent ≡ need (rate_in_plan (plan_in new)) (before + m) - k) (sym count) reached.silent;
        stages = subst stand (sym h.plan) (rw moved at done.0);
      };
      ends = by_counts.goes.behind.ends;
    }

-- where more may come no silence was eaten
pub no-silence-far : {B : Type 0} (kept : B → Kept) (tables : Filters) (waiting : ℕ) (chain : ChainOf B) (n before : ℕ) (pulled : Pulled)
    → IsFarBehind kept tables false waiting chain n before pulled → ChainIsSoFar kept tables chain (n + pulled.eaten) 0 (before + pulled.given)
no-silence-far kept tables waiting chain n before pulled behind =
    subst (λ zeros. ChainIsSoFar kept tables chain (n + pulled.eaten) zeros (before + pulled.given)) (none behind.zeros refl) behind.far
  where
    none : (zeros : ℕ) → zeros ≡ behind.zeros → zeros ≡ 0
    none zero same = refl
    none (suc more) same = absurd (let no = (behind.ends (omega (arith, same))).0 in cc)

-- and so it is for the frames
pub no-silence-behind : {B : Type 0} (kept : B → Kept) (tables : Filters) (waiting : List Frame) (chain : ChainOf B) (x : List Frame) (before : ℕ) (pulled : Pulled)
    → StandsBehind kept tables false waiting chain x before pulled → ChainStands kept tables chain (x ++ take pulled.eaten waiting) 0 (before + pulled.given)
no-silence-behind kept tables waiting chain x before pulled behind =
    subst (λ zeros. ChainStands kept tables chain (x ++ take pulled.eaten waiting) zeros (before + pulled.given)) (none behind.zeros refl) behind.stands
  where
    none : (zeros : ℕ) → zeros ≡ behind.zeros → zeros ≡ 0
    none zero same = refl
    none (suc more) same = absurd (let no = (behind.ends (omega (arith, same))).0 in cc)

-- ---- no block, one more, and one that falls short

-- where nothing was asked for a chain stays where it is
pub stays-far : {B : Type 0} (kept : B → Kept) (tables : Filters) (ended : Bool) (waiting : List Frame) (chain : ChainOf B) (n quiet before : ℕ) (out : List ℤ)
    → ChainIsSoFar kept tables chain n quiet before → IsPastTheEnd ended quiet waiting → GoesFar kept tables ended 0 (length waiting) chain chain n before (record { given = 0; eaten = 0 }) out
stays-far kept tables ended waiting chain n quiet before out stands past = record {
  far = record { given = omega arith; eaten = eats quiet stands.silent past };
  bits = subst (λ k. All (FitsBits (bits_left (plan_in chain).stages)) (take k out)) none (All-nil (FitsBits (bits_left (plan_in chain).stages)));
  behind = record {
    zeros = quiet;
    far = subst (λ k. ChainIsSoFar kept tables chain (n + 0) quiet k) same (subst (λ k. ChainIsSoFar kept tables chain k quiet before) still stands);
    ends = λ some. ((past some).0, sym (ap length (past some).1));
  };
}
  where
    none : 0 ≡ 0 * channels_of (plan_in chain).target
    none = omega arith

    same : before ≡ before + 0
    same = omega arith

    still : n ≡ n + 0
    still = omega arith

    rate : Rate
    rate = rate_in_plan (plan_in chain)

    eats : (quiet : ℕ) → quiet ≡ need rate before - n → IsPastTheEnd ended quiet waiting → n + 0 ≡ max n (min (n + length waiting) (need rate (before + 0)))
    eats zero silent past = omega (arith, silent, ap (need rate) same)
    eats (suc quiet) silent past = let none = ap length (past (omega arith)).1 in omega (arith, none)

-- and nothing was pulled
pub nothing-pulled : {B : Type 0} (kept : B → Kept) (tables : Filters) (gain : Gain) (ended : Bool) (waiting : List Frame) (chain : ChainOf B) (x : List Frame) (quiet before : ℕ) (out : List ℤ)
    → ChainStands kept tables chain x quiet before → IsPastTheEnd ended quiet waiting → Pulls kept tables gain ended 0 waiting chain chain x before (record { given = 0; eaten = 0 }) out out
nothing-pulled kept tables gain ended waiting chain x quiet before out stands past = record {
  far = goes.far;
  frames = refl;
  bits = All-nil (λ (frame : Frame). All (FitsBits (bits_left (plan_in chain).stages)) frame);
  stands = record {
    zeros = quiet;
    stands = subst (λ n. ChainStands kept tables chain (x ++ []) quiet n) same (subst (λ list. ChainStands kept tables chain list quiet before) (sym (append-nil x)) stands);
    ends = λ some. ((past some).0, sym (ap length (past some).1));
  };
}
  where
    goes : GoesFar kept tables ended 0 (length waiting) chain chain (length x) before (record { given = 0; eaten = 0 }) out
    goes = stays-far kept tables ended waiting chain (length x) quiet before out (chain-far kept tables chain x quiet before stands) past

    same : before ≡ before + 0
    same = omega arith

-- more frames after those that were written
pub written-behind : (list more : List Frame) (old out : List ℤ) (at : ℕ) → out ≡ written list old → length (interleaved list) ≡ at
    → take at out ++ written more (drop at out) ≡ written (list ++ more) old
written-behind list more old out at is start =
    let joined = interleaved list in
    let next = interleaved more in
    let rest = drop (length joined) old in
    let all : interleaved (list ++ more) ≡ joined ++ next = flat_map-append (λ (frame : Frame). frame) list more in
    let place : length joined + length next ≡ length (joined ++ next) = omega (arith, length-append joined next) in
    ap (λ o. take at o ++ written more (drop at o)) is
    ∙ ap (λ front. front ++ written more (drop at (joined ++ rest))) (take_at joined rest at start)
    ∙ ap (λ back. joined ++ written more back) (drop_at joined rest at start)
    ∙ ap (λ back. joined ++ (next ++ back)) (drop-drop (length next) (length joined) old)
    ∙ sym (append_assoc joined next (drop (length joined + length next) old))
    ∙ ap (λ n. (joined ++ next) ++ drop n old) place
    ∙ ap (λ l. l ++ drop (length l) old) (sym all)

-- what was written to the end of a buffer
pub put-end : (at : ℕ) (out piece : List ℤ) → put_mid at (length out - at) out piece ≡ take at out ++ piece
put-end at out piece =
    ap (λ list. take at out ++ (piece ++ list)) (drop_all (length out - at) (drop at out) (omega (arith, length-drop at out)))
    ∙ ap (λ list. take at out ++ list) (append-nil piece)

pub end-taken : (at : ℕ) (out : List ℤ) → take (length out - at) (drop at out) ≡ drop at out
end-taken at out = take_all (length out - at) (drop at out) (omega (arith, length-drop at out))

-- how far a second pull goes after a first one that gave all that it was asked for
pub far-on : (rate : Rate) (ended : Bool) (asked more n waiting before : ℕ) (first second : Pulled) → IsRatio rate → first.given ≡ asked → PullsAsFar rate ended asked n waiting before first
    → PullsAsFar rate ended more (n + first.eaten) (waiting - first.eaten) (before + first.given) second
    → PullsAsFar rate ended (asked + more) n waiting before (record { given = first.given + second.given; eaten = first.eaten + second.eaten })
far-on rate ended asked more n waiting before first second ratio full one two =
    let within : first.eaten ≤ waiting = omega (arith, one.eaten) in
    let all : n + first.eaten + (waiting - first.eaten) ≡ n + waiting = omega (arith, within) in
    let place : before + first.given + more ≡ before + (asked + more) = omega arith in
    record {
      given = omega (arith, one.given, two.given, ap (allowed_in_all ended rate) all);
      eaten = omega (arith, one.eaten, two.eaten, within, ap (need rate) place, need_grows rate (before + asked) (before + (asked + more)) ratio.dst (omega arith));
    }

pub record GoesOnFar {B : Type 0} (kept : B → Kept) (tables : Filters) (ended : Bool) (asked more : ℕ) (waiting : List Frame) (old mid new : ChainOf B) (n before : ℕ)
    (first second : Pulled) (middle part : List ℤ) : Type 0 where
  pub full : first.given ≡ asked
  pub plan : plan_in mid ≡ plan_in old
  pub long : asked * channels_of (plan_in old).target ≤ length middle
  pub is : IsPlan (plan_in old)
  pub pulled : GoesFar kept tables ended asked (length waiting) old mid n before first middle
  pub next : ChainIsSoFar kept tables mid (n + first.eaten) pulled.behind.zeros (before + first.given) → IsPastTheEnd ended pulled.behind.zeros (drop first.eaten waiting)
      → GoesFar kept tables ended more (length (drop first.eaten waiting)) mid new (n + first.eaten) (before + first.given) second part

pub goes-far : {B : Type 0} (kept : B → Kept) (tables : Filters) (ended : Bool) (asked more : ℕ) (waiting : List Frame) (old mid new : ChainOf B) (n before : ℕ)
    (first second : Pulled) (middle part : List ℤ) → GoesOnFar kept tables ended asked more waiting old mid new n before first second middle part
    → GoesFar kept tables ended (asked + more) (length waiting) old new n before (record { given = first.given + second.given; eaten = first.eaten + second.eaten })
    (take (asked * channels_of (plan_in old).target) middle ++ part)
goes-far {B = B} kept tables ended asked more waiting old mid new n before first second middle part h = record { far = far; bits = bits; behind = behind }
  where
    plan : PlanSeen
    plan = plan_in old

    rate : Rate
    rate = rate_in_plan plan

    c : ℕ
    c = channels_of plan.target

    one : PullsAsFar rate ended asked n (length waiting) before first
    one = h.pulled.far

    within : first.eaten ≤ length waiting
    within = omega (arith, one.eaten)

    rest : List Frame
    rest = drop first.eaten waiting

    left : length rest ≡ length waiting - first.eaten
    left = length-drop first.eaten waiting

    past : IsPastTheEnd ended h.pulled.behind.zeros rest
    past some =
        let ends = h.pulled.behind.ends some in
        (ends.0, nil_from_length rest (omega (arith, left, ends.1)))

    two : GoesFar kept tables ended more (length rest) mid new (n + first.eaten) (before + first.given) second part
    two = h.next h.pulled.behind.far past

    far : PullsAsFar rate ended (asked + more) n (length waiting) before (record { given = first.given + second.given; eaten = first.eaten + second.eaten })
    far = far-on rate ended asked more n (length waiting) before first second (ratio-in plan h.is) h.full one
        (subst (λ k. PullsAsFar rate ended more (n + first.eaten) k (before + first.given) second) left
        (subst (λ (p : PlanSeen). PullsAsFar (rate_in_plan p) ended more (n + first.eaten) (length rest) (before + first.given) second) h.plan two.far))

    front : length (take (asked * c) middle) ≡ first.given * c
    front = length-take-le (asked * c) middle h.long ∙ ap (λ k. k * c) (sym h.full)

    size : (first.given + second.given) * c ≡ length (take (asked * c) middle) + second.given * c
    size = omega (arith, front)

    bits : All (FitsBits (bits_left plan.stages)) (take ((first.given + second.given) * c) (take (asked * c) middle ++ part))
    bits =
        let Fit : List ℤ → Type 0 = All (FitsBits (bits_left plan.stages)) in
        let next = subst (λ (p : PlanSeen). All (FitsBits (bits_left p.stages)) (take (second.given * channels_of p.target) part)) h.plan two.bits in
        let same = ap (λ k. take k (take (asked * c) middle ++ part)) size ∙ take-append-add (take (asked * c) middle) part (second.given * c) in
        subst Fit (sym same) (All-append (FitsBits (bits_left plan.stages)) (take (asked * c) middle) (take (second.given * c) part)
        (subst (λ k. Fit (take (k * c) middle)) h.full h.pulled.bits) next)

    eaten : n + first.eaten + second.eaten ≡ n + (first.eaten + second.eaten)
    eaten = omega arith

    total : before + first.given + second.given ≡ before + (first.given + second.given)
    total = omega arith

    behind : IsFarBehind kept tables ended (length waiting) new n before (record { given = first.given + second.given; eaten = first.eaten + second.eaten })
    behind = record {
      zeros = two.behind.zeros;
      far = subst (λ k. ChainIsSoFar kept tables new (n + (first.eaten + second.eaten)) two.behind.zeros k) total
          (subst (λ k. ChainIsSoFar kept tables new k two.behind.zeros (before + first.given + second.given)) eaten two.behind.far);
      ends = λ some. let ends = two.behind.ends some in (ends.0, omega (arith, ends.1, left, within));
    }

-- what is known of a second pull after a first one that gave all that it was asked for
pub record GoesOn {B : Type 0} (kept : B → Kept) (tables : Filters) (gain : Gain) (ended : Bool) (asked more : ℕ) (waiting : List Frame) (old mid new : ChainOf B) (x : List Frame) (before : ℕ)
    (first second : Pulled) (start middle part : List ℤ) : Type 0 where
  pub full : first.given ≡ asked
  pub plan : plan_in mid ≡ plan_in old
  pub channels : HaveChannels (channels_of (plan_in old).source) (x ++ waiting)
  pub is : IsPlan (plan_in old)
  pub pulled : Pulls kept tables gain ended asked waiting old mid x before first start middle
  pub next : ChainStands kept tables mid (x ++ take first.eaten waiting) pulled.stands.zeros (before + first.given) → IsPastTheEnd ended pulled.stands.zeros (drop first.eaten waiting)
      → Pulls kept tables gain ended more (drop first.eaten waiting) mid new (x ++ take first.eaten waiting) (before + first.given) second (drop (asked * channels_of (plan_in old).target) middle) part

pub goes-on : {B : Type 0} (kept : B → Kept) (tables : Filters) (gain : Gain) (ended : Bool) (asked more : ℕ) (waiting : List Frame) (old mid new : ChainOf B) (x : List Frame) (before : ℕ)
    (first second : Pulled) (start middle part : List ℤ) → GoesOn kept tables gain ended asked more waiting old mid new x before first second start middle part
    → Pulls kept tables gain ended (asked + more) waiting old new x before (record { given = first.given + second.given; eaten = first.eaten + second.eaten })
    start (take (asked * channels_of (plan_in old).target) middle ++ part)
goes-on {B = B} kept tables gain ended asked more waiting old mid new x before first second start middle part h = record { far = far; frames = frames; bits = bits; stands = behind }
  where
    plan : PlanSeen
    plan = plan_in old

    rate : Rate
    rate = rate_in_plan plan

    n : ℕ
    n = length x

    first-far : PullsAsFar rate ended asked n (length waiting) before first
    first-far = h.pulled.far

    within : first.eaten ≤ length waiting
    within = omega (arith, first-far.eaten)

    y : List Frame
    y = x ++ take first.eaten waiting

    rest : List Frame
    rest = drop first.eaten waiting

    long : length y ≡ n + first.eaten
    long = omega (arith, length-append x (take first.eaten waiting), length-take-le first.eaten waiting within)

    left : length rest ≡ length waiting - first.eaten
    left = length-drop first.eaten waiting

    past : IsPastTheEnd ended h.pulled.stands.zeros rest
    past some =
        let ends = h.pulled.stands.ends some in
        (ends.0, nil_from_length rest (omega (arith, left, ends.1)))

    second-pulls : Pulls kept tables gain ended more rest mid new y (before + first.given) second (drop (asked * channels_of plan.target) middle) part
    second-pulls = h.next h.pulled.stands.stands past

    second-far : PullsAsFar rate ended more (length y) (length rest) (before + first.given) second
    second-far = subst (λ (p : PlanSeen). PullsAsFar (rate_in_plan p) ended more (length y) (length rest) (before + first.given) second) h.plan second-pulls.far

    far : PullsAsFar rate ended (asked + more) n (length waiting) before (record { given = first.given + second.given; eaten = first.eaten + second.eaten })
    far = far-on rate ended asked more n (length waiting) before first second (ratio-in plan h.is) h.full first-far
        (subst (λ k. PullsAsFar rate ended more k (length waiting - first.eaten) (before + first.given) second) long
        (subst (λ k. PullsAsFar rate ended more (length y) k (before + first.given) second) left second-far))

    joined : y ++ rest ≡ x ++ waiting
    joined = append_assoc x (take first.eaten waiting) rest ∙ ap (λ list. x ++ list) (take-append-drop first.eaten waiting)

    one : List Frame
    one = outs plan tables gain (x ++ waiting) before first.given

    two : List Frame
    two = outs plan tables gain (x ++ waiting) (before + first.given) second.given

    part-is : part ≡ written two (drop (asked * channels_of plan.target) middle)
    part-is =
        second-pulls.frames
        ∙ ap (λ (p : PlanSeen). written (outs p tables gain (y ++ rest) (before + first.given) second.given) (drop (asked * channels_of plan.target) middle)) h.plan
        ∙ ap (λ list. written (outs plan tables gain list (before + first.given) second.given) (drop (asked * channels_of plan.target) middle)) joined

    front : length (interleaved one) ≡ asked * channels_of plan.target
    front =
        length-interleaved (channels_of plan.target) one (outs-channels plan tables gain (x ++ waiting) before first.given h.is h.channels)
        ∙ ap (λ k. k * channels_of plan.target) (length-outs plan tables gain (x ++ waiting) before first.given ∙ h.full)

    frames : take (asked * channels_of plan.target) middle ++ part ≡ written (outs plan tables gain (x ++ waiting) before (first.given + second.given)) start
    frames =
        ap (λ p. take (asked * channels_of plan.target) middle ++ p) part-is
        ∙ written-behind one two start middle (asked * channels_of plan.target) h.pulled.frames front
        ∙ ap (λ list. written list start) (sym (outs-add plan tables gain (x ++ waiting) before first.given second.given))

    bits : HaveBits (bits_left plan.stages) (outs plan tables gain (x ++ waiting) before (first.given + second.given))
    bits =
        let Have : List Frame → Type 0 = HaveBits (bits_left plan.stages) in
        let next = subst (λ (p : PlanSeen). HaveBits (bits_left p.stages) (outs p tables gain (y ++ rest) (before + first.given) second.given)) h.plan second-pulls.bits in
        subst Have (sym (outs-add plan tables gain (x ++ waiting) before first.given second.given))
        (All-append (λ (frame : Frame). All (FitsBits (bits_left plan.stages)) frame) one two h.pulled.bits
        (subst (λ list. Have (outs plan tables gain list (before + first.given) second.given)) joined next))

    taken : y ++ take second.eaten rest ≡ x ++ take (first.eaten + second.eaten) waiting
    taken = append_assoc x (take first.eaten waiting) (take second.eaten rest) ∙ ap (λ list. x ++ list) (sym (take-add first.eaten second.eaten waiting))

    total : before + first.given + second.given ≡ before + (first.given + second.given)
    total = omega arith

    behind : StandsBehind kept tables ended waiting new x before (record { given = first.given + second.given; eaten = first.eaten + second.eaten })
    behind = record {
      zeros = second-pulls.stands.zeros;
      stands = subst (λ k. ChainStands kept tables new (x ++ take (first.eaten + second.eaten) waiting) second-pulls.stands.zeros k) total
          (subst (λ list. ChainStands kept tables new list second-pulls.stands.zeros (before + first.given + second.given)) taken second-pulls.stands.stands);
      ends = λ some. let ends = second-pulls.stands.ends some in (ends.0, omega (arith, ends.1, left, within));
    }

-- a pull that gave less than it was asked for goes no further where more is asked for
short-far : (rate : Rate) (ended : Bool) (asked want n waiting before : ℕ) (pulled : Pulled) → IsRatio rate → pulled.given < asked → asked ≤ want → PullsAsFar rate ended asked n waiting before pulled
    → PullsAsFar rate ended want n waiting before pulled
short-far rate ended asked want n waiting before pulled ratio fewer within far =
    let past = past-allowed ended rate (before + asked) (n + waiting) ratio (omega (arith, far.given)) in
    let grown = need_grows rate (before + asked) (before + want) ratio.dst (omega arith) in
    record { given = omega (arith, far.given); eaten = omega (arith, far.eaten, past, grown) }

pub falls-far : {B : Type 0} (kept : B → Kept) (tables : Filters) (ended : Bool) (asked want waiting : ℕ) (old new : ChainOf B) (n before : ℕ) (pulled : Pulled) (out : List ℤ) → IsPlan (plan_in old)
    → pulled.given < asked → asked ≤ want → GoesFar kept tables ended asked waiting old new n before pulled out → GoesFar kept tables ended want waiting old new n before pulled out
falls-far kept tables ended asked want waiting old new n before pulled out is fewer within h =
    record { far = short-far (rate_in_plan (plan_in old)) ended asked want n waiting before pulled (ratio-in (plan_in old) is) fewer within h.far; bits = h.bits; behind = h.behind }

-- and gives no more
pub falls-short : {B : Type 0} (kept : B → Kept) (tables : Filters) (gain : Gain) (ended : Bool) (asked want : ℕ) (waiting : List Frame) (old new : ChainOf B) (x : List Frame) (before : ℕ)
    (pulled : Pulled) (start out : List ℤ) → IsPlan (plan_in old) → pulled.given < asked → asked ≤ want
    → Pulls kept tables gain ended asked waiting old new x before pulled start out → Pulls kept tables gain ended want waiting old new x before pulled start out
falls-short kept tables gain ended asked want waiting old new x before pulled start out is fewer within h =
    record {
      far = short-far (rate_in_plan (plan_in old)) ended asked want (length x) (length waiting) before pulled (ratio-in (plan_in old) is) fewer within h.far;
      frames = h.frames;
      bits = h.bits;
      stands = h.stands;
    }
