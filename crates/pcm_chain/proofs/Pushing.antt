-- What a push means: a block that is eaten whole, no block, and one push after another.
use Rattle.std.proofs.Common.{◌≡◌, ◌<◌, ◌≤◌, ◌+◌, ◌-◌, ◌*◌, ◌/◌, ◌%◌, min, ℕ, ℤ, false, List, [], ◌∷◌, ◌++◌, length, take, drop, All, inl, inr, refl, sym, ap, ◌∙◌, subst, arith}
use Rattle.std.specs.List.{flat_map}
use Rattle.std.proofs.lemmas.Bool.{cases_lt}
use Rattle.std.proofs.Math.Nat.{mul-le-mul_right, mul-div_cancel, mul-mod_left, div-mul-le_self, div-add-mod'}
use Rattle.std.proofs.Math.Seq.{take-add}
use Rattle.std.proofs.lemmas.List.{append-nil, append_assoc, drop_at, take_at, take_all, take-take, length-append, length-drop, length-take-le, take-append-drop}
use Rattle.std.proofs.lemmas.List.Concat.{flat_map-append}
use Rattle.std.proofs.lemmas.List.Elements.{All-append, All-take}
use Rattle.pcm_num.specs.Limit.{FitsBits}
use Rattle.pcm_format.specs.declared.format.Format.{Format}
use Rattle.pcm_format.specs.Frames.{Frame, spelled_frame, spelled_frames}
use Rattle.pcm_format.specs.Layouts.{channels_of}
use Rattle.pcm_format.specs.Samples.{spelled}
use Rattle.pcm_rate.specs.declared.rate.Rate.{Rate}
use Rattle.pcm_rate.specs.Rates.{IsRatio, need, can}
use Rattle.pcm_rate.proofs.Counts.{can-greatest, can-le-len, div_more, len_grows, need_grows, need-can, need-past}
use Rattle.pcm_feeder.specs.declared.stage.Spec.{Spec}
use Rattle.pcm_feeder.specs.Filters.{Filters}
use Rattle.pcm_feeder.specs.Kept.{Kept}
use Rattle.pcm_feeder.specs.Layouts.{unity}
use Rattle.pcm_feeder.specs.Streams.{frames_of, interleaved, written, HaveChannels}
use Rattle.pcm_feeder.proofs.Frames.{length-frames_of, frames_of-append, length-interleaved}
use Rattle.pcm_plan.specs.Fits.{IsPlan, HaveBits}
use Rattle.pcm_plan.specs.Plans.{PlanSeen, rate_in_plan}
use Rattle.pcm_plan.specs.Through.{recs}
use Rattle.pcm_plan.proofs.Fits.{ratio-in}
use Rattle.pcm_plan.proofs.Through.{length-outs, outs-add, outs-append, outs-channels}
use Rattle.pcm_chain.specs.declared.chain.ChainOf.{ChainOf}
use Rattle.pcm_chain.specs.declared.chain.Pushed.{Pushed}
use Rattle.pcm_chain.specs.declared.counts.Advance.{Advance}
use Rattle.pcm_chain.specs.declared.counts.Counts.{Counts}
use Rattle.pcm_chain.specs.Bits.{bits_left}
use Rattle.pcm_chain.specs.Boxes.{kept_in}
use Rattle.pcm_chain.specs.Chains.{boxes_in, plan_in, counts_in, ChainStands}
use Rattle.pcm_chain.specs.Counts.{eats_all, AreBounded, Goes, InTime, StandFor}
use Rattle.pcm_chain.specs.Feeds.{first_frames, fed_through, AreFed}
use Rattle.pcm_chain.specs.Pulls.{Pulls}
use Rattle.pcm_chain.specs.Far.{ChainIsSoFar}
use Rattle.pcm_chain.specs.Pushes.{HasRecorded, HasRecordedFar, Pushes, PushesFar}
use Rattle.pcm_chain.proofs.Counting.{allowed-grows, fed-real}
use Rattle.pcm_chain.proofs.Far.{chain-far}
use Rattle.pcm_chain.proofs.Pulling.{IsBlock, block-far, block-pulls, no-silence-behind, no-silence-far, offered}

-- ---- counts

-- the counts stay in time
pub whole-in_time : (rate : Rate) (counts : Counts) (n : ℕ) → IsRatio rate → InTime rate counts
    → InTime rate (record { eaten = counts.eaten + n; given = counts.given + (eats_all rate counts n).given })
whole-in_time rate counts n ratio h =
    let all = counts.eaten + n in
    let after = counts.given + (can rate all - counts.given) in
    record {
      early = omega (arith, need-past rate (after + 1) all ratio (omega arith));
      late = omega (arith, h.late, can-le-len rate all ratio.src, len_grows rate counts.eaten all ratio.src (omega arith));
    }

-- no frames allow no output
pub can-none : (rate : Rate) → IsRatio rate → can rate 0 ≡ 0
can-none rate ratio =
    elim (cases_lt 0 (can rate 0)) [
      | inl some ↦ absurd (let needed = need-can rate 0 ratio in let first = need_grows rate 1 (can rate 0) ratio.dst some in omega (arith, needed, first))
      | inr none ↦ omega arith
    ]

-- no silence was eaten, by the counts
no-silence : (rate : Rate) (counts : Counts) (eaten given : ℕ) (h : StandFor rate counts eaten given) → need rate given ≤ eaten → need rate counts.given ≤ counts.eaten
no-silence rate counts eaten given h all = omega (arith, fed-real rate counts eaten given h, h.eaten_is, all)

-- a block that is eaten whole goes as one that is asked for a frame more than comes
whole-goes : (rate : Rate) (counts : Counts) (n : ℕ) → IsRatio rate → need rate counts.given ≤ counts.eaten → Goes rate false counts n ((eats_all rate counts n).given + 1) (eats_all rate counts n)
whole-goes rate counts n ratio clear =
    let all = counts.eaten + n in
    let sure = (can-greatest rate ratio.src ratio.dst counts.given all).0 (omega arith) in
    let past = need-past rate (can rate all + 1) all ratio (omega arith) in
    let fits = need-can rate all ratio in
    let next : counts.given + ((can rate all - counts.given) + 1) ≡ can rate all + 1 = omega (arith, sure) in
    let last : counts.given + (can rate all - counts.given) ≡ can rate all = omega (arith, sure) in
    record {
      eaten = omega (arith, past, clear, ap (need rate) next);
      given = omega (arith, sure);
      silent = omega (arith, fits, clear, ap (need rate) last);
    }

-- more frames allow no fewer outputs
can-grows : (rate : Rate) (n m : ℕ) → IsRatio rate → n ≤ m → can rate n ≤ can rate m
can-grows rate n m ratio h = allowed-grows false rate n m ratio h

-- a chain at its begin has recorded no frames
pub begun : {B : Type 0} (kept : B → Kept) (tables : Filters) (chain : ChainOf B) → ChainStands kept tables chain [] 0 0 → HasRecorded kept tables chain []
begun kept tables chain stands = subst (λ n. ChainStands kept tables chain [] 0 n) (sym (can-none (rate_in_plan (plan_in chain)) (ratio-in (plan_in chain) stands.fits))) stands

-- ---- a block

-- how many frames come of a block
abbrev pub come : {B : Type 0} → ChainOf B → List Frame → ℕ
come chain input = (eats_all (rate_in_plan (plan_in chain)) (counts_in chain) (length input)).given

-- what is known of a block that is eaten whole
pub record IsWhole {B : Type 0} (kept : B → Kept) (tables : Filters) (input : List Frame) (old new : ChainOf B) (before after : List ℤ) : Type 0 where
  pub plan : plan_in new ≡ plan_in old
  pub bounded : AreBounded (rate_in_plan (plan_in old)) (counts_in old)
  pub counts : (eaten given : ℕ) → StandFor (rate_in_plan (plan_in old)) (counts_in old) eaten given → StandFor (rate_in_plan (plan_in old)) (counts_in new) (eaten + length input) (given + come old input)
  pub have : HaveChannels (channels_of (plan_in old).source) input
  pub fed : AreFed (kept_in kept (boxes_in old)) (kept_in kept (boxes_in new)) tables unity (come old input + 1) (plan_in old).stages input
  pub bits : HaveBits (bits_left (plan_in old).stages) (fed_through (kept_in kept (boxes_in old)) tables unity (come old input + 1) (plan_in old).stages input)
  pub out : after ≡ written (fed_through (kept_in kept (boxes_in old)) tables unity (come old input + 1) (plan_in old).stages input) before

-- it goes as one that is asked for a frame more than comes
whole-block : {B : Type 0} (kept : B → Kept) (tables : Filters) (input : List Frame) (old new : ChainOf B) (n : ℕ) (start out : List ℤ)
    → IsWhole kept tables input old new start out → HasRecordedFar kept tables old n
    → IsBlock kept tables unity false (come old input + 1) input old new (eats_all (rate_in_plan (plan_in old)) (counts_in old) (length input)) start out
whole-block kept tables input old new n start out h records =
    let plan = plan_in old in
    let rate = rate_in_plan plan in
    let ratio = ratio-in plan records.fits in
    let m = come old input in
    let clear = no-silence rate (counts_in old) n (can rate n) records.counts (need-can rate n ratio) in
    let none : offered (channels_of plan.source) (eats_all rate (counts_in old) (length input)) input ≡ input =
    append-nil (take (length input) input) ∙ take_all (length input) input (omega arith) in
    record {
      plan = h.plan;
      bounded = h.bounded;
      goes = whole-goes rate (counts_in old) (length input) ratio clear;
      within = omega arith;
      counts = h.counts;
      have = h.have;
      fed = subst (λ list. AreFed (kept_in kept (boxes_in old)) (kept_in kept (boxes_in new)) tables unity (m + 1) plan.stages list) (sym none) h.fed;
      bits = subst (λ list. HaveBits (bits_left plan.stages) (fed_through (kept_in kept (boxes_in old)) tables unity (m + 1) plan.stages list)) (sym none) h.bits;
      out = h.out ∙ ap (λ list. written (fed_through (kept_in kept (boxes_in old)) tables unity (m + 1) plan.stages list) start) (sym none);
    }

-- what it means by the counts
pub record RecordsFar {B : Type 0} (kept : B → Kept) (tables : Filters) (input : List Frame) (old new : ChainOf B) (n : ℕ) (after : List ℤ) : Type 0 where
  pub came : come old input ≡ can (rate_in_plan (plan_in old)) (n + length input) - can (rate_in_plan (plan_in old)) n
  pub records : HasRecordedFar kept tables new (n + length input)
  pub bits : All (FitsBits (bits_left (plan_in old).stages)) (take (come old input * channels_of (plan_in old).target) after)

pub block-records-far : {B : Type 0} (kept : B → Kept) (tables : Filters) (input : List Frame) (old new : ChainOf B) (n : ℕ) (start out : List ℤ)
    → IsWhole kept tables input old new start out → HasRecordedFar kept tables old n → RecordsFar kept tables input old new n out
block-records-far kept tables input old new n start out h records =
    let rate = rate_in_plan (plan_in old) in
    let ratio = ratio-in (plan_in old) records.fits in
    let before = can rate n in
    let m = come old input in
    let far = block-far kept tables unity false (m + 1) input old new (eats_all rate (counts_in old) (length input)) start out n 0 before
    (whole-block kept tables input old new n start out h records) records (λ some. absurd (omega (arith, some))) in
    let goes = far.goes in
    let came : m ≡ can rate (n + length input) - before = (let pulls = goes.far in omega (arith, pulls.given)) in
    let grown = can-grows rate n (n + length input) ratio (omega arith) in
    let total : before + m ≡ can rate (n + length input) = omega (arith, came, grown) in
    record {
      came = came;
      records = subst (λ k. ChainIsSoFar kept tables new (n + length input) 0 k) (total ∙ ap (λ (p : PlanSeen). can (rate_in_plan p) (n + length input)) (sym h.plan))
          (no-silence-far kept tables (length input) new n before (record { given = m; eaten = length input }) goes.behind);
      bits = goes.bits;
    }

-- and what comes of it
pub record RecordsMore {B : Type 0} (kept : B → Kept) (tables : Filters) (input : List Frame) (old new : ChainOf B) (x : List Frame) (before after : List ℤ) : Type 0 where
  pub came : come old input ≡ can (rate_in_plan (plan_in old)) (length x + length input) - can (rate_in_plan (plan_in old)) (length x)
  pub records : HasRecorded kept tables new (x ++ input)
  pub frames : after ≡ written (recs (plan_in old) tables (x ++ input) (can (rate_in_plan (plan_in old)) (length x)) (come old input)) before

pub block-records : {B : Type 0} (kept : B → Kept) (tables : Filters) (input : List Frame) (old new : ChainOf B) (x : List Frame) (start out : List ℤ)
    → IsWhole kept tables input old new start out → HasRecorded kept tables old x → RecordsMore kept tables input old new x start out
block-records {B = B} kept tables input old new x start out h stands = record { came = far.came; records = recorded; frames = pulls.frames }
  where
    rate : Rate
    rate = rate_in_plan (plan_in old)

    n : ℕ
    n = length input

    m : ℕ
    m = come old input

    before : ℕ
    before = can rate (length x)

    records : HasRecordedFar kept tables old (length x)
    records = chain-far kept tables old x 0 before stands

    far : RecordsFar kept tables input old new (length x) out
    far = block-records-far kept tables input old new (length x) start out h records

    pulls : Pulls kept tables unity false (m + 1) input old new x before (record { given = m; eaten = n }) start out
    pulls = block-pulls kept tables unity false (m + 1) input old new (eats_all rate (counts_in old) n) start out x 0 before
        (whole-block kept tables input old new (length x) start out h records) stands (λ some. absurd (omega (arith, some)))

    all : before + m ≡ can (rate_in_plan (plan_in new)) (length (x ++ input))
    all =
        let grown = can-grows rate (length x) (length x + n) (ratio-in (plan_in old) stands.fits) (omega arith) in
        let total : before + m ≡ can rate (length x + n) = omega (arith, far.came, grown) in
        total ∙ ap (can rate) (sym (length-append x input)) ∙ ap (λ (p : PlanSeen). can (rate_in_plan p) (length (x ++ input))) (sym h.plan)

    recorded : HasRecorded kept tables new (x ++ input)
    recorded =
        subst (λ k. ChainStands kept tables new (x ++ input) 0 k) all
        (subst (λ list. ChainStands kept tables new (x ++ list) 0 (before + m)) (take_all n input (omega arith))
        (no-silence-behind kept tables input new x before (record { given = m; eaten = n }) pulls.stands))

-- this follows from the contracts of a block's calls
pub whole-is : {B : Type 0} (kept : B → Kept) (tables : Filters) (input offers : List Frame) (old new : ChainOf B) (start out : List ℤ) (rate : Rate) (frames : ℕ) (advance : Advance) (stages : List Spec)
    → rate ≡ rate_in_plan (plan_in old) → length input ≡ frames → advance ≡ eats_all rate (counts_in old) frames → stages ≡ (plan_in old).stages → offers ≡ input
    → plan_in new ≡ plan_in old → HaveChannels (channels_of (plan_in old).source) input
    → ((eaten given : ℕ) → StandFor rate (counts_in old) eaten given → StandFor rate (counts_in new) (eaten + advance.eaten) (given + advance.given))
    → AreFed (kept_in kept (boxes_in old)) (kept_in kept (boxes_in new)) tables unity (advance.given + 1) stages offers
    → HaveBits (bits_left stages) (fed_through (kept_in kept (boxes_in old)) tables unity (advance.given + 1) stages offers)
    → out ≡ written (fed_through (kept_in kept (boxes_in old)) tables unity (advance.given + 1) stages offers) start
    → IsWhole kept tables input old new start out × (advance.given ≡ come old input)
whole-is kept tables input offers old new start out rate frames advance stages rated count eats staged same plan have counts fed bits gives =
    let real = rate_in_plan (plan_in old) in
    let specs = (plan_in old).stages in
    let before = kept_in kept (boxes_in old) in
    let after = kept_in kept (boxes_in new) in
    let full : advance ≡ eats_all real (counts_in old) (length input) = eats ∙ ap (λ r. eats_all r (counts_in old) frames) rated ∙ ap (eats_all real (counts_in old)) (sym count) in (
      record {
        plan = plan;
        bounded = old.bounded;
        counts = λ eaten given stand. subst (λ (a : Advance). StandFor real (counts_in new) (eaten + a.eaten) (given + a.given)) full
            (subst (λ r. StandFor r (counts_in new) (eaten + advance.eaten) (given + advance.given)) rated (counts eaten given (subst (λ r. StandFor r (counts_in old) eaten given) (sym rated) stand)));
        have = have;
        fed = subst (λ (a : Advance). AreFed before after tables unity (a.given + 1) specs input) full
            (subst (λ list. AreFed before after tables unity (advance.given + 1) specs list) same (subst (λ list. AreFed before after tables unity (advance.given + 1) list offers) staged fed));
        bits = subst (λ (a : Advance). HaveBits (bits_left specs) (fed_through before tables unity (a.given + 1) specs input)) full
            (subst (λ list. HaveBits (bits_left specs) (fed_through before tables unity (advance.given + 1) specs list)) same
            (subst (λ list. HaveBits (bits_left list) (fed_through before tables unity (advance.given + 1) list offers)) staged bits));
        out = gives
            ∙ ap (λ list. written (fed_through before tables unity (advance.given + 1) list offers) start) staged
            ∙ ap (λ list. written (fed_through before tables unity (advance.given + 1) specs list) start) same
            ∙ ap (λ (a : Advance). written (fed_through before tables unity (a.given + 1) specs input) start) full;
      },
      ap (λ (a : Advance). a.given) full,
    )

-- so a push of it goes as far as the counts say
pub whole-pushes : {B : Type 0} (kept : B → Kept) (tables : Filters) (input : List Frame) (old new : ChainOf B) (eaten frames : ℕ) (pushed : Pushed) (start out : List ℤ)
    → IsWhole kept tables input old new start out × (pushed.came ≡ come old input) → length input ≡ frames → HasRecordedFar kept tables old eaten
    → PushesFar kept tables frames old new pushed eaten
whole-pushes kept tables input old new eaten frames pushed start out whole count records =
    let far = block-records-far kept tables input old new eaten start out whole.0 records in
    subst (λ n. PushesFar kept tables n old new pushed eaten) count (record { came = whole.1 ∙ far.came; records = far.records })

-- ---- the bytes of a block

-- what holds of the first samples holds of fewer
pub front-each : (P : ℤ → Type 0) (n m : ℕ) (samples : List ℤ) → n ≤ m → All P (take m samples) → All P (take n samples)
front-each P n m samples within have =
    subst (All P) (take-take n m samples within) (All-take P n (take m samples) have)

-- the first of the frames that were written
pub first-written : (plan : PlanSeen) (tables : Filters) (all : List Frame) (before k m : ℕ) (start : List ℤ) → IsPlan plan → HaveChannels (channels_of plan.source) all → k ≤ m
    → take (k * channels_of plan.target) (written (recs plan tables all before m) start) ≡ interleaved (recs plan tables all before k)
first-written plan tables all before k m start is have within =
    let c = channels_of plan.target in
    let one = recs plan tables all before k in
    let two = recs plan tables all (before + k) (m - k) in
    let rest = drop (length (interleaved (recs plan tables all before m))) start in
    let split : m ≡ k + (m - k) = omega arith in
    let parts : recs plan tables all before m ≡ one ++ two = ap (recs plan tables all before) split ∙ outs-add plan tables unity all before k (m - k) in
    let long : length (interleaved one) ≡ k * c = length-interleaved c one (outs-channels plan tables unity all before k is have) ∙ ap (λ n. n * c) (length-outs plan tables unity all before k) in
    ap (λ list. take (k * c) (interleaved list ++ rest)) parts
    ∙ ap (λ list. take (k * c) (list ++ rest)) (flat_map-append (λ (frame : Frame). frame) one two)
    ∙ ap (take (k * c)) (append_assoc (interleaved one) (interleaved two) rest)
    ∙ take_at (interleaved one) (interleaved two ++ rest) (k * c) long

-- the first of the frames that come of a block
pub come-first : {B : Type 0} (kept : B → Kept) (tables : Filters) (input : List Frame) (old new : ChainOf B) (x : List Frame) (start out samples : List ℤ) (k target : ℕ)
    → RecordsMore kept tables input old new x start out → HasRecorded kept tables old x → HaveChannels (channels_of (plan_in old).source) input → samples ≡ out → target ≡ channels_of (plan_in old).target → k ≤ come old input
    → take (k * target) samples ≡ interleaved (recs (plan_in old) tables (x ++ input) (can (rate_in_plan (plan_in old)) (length x)) k)
come-first kept tables input old new x start out samples k target more stands have same width within =
    let plan = plan_in old in
    let before = can (rate_in_plan plan) (length x) in
    ap (take (k * target)) same
    ∙ ap (λ n. take (k * n) out) width
    ∙ ap (take (k * channels_of plan.target)) more.frames
    ∙ first-written plan tables (x ++ input) before k (come old input) start stands.fits (All-append (λ (frame : Frame). length frame ≡ channels_of plan.source) x input stands.frames have) within

-- the frames of a block are those of the samples that were copied
pub copied-frames : (c n source : ℕ) (samples items : List ℤ) → source ≡ c → length samples ≡ n * c → take (length samples) items ≡ samples → first_frames n source items ≡ frames_of c samples
copied-frames c n source samples items same long loaded =
    ap (λ k. frames_of k (take (n * k) items)) same ∙ ap (λ k. frames_of c (take k items)) (sym long) ∙ ap (frames_of c) loaded

-- there are n of them
pub count-frames : (c n : ℕ) (samples : List ℤ) → 0 < c → length samples ≡ n * c → length (frames_of c samples) ≡ n
count-frames c n samples above long = length-frames_of c samples ∙ ap (λ k. k / c) long ∙ mul-div_cancel n above

-- samples one after another are spelled as their frames are
pub spelled-interleaved : (format : Format) (list : List Frame) → flat_map (spelled format) (interleaved list) ≡ spelled_frames format list
spelled-interleaved format [] = refl
spelled-interleaved format (frame ∷ list) =
    flat_map-append (spelled format) frame (interleaved list) ∙ ap (λ rest. spelled_frame format frame ++ rest) (spelled-interleaved format list)

-- ---- pieces of what is pushed

-- n samples of whole frames are n / c frames of c samples
pub whole-samples : (n c : ℕ) → n % c ≡ 0 → n ≡ n / c * c
whole-samples n c whole = omega (arith, whole, div-add-mod' n c)

-- samples in two parts are the first frames and the others
pub parted-frames : (c k : ℕ) (samples : List ℤ) → 0 < c → k * c ≤ length samples
    → (frames_of c (take (k * c) samples) ≡ take k (frames_of c samples)) × (frames_of c (drop (k * c) samples) ≡ drop k (frames_of c samples))
parted-frames c k samples above within =
    let one = take (k * c) samples in
    let two = drop (k * c) samples in
    let long : length one ≡ k * c = length-take-le (k * c) samples within in
    let count : length (frames_of c one) ≡ k = length-frames_of c one ∙ ap (λ n. n / c) long ∙ mul-div_cancel k above in
    let parts : frames_of c samples ≡ frames_of c one ++ frames_of c two =
    ap (frames_of c) (sym (take-append-drop (k * c) samples)) ∙ frames_of-append c one two above (ap (λ n. n % c) long ∙ mul-mod_left k c) in (
      sym (ap (take k) parts ∙ take_at (frames_of c one) (frames_of c two) k count),
      sym (ap (drop k) parts ∙ drop_at (frames_of c one) (frames_of c two) k count),
    )

-- the frames of a piece are a piece of the frames
pub piece-frames : (c k m : ℕ) (samples : List ℤ) → 0 < c → (k + m) * c ≤ length samples → frames_of c (take (m * c) (drop (k * c) samples)) ≡ take m (drop k (frames_of c samples))
piece-frames c k m samples above within =
    (parted-frames c m (drop (k * c) samples) above (omega (arith, length-drop (k * c) samples))).0
    ∙ ap (take m) (parted-frames c k samples above (omega arith)).1

-- ---- no block, and one more

-- before the first block a chain has recorded what it has
pub none-pushed : {B : Type 0} (kept : B → Kept) (tables : Filters) (chain : ChainOf B) (eaten : ℕ) → HasRecordedFar kept tables chain eaten
    → PushesFar kept tables 0 chain chain (record { came = 0; kept = 0 }) eaten
none-pushed kept tables chain eaten records =
    let rate = rate_in_plan (plan_in chain) in
    let same : eaten ≡ eaten + 0 = omega arith in
    record { came = omega (arith, ap (can rate) same); records = subst (HasRecordedFar kept tables chain) same records }

-- and a second push goes on from a first one
pub pushes-far : {B : Type 0} (kept : B → Kept) (tables : Filters) (n more : ℕ) (old mid new : ChainOf B) (first second : Pushed) (eaten : ℕ) → plan_in mid ≡ plan_in old → IsPlan (plan_in old)
    → PushesFar kept tables n old mid first eaten → PushesFar kept tables more mid new second (eaten + n)
    → PushesFar kept tables (n + more) old new (record { came = first.came + second.came; kept = first.kept + second.kept }) eaten
pushes-far kept tables n more old mid new first second eaten plan is one two =
    let rate = rate_in_plan (plan_in old) in
    let ratio = ratio-in (plan_in old) is in
    let place : eaten + n + more ≡ eaten + (n + more) = omega arith in
    let next = subst (λ (p : PlanSeen). second.came ≡ can (rate_in_plan p) (eaten + n + more) - can (rate_in_plan p) (eaten + n)) plan two.came in
    let up = can-grows rate eaten (eaten + n) ratio (omega arith) in
    let further = can-grows rate (eaten + n) (eaten + (n + more)) ratio (omega arith) in
    record {
      came = omega (arith, one.came, next, up, further, ap (can rate) place);
      records = subst (HasRecordedFar kept tables new) place two.records;
    }

-- before the first block nothing was pushed
pub nothing-pushed : {B : Type 0} (kept : B → Kept) (tables : Filters) (format : Format) (chain : ChainOf B) (x : List Frame) (bytes : List ℕ) → HasRecorded kept tables chain x
    → Pushes kept tables format [] chain chain x (record { came = 0; kept = 0 }) bytes bytes
nothing-pushed kept tables format chain x bytes stands =
    let rate = rate_in_plan (plan_in chain) in
    let same : length x + 0 ≡ length x = omega arith in
    record {
      came = omega (arith, ap (can rate) same);
      records = subst (λ list. HasRecorded kept tables chain list) (sym (append-nil x)) stands;
      bytes = sym (append-nil bytes);
    }

-- after `count` frames there is room for `count` fewer
pub room-left : (free size count : ℕ) → 0 < size → count ≤ free / size → (free - count * size) / size ≡ free / size - count
room-left free size count above within =
    let fits = mul-le-mul_right size within in
    let most = div-mul-le_self free size in
    let more = div_more (free - count * size) free size count above (omega (arith, fits, most)) in
    omega (arith, more)

-- what is known of a second push after a first one
pub record PushesOn {B : Type 0} (kept : B → Kept) (tables : Filters) (format : Format) (input : List Frame) (eaten more : ℕ) (old mid new : ChainOf B) (x : List Frame) (room : ℕ)
    (first second : Pushed) (bytes_old bytes_mid bytes_new : List ℕ) : Type 0 where
  pub plan : plan_in mid ≡ plan_in old
  pub is : IsPlan (plan_in old)
  pub within : eaten + more ≤ length input
  pub one : first.kept ≡ min first.came room
  pub two : second.kept ≡ min second.came (room - first.kept)
  pub pushed : Pushes kept tables format (take eaten input) old mid x first bytes_old bytes_mid
  pub next : (y : List Frame) → HasRecorded kept tables mid y → Pushes kept tables format (take more (drop eaten input)) mid new y second bytes_mid bytes_new

pub pushes-on : {B : Type 0} (kept : B → Kept) (tables : Filters) (format : Format) (input : List Frame) (eaten more : ℕ) (old mid new : ChainOf B) (x : List Frame) (room : ℕ)
    (first second : Pushed) (bytes_old bytes_mid bytes_new : List ℕ) → PushesOn kept tables format input eaten more old mid new x room first second bytes_old bytes_mid bytes_new
    → Pushes kept tables format (take (eaten + more) input) old new x (record { came = first.came + second.came; kept = first.kept + second.kept }) bytes_old bytes_new
pushes-on {B = B} kept tables format input eaten more old mid new x room first second bytes_old bytes_mid bytes_new h = record { came = came; records = recorded; bytes = bytes }
  where
    plan : PlanSeen
    plan = plan_in old

    rate : Rate
    rate = rate_in_plan plan

    ratio : IsRatio rate
    ratio = ratio-in plan h.is

    y : List Frame
    y = x ++ take eaten input

    piece : List Frame
    piece = take more (drop eaten input)

    all : List Frame
    all = x ++ take (eaten + more) input

    front : length (take eaten input) ≡ eaten
    front = length-take-le eaten input (let within = h.within in omega arith)

    back : length piece ≡ more
    back = length-take-le more (drop eaten input) (let within = h.within in omega (arith, length-drop eaten input))

    whole : length (take (eaten + more) input) ≡ eaten + more
    whole = length-take-le (eaten + more) input h.within

    long : length y ≡ length x + eaten
    long = omega (arith, length-append x (take eaten input), front)

    joined : y ++ piece ≡ all
    joined = append_assoc x (take eaten input) piece ∙ ap (λ list. x ++ list) (sym (take-add eaten more input))

    behind : Pushes kept tables format piece mid new y second bytes_mid bytes_new
    behind = h.next y h.pushed.records

    second-came : second.came ≡ can rate (length x + (eaten + more)) - can rate (length x + eaten)
    second-came =
        let total : length y + length piece ≡ length x + (eaten + more) = omega (arith, long, back) in
        behind.came
        ∙ ap (λ (p : PlanSeen). can (rate_in_plan p) (length y + length piece) - can (rate_in_plan p) (length y)) h.plan
        ∙ ap (λ n. can rate n - can rate (length y)) total
        ∙ ap (λ n. can rate (length x + (eaten + more)) - can rate n) long

    first-came : first.came ≡ can rate (length x + eaten) - can rate (length x)
    first-came = h.pushed.came ∙ ap (λ n. can rate (length x + n) - can rate (length x)) front

    came : first.came + second.came ≡ can rate (length x + length (take (eaten + more) input)) - can rate (length x)
    came =
        let up = can-grows rate (length x) (length x + eaten) ratio (omega arith) in
        let further = can-grows rate (length x + eaten) (length x + (eaten + more)) ratio (omega arith) in
        omega (arith, first-came, second-came, up, further, ap (λ n. can rate (length x + n)) whole)

    recorded : HasRecorded kept tables new all
    recorded = subst (λ list. HasRecorded kept tables new list) joined behind.records

    start : ℕ
    start = can rate (length x)

    -- the first frames stay what they are when more is eaten
    early : recs plan tables y start first.kept ≡ recs plan tables all start first.kept
    early =
        let one = h.one in
        let up = can-grows rate (length x) (length x + eaten) ratio (omega arith) in
        let fits : start + first.kept ≤ can rate (length y) = omega (arith, first-came, up, ap (can rate) long) in
        sym (outs-append plan tables unity y piece start first.kept h.is fits) ∙ ap (λ list. recs plan tables list start first.kept) joined

    -- the others begin after them, or there is no room for one
    late : recs plan tables all (can rate (length y)) second.kept ≡ recs plan tables all (start + first.kept) second.kept
    late =
        let one = h.one in
        let two = h.two in
        let up = can-grows rate (length x) (length x + eaten) ratio (omega arith) in
        elim (cases_lt first.kept first.came) [
          | inl fewer ↦
              (let full : second.kept ≡ 0 = omega arith in
              ap (recs plan tables all (can rate (length y))) full ∙ sym (ap (recs plan tables all (start + first.kept)) full))
          | inr every ↦
              (let place : can rate (length y) ≡ start + first.kept = omega (arith, first-came, up, ap (can rate) long) in
              ap (λ from. recs plan tables all from second.kept) place)
        ]

    others : recs (plan_in mid) tables (y ++ piece) (can (rate_in_plan (plan_in mid)) (length y)) second.kept ≡ recs plan tables all (start + first.kept) second.kept
    others =
        ap (λ (p : PlanSeen). recs p tables (y ++ piece) (can (rate_in_plan p) (length y)) second.kept) h.plan
        ∙ ap (λ list. recs plan tables list (can rate (length y)) second.kept) joined
        ∙ late

    bytes : bytes_new ≡ bytes_old ++ spelled_frames format (recs plan tables all start (first.kept + second.kept))
    bytes =
        let one = recs plan tables all start first.kept in
        let two = recs plan tables all (start + first.kept) second.kept in
        behind.bytes
        ∙ ap (λ list. bytes_mid ++ spelled_frames format list) others
        ∙ ap (λ list. list ++ spelled_frames format two) (h.pushed.bytes ∙ ap (λ list. bytes_old ++ spelled_frames format list) early)
        ∙ append_assoc bytes_old (spelled_frames format one) (spelled_frames format two)
        ∙ ap (λ list. bytes_old ++ list) (sym (flat_map-append (spelled_frame format) one two))
        ∙ ap (λ list. bytes_old ++ spelled_frames format list) (sym (outs-add plan tables unity all start first.kept second.kept))
