-- What a block of a conversion is, from what a pull of its chain means.
use Rattle.std.proofs.Common.{◌≡◌, ◌<◌, ◌≤◌, ◌⊎◌, inl, inr, ◌+◌, ◌-◌, ◌*◌, ◌==◌, ℕ, min, ℤ, Bool, true, false, List, ◌++◌, length, take, drop, slice_range, sym, ap, ◌∙◌, arith, length-take, length-drop}
use Rattle.std.proofs.Math.Seq.{take-add}
use Rattle.std.proofs.lemmas.Bool.{cases_lt, eq-eqb, eqb-true}
use Rattle.std.proofs.lemmas.List.{take-append-drop, take-take, take_all, take_at, drop_all, drop-append-le, drop-drop, length-append, length-take-le}
use Rattle.std.proofs.lemmas.List.Elements.{All-nil}
use Rattle.pcm_format.specs.declared.settings.Settings.{Settings}
use Rattle.pcm_format.specs.Formats.{bytes_of}
use Rattle.pcm_format.specs.Frames.{Frame, frame_bytes, frames, whole_frames}
use Rattle.pcm_format.specs.Layouts.{channels_of}
use Rattle.pcm_format.proofs.Streams.{length-frames}
use Rattle.pcm_format.proofs.Whole.{frames_fit, frames_there, whole_frames-mono}
use Rattle.pcm_rate.specs.Rates.{can, len, need}
use Rattle.pcm_feeder.specs.declared.stage.Gain.{Gain}
use Rattle.pcm_feeder.specs.Filters.{Filters, no_filters}
use Rattle.pcm_feeder.specs.Kept.{Kept}
use Rattle.pcm_feeder.specs.Layouts.{unity}
use Rattle.pcm_feeder.specs.Limits.{AreFilters, IsRate, IsSection, IsTable}
use Rattle.pcm_feeder.specs.Streams.{HaveChannels, interleaved, written}
use Rattle.pcm_feeder.proofs.Frames.{length-interleaved}
use Rattle.pcm_plan.specs.Fits.{IsPlan}
use Rattle.pcm_plan.specs.Plans.{PlanSeen, rate_in_plan}
use Rattle.pcm_plan.specs.Through.{outs, recs}
use Rattle.pcm_plan.proofs.Fits.{ratio-in, record-fits}
use Rattle.pcm_plan.proofs.Through.{length-outs, outs-append, outs-channels}
use Rattle.pcm_chain.specs.declared.chain.ChainOf.{ChainOf}
use Rattle.pcm_chain.specs.declared.chain.Pulled.{Pulled}
use Rattle.pcm_chain.specs.Chains.{ChainStands, plan_in}
use Rattle.pcm_chain.specs.Counts.{allowed_in_all}
use Rattle.pcm_chain.specs.Pulls.{IsPastTheEnd, Pulls, PullsAsFar, waiting_frames}
use Rattle.pcm_convert.specs.Conversions.{block_count, conversion_plan}
use Rattle.pcm_convert.specs.Stands.{ConversionStands}
use Rattle.pcm_convert.specs.declared.conversion.ConversionOf.{ConversionOf}
use Rattle.pcm_convert.specs.declared.conversion.TheConstants.{BLOCK}
use Rattle.pcm_convert.proofs.Bodies.{frames-channels, frames-left}
use Rattle.pcm_convert.proofs.Reach.{IsCounted, count-block}

-- ---- the plan

pub no_filters-fit : AreFilters no_filters
no_filters-fit = record { count = omega arith; each = All-nil IsTable; few = omega arith; sections = All-nil IsSection }

-- the stages of a conversion fit each other
pub conversion-fits : (source target : Settings) → IsRate source.rate → IsRate target.rate → IsPlan (conversion_plan source target)
conversion-fits source target from to = record-fits no_filters 1 target source no_filters-fit to from

-- this many frames fill a block, wherever a conversion stands
abbrev pub block_need : Settings → Settings → ℕ
block_need source target = need (rate_in_plan (conversion_plan source target)) (BLOCK + 1)

-- ---- the ring

-- What waits in the ring once it was filled from the body, of which m bytes went into it: the rest of the body, or enough for a block.
pub record IsFilled (source target : Settings) (body : List ℕ) (e m silent : ℕ) (ring : List ℕ) : Type 0 where
  pub read : m ≤ length body
  pub within : e * frame_bytes source ≤ m
  pub ring_is : ring ≡ drop (e * frame_bytes source) (take m body)
  pub full : (m ≡ length body) ⊎ (block_need source target * frame_bytes source ≤ length ring)
  pub ended : 0 < silent → (m ≡ length body) × (e ≡ whole_frames source (length body))

-- the ring takes as many of the bytes that weren't read as it has room for
filled : (source target : Settings) (body : List ℕ) (e m silent size more : ℕ) (ring now : List ℕ) → m ≤ length body → e * frame_bytes source ≤ m → ring ≡ drop (e * frame_bytes source) (take m body)
    → (0 < silent → (m ≡ length body) × (e ≡ whole_frames source (length body))) → size ≡ block_need source target * frame_bytes source
    → more ≡ min (length (slice_range body m (length body))) (size - length ring) → now ≡ ring ++ take more (slice_range body m (length body))
    → IsFilled source target body e (m + more) silent now
filled source target body e m silent size more ring now read within ring_is ended size_is count kept = record {
  read = omega (arith, rest);
  within = omega (arith, within);
  ring_is = now_is ∙ ap (λ r. r ++ take more (drop m body)) ring_is
      ∙ sym (drop-append-le (e * frame_bytes source) (take m body) (take more (drop m body)) (omega (arith, within, length-take-le m body read)))
      ∙ ap (drop (e * frame_bytes source)) (sym (take-add m more body));
  full = elim (cases_lt more (length body - m)) [
    | inl some ↦ inr (omega (arith, long, rest, size_is))
    | inr all ↦ inl (omega (arith, rest))
  ];
  ended = λ some. let over = ended some in (omega (arith, over.0, rest), over.1);
}
  where
    left : slice_range body m (length body) ≡ drop m body
    left = take_all (length body - m) (drop m body) (omega (arith, length-drop m body))

    rest : more ≡ min (length body - m) (size - length ring)
    rest = count ∙ ap (λ n. min n (size - length ring)) (ap length left ∙ length-drop m body)

    now_is : now ≡ ring ++ take more (drop m body)
    now_is = kept ∙ ap (λ l. ring ++ take more l) left

    long : length now ≡ length ring + more
    long = ap length now_is ∙ omega (arith, rest, length-append ring (take more (drop m body)), length-take more (drop m body), length-drop m body)

-- ---- a pull

-- what a pull means, for whatever its chain stands for
abbrev pub PullsFor : {B : Type 0} → (B → Kept) → Filters → Gain → Bool → List Frame → ChainOf B → ChainOf B → Pulled → List ℤ → List ℤ → Type 0
PullsFor kept tables gain no_more waiting old new pulled out_old out_new =
    (x : List Frame) (zeros before : ℕ) → ChainStands kept tables old x zeros before → IsPastTheEnd no_more zeros waiting → Pulls kept tables gain no_more BLOCK waiting old new x before pulled out_old out_new

-- what a conversion has given after a block, of whose body m bytes were read and e frames eaten
pub record IsBlock {B : Type 0} (kept : B → Kept) (source target : Settings) (body : List ℕ) (e m given : ℕ) (new : ChainOf B) (pulled : Pulled) (ring : List ℕ) (samples : List ℤ) : Type 0 where
  pub read : m ≤ length body
  pub count : pulled.given ≡ block_count source target body given
  pub frames_are : take (pulled.given * channels_of target.layout) samples ≡ interleaved (recs (conversion_plan source target) no_filters (frames source body) given pulled.given)
  pub zeros : ℕ
  pub within : (e + pulled.eaten) * frame_bytes source ≤ m
  pub ring_is : ring ≡ drop ((e + pulled.eaten) * frame_bytes source) (take m body)
  pub chain_is : ChainStands kept no_filters new (take (e + pulled.eaten) (frames source body)) zeros (given + pulled.given)
  pub ended : 0 < zeros → (m ≡ length body) × (e + pulled.eaten ≡ whole_frames source (length body))

-- the samples of frames that were written to the front
front-written : (c n : ℕ) (list : List Frame) (old : List ℤ) → HaveChannels c list → length list ≡ n → take (n * c) (written list old) ≡ interleaved list
front-written c n list old have count =
    take_at (interleaved list) (drop (length (interleaved list)) old) (n * c) (length-interleaved c list have ∙ ap (λ k. k * c) count)

-- outputs that the first frames are sure of are those of all frames
outs-front : (plan : PlanSeen) (all : List Frame) (w n given : ℕ) → IsPlan plan → w ≤ length all → (w ≡ length all) ⊎ (given + n ≤ can (rate_in_plan plan) w)
    → outs plan no_filters unity (take w all) given n ≡ outs plan no_filters unity all given n
outs-front plan all w n given fits within (inl whole) = ap (λ list. outs plan no_filters unity list given n) (take_all w all (omega arith))
outs-front plan all w n given fits within (inr allowed) =
    let count : can (rate_in_plan plan) (length (take w all)) ≡ can (rate_in_plan plan) w = ap (can (rate_in_plan plan)) (length-take-le w all within) in
    sym (outs-append plan no_filters unity (take w all) (drop w all) given n fits (omega arith))
    ∙ ap (λ list. outs plan no_filters unity list given n) (take-append-drop w all)

pulled-block : {B : Type 0} (kept : B → Kept) (source target : Settings) (body : List ℕ) (e m silent given : ℕ) (ring left : List ℕ) (tables : Filters) (no_more : Bool) (old new : ChainOf B) (pulled : Pulled) (out_old out_new : List ℤ)
    → IsRate source.rate → IsRate target.rate → IsFilled source target body e m silent ring
    → plan_in old ≡ conversion_plan source target → tables ≡ no_filters → no_more ≡ (m == length body)
    → ChainStands kept no_filters old (take e (frames source body)) silent given
    → PullsFor kept tables unity no_more (waiting_frames (plan_in old) source.format ring) old new pulled out_old out_new
    → left ≡ drop (pulled.eaten * (channels_of (plan_in old).source * bytes_of source.format)) ring
    → IsBlock kept source target body e m given new pulled left out_new
pulled-block {B = B} kept source target body e m silent given ring left tables no_more old new pulled out_old out_new from to f plan_is tables_are no_more_is stands pulls left_is =
    let plan = conversion_plan source target in
    let fits = conversion-fits source target from to in
    let rate = rate_in_plan plan in
    let ratio = ratio-in plan fits in
    let z = frame_bytes source in
    let c = channels_of target.layout in
    let all : List Frame = frames source body in
    let count = whole_frames source (length body) in
    let w = whole_frames source m in
    let ended : Bool = m == length body in
    let long : length all ≡ count = length-frames source body in
    let there : e ≤ w = frames_there source m e f.within in
    let most : w ≤ count = whole_frames-mono source m (length body) f.read in
    let waiting : List Frame = drop e (take w all) in
    let waiting_is : waiting_frames (plan_in old) source.format ring ≡ waiting =
    ap (λ (p : PlanSeen). waiting_frames p source.format ring) plan_is ∙ ap (waiting_frames plan source.format) f.ring_is ∙ frames-left source m e body f.read there in
    let at_plan : PullsFor kept no_filters unity ended waiting old new pulled out_old out_new = rw (tables_are, no_more_is, waiting_is) at pulls in
    let eaten : length (take e all) ≡ e = length-take-le e all (omega arith) in
    let rest : length waiting ≡ w - e = omega (arith, length-drop e (take w all), length-take w all) in
    let last : ended ≡ true → m ≡ length body = λ whole. eqb-true m (length body) whole in
    let p = at_plan (take e all) silent given stands (λ some. let over = f.ended some in (eq-eqb m (length body) over.0, drop_all e (take w all) (omega (arith, over.1, length-take w all)))) in
    let far : PullsAsFar rate ended BLOCK (length (take e all)) (length waiting) given pulled = rw (ap (λ (q : PlanSeen). rate_in_plan q) plan_is) at p.far in
    let sum : length (take e all) + length waiting ≡ w = omega arith in
    let within : e + pulled.eaten ≤ w = omega (arith, far.eaten) in
    let counted : IsCounted rate ended BLOCK w count given =
    count-block rate ended BLOCK e w count given ratio most (λ whole. ap (whole_frames source) (last whole)) (λ more. enough more) in
    let given_is : pulled.given ≡ min BLOCK (len rate count - given) = far.given ∙ ap (λ n. min BLOCK (allowed_in_all ended rate n - given)) sum ∙ counted.count in
    let joined : take e all ++ waiting ≡ take w all = ap (λ list. list ++ waiting) (sym (take-take e w all there)) ∙ take-append-drop e (take w all) in
    let part : take e all ++ take pulled.eaten waiting ≡ take (e + pulled.eaten) all =
    ap (λ list. list ++ take pulled.eaten waiting) (sym (take-take e w all there)) ∙ sym (take-add e pulled.eaten (take w all)) ∙ take-take (e + pulled.eaten) w all within in
    let sure : (w ≡ length all) ⊎ (given + pulled.given ≤ can rate w) = elim counted.sure [ inl whole ↦ inl (omega arith) | inr allowed ↦ inr (omega arith) ] in
    let given_frames : List Frame = outs plan no_filters unity all given pulled.given in
    let out_is : out_new ≡ written given_frames out_old =
    p.frames ∙ ap (λ (q : PlanSeen). written (outs q no_filters unity (take e all ++ waiting) given pulled.given) out_old) plan_is
    ∙ ap (λ list. written (outs plan no_filters unity list given pulled.given) out_old) joined
    ∙ ap (λ list. written list out_old) (outs-front plan all w pulled.given given fits (omega arith) sure) in
    let order : e * z + pulled.eaten * z ≡ (e + pulled.eaten) * z = omega arith in
    record {
      read = f.read;
      count = given_is;
      frames_are = ap (take (pulled.given * c)) out_is
          ∙ front-written c pulled.given given_frames out_old (outs-channels plan no_filters unity all given pulled.given fits (frames-channels source body)) (length-outs plan no_filters unity all given pulled.given);
      zeros = p.stands.zeros;
      within = frames_fit source m (e + pulled.eaten) within;
      ring_is = left_is ∙ ap (λ (q : PlanSeen). drop (pulled.eaten * (channels_of q.source * bytes_of source.format)) ring) plan_is ∙ ap (drop (pulled.eaten * z)) f.ring_is
          ∙ drop-drop (pulled.eaten * z) (e * z) (take m body) ∙ ap (λ k. drop k (take m body)) order;
      chain_is = rw part at p.stands.stands;
      ended = λ some.
          let over = p.stands.ends some in
          let whole : m ≡ length body = last over.0 in
          let same : w ≡ count = ap (whole_frames source) whole in
          (whole, omega (arith, over.1, rest, there, same));
    }
  where
    -- a ring that is full has enough for the block
    enough : (m == length body) ≡ false → (need (rate_in_plan (conversion_plan source target)) given ≤ e) × (e + block_need source target ≤ whole_frames source m)
    enough more =
        elim f.full [
          | inl whole ↦ (let clash : true ≡ false = sym (eq-eqb m (length body) whole) ∙ more in cc)
          | inr full ↦ (
            (let quiet = stands.silent in let at_rate = rw (ap (λ (q : PlanSeen). rate_in_plan q) plan_is) at quiet in
                let eaten = length-take e (frames source body) in
                omega (arith, at_rate, eaten, none more)),
            frames_there source m (e + block_need source target)
                (omega (arith, full, f.within, ap length f.ring_is, length-drop (e * frame_bytes source) (take m body), length-take-le m body f.read)),
          )
        ]
      where
        none : (m == length body) ≡ false → silent ≡ 0
        none open_end = elim (cases_lt 0 silent) [
          | inl some ↦ (let clash : true ≡ false = sym (eq-eqb m (length body) (f.ended some).0) ∙ open_end in cc)
          | inr never ↦ omega arith
        ]

-- ---- a conversion

-- what a conversion has given once its ring was filled and its chain pulled
pub block-given : {B : Type 0} (kept : B → Kept) (old : ConversionOf B) (body : List ℕ) (given more : ℕ) (ring left : List ℕ) (no_more : Bool) (new : ChainOf B) (pulled : Pulled) (out_old out_new : List ℤ)
    → (s : ConversionStands kept old body given) → more ≡ min (length (slice_range body old.entered (length body))) (old.ring.size - length old.ring.bytes)
    → ring ≡ old.ring.bytes ++ take more (slice_range body old.entered (length body)) → no_more ≡ (old.entered + more == length body)
    → PullsFor kept old.tables unity no_more (waiting_frames (plan_in old.chain) old.source.format ring) old.chain new pulled out_old out_new
    → left ≡ drop (pulled.eaten * (channels_of (plan_in old.chain).source * bytes_of old.source.format)) ring
    → IsBlock kept old.source old.target body s.eaten (old.entered + more) given new pulled left out_new
block-given kept old body given more ring left no_more new pulled out_old out_new s count ring_is no_more_is pulls left_is =
    pulled-block kept old.source old.target body s.eaten (old.entered + more) s.zeros given ring left old.tables no_more old.chain new pulled out_old out_new old.source_rate old.target_rate
    (filled old.source old.target body s.eaten old.entered s.zeros old.ring.size more old.ring.bytes ring s.read s.within s.ring_is s.ended old.room count ring_is)
    old.plan old.filters no_more_is s.chain_is pulls left_is
