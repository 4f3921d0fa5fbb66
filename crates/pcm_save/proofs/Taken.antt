-- What was saved stands at the front of bytes, and can be read there.
use Rattle.std.proofs.Common.{◌≡◌, ℕ, ◌+◌, ◌*◌, ◌≤◌, Bool, true, false, if◌then◌else◌, ℤ, List, ◌++◌, length, take, drop, refl, sym, ap, ◌∙◌, arith}
use Rattle.std.specs.Prelude.{is_ok, ok_or, IsOk, Option, Result, Some}
use Rattle.std.proofs.Math.Seq.{take-append_seam, drop-append_seam}
use Rattle.std.proofs.lemmas.List.{length-append, length-take}
use Rattle.pcm_format.specs.declared.settings.Settings.{Settings}
use Rattle.pcm_feeder.specs.Filters.{Filters}
use Rattle.pcm_feeder.specs.Kept.{Kept}
use Rattle.pcm_oss.specs.declared.event.Way.{Way}
use Rattle.pcm_plan.specs.Plans.{PlanSeen}
use Rattle.pcm_chain.specs.declared.chain.ChainOf.{ChainOf}
use Rattle.pcm_chain.specs.Far.{ChainIsSoFar}
use Rattle.pcm_chain.specs.Pasts.{past_of, past_sizes}
use Rattle.pcm_chain.proofs.Far.{far-fitted}
use Rattle.pcm_chain.proofs.Known.{length-past-of}
use Rattle.pcm_desk.specs.declared.device.Device.{Device}
use Rattle.pcm_desk.specs.Device.{seen}
use Rattle.pcm_path.specs.declared.path.PathOf.{PathOf}
use Rattle.pcm_path.specs.Paths.{IsPlanned}
use Rattle.pcm_path.specs.Ways.{plan_between}
use Rattle.pcm_state.specs.Numbers.{spelled_numbers}
use Rattle.pcm_state.proofs.Spelled.{length-numbers, length-samples, numbers-known}
use Rattle.pcm_save.specs.Joined.{parts_bytes, three-joined, BooksSeen, ChannelParts}
use Rattle.pcm_save.specs.Parts.{past_bytes, HasRow}

-- a row that is joined to other bytes
pub row-front : (row rest bytes : List ℕ) → bytes ≡ spelled_numbers row ++ rest → HasRow bytes row
row-front row rest bytes is = record {
  within = omega (arith, ap length is, length-append (spelled_numbers row) rest, length-numbers row);
  is = sym (take-append_seam (spelled_numbers row) rest) ∙ ap (λ n. take n (spelled_numbers row ++ rest)) (length-numbers row) ∙ ap (take (8 * length row)) (sym is);
}

-- two rows of one length at the same place are one
pub rows-same : (bytes one other : List ℕ) → length other ≡ length one → HasRow bytes one → HasRow bytes other → other ≡ one
rows-same bytes one other even a b = numbers-known other one (b.is ∙ ap (λ n. take (8 * n) bytes) even ∙ sym a.is)

-- what has the row is found by it
pub found-ok : {X E : Type 0} (found : Option X) (it : X) (fault : E) (result : Result X E) → result ≡ ok_or found fault → found ≡ Some it → IsOk result
found-ok found it fault result is there = ap is_ok (is ∙ ap (λ some. ok_or some fault) there)

-- ---- the parts of a channel

-- the row of its book comes first
pub book-front : {B K : Type 0} (kept : B → Kept) (books : BooksSeen K) (parts : ChannelParts B K) (bytes rest : List ℕ) → bytes ≡ parts_bytes kept books parts ++ rest → HasRow bytes (books.row parts.book)
book-front kept books parts bytes rest is =
    let past = past_bytes kept (books.free parts.book) parts.chain in
    row-front (books.row parts.book) (parts.waiting ++ (past ++ rest)) bytes (is ∙ three-joined (spelled_numbers (books.row parts.book)) parts.waiting past rest)

-- and tells the book
pub books-same : {K : Type 0} (books : BooksSeen K) (bytes : List ℕ) (one other : K) → HasRow bytes (books.row one) → HasRow bytes (books.row other) → other ≡ one
books-same books bytes one other a b = books.known other one (rows-same bytes (books.row one) (books.row other) (books.even one other) a b)

-- what a chain keeps has this many bytes, and that of a free channel none
length-past : {B : Type 0} (kept : B → Kept) (free : Bool) (chain : ChainOf B) (n : ℕ) → (free ≡ false → length (past_of kept chain) ≡ n) → length (past_bytes kept free chain) ≡ 4 * (if free then 0 else n)
length-past kept true chain n long = refl
length-past kept false chain n long = length-samples (past_of kept chain) ∙ ap (λ m. 4 * m) (long refl)

-- a chain keeps as many samples as the stages of the plan between its client and its device do
pub past-planned : {B : Type 0} (kept : B → Kept) (way : Way) (filters : Filters) (device : Device) (settings : Settings) (path : PathOf B) (plan : PlanSeen) {eaten zeros given : ℕ}
    → ChainIsSoFar kept filters path.chain eaten zeros given → IsPlanned way filters settings path → path.device ≡ device → plan ≡ plan_between way (seen filters device) settings
    → length (past_of kept path.chain) ≡ past_sizes plan.stages
past-planned kept way filters device settings path plan {eaten} {zeros} {given} far planned own is =
    length-past-of kept path.chain (far-fitted kept filters path.chain eaten zeros given far)
    ∙ ap (λ (p : PlanSeen). past_sizes p.stages) (planned.plan_is ∙ ap (λ (d : Device). plan_between way (seen filters d) settings) own ∙ sym is)

-- all parts together have as many bytes
pub parts-long : {B K : Type 0} (kept : B → Kept) (books : BooksSeen K) (parts : ChannelParts B K) (size n samples : ℕ) → length parts.waiting ≡ size → (books.free parts.book ≡ false → length (past_of kept parts.chain) ≡ n)
    → samples ≡ (if books.free parts.book then 0 else n) → 8 * length (books.row parts.book) + size + 4 * samples ≡ length (parts_bytes kept books parts)
parts-long kept books parts size n samples waits long few =
    let row = spelled_numbers (books.row parts.book) in
    let past = past_bytes kept (books.free parts.book) parts.chain in
    omega (
      arith,
      length-append row (parts.waiting ++ past),
      length-append parts.waiting past,
      length-numbers (books.row parts.book),
      waits,
      length-past kept (books.free parts.book) parts.chain n long,
      few,
    )

-- as many samples are read as there is room for
pub samples-long : (past : List ℤ) (count most : ℕ) → count ≤ most → most ≤ length past → length (take count past) ≡ count
samples-long past count most few room = omega (arith, length-take count past)

-- and of a free channel none
pub samples-read : (past : List ℤ) (count n most : ℕ) {free told : Bool} → count ≤ most → most ≤ length past → count ≡ (if free then 0 else n) → free ≡ told → length (take count past) ≡ (if told then 0 else n)
samples-read past count n most few room is same = samples-long past count most few room ∙ is ∙ ap (λ f. if f then 0 else n) same

-- ---- a front of so many bytes

-- there are as many
pub front-room : (bytes front rest : List ℕ) (count : ℕ) → bytes ≡ front ++ rest → count ≡ length front → count ≤ length bytes
front-room bytes front rest count is long = omega (arith, ap length is, length-append front rest, long)

-- and behind them is the rest
pub front-left : (bytes front rest : List ℕ) (count : ℕ) → bytes ≡ front ++ rest → count ≡ length front → drop count bytes ≡ rest
front-left bytes front rest count is long = ap (λ n. drop n bytes) long ∙ ap (drop (length front)) is ∙ drop-append_seam front rest
