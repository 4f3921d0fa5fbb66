-- What parts of bytes join to, and what is known of them.
use Rattle.std.proofs.Common.{◌≡◌, ℕ, ◌+◌, ◌*◌, Bool, true, false, if◌then◌else◌, ℤ, List, ◌++◌, length, take, drop, refl, sym, ap, ◌∙◌, arith, append_assoc, ◌≤◌, subst}
use Rattle.std.proofs.Math.Seq.{take-add}
use Rattle.std.proofs.lemmas.List.{length-take, length-drop, nil_from_length}
use Rattle.pcm_feeder.specs.Kept.{Kept}
use Rattle.pcm_chain.specs.declared.chain.ChainOf.{ChainOf}
use Rattle.pcm_plan.specs.Plans.{PlanSeen}
use Rattle.pcm_chain.specs.Pasts.{past_of, past_sizes}
use Rattle.pcm_state.specs.Numbers.{spelled_numbers}
use Rattle.pcm_state.specs.Samples.{sample_bytes}
use Rattle.pcm_save.specs.Joined.{parts_bytes, BooksSeen, ChannelParts}
use Rattle.pcm_save.specs.Parts.{past_bytes, HasRest, HasRow, IsPart}

-- a part is as long as it says
pub length-part : (bytes : List ℕ) (at size : ℕ) (part : List ℕ) → IsPart bytes at size part → length part ≡ size
length-part bytes at size part is = omega (arith, ap length is.is, length-take size (drop at bytes), length-drop at bytes, is.within)

-- three parts, one behind another, are the front of the bytes
pub parts-front : (bytes : List ℕ) (a b c : ℕ) (one two three : List ℕ) → IsPart bytes 0 a one → IsPart bytes a b two → IsPart bytes (a + b) c three
    → one ++ (two ++ three) ≡ take (a + b + c) bytes
parts-front bytes a b c one two three first second third =
    sym (append_assoc one two three)
    ∙ ap (λ l. l ++ two ++ three) first.is ∙ ap (λ l. take a bytes ++ l ++ three) second.is ∙ ap (λ l. take a bytes ++ take b (drop a bytes) ++ l) third.is
    ∙ ap (λ l. l ++ take c (drop (a + b) bytes)) (sym (take-add a b bytes)) ∙ sym (take-add (a + b) c bytes)

-- three parts that are each the same join to the same
pub join : (a b c one two three : List ℕ) → a ≡ one → b ≡ two → c ≡ three → a ++ (b ++ c) ≡ one ++ (two ++ three)
join a b c one two three first second third =
    ap (λ l. l ++ (b ++ c)) first ∙ ap (λ l. one ++ (l ++ c)) second ∙ ap (λ l. one ++ (two ++ l)) third

-- what a chain keeps that was told these samples; a free channel was told none
pub past-told : {B : Type 0} (kept : B → Kept) (free : Bool) (chain : ChainOf B) (samples : List ℤ) (n : ℕ) → length samples ≡ (if free then 0 else n)
    → (free ≡ false → past_of kept chain ≡ samples) → past_bytes kept free chain ≡ sample_bytes samples
past-told kept true chain samples n long keeps = ap sample_bytes (sym (nil_from_length samples long))
past-told kept false chain samples n long keeps = ap sample_bytes (keeps refl)

-- as many samples were loaded as the stages of a plan keep, unless the channel is free
pub past-long : {free told : Bool} {plan other : PlanSeen} {n count : ℕ} → n ≡ count → count ≡ (if free then 0 else past_sizes plan.stages) → free ≡ told → plan ≡ other
    → n ≡ (if told then 0 else past_sizes other.stages)
past-long {told = told} {plan = plan} long is same planned =
    long ∙ is ∙ ap (λ (f : Bool). if f then 0 else past_sizes plan.stages) same ∙ ap (λ (p : PlanSeen). if told then 0 else past_sizes p.stages) planned

-- the parts that a channel was told are so many bytes, those at the front
pub record AreFront {B K : Type 0} (kept : B → Kept) (books : BooksSeen K) (bytes : List ℕ) (count : ℕ) (parts : ChannelParts B K) : Type 0 where
  pub within : count ≤ length bytes
  pub told : parts_bytes kept books parts ≡ take count bytes

pub parts-told : {B K : Type 0} (kept : B → Kept) (books : BooksSeen K) (bytes : List ℕ) (size n : ℕ) (book : K) (waiting : List ℕ) (samples : List ℤ) (parts : ChannelParts B K) → HasRow bytes (books.row book)
    → HasRest bytes (8 * length (books.row book)) size waiting samples → length samples ≡ (if books.free book then 0 else n) → parts.book ≡ book → parts.waiting ≡ waiting
    → (books.free book ≡ false → past_of kept parts.chain ≡ samples) → AreFront kept books bytes (8 * length (books.row book) + length waiting + 4 * length samples) parts
parts-told {B} {K} kept books bytes size n book waiting samples parts front rest long book_is waits keeps =
    let row = books.row book in
    let even = length-part bytes (8 * length row) size waiting rest.waits in
    let past = past-told kept (books.free book) parts.chain samples n long keeps in
    record {
      within = subst (λ m. 8 * length row + m + 4 * length samples ≤ length bytes) (sym even) rest.keeps.within;
      told = join (spelled_numbers (books.row parts.book)) parts.waiting (past_bytes kept (books.free parts.book) parts.chain)
          (spelled_numbers row) waiting (sample_bytes samples)
          (ap (λ (k : K). spelled_numbers (books.row k)) book_is) waits (ap (λ (k : K). past_bytes kept (books.free k) parts.chain) book_is ∙ past)
          ∙ parts-front bytes (8 * length row) size (4 * length samples) (spelled_numbers row) waiting (sample_bytes samples) front rest.waits rest.keeps
          ∙ ap (λ m. take (8 * length row + m + 4 * length samples) bytes) (sym even);
    }
