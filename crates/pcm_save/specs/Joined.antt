-- What joined bytes tell of their parts.
use Rattle.std.specs.Prelude.{◌≡◌, ℕ, ◌*◌, Bool, true, false, List, ◌++◌, length}
use Rattle.std.proofs.Common.{append_assoc, refl, sym, ap, ◌∙◌, subst}
use Rattle.pcm_feeder.specs.Filters.{Filters}
use Rattle.pcm_feeder.specs.Kept.{Kept}
use Rattle.pcm_plan.specs.Plans.{PlanSeen}
use Rattle.pcm_chain.specs.declared.chain.ChainOf.{ChainOf}
use Rattle.pcm_chain.specs.Chains.{plan_in}
use Rattle.pcm_chain.specs.Far.{ChainIsSoFar}
use Rattle.pcm_chain.specs.Pasts.{past_of, past_sizes}
use Rattle.pcm_chain.proofs.Far.{far-fitted}
use Rattle.pcm_chain.proofs.Known.{length-past-of}
use Rattle.pcm_state.specs.Numbers.{spelled_numbers}
use Rattle.pcm_state.specs.Samples.{sample_bytes}
use Rattle.pcm_state.proofs.Pieces.{front-known, rest-known}
use Rattle.pcm_state.proofs.Spelled.{length-numbers, length-samples, numbers-known, samples-known}
use Rattle.pcm_save.specs.Parts.{past_bytes}

-- three parts, and bytes behind them
pub three-joined : (a b c d : List ℕ) → a ++ (b ++ c) ++ d ≡ a ++ (b ++ (c ++ d))
three-joined a b c d = append_assoc a (b ++ c) d ∙ ap (λ l. a ++ l) (append_assoc b c d)

-- ---- what chains keep of the past

-- what two chains keep of the past at the front of the same bytes is the same, and so are the bytes behind it
pub record SamePast {B : Type 0} (kept : B → Kept) (free : Bool) (one other : ChainOf B) (more rest : List ℕ) : Type 0 where
  pub keeps : free ≡ false → past_of kept other ≡ past_of kept one
  pub left : rest ≡ more

pub past-known : {B : Type 0} (kept : B → Kept) (free : Bool) (one other : ChainOf B) (more rest : List ℕ) → (free ≡ false → length (past_of kept other) ≡ length (past_of kept one))
    → past_bytes kept free other ++ rest ≡ past_bytes kept free one ++ more → SamePast kept free one other more rest
past-known kept true one other more rest long same = record { keeps = λ held. cc; left = same }
past-known kept false one other more rest long same =
    let even : length (sample_bytes (past_of kept other)) ≡ length (sample_bytes (past_of kept one)) =
    length-samples (past_of kept other) ∙ ap (λ n. 4 * n) (long refl) ∙ sym (length-samples (past_of kept one)) in
    record {
      keeps = λ held. samples-known (past_of kept other) (past_of kept one) (front-known (sample_bytes (past_of kept other)) rest (sample_bytes (past_of kept one)) more even same);
      left = rest-known (sample_bytes (past_of kept other)) rest (sample_bytes (past_of kept one)) more even same;
    }

-- chains that go by one plan keep as many samples
pub pasts-even : {B : Type 0} (kept : B → Kept) (filters : Filters) (one other : ChainOf B) {eaten zeros given more silent gives : ℕ} → ChainIsSoFar kept filters one eaten zeros given
    → ChainIsSoFar kept filters other more silent gives → plan_in other ≡ plan_in one → length (past_of kept other) ≡ length (past_of kept one)
pasts-even kept filters one other {eaten} {zeros} {given} {more} {silent} {gives} a b plan =
    length-past-of kept other (far-fitted kept filters other more silent gives b)
    ∙ ap (λ (p : PlanSeen). past_sizes p.stages) plan
    ∙ sym (length-past-of kept one (far-fitted kept filters one eaten zeros given a))

-- ---- the parts of a channel

-- the parts of the bytes of a channel whose book is one of K: its book, what waits or stands in its area, and its chain
pub record ChannelParts (B K : Type 0) : Type 0 where
  pub book : K
  pub waiting : List ℕ
  pub chain : ChainOf B

-- how books of K are seen: the row of each, how much waits by it, and whether its channel is free; a row tells its book
pub record BooksSeen (K : Type 0) : Type 0 where
  pub row : K → List ℕ
  pub fill : K → ℕ
  pub free : K → Bool
  pub even : (one other : K) → length (row other) ≡ length (row one)
  pub known : (one other : K) → row one ≡ row other → one ≡ other

-- the bytes of these parts
abbrev pub parts_bytes : {B K : Type 0} → (B → Kept) → BooksSeen K → ChannelParts B K → List ℕ
parts_bytes kept books parts = spelled_numbers (books.row parts.book) ++ (parts.waiting ++ past_bytes kept (books.free parts.book) parts.chain)

-- the parts are the same, and so are the bytes behind them
pub record SameParts {B K : Type 0} (kept : B → Kept) (books : BooksSeen K) (one other : ChannelParts B K) (more rest : List ℕ) : Type 0 where
  pub book : other.book ≡ one.book
  pub waiting : other.waiting ≡ one.waiting
  pub keeps : books.free one.book ≡ false → past_of kept other.chain ≡ past_of kept one.chain
  pub left : rest ≡ more

pub parts-known : {B K : Type 0} (kept : B → Kept) (books : BooksSeen K) (one other : ChannelParts B K) (more rest : List ℕ) → length one.waiting ≡ books.fill one.book → length other.waiting ≡ books.fill other.book
    → (other.book ≡ one.book → books.free one.book ≡ false → length (past_of kept other.chain) ≡ length (past_of kept one.chain))
    → parts_bytes kept books other ++ rest ≡ parts_bytes kept books one ++ more → SameParts kept books one other more rest
parts-known {B} {K} kept books one other more rest waits its_waits long same =
    let row : ChannelParts B K → List ℕ = λ parts. spelled_numbers (books.row parts.book) in
    let past : ChannelParts B K → List ℕ = λ parts. past_bytes kept (books.free parts.book) parts.chain in
    let parts : row other ++ (other.waiting ++ (past other ++ rest)) ≡ row one ++ (one.waiting ++ (past one ++ more)) =
    sym (three-joined (row other) other.waiting (past other) rest) ∙ same ∙ three-joined (row one) one.waiting (past one) more in
    let row_long : length (row other) ≡ length (row one) =
    length-numbers (books.row other.book) ∙ ap (λ n. 8 * n) (books.even one.book other.book) ∙ sym (length-numbers (books.row one.book)) in
    let book : other.book ≡ one.book =
    books.known other.book one.book (numbers-known (books.row other.book) (books.row one.book)
    (front-known (row other) (other.waiting ++ (past other ++ rest)) (row one) (one.waiting ++ (past one ++ more)) row_long parts)) in
    let behind = rest-known (row other) (other.waiting ++ (past other ++ rest)) (row one) (one.waiting ++ (past one ++ more)) row_long parts in
    let fill : length other.waiting ≡ length one.waiting = its_waits ∙ ap books.fill book ∙ sym waits in
    let waiting = front-known other.waiting (past other ++ rest) one.waiting (past one ++ more) fill behind in
    let left = rest-known other.waiting (past other ++ rest) one.waiting (past one ++ more) fill behind in
    let known = past-known kept (books.free one.book) one.chain other.chain more rest (long book)
    (subst (λ (k : K). past_bytes kept (books.free k) other.chain ++ rest ≡ past one ++ more) book left) in
    record { book = book; waiting = waiting; keeps = known.keeps; left = known.left }
