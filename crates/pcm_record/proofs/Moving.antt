-- What the calls on a channel move, from what they leave of its book, its ring and its chain.
use Rattle.std.proofs.Common.{length, ◌≡◌, ℕ, true, false, Ok, inl, inr, List, [], ◌++◌, take, drop, sym, ap, ◌∙◌, subst, arith, min, ◌+◌}
use Rattle.std.proofs.lemmas.List.{take_at}
use Rattle.pcm_format.specs.declared.settings.Settings.{Settings}
use Rattle.pcm_format.specs.Frames.{Frame}
use Rattle.pcm_feeder.specs.declared.kind.Kind.{Kind}
use Rattle.pcm_feeder.specs.Filters.{Filters}
use Rattle.pcm_feeder.specs.Kept.{Kept}
use Rattle.pcm_feeder.specs.Limits.{IsRate}
use Rattle.pcm_feeder.specs.Racks.{HaveKinds}
use Rattle.pcm_oss.specs.declared.request.Request.{Request}
use Rattle.pcm_rate.specs.declared.rate.Rate.{Rate}
use Rattle.pcm_plan.specs.Plans.{PlanSeen, rate_in_plan}
use Rattle.pcm_chain.specs.declared.chain.ChainOf.{ChainOf}
use Rattle.pcm_chain.specs.Chains.{boxes_in, plan_in}
use Rattle.pcm_chain.specs.Pushes.{HasRecordedFar}
use Rattle.pcm_path.specs.Paths.{IsEmpty, path_rate}
use Rattle.pcm_oss.specs.declared.event.Way.TheVariants.{Record}
use Rattle.pcm_path.proofs.Paths.{device-served, planned-as}
use Rattle.pcm_oss.specs.declared.reply.Answer.{Answer}
use Rattle.pcm_oss.specs.Replies.{bytes_due}
use Rattle.pcm_desk.specs.declared.record_book.RecordBook.{RecordBook}
use Rattle.pcm_desk.specs.declared.turn.Turn.{Turn}
use Rattle.pcm_desk.specs.Device.{DeviceSeen, IsDevice, record_rate_between, seen}
use Rattle.pcm_desk.specs.Channels.{record_rate_at}
use Rattle.pcm_desk.specs.RunStates.{is_unheld, is_in_setup, is_running}
use Rattle.pcm_desk.specs.RecordBooks.{read_turn, record_fill_of}
use Rattle.pcm_desk.specs.RecordRequests.{record_ask}
use Rattle.pcm_desk.specs.RecordSafe.{IsRecordUnstarted, RecordIsSafe}
use Rattle.pcm_desk.proofs.Refused.{read-done}
use Rattle.pcm_desk.proofs.RecordAsking.{record-ask-rate, record-ask-settings}
use Rattle.pcm_desk.proofs.RecordLeaves.{Stays, record-ask-leaves}
use Rattle.pcm_desk.proofs.RecordSafe.{record-safe-ask}
use Rattle.pcm_sound.specs.Given.{recorded_bytes}
use Rattle.pcm_record.specs.declared.channel.RecordChannelOf.{RecordChannelOf}
use Rattle.pcm_record.specs.Channels.{IsRecordPlanned, IsRecordServed, RecordMoves}
use Rattle.std.proofs.lemmas.Bool.{cases_Bool}
use Rattle.pcm_record.proofs.Held.{safe-any}
use Rattle.pcm_record.proofs.Stands.{Reads, none-captured, none-kept, record-far, stands-as, stands-empty, stands-read}

-- a channel that stays stands for what it stood for
pub moves-nothing : {B : Type 0} (kind : B → Kind) (kept : B → Kept) (filters : Filters) (input : List Frame) (count : ℕ) (channel : RecordChannelOf B) → RecordMoves kind kept filters input count channel channel
moves-nothing kind kept filters input count channel = record {
  kinds = λ h. h;
  planned = λ p. p;
  far = λ f. f;
  stands = λ bytes frames s.
      let more : List ℕ = recorded_bytes (seen filters channel.path.device) channel.book.opening.settings (frames ++ input) channel.book.given count in
      stands-as kept filters channel bytes (take channel.book.kept (bytes ++ more)) frames (take channel.book.captured (frames ++ input))
      (take_at bytes more channel.book.kept s.count) (take_at frames input channel.book.captured s.captured) s;
  captured = omega arith;
  kept = omega arith;
}

-- a channel that begins, or whose recording is over
pub moves-ended : {B : Type 0} (kind : B → Kind) (kept : B → Kept) (filters : Filters) (old new : RecordChannelOf B) → HaveKinds kind (boxes_in new.path.chain) → (IsRecordServed filters old → IsRecordServed filters new) → IsRecordUnstarted new.book
    → IsEmpty kept new.path → RecordMoves kind kept filters [] 0 old new
moves-ended kind kept filters old new kinds planned none empty = record {
  kinds = λ h. kinds;
  planned = planned;
  far = λ f. record-far kept filters new [] [] (stands-empty kept filters new none empty);
  stands = λ bytes frames s.
      let all : List ℕ = bytes ++ recorded_bytes (seen filters old.path.device) old.book.opening.settings (frames ++ []) old.book.given 0 in
      stands-as kept filters new [] (take new.book.kept all) [] (take new.book.captured (frames ++ []))
      (ap (λ n. take n all) none.kept_none) (ap (λ n. take n (frames ++ [])) none.captured_none) (stands-empty kept filters new none empty);
  captured = omega (arith, none.captured_none);
  kept = omega (arith, none.kept_none);
}

-- a channel of which `count` bytes were read, or whose state alone changed
pub moves-read : {B : Type 0} (kind : B → Kind) (kept : B → Kept) (filters : Filters) (count : ℕ) (old new : RecordChannelOf B) → new.path.device ≡ old.path.device → new.path.chain ≡ old.path.chain → new.path.ring.bytes ≡ drop count old.path.ring.bytes → Reads count old.book new.book
    → (is_unheld new.book.state ≡ false → is_unheld old.book.state ≡ false) → RecordMoves kind kept filters [] 0 old new
moves-read {B = B} kind kept filters count old new device chain ring r held = record {
  kinds = λ h. subst (λ (c : ChainOf B). HaveKinds kind (boxes_in c)) (sym chain) h;
  planned = λ p used. planned-as Record filters _ _ old.path new.path device (ap plan_in chain) r.settings (p (held used));
  far = λ f used.
      subst (λ (c : ChainOf B). HasRecordedFar kept filters c new.book.captured) (sym chain)
      (subst (λ k. HasRecordedFar kept filters old.path.chain k) (sym r.captured) (f (held used)));
  stands = λ bytes frames s.
      stands-as kept filters new bytes (take new.book.kept (bytes ++ recorded_bytes (seen filters old.path.device) old.book.opening.settings (frames ++ []) old.book.given 0)) frames (take new.book.captured (frames ++ []))
      (none-kept new.book.kept (seen filters old.path.device) old.book.opening.settings bytes (frames ++ []) old.book.given (s.count ∙ sym r.kept)) (none-captured new.book.captured frames (s.captured ∙ sym r.captured))
      (stands-read kept filters old new count bytes frames chain ring r held s);
  captured = omega (arith, r.captured);
  kept = omega (arith, r.kept);
}

-- a read that isn't refused: the book counts as many bytes as the ring gives
pub record IsTaken (count : ℕ) (answer : Answer) (old new : RecordBook) : Type 0 where
  pub due : bytes_due (Ok answer) ≡ count
  pub is : new ≡ record old { read = old.read + count }

pub takes-read : {B : Type 0} (old : RecordChannelOf B) (most count : ℕ) (turn : Turn RecordBook) (answer : Answer) → turn ≡ read_turn most old.book → turn.reply ≡ Ok answer → count ≡ min most (length old.path.ring.bytes)
    → IsTaken count answer old.book turn.book
takes-read old most count turn answer is ok taken =
    let done = read-done most old.book answer (ap (λ (t : Turn RecordBook). t.reply) (sym is) ∙ ok) in
    let same : min most (record_fill_of old.book) ≡ count = sym (taken ∙ ap (min most) old.fill) in
    record {
      due = ap (λ (a : Answer). bytes_due (Ok a)) done.got ∙ same;
      is = ap (λ (t : Turn RecordBook). t.book) is ∙ done.is ∙ ap (λ n. record old.book { read = old.book.read + n }) same;
    }

-- ---- requests

-- where the counts stay, no more bytes were read
pub stays-reads : (old new : RecordBook) → Stays old new → Reads 0 old new
stays-reads old new s = record { settings = s.settings; captured = s.captured; kept = s.kept; read = omega (arith, s.read) }

-- and as many wait
pub stays-fill : (old new : RecordBook) → Stays old new → record_fill_of old ≡ record_fill_of new
stays-fill old new s = omega (arith, s.kept, s.read)

-- where nothing was kept and read, nothing waits
pub none-waits : (book : RecordBook) → IsRecordUnstarted book → 0 ≡ record_fill_of book
none-waits book none = let kept = none.kept_none in omega arith

-- a channel that goes by the plan of some filters: its device, and its book by the device's rate
pub device-is : {B : Type 0} (filters : Filters) (channel : RecordChannelOf B) → IsRecordPlanned filters channel → IsDevice (seen filters channel.path.device)
device-is filters channel p = device-served Record filters channel.book.opening channel.book.opening.settings channel.path channel.serves p

pub safe-at : {B : Type 0} (filters : Filters) (channel : RecordChannelOf B) → IsRecordPlanned filters channel → RecordIsSafe (record_rate_at (seen filters channel.path.device) channel.book) channel.book
safe-at filters channel p = subst (λ (plan : PlanSeen). RecordIsSafe (rate_in_plan plan) channel.book) p.plan_is channel.safe

-- and so a channel's that may be free
pub safe-served : {B : Type 0} (filters : Filters) (channel : RecordChannelOf B) → IsRecordServed filters channel → RecordIsSafe (record_rate_at (seen filters channel.path.device) channel.book) channel.book
safe-served filters channel served =
    elim (cases_Bool (is_unheld channel.book.state)) [
      | inl free ↦ safe-any (path_rate channel.path) (record_rate_at (seen filters channel.path.device) channel.book) channel.book free channel.safe
      | inr used ↦ safe-at filters channel (served used)
    ]

-- what a request leaves of a book whose rate is then this one
pub record Left (now : Rate) (old new : RecordBook) : Type 0 where
  pub rate : IsRate new.opening.settings.rate
  pub safe : RecordIsSafe now new
  -- where it runs, the counts are the old ones
  pub goes : is_running new.state ≡ true → Stays old new

-- a request
pub book-asked : {B : Type 0} (filters : Filters) (request : Request) (old : RecordChannelOf B) (turn : Turn RecordBook) → IsRecordServed filters old → turn ≡ record_ask request old.book → Left (record_rate_at (seen filters old.path.device) turn.book) old.book turn.book
book-asked filters request old turn p asked =
    let device : DeviceSeen = seen filters old.path.device in
    let book : RecordBook = old.book in
    let is : turn.book ≡ (record_ask request book).book = ap (λ (t : Turn RecordBook). t.book) asked in
    let same : is_in_setup book.state ≡ false → record_rate_at device turn.book ≡ record_rate_at device book =
    λ e. ap (λ (s : Settings). record_rate_between device s) (ap (λ (b : RecordBook). b.opening.settings) is ∙ record-ask-settings request book e) in
    let leaves = record-ask-leaves (record_rate_at device book) request book (safe-served filters old p) in
    record {
      rate = subst (λ (b : RecordBook). IsRate b.opening.settings.rate) (sym is) (record-ask-rate request book old.serves.rate);
      safe = subst (RecordIsSafe (record_rate_at device turn.book)) (sym is) (record-safe-ask (record_rate_at device book) (record_rate_at device turn.book) request book same (safe-served filters old p));
      goes = subst (λ (b : RecordBook). is_running b.state ≡ true → Stays book b) (sym is) (λ runs. elim leaves.counts [
        | inl stays ↦ stays
        | inr over ↦ absurd (let clash : true ≡ false = sym runs ∙ over.stopped in cc)
      ]);
    }
