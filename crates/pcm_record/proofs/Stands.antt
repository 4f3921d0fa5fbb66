-- What a channel stands for after each call.
use Rattle.std.proofs.Common.{◌≡◌, ℕ, ◌+◌, ◌≤◌, false, List, [], ◌++◌, length, drop, All, refl, sym, ap, ◌∙◌, subst, arith, length-append}
use Rattle.std.proofs.lemmas.List.{drop-append-le, drop-drop, take_at}
use Rattle.std.proofs.lemmas.List.Elements.{All-append, All-nil}
use Rattle.std.specs.Prelude.{take}
use Rattle.pcm_num.specs.Limit.{FitsBits}
use Rattle.pcm_format.specs.declared.settings.Settings.{Settings}
use Rattle.pcm_format.specs.Frames.{Frame}
use Rattle.pcm_feeder.specs.Filters.{Filters}
use Rattle.pcm_feeder.specs.Kept.{Kept}
use Rattle.pcm_plan.specs.Fits.{HaveBits}
use Rattle.pcm_plan.specs.Plans.{rate_in_plan}
use Rattle.pcm_rate.specs.Rates.{can}
use Rattle.pcm_chain.specs.declared.chain.ChainOf.{ChainOf}
use Rattle.pcm_chain.specs.Chains.{plan_in}
use Rattle.pcm_chain.specs.Pushes.{HasRecorded, HasRecordedFar}
use Rattle.pcm_chain.proofs.Far.{chain-far}
use Rattle.pcm_path.specs.Paths.{IsEmpty}
use Rattle.pcm_desk.specs.declared.record_book.RecordBook.{RecordBook}
use Rattle.pcm_desk.specs.Device.{DeviceSeen}
use Rattle.pcm_desk.specs.RunStates.{is_unheld}
use Rattle.pcm_desk.specs.RecordSafe.{IsRecordUnstarted}
use Rattle.pcm_sound.specs.Given.{recorded_bytes}
use Rattle.pcm_record.specs.declared.channel.RecordChannelOf.{RecordChannelOf}
use Rattle.pcm_record.specs.Channels.{RecordIsSoFar, RecordStands}

-- a channel that begins, or whose recording is over, stands for no bytes and no frames
pub stands-empty : {B : Type 0} (kept : B → Kept) (filters : Filters) (channel : RecordChannelOf B) → IsRecordUnstarted channel.book → IsEmpty kept channel.path
    → RecordStands kept filters channel channel.book [] []
stands-empty kept filters channel none empty = record {
  book_is = refl;
  count = sym none.kept_none;
  ring_is = empty.ring ∙ ap (λ n. drop n []) (sym none.read_none);
  captured = sym none.captured_none;
  bits = All-nil (λ (frame : Frame). All (FitsBits 32) frame);
  records = λ used. empty.records filters;
}

-- what stands for frames is as far as its book counts
pub record-far : {B : Type 0} (kept : B → Kept) (filters : Filters) (channel : RecordChannelOf B) (bytes : List ℕ) (frames : List Frame) → RecordStands kept filters channel channel.book bytes frames
    → RecordIsSoFar kept filters channel
record-far kept filters channel bytes frames s used =
    let chain = channel.path.chain in
    subst (HasRecordedFar kept filters chain) s.captured (chain-far kept filters chain frames 0 (can (rate_in_plan (plan_in chain)) (length frames)) (s.records used))

-- what a channel stands for, by equal lists
pub stands-as : {B : Type 0} (kept : B → Kept) (filters : Filters) (channel : RecordChannelOf B) (bytes same_bytes : List ℕ) (frames same_frames : List Frame) → same_bytes ≡ bytes → same_frames ≡ frames
    → RecordStands kept filters channel channel.book bytes frames → RecordStands kept filters channel channel.book same_bytes same_frames
stands-as kept filters channel bytes same_bytes frames same_frames b f s =
    subst (λ list. RecordStands kept filters channel channel.book list same_frames) (sym b)
    (subst (λ list. RecordStands kept filters channel channel.book bytes list) (sym f) s)

-- the counts of a book stay, but for `count` more bytes that were read
pub record Reads (count : ℕ) (old new : RecordBook) : Type 0 where
  pub settings : new.opening.settings ≡ old.opening.settings
  pub captured : new.captured ≡ old.captured
  pub kept : new.kept ≡ old.kept
  pub read : new.read ≡ old.read + count

-- so it is after a read
pub reads-count : (count : ℕ) (old new : RecordBook) → new ≡ record old { read = old.read + count } → Reads count old new
reads-count count old new is = record {
  settings = ap (λ (b : RecordBook). b.opening.settings) is;
  captured = ap (λ (b : RecordBook). b.captured) is;
  kept = ap (λ (b : RecordBook). b.kept) is;
  read = ap (λ (b : RecordBook). b.read) is;
}

-- a channel of which `count` bytes were read stands for the same bytes
pub stands-read : {B : Type 0} (kept : B → Kept) (filters : Filters) (old new : RecordChannelOf B) (count : ℕ) (bytes : List ℕ) (frames : List Frame) → new.path.chain ≡ old.path.chain → new.path.ring.bytes ≡ drop count old.path.ring.bytes → Reads count old.book new.book
    → (is_unheld new.book.state ≡ false → is_unheld old.book.state ≡ false) → RecordStands kept filters old old.book bytes frames → RecordStands kept filters new new.book bytes frames
stands-read {B = B} kept filters old new count bytes frames chain ring r held s = record {
  book_is = refl;
  count = s.count ∙ sym r.kept;
  ring_is = ring ∙ ap (drop count) s.ring_is ∙ drop-drop count old.book.read bytes ∙ ap (λ n. drop n bytes) (sym r.read);
  captured = s.captured ∙ sym r.captured;
  bits = s.bits;
  records = λ used. subst (λ (c : ChainOf B). HasRecorded kept filters c frames) (sym chain) (s.records (held used));
}

-- a channel that captured more frames, of which more bytes were kept, stands for these too
pub stands-captured : {B : Type 0} (kept : B → Kept) (filters : Filters) (old new : RecordChannelOf B) (bytes more : List ℕ) (frames input : List Frame) → new.path.ring.bytes ≡ old.path.ring.bytes ++ more → new.book.read ≡ old.book.read
    → old.book.read ≤ old.book.kept → new.book.kept ≡ old.book.kept + length more → new.book.captured ≡ old.book.captured + length input → HaveBits 32 input → HasRecorded kept filters new.path.chain (frames ++ input)
    → RecordStands kept filters old old.book bytes frames → RecordStands kept filters new new.book (bytes ++ more) (frames ++ input)
stands-captured kept filters old new bytes more frames input ring read within grows captures bits records s = record {
  book_is = refl;
  count = omega (arith, length-append bytes more, s.count, grows);
  ring_is = ring ∙ ap (λ waiting. waiting ++ more) s.ring_is ∙ sym (drop-append-le old.book.read bytes more (omega (arith, s.count))) ∙ ap (λ n. drop n (bytes ++ more)) (sym read);
  captured = omega (arith, length-append frames input, s.captured, captures);
  bits = All-append (λ (frame : Frame). All (FitsBits 32) frame) frames input s.bits bits;
  records = λ used. records;
}

-- ---- lists that are cut where they end

-- bytes with no more of them kept
pub none-kept : (n : ℕ) (device : DeviceSeen) (settings : Settings) (bytes : List ℕ) (frames : List Frame) (from : ℕ) → length bytes ≡ n → take n (bytes ++ recorded_bytes device settings frames from 0) ≡ bytes
none-kept n device settings bytes frames from count = take_at bytes (recorded_bytes device settings frames from 0) n count

-- frames with no more of them captured
pub none-captured : (n : ℕ) (frames : List Frame) → length frames ≡ n → take n (frames ++ []) ≡ frames
none-captured n frames count = take_at frames [] n count
