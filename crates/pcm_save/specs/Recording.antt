-- The state of a channel that records, and that it is known by it.
use Rattle.std.specs.Prelude.{ℕ, List, ◌++◌}
use Rattle.std.proofs.Common.{refl, ap, ◌∙◌}
use Rattle.pcm_feeder.specs.declared.kind.Kind.{Kind}
use Rattle.pcm_feeder.specs.Kept.{Kept}
use Rattle.pcm_oss.specs.declared.event.Way.TheVariants.{Record}
use Rattle.pcm_desk.specs.declared.record_book.RecordBook.{RecordBook}
use Rattle.pcm_desk.specs.RecordBooks.{record_fill_of}
use Rattle.pcm_desk.specs.RunStates.{is_unheld}
use Rattle.pcm_path.proofs.Telling.{plans-same}
use Rattle.pcm_record.specs.declared.channel.RecordChannelOf.{RecordChannelOf}
use Rattle.pcm_record.specs.Channels.{IsRecordReady, RecordStandsAs}
use Rattle.pcm_record.proofs.Telling.{record-known as record-stands-known}
use Rattle.pcm_state.specs.Numbers.{spelled_numbers}
use Rattle.pcm_state.specs.RecordRows.{record_book_row}
use Rattle.pcm_state.proofs.Known.{record-known}
use Rattle.pcm_save.specs.Joined.{parts-known, pasts-even, BooksSeen, ChannelParts}
use Rattle.pcm_save.specs.Parts.{path_bytes, HasRow}
use Rattle.pcm_save.specs.States.{IsKnown}

-- the bytes of a channel: its book, what waits in its ring, and what its chain keeps of the past
abbrev pub record_state : {B : Type 0} → (B → Kept) → RecordChannelOf B → List ℕ
record_state kept channel =
    spelled_numbers (record_book_row channel.book) ++ path_bytes kept (is_unheld channel.book.state) channel.path

-- a book stands at the front of bytes
abbrev pub HasRecordBook : List ℕ → RecordBook → Type 0
HasRecordBook bytes book = HasRow bytes (record_book_row book)

-- how its book is seen
abbrev pub record_books_seen : BooksSeen RecordBook
record_books_seen = record {
  row = record_book_row;
  fill = record_fill_of;
  free = λ book. is_unheld book.state;
  even = λ one other. refl;
  known = record-known;
}

-- and its parts
abbrev pub record_parts : {B : Type 0} → RecordChannelOf B → ChannelParts B RecordBook
record_parts channel = record { book = channel.book; waiting = channel.path.ring.bytes; chain = channel.path.chain }

-- Where two channels that are ready alike have their bytes at the front of the same ones, they stand alike.
pub record-state-known : {B : Type 0} (kind : B → Kind) (kept : B → Kept) → IsKnown (λ (channel : RecordChannelOf B). channel.path) (IsRecordReady kind kept) (RecordStandsAs kept) (record_state kept)
record-state-known kind kept filters one other more rest ready same =
    let a = ready.one_ready in
    let b = ready.other_ready in
    let known = parts-known kept record_books_seen (record_parts one) (record_parts other) more rest one.fill other.fill
    (λ book used.
    let busy = ap (λ (k : RecordBook). is_unheld k.state) book ∙ used in
    pasts-even kept filters one.path.chain other.path.chain (a.far used) (b.far busy)
    (plans-same Record filters one.book.opening.settings other.book.opening.settings one.path other.path ready.device (ap (λ (k : RecordBook). k.opening.settings) book) (a.planned used) (b.planned busy)))
    same in
    record {
      stands = record-stands-known kind kept filters one other a b (record { device_same = ready.device; book_same = known.book; ring_same = known.waiting; keeps = known.keeps });
      left = known.left;
    }
