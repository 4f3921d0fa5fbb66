-- The state of a channel that plays, and that it is known by it.
use Rattle.std.specs.Prelude.{ℕ, List, ◌++◌}
use Rattle.std.proofs.Common.{refl, ap, ◌∙◌}
use Rattle.pcm_feeder.specs.declared.kind.Kind.{Kind}
use Rattle.pcm_feeder.specs.Kept.{Kept}
use Rattle.pcm_oss.specs.declared.event.Way.TheVariants.{Play}
use Rattle.pcm_desk.specs.declared.play_book.PlayBook.{PlayBook}
use Rattle.pcm_desk.specs.PlayBooks.{is_play_free, play_fill_of}
use Rattle.pcm_path.proofs.Telling.{plans-same}
use Rattle.pcm_play.specs.declared.channel.PlayChannelOf.{PlayChannelOf}
use Rattle.pcm_play.specs.Channels.{IsPlayReady, PlayStandsAs}
use Rattle.pcm_play.proofs.Telling.{play-known as play-stands-known}
use Rattle.pcm_state.specs.Numbers.{spelled_numbers}
use Rattle.pcm_state.specs.PlayRows.{play_book_row}
use Rattle.pcm_state.proofs.Known.{play-known}
use Rattle.pcm_save.specs.Joined.{parts-known, pasts-even, BooksSeen, ChannelParts}
use Rattle.pcm_save.specs.Parts.{path_bytes, HasRow}
use Rattle.pcm_save.specs.States.{IsKnown}

-- the bytes of a channel: its book, what waits in its ring, and what its chain keeps of the past
abbrev pub play_state : {B : Type 0} → (B → Kept) → PlayChannelOf B → List ℕ
play_state kept channel =
    spelled_numbers (play_book_row channel.book) ++ path_bytes kept (is_play_free channel.book.state) channel.path

-- a book stands at the front of bytes
abbrev pub HasPlayBook : List ℕ → PlayBook → Type 0
HasPlayBook bytes book = HasRow bytes (play_book_row book)

-- how its book is seen
abbrev pub play_books_seen : BooksSeen PlayBook
play_books_seen = record {
  row = play_book_row;
  fill = play_fill_of;
  free = λ book. is_play_free book.state;
  even = λ one other. refl;
  known = play-known;
}

-- and its parts
abbrev pub play_parts : {B : Type 0} → PlayChannelOf B → ChannelParts B PlayBook
play_parts channel = record { book = channel.book; waiting = channel.path.ring.bytes; chain = channel.path.chain }

-- Where two channels that are ready alike have their bytes at the front of the same ones, they stand alike.
pub play-state-known : {B : Type 0} (kind : B → Kind) (kept : B → Kept) → IsKnown (λ (channel : PlayChannelOf B). channel.path) (IsPlayReady kind kept) (PlayStandsAs kept) (play_state kept)
play-state-known kind kept filters one other more rest ready same =
    let a = ready.one_ready in
    let b = ready.other_ready in
    let known = parts-known kept play_books_seen (play_parts one) (play_parts other) more rest one.fill other.fill
    (λ book used.
    let busy = ap (λ (k : PlayBook). is_play_free k.state) book ∙ used in
    pasts-even kept filters one.path.chain other.path.chain (a.far.chain_is used) (b.far.chain_is busy)
    (plans-same Play filters one.book.opening.settings other.book.opening.settings one.path other.path ready.device (ap (λ (k : PlayBook). k.opening.settings) book) (a.planned used) (b.planned busy)))
    same in
    record {
      stands = play-stands-known kind kept filters one other a b (record { device_same = ready.device; book_same = known.book; ring_same = known.waiting; keeps = known.keeps });
      left = known.left;
    }
