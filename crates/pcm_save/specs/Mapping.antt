-- The state of a mapped channel, and that it is known by it.
use Rattle.std.specs.Prelude.{◌≡◌, ℕ, List, ◌++◌, length}
use Rattle.std.proofs.Common.{arith, length-take, refl, ap, ◌∙◌}
use Rattle.pcm_sequence.specs.Fixed.{fixed_items}
use Rattle.pcm_sequence.proofs.Items.{items-count}
use Rattle.pcm_feeder.specs.declared.kind.Kind.{Kind}
use Rattle.pcm_feeder.specs.Kept.{Kept}
use Rattle.pcm_oss.specs.declared.event.Way.TheVariants.{Map}
use Rattle.pcm_desk.specs.declared.map_book.MapBook.{MapBook}
use Rattle.pcm_desk.specs.Openings.{ring_bytes}
use Rattle.pcm_desk.specs.RunStates.{is_unheld}
use Rattle.pcm_path.proofs.Telling.{plans-same}
use Rattle.pcm_map.specs.declared.channel.MapChannelOf.{MapChannelOf}
use Rattle.pcm_map.specs.Channels.{area_of, IsMapReady, MapStandsAs}
use Rattle.pcm_map.proofs.Telling.{map-known as map-stands-known}
use Rattle.pcm_state.specs.Numbers.{spelled_numbers}
use Rattle.pcm_state.specs.MapRows.{map_book_row}
use Rattle.pcm_state.proofs.Known.{map-known}
use Rattle.pcm_save.specs.Joined.{parts-known, pasts-even, BooksSeen, ChannelParts}
use Rattle.pcm_save.specs.Parts.{past_bytes, HasRow}
use Rattle.pcm_save.specs.States.{IsKnown}

-- the bytes of a channel: its book, what stands in its area, and what its chain keeps of the past
abbrev pub map_state : {B : Type 0} → (B → Kept) → MapChannelOf B → List ℕ
map_state kept channel =
    spelled_numbers (map_book_row channel.book) ++ (area_of channel ++ past_bytes kept (is_unheld channel.book.state) channel.path.chain)

-- a book stands at the front of bytes
abbrev pub HasMapBook : List ℕ → MapBook → Type 0
HasMapBook bytes book = HasRow bytes (map_book_row book)

-- as many bytes stand in an area as the ring of its opening holds
pub area-long : {B : Type 0} (channel : MapChannelOf B) → length (area_of channel) ≡ ring_bytes channel.book.opening
area-long channel =
    let safe = channel.safe in
    let fragments = safe.fragments in
    omega (arith, length-take (ring_bytes channel.book.opening) (fixed_items channel.area), items-count channel.area, channel.size, fragments.fits)

-- how its book is seen
abbrev pub map_books_seen : BooksSeen MapBook
map_books_seen = record {
  row = map_book_row;
  fill = λ book. ring_bytes book.opening;
  free = λ book. is_unheld book.state;
  even = λ one other. refl;
  known = map-known;
}

-- and its parts
abbrev pub map_parts : {B : Type 0} → MapChannelOf B → ChannelParts B MapBook
map_parts channel = record { book = channel.book; waiting = area_of channel; chain = channel.path.chain }

-- Where two channels that are ready alike have their bytes at the front of the same ones, they stand alike.
pub map-state-known : {B : Type 0} (kind : B → Kind) (kept : B → Kept) → IsKnown (λ (channel : MapChannelOf B). channel.path) (IsMapReady kind kept) (MapStandsAs kept) (map_state kept)
map-state-known kind kept filters one other more rest ready same =
    let a = ready.one_ready in
    let b = ready.other_ready in
    let known = parts-known kept map_books_seen (map_parts one) (map_parts other) more rest (area-long one) (area-long other)
    (λ book used.
    let busy = ap (λ (k : MapBook). is_unheld k.state) book ∙ used in
    pasts-even kept filters one.path.chain other.path.chain (a.far used) (b.far busy)
    (plans-same Map filters one.book.opening.settings other.book.opening.settings one.path other.path ready.device (ap (λ (k : MapBook). k.opening.settings) book) (a.planned used) (b.planned busy)))
    same in
    record {
      stands = map-stands-known kind kept filters one other a b (record { device_same = ready.device; book_same = known.book; area_same = known.waiting; keeps = known.keeps });
      left = known.left;
    }
