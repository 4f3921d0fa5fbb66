-- The channels that are mixed, one of them at its slot.
use Rattle.std.proofs.Common.{◌≡◌, ℕ, ◌<◌, List, [], ◌∷◌, length, get_or, sym, ap, ◌∙◌, arith}
use Rattle.std.proofs.lemmas.List.{get_or-map}
use Rattle.pcm_desk.specs.declared.map_book.MapBook.{MapBook}
use Rattle.pcm_desk.specs.declared.play_book.PlayBook.{PlayBook}
use Rattle.pcm_play.specs.declared.channel.PlayChannelOf.{PlayChannelOf}
use Rattle.pcm_map.specs.declared.channel.MapChannelOf.{MapChannelOf}
use Rattle.pcm_bus.specs.Slots.{map_books_of, play_books_of}

-- the book of a channel
pub play_at-channel : {B : Type 0} (channels : List (PlayChannelOf B)) (slot : ℕ) (old : PlayChannelOf B) (other : PlayBook) → slot < length channels → old ≡ get_or channels slot old → old.book ≡ get_or (play_books_of channels) slot other
play_at-channel {B = B} channels slot old other there is = ap (λ (channel : PlayChannelOf B). channel.book) is ∙ sym (get_or-map (λ (channel : PlayChannelOf B). channel.book) channels slot old other there)

-- some element of a list that has one
pub some_channel : {X : Type 0} (channels : List X) (k : ℕ) → k < length channels → X
some_channel [] k h = absurd (omega arith)
some_channel (channel ∷ channels) k h = channel

-- the book of a mapped channel
pub map_at-channel : {B : Type 0} (channels : List (MapChannelOf B)) (slot : ℕ) (old : MapChannelOf B) (other : MapBook) → slot < length channels → old ≡ get_or channels slot old → old.book ≡ get_or (map_books_of channels) slot other
map_at-channel {B = B} channels slot old other there is = ap (λ (channel : MapChannelOf B). channel.book) is ∙ sym (get_or-map (λ (channel : MapChannelOf B). channel.book) channels slot old other there)
