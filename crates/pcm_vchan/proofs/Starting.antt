-- The channels of a device once a group has started.
use Rattle.std.proofs.Common.{◌≡◌, ℕ, ◌+◌, ◌<◌, ◌≤◌, Bool, true, false, cond, List, [], ◌∷◌, length, map, drop, get_or, refl, sym, ap, ◌∙◌, arith}
use Rattle.std.specs.Prelude.{not, ◌&&◌, ◌||◌}
use Rattle.std.proofs.Math.ListN.{drop_of_length-le}
use Rattle.std.proofs.lemmas.List.{get_or-map, length-map, same_lists}
use Rattle.pcm_feeder.specs.declared.kind.Kind.{Kind}
use Rattle.pcm_desk.specs.declared.here.Here.{Here}
use Rattle.pcm_desk.specs.declared.play_book.PlayBook.{PlayBook}
use Rattle.pcm_feeder.specs.Filters.{Filters}
use Rattle.pcm_feeder.specs.Kept.{Kept}
use Rattle.pcm_group.specs.Groups.{all_in, change_in}
use Rattle.pcm_group.proofs.Members.{all_in-drop, get_or-change_in, length-change_in}
use Rattle.pcm_desk.specs.PlayBooks.{play_is_ready}
use Rattle.pcm_play.specs.declared.channel.PlayChannelOf.{PlayChannelOf}
use Rattle.pcm_play.proofs.Moving.{moves-nothing}
use Rattle.pcm_bus.specs.Slots.{play_books_of}
use Rattle.pcm_vchan.specs.Starts.{EachAt, Starts, is_in}
use Rattle.pcm_bus.proofs.Channels.{some_channel}

-- a channel that is no member
pub starts-none : {B : Type 0} (kind : B → Kind) (kept : B → Kept) (filters : Filters) (here : Here) (member : Bool) (channel : PlayChannelOf B) → member ≡ false → Starts kind kept filters here member channel channel
starts-none kind kept filters here true channel e = cc
starts-none kind kept filters here false channel e = record { device_same = refl; book = refl; moves = moves-nothing kind kept filters [] 0 channel }

-- whether all members from one slot on are ready, by that one and those after it
pub ready-step : {B : Type 0} (group : ℕ) (slots : List ℕ) (channels : List (PlayChannelOf B)) (slot : ℕ) (channel : PlayChannelOf B) → 0 < group → slot < length channels → channel ≡ get_or channels slot channel
    → all_in group play_is_ready (drop slot slots) (drop slot (play_books_of channels))
    ≡ ((not (is_in slots group slot) || play_is_ready channel.book) && all_in group play_is_ready (drop (slot + 1) slots) (drop (slot + 1) (play_books_of channels)))
ready-step {B = B} group slots channels slot channel some there is =
    let books : List PlayBook = play_books_of channels in
    let book : PlayBook = channel.book in
    all_in-drop group play_is_ready slots books slot book some (omega (arith, length-map channels (λ (c : PlayChannelOf B). c.book)))
    ∙ ap (λ (b : PlayBook). (not (is_in slots group slot) || play_is_ready b) && all_in group play_is_ready (drop (slot + 1) slots) (drop (slot + 1) books))
    (get_or-map (λ (c : PlayChannelOf B). c.book) channels slot channel book there ∙ ap (λ (c : PlayChannelOf B). c.book) (sym is))

-- past the last slot there is none
pub ready-end : (group n : ℕ) (slots : List ℕ) (books : List PlayBook) → length books ≤ n → all_in group play_is_ready (drop n slots) (drop n books) ≡ true
ready-end group n slots books past = ap (all_in group play_is_ready (drop n slots)) (drop_of_length-le books past) ∙ none (drop n slots)
  where
    none : (slots : List ℕ) → let nothing : List PlayBook = [] in all_in group play_is_ready slots nothing ≡ true
    none [] = refl
    none (its ∷ slots) = refl

-- ---- the books then

pub books-started : {C Book : Type 0} (book : C → Book) (starting : Book → Book) (group : ℕ) (slots : List ℕ) (old new : List C) → 0 < group → length new ≡ length old
    → EachAt (λ slot before after. book after ≡ cond (is_in slots group slot) (starting (book before)) (book before)) old new
    → map book new ≡ change_in group starting slots (map book old)
books-started {Book = Book} book starting group slots old new some same each =
    let books = map book old in
    same_lists (map book new) (change_in group starting slots books)
    (length-map new book ∙ same ∙ sym (length-change_in group starting slots books ∙ length-map old book))
    (λ k d within.
    let there : k < length new = omega (arith, length-map new book) in
    let before : k < length old = omega arith in
    let listed : k < length books = omega (arith, length-map old book) in
    let other = some_channel old k before in
    get_or-map book new k other d there ∙ each k other before
    ∙ ap (λ (b : Book). cond (is_in slots group k) (starting b) b) (sym (get_or-map book old k other d before))
    ∙ sym (get_or-change_in group starting slots books k d some listed))
