-- The areas of a story: their sizes, what a poke leaves, and what is taken next.
use Rattle.std.proofs.Common.{◌≡◌, ℕ, suc, zero, ◌+◌, ◌*◌, ◌%◌, ◌^◌, ◌≤◌, Bool, true, false, cond, eqb, List, [], ◌∷◌, ◌++◌, length, map, take, drop, get_or, Option, Some, Result, Ok, refl, sym, ap, ◌∙◌, subst, arith, length-append, length-take, length-drop}
use Rattle.std.specs.Prelude.{IsOk, nat_le, nat_lt, not, ◌&&◌, ◌||◌}
use Rattle.std.specs.List.{range_with_len}
use Rattle.std.proofs.lemmas.Bool.{eqb-true, not-false, or_parts}
use Rattle.std.proofs.lemmas.Bool.Decides.{nat_tests}
use Rattle.pcm_format.specs.Formats.{code_of}
use Rattle.pcm_format.specs.Layouts.{channels_of}
use Rattle.pcm_oss.specs.declared.event.Event.{Event}
use Rattle.pcm_oss.specs.declared.event.Event.TheVariants.{Open, Write, Poke, Read, Ioctl, Join, StartGroup, Close, Mixer, Intr}
use Rattle.pcm_oss.specs.declared.event.Way.TheVariants.{Map}
use Rattle.pcm_oss.specs.declared.reply.Answer.{Answer}
use Rattle.pcm_oss.specs.declared.reply.Answer.TheVariants.{Pointer}
use Rattle.pcm_oss.specs.declared.reply.Errno.{Errno}
use Rattle.pcm_oss.specs.declared.reply.Errno.TheVariants.{Inval}
use Rattle.pcm_oss.specs.declared.request.Request.TheVariants.{GetOPtr}
use Rattle.pcm_wave.specs.declared.pool.Pool.{Pool}
use Rattle.pcm_wave.specs.declared.pool.Source.TheVariants.{Inline}
use Rattle.pcm_wave.specs.Pools.{bytes_at, source_bytes}
use Rattle.pcm_desk.specs.declared.device.Held.{Held}
use Rattle.pcm_desk.specs.declared.map_book.MapBook.{MapBook}
use Rattle.pcm_desk.specs.declared.opening.Opening.{Opening}
use Rattle.pcm_desk.specs.declared.turn.Turn.{Turn}
use Rattle.pcm_desk.specs.BookTurns.{doing, refused}
use Rattle.pcm_desk.specs.Device.{DeviceSeen, map_slots}
use Rattle.pcm_desk.specs.RunStates.{is_unheld, is_running}
use Rattle.pcm_desk.specs.MapBooks.{taken_of}
use Rattle.pcm_desk.specs.MapRequests.{map_ask}
use Rattle.pcm_desk.specs.Openings.{ring_bytes}
use Rattle.pcm_desk.specs.Desk.{Desk, after, channel_turn, held_by, map_at, map_unopened}
use Rattle.pcm_desk.proofs.Refused.{poke-kept}
use Rattle.pcm_sound.specs.Areas.{area_after, holds_map, is_recut, poked, silences, silent_area, silent_byte, written_by}
use Rattle.pcm_sound.specs.MapRuns.{map_marking, map_stopped, mapped_run, area_taken}
use Rattle.pcm_sound.specs.Story.{Story, story_at_start, story_of, told, told_all}
use Rattle.pcm_sound.proofs.MapSlots.{length-area_bytes}
use Rattle.pcm_sound.proofs.Stories.{get_or-same, length-bytes_at}
use Rattle.pcm_desk.proofs.After.{channel-after, mapped_or}
use Rattle.pcm_desk.proofs.Channels.{channel_named}
use Rattle.pcm_desk.specs.Channels.{Channel}

-- ---- sizes

-- a poke leaves the size of an area
length-poked : (offset : ℕ) (bytes area : List ℕ) → length (poked offset bytes area) ≡ length area
length-poked offset bytes area = at (nat_le (offset + length bytes) (length area)) refl
  where
    at : (fits : Bool) → nat_le (offset + length bytes) (length area) ≡ fits → length (cond fits (take offset area ++ bytes ++ drop (offset + length bytes) area) area) ≡ length area
    at true e =
        let within : offset + length bytes ≤ length area = grind (arith, nat_tests) in
        let same : length (take offset area ++ bytes ++ drop (offset + length bytes) area) ≡ length area =
        omega (arith, within, length-append (take offset area ++ bytes) (drop (offset + length bytes) area), length-append (take offset area) bytes, length-append (take offset area) (bytes ++ drop (offset + length bytes) area), length-append bytes (drop (offset + length bytes) area), length-take offset area, length-drop (offset + length bytes) area) in
        same
    at false e = refl

length-written : (pool : Pool) (desk : Desk) (event : Event) (slot : ℕ) (area : List ℕ) → length (written_by pool desk event slot area) ≡ length area
length-written pool desk (Poke fd offset at count) slot area = either (holds_map (held_by desk fd) slot)
  where
    either : (b : Bool) → length (cond b (poked offset (bytes_at pool Inline at count) area) area) ≡ length area
    either true = length-poked offset (bytes_at pool Inline at count) area
    either false = refl
length-written pool desk (Open fd way settings) slot area = refl
length-written pool desk (Write fd source at count) slot area = refl
length-written pool desk (Read fd count) slot area = refl
length-written pool desk (Ioctl fd request) slot area = refl
length-written pool desk (Join fd group) slot area = refl
length-written pool desk (StartGroup fd group) slot area = refl
length-written pool desk (Close fd) slot area = refl
length-written pool desk (Mixer request) slot area = refl
length-written pool desk (Intr n) slot area = refl

-- an opening with the same format, channels and fragments has as many bytes as before
uncut : (old new : Opening) → is_recut old new ≡ false → ring_bytes old ≡ ring_bytes new
uncut old new e =
    let formats : Bool = not (eqb (code_of old.settings.format) (code_of new.settings.format)) in
    let layouts : Bool = not (eqb (channels_of old.settings.layout) (channels_of new.settings.layout)) in
    let counts : Bool = not (eqb old.fragments.count new.fragments.count) in
    let logs : Bool = not (eqb old.fragments.log new.fragments.log) in
    let last = or_parts (formats || layouts || counts) logs e in
    let third = or_parts (formats || layouts) counts last.0 in
    let count = eqb-true old.fragments.count new.fragments.count (not-false (eqb old.fragments.count new.fragments.count) third.1) in
    let log = eqb-true old.fragments.log new.fragments.log (not-false (eqb old.fragments.log new.fragments.log) last.1) in
    ap (λ (n : ℕ). n * 2 ^ old.fragments.log) count ∙ ap (λ (n : ℕ). new.fragments.count * 2 ^ n) log

-- an area has as many bytes as a ring of its book's fragments
sized : (pool : Pool) (desk : Desk) (event : Event) (slot : ℕ) (old new : MapBook) (area : List ℕ) → length area ≡ ring_bytes old.opening → length (area_after pool desk event slot old new area) ≡ ring_bytes new.opening
sized pool desk event slot old new area is = at (silences old new) refl
  where
    at : (b : Bool) → silences old new ≡ b → length (cond b (silent_area new.opening) (written_by pool desk event slot area)) ≡ ring_bytes new.opening
    at true e = length-area_bytes (silent_byte new.opening.settings.format) 0 (ring_bytes new.opening)
    at false e =
        length-written pool desk event slot area ∙ is
        ∙ uncut old.opening new.opening (or_parts (is_unheld old.state && not (is_unheld new.state)) (is_recut old.opening new.opening) e).1

sized_all : (device : DeviceSeen) (pool : Pool) (story : Story) (events : List Event) (slot : ℕ) → length (story.areas slot) ≡ ring_bytes (map_at device story.desk slot).opening
    → length ((told_all device pool story events).areas slot) ≡ ring_bytes (map_at device (told_all device pool story events).desk slot).opening
sized_all device pool story [] slot is = is
sized_all device pool story (event ∷ events) slot is =
    sized_all device pool (told device pool story event) events slot
    (sized pool story.desk event slot (map_at device story.desk slot) (map_at device (after device story.desk event).desk slot) (story.areas slot) is)

-- in every story
pub areas-sized : (device : DeviceSeen) (pool : Pool) (events : List Event) (slot : ℕ) → let story : Story = story_of device pool events in length (story.areas slot) ≡ ring_bytes (map_at device story.desk slot).opening
areas-sized device pool events slot =
    sized_all device pool (story_at_start device) events slot
    (subst (λ (b : MapBook). length (silent_area (map_unopened device).opening) ≡ ring_bytes b.opening) (sym (get_or-same (map_slots device) slot (map_unopened device)))
    (length-area_bytes (silent_byte (map_unopened device).opening.settings.format) 0 (ring_bytes (map_unopened device).opening)))

-- ---- a poke

-- it leaves the book of each slot
poked_book : (device : DeviceSeen) (desk : Desk) (fd offset at count slot : ℕ) → map_at device (after device desk (Poke fd offset at count)).desk slot ≡ map_at device desk slot
poked_book device desk fd offset at count slot =
    let old : MapBook = map_at device desk slot in
    channel-after device desk (Poke fd offset at count) (channel_named Map slot) (λ (c : Channel). mapped_or old c ≡ old) refl (poke-kept offset count old) (λ k way settings is same free. cc) (λ k group is member. cc)

-- and all that was taken
pub poke-takes-nothing : (device : DeviceSeen) (pool : Pool) (story : Story) (fd offset at count slot : ℕ) → (told device pool story (Poke fd offset at count)).map_runs slot ≡ story.map_runs slot
poke-takes-nothing device pool story fd offset at count slot =
    let old : MapBook = map_at device story.desk slot in
    ap (λ (new : MapBook). map_marking story.desk.mixed old new (story.map_runs slot)) (poked_book device story.desk fd offset at count slot) ∙ unmarked (is_running old.state)
  where
    unmarked : (b : Bool) → cond (not b && b) (mapped_run story.desk.mixed (map_at device story.desk slot) ∷ story.map_runs slot) (cond (b && not b) (map_stopped story.desk.mixed (story.map_runs slot)) (story.map_runs slot)) ≡ story.map_runs slot
    unmarked true = refl
    unmarked false = refl

-- ---- what is taken next

-- the first of the bytes that are taken next stands at the pointer that is answered
pub next-at-pointer : (device : DeviceSeen) (n : ℕ) (book : MapBook) (area rest : List ℕ) (first bytes blocks ptr : ℕ) → length area ≡ ring_bytes book.opening → area_taken device n book area ≡ first ∷ rest
    → (map_ask GetOPtr book).reply ≡ Ok (Pointer bytes blocks ptr) → first ≡ get_or area ptr 0
next-at-pointer device n book area rest first bytes blocks ptr size taken told =
    sym (head_is _ taken) ∙ ap (λ (m : ℕ). get_or area (taken_of book % m) 0) size ∙ ap (λ (place : ℕ). get_or area place 0) (place_is _ told)
  where
    byte : ℕ → ℕ
    byte place = get_or area (place % length area) 0

    head_is : (count : ℕ) → map byte (range_with_len (taken_of book) count) ≡ first ∷ rest → byte (taken_of book) ≡ first
    head_is zero e = cc
    head_is (suc count) e = cc

    place_of : Result Answer Errno → ℕ
    place_of (Ok (Pointer b k place)) = place
    place_of other = 0

    place_is : (reply : Result Answer Errno) → reply ≡ Ok (Pointer bytes blocks ptr) → place_of reply ≡ ptr
    place_is reply e = ap place_of e

-- an accepted poke writes its bytes where it says
same_eqb : (n : ℕ) → eqb n n ≡ true
same_eqb n = grind (arith, nat_tests)

-- a book that stays doesn't silence its area
pub area-kept : (book : MapBook) → silences book book ≡ false
area-kept book =
    rw (same_eqb (code_of book.opening.settings.format), same_eqb (channels_of book.opening.settings.layout), same_eqb book.opening.fragments.count, same_eqb book.opening.fragments.log)
    (never (is_unheld book.state))
  where
    never : (b : Bool) → ((b && not b) || (not true || not true || not true || not true)) ≡ false
    never true = refl
    never false = refl

within_of : (past : Bool) (offset count : ℕ) (book : MapBook) → nat_lt (ring_bytes book.opening) (offset + count) ≡ past → IsOk (cond {A = Turn MapBook} past (refused Inval book) (doing book)).reply → offset + count ≤ ring_bytes book.opening
within_of true offset count book e ok = cc
within_of false offset count book e ok = grind (arith, nat_tests)

pub poke-writes : (device : DeviceSeen) (pool : Pool) (events : List Event) (fd offset at count slot : ℕ)
    → let story : Story = story_of device pool events in let area : List ℕ = story.areas slot in
    held_by story.desk fd ≡ Some (record { way = Map; slot = slot }) → at + count ≤ length (source_bytes pool Inline) → IsOk (after device story.desk (Poke fd offset at count)).reply
    → (told device pool story (Poke fd offset at count)).areas slot ≡ take offset area ++ bytes_at pool Inline at count ++ drop (offset + count) area
poke-writes device pool events fd offset at count slot held has ok =
    ap (λ (new : MapBook). area_after pool story.desk (Poke fd offset at count) slot old new area) (poked_book device story.desk fd offset at count slot)
    ∙ ap (λ (b : Bool). cond b (silent_area old.opening) (written_by pool story.desk (Poke fd offset at count) slot area)) (area-kept old)
    ∙ ap (λ (h : Option Held). cond (holds_map h slot) (poked offset bytes area) area) held
    ∙ ap (λ (b : Bool). cond b (poked offset bytes area) area) (same_eqb slot)
    ∙ ap (λ (b : Bool). cond b (take offset area ++ bytes ++ drop (offset + length bytes) area) area) fits
    ∙ ap (λ (n : ℕ). take offset area ++ bytes ++ drop (offset + n) area) long
  where
    story : Story
    story = story_of device pool events

    old : MapBook
    old = map_at device story.desk slot

    area : List ℕ
    area = story.areas slot

    bytes : List ℕ
    bytes = bytes_at pool Inline at count

    long : length bytes ≡ count
    long = length-bytes_at pool Inline at count has

    accepted : offset + count ≤ ring_bytes old.opening
    accepted = within_of (nat_lt (ring_bytes old.opening) (offset + count)) offset count old refl (subst (λ (h : Option Held). IsOk (channel_turn device story.desk (Poke fd offset at count) h).reply) held ok)

    fits : nat_le (offset + length bytes) (length area) ≡ true
    fits = let size = areas-sized device pool events slot in let n = long in let within = accepted in grind (arith, nat_tests)
