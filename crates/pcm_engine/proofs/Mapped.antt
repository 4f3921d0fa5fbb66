-- The bytes that a mapped slot's book has taken of its area, and what stands there, through every event.
use Rattle.std.proofs.Common.{◌≡◌, ℕ, zero, suc, ◌-◌, ◌*◌, ◌<◌, Bool, true, false, cond, eqb, List, [], ◌∷◌, ◌++◌, length, take, get_or, set, Option, Some, inl, inr, refl, sym, ap, ◌∙◌, subst, arith, get_or-set_same, get_or-set_other}
use Rattle.std.specs.Prelude.{All, nat_lt, not, ◌&&◌, ◌||◌}
use Rattle.std.proofs.lemmas.Bool.{cases_eq, or_parts}
use Rattle.std.proofs.lemmas.Bool.Decides.{nat_tests}
use Rattle.std.proofs.lemmas.List.{append-nil, get_or-map, get_or_default, take-take, take_all}
use Rattle.pcm_engine.specs.Types.{Device, Event, Filters, Held, Kept, Kind, MapBook, Pool, Rate, RunState, Settings}
use Rattle.pcm_format.specs.Frames.{frame_bytes}
use Rattle.pcm_rate.specs.Rates.{need}
use Rattle.pcm_oss.specs.declared.event.Event.TheVariants.{Poke, Intr}
use Rattle.pcm_oss.specs.declared.event.Way.TheVariants.{Map}
use Rattle.pcm_desk.specs.declared.run_state.RunState.TheVariants.{Free, Setup, Running}
use Rattle.pcm_desk.specs.Device.{DeviceSeen, device_filters, seen}
use Rattle.pcm_desk.specs.RunStates.{is_unheld, is_running}
use Rattle.pcm_desk.specs.MapBooks.{map_closed, map_refilled_in, taken_of}
use Rattle.pcm_desk.specs.MapSafe.{MapIsSafe}
use Rattle.pcm_desk.specs.Channels.{map_mixing, map_rate_at, mixed_by}
use Rattle.pcm_desk.specs.Desk.{Desk, map_at, map_unopened}
use Rattle.pcm_desk.specs.Events.{Fits, frames_taken}
use Rattle.pcm_desk.proofs.Slots.{map_at-passing}
use Rattle.pcm_sound.specs.Areas.{area_after, area_bytes, holds_map, is_recut, poked, silences, silent_area, written_by}
use Rattle.pcm_sound.specs.MapRuns.{map_marking, map_playing, map_stopped, mapped_run, area_taken}
use Rattle.pcm_sound.specs.Runs.{Run, newest_bytes}
use Rattle.pcm_sound.specs.Story.{Story, told}
use Rattle.pcm_sound.specs.Valid.{MapIsValid, StoryIsValid}
use Rattle.pcm_sound.proofs.AreaLaws.{area-kept}
use Rattle.pcm_sound.proofs.MapSlots.{Keeps, map_playing-idle, map_playing-on, none-mixed, unstarted-none}
use Rattle.pcm_sound.proofs.MapStories.{keeps-maps, map_marking-same, map_mixing-runs}
use Rattle.pcm_map.specs.declared.channel.MapChannelOf.{MapChannelOf}
use Rattle.pcm_map.specs.Channels.{IsMapReady, MapMoves, MapStands, RecutsArea, area_of}
use Rattle.pcm_bus.specs.Slots.{MapPlays, map_books_of}
use Rattle.pcm_vchan.specs.Slots.{MapKeeps}
use Rattle.pcm_vchan.specs.Starts.{EachAt}
use Rattle.pcm_vchan.specs.Parents.{untouched}
use Rattle.pcm_vchan.proofs.Channels.{map-keeps-nothing, map-ready-moved}
use Rattle.pcm_engine.specs.Stands.{MapSlotStands, map_bytes_counted}
use Rattle.pcm_engine.specs.Brought.{bytes_brought}
use Rattle.pcm_engine.specs.Steps.{MapsMove, area_written}

-- ---- what is taken

-- a book that isn't running has taken nothing
untaken : (rate : Rate) (book : MapBook) → is_running book.state ≡ false → MapIsSafe rate book → taken_of book ≡ 0
untaken rate book off s =
    let none : book.eaten ≡ 0 = s.taken ∙ ap (need rate) (unstarted-none book.state book off s.order) in
    omega (arith, ap (λ (eaten : ℕ). eaten * frame_bytes book.opening.settings) none)

-- no bytes of either
none_of : (n : ℕ) (one other : List ℕ) → n ≡ 0 → take n one ≡ take n other
none_of n one other e = ap (λ k. take k one) e ∙ sym (ap (λ k. take k other) e)

-- where no more was taken
no_more : (taken : ℕ) (bytes : List ℕ) → take taken bytes ≡ take taken (take taken bytes ++ [])
no_more taken bytes = sym (ap (take taken) (append-nil (take taken bytes)) ∙ take-take taken taken bytes (omega arith))

-- the runs of a slot after an event, by whether its book ran and runs
abbrev marked_by : Bool → Bool → ℕ → MapBook → List Run → List Run
marked_by was is mixed new runs = cond (not was && is) (mapped_run mixed new ∷ runs) (cond (was && not is) (map_stopped mixed runs) runs)

taken_marked : (was is : Bool) (device : DeviceSeen) (mixed : ℕ) (old new : MapBook) (runs : List Run) → is_running old.state ≡ was → is_running new.state ≡ is → Keeps device old new → MapIsValid device mixed old runs
    → take (taken_of new) (newest_bytes (marked_by was is mixed new runs)) ≡ take (taken_of new) (take (taken_of old) (newest_bytes runs) ++ [])
taken_marked true true device mixed old new runs was is k v =
    let g = k.goes v.safe was is in
    let same : taken_of old ≡ taken_of new =
    ap (λ (eaten : ℕ). eaten * frame_bytes old.opening.settings) (sym g.eaten) ∙ ap (λ (settings : Settings). new.eaten * frame_bytes settings) (sym g.settings) in
    no_more (taken_of new) (newest_bytes runs) ∙ ap (λ n. take (taken_of new) (take n (newest_bytes runs) ++ [])) (sym same)
taken_marked false true device mixed old new runs was is k v =
    let none : new.eaten ≡ 0 = (k.safe v.safe).taken ∙ ap (need (map_rate_at device new)) (k.fresh v.safe was is) in
    none_of (taken_of new) [] (take (taken_of old) (newest_bytes runs) ++ []) (omega (arith, ap (λ (eaten : ℕ). eaten * frame_bytes new.opening.settings) none))
taken_marked was false device mixed old new runs e is k v =
    none_of (taken_of new) (newest_bytes (marked_by was false mixed new runs)) (take (taken_of old) (newest_bytes runs) ++ []) (untaken (map_rate_at device new) new is (k.safe v.safe))

-- of a slot that doesn't run
idle_taken : (device : DeviceSeen) (mixed n : ℕ) (book : MapBook) (area : List ℕ) (runs : List Run) → is_running book.state && nat_lt 0 n ≡ false
    → take (taken_of book) (newest_bytes (map_playing device mixed n book area runs)) ≡ take (taken_of book) (take (taken_of book) (newest_bytes runs) ++ area_bytes area (taken_of book) (taken_of book - taken_of book))
idle_taken device mixed n book area runs off =
    ap (λ all. take (taken_of book) (newest_bytes all)) (map_playing-idle device mixed n book area runs off)
    ∙ no_more (taken_of book) (newest_bytes runs)
    ∙ ap (λ more. take (taken_of book) (take (taken_of book) (newest_bytes runs) ++ more)) (sym (let none : taken_of book - taken_of book ≡ 0 = omega arith in ap (area_bytes area (taken_of book)) none))

taken_in : (state : RunState) (device : DeviceSeen) (mixed n : ℕ) (book : MapBook) (area : List ℕ) (runs : List Run) → MapIsValid device mixed (record book { state = state }) runs
    → let old : MapBook = record book { state = state } in let new : MapBook = map_refilled_in (map_rate_at device book) state (suc n) old in
    take (taken_of new) (newest_bytes (map_playing device mixed (suc n) old area runs)) ≡ take (taken_of new) (take (taken_of old) (newest_bytes runs) ++ area_bytes area (taken_of old) (taken_of new - taken_of old))
taken_in Free device mixed n book area runs v = idle_taken device mixed (suc n) (record book { state = Free }) area runs refl
taken_in Setup device mixed n book area runs v = idle_taken device mixed (suc n) (record book { state = Setup }) area runs refl
taken_in Running device mixed n book area [] v = absurd (v.newest refl)
taken_in Running device mixed n book area (run ∷ runs) v =
    let old : MapBook = record book { state = Running } in
    let new : MapBook = map_refilled_in (map_rate_at device book) Running (suc n) old in
    let more : List ℕ = area_taken device (suc n) old area in
    let size = (v.newest refl).1 in
    ap (λ all. take (taken_of new) (newest_bytes all)) (map_playing-on device mixed (suc n) old area run runs (grind (arith, nat_tests)))
    ∙ ap (λ front. take (taken_of new) (front ++ more)) (sym (take_all (taken_of old) run.bytes (omega arith)))

-- after an interrupt
taken-played : (device : DeviceSeen) (mixed n : ℕ) (book : MapBook) (area : List ℕ) (runs : List Run) → MapIsValid device mixed book runs
    → take (taken_of (map_mixing device n book)) (newest_bytes (map_playing device mixed n book area runs)) ≡ take (taken_of (map_mixing device n book)) (take (taken_of book) (newest_bytes runs) ++ area_taken device n book area)
taken-played device mixed zero book area runs v = idle_taken device mixed zero book area runs (none-mixed (is_running book.state))
taken-played device mixed (suc n) book area runs v = taken_in book.state device mixed n book area runs v

-- ---- what stands in the area

-- an interrupt leaves it
mixing_area : (device : DeviceSeen) (n : ℕ) (book : MapBook) → silences book (map_mixing device n book) ≡ false
mixing_area device zero book = area-kept book
mixing_area device (suc n) book = at book.state
  where
    at : (state : RunState) → silences (record book { state = state }) (map_refilled_in (map_rate_at device book) state (suc n) (record book { state = state })) ≡ false
    at Running = area-kept (record book { state = Running })
    at state = area-kept (record book { state = state })

-- ---- a mapped channel stands for its slot

-- the book of a slot is that of its channel
pub map_at-books : {B : Type 0} (device : DeviceSeen) (desk : Desk) (maps : List (MapChannelOf B)) (slot : ℕ) (other : MapChannelOf B) → desk.mapped ≡ map_books_of maps → slot < length maps → map_at device desk slot ≡ (get_or maps slot other).book
map_at-books {B = B} device desk maps slot other mapped there =
    ap (λ (books : List MapBook). get_or books slot (map_unopened device)) mapped ∙ get_or-map (λ (c : MapChannelOf B). c.book) maps slot other (map_unopened device) there

-- what an event leaves of a channel stands for its slot of the story after that event
abbrev Told : {B : Type 0} → (B → Kept) → DeviceSeen → Pool → Story → Event → ℕ → MapChannelOf B → MapChannelOf B → Type 0
Told kept device pool story event slot old new =
    map_at device story.desk slot ≡ old.book → map_at device (told device pool story event).desk slot ≡ new.book
    → MapSlotStands kept device story slot old → MapSlotStands kept device (told device pool story event) slot new

-- whatever the event, once the bytes and the area are known
stands_from : {B : Type 0} (kept : B → Kept) (device : DeviceSeen) (pool : Pool) (story : Story) (event : Event) (slot : ℕ) (new : MapChannelOf B) (more : List ℕ)
    → map_at device (told device pool story event).desk slot ≡ new.book
    → MapStands kept (device_filters device) new new.book (take (taken_of new.book) (map_bytes_counted device story slot ++ more))
    → map_bytes_counted device (told device pool story event) slot ≡ take (taken_of (map_at device (told device pool story event).desk slot)) (map_bytes_counted device story slot ++ more)
    → area_of new ≡ (told device pool story event).areas slot → MapSlotStands kept device (told device pool story event) slot new
stands_from kept device pool story event slot new more is stands bytes area = record {
  stands = subst (MapStands kept (device_filters device) new (map_at device (told device pool story event).desk slot)) (sym bytes)
      (subst (λ (b : MapBook). MapStands kept (device_filters device) new b (take (taken_of b) (map_bytes_counted device story slot ++ more))) (sym is) stands);
  area = area;
}

-- an event that mixes nothing
stands_kept : {B : Type 0} (kind : B → Kind) (kept : B → Kept) (device : DeviceSeen) (pool : Pool) (story : Story) (event : Event) (slot : ℕ) (old new : MapChannelOf B) → Fits device pool event → frames_taken event ≡ 0 → StoryIsValid device story
    → (told device pool story event).map_runs slot ≡ map_marking story.desk.mixed (map_at device story.desk slot) (map_at device (told device pool story event).desk slot) (story.map_runs slot)
    → MapKeeps kind kept (device_filters device) (written_by pool story.desk event slot) old new → Told kept device pool story event slot old new
stands_kept kind kept device pool story event slot old new fits none v runs moves = λ was is stood.
    let before : MapBook = map_at device story.desk slot in
    let now : MapBook = map_at device (told device pool story event).desk slot in
    let bytes : List ℕ = map_bytes_counted device story slot in
    stands_from kept device pool story event slot new [] is
    (moves.moves.stands bytes (subst (λ (b : MapBook). MapStands kept (device_filters device) old b bytes) was stood.stands))
    (ap (λ (all : List Run). take (taken_of now) (newest_bytes all)) runs ∙ taken_marked (is_running before.state) (is_running now.state) device story.desk.mixed before now (story.map_runs slot) refl refl (keeps-maps device pool story.desk event fits none slot) (v.maps slot))
    (moves.area
    ∙ ap (λ (b : MapBook). cond (silences b new.book) (silent_area new.book.opening) (written_by pool story.desk event slot (area_of old))) (sym was)
    ∙ ap (λ (b : MapBook). cond (silences before b) (silent_area b.opening) (written_by pool story.desk event slot (area_of old))) (sym is)
    ∙ ap (λ (area : List ℕ). area_after pool story.desk event slot before now area) stood.area)

-- and an interrupt
stands_played : {B : Type 0} (kind : B → Kind) (kept : B → Kept) (plain : Device) (filters : Filters) (pool : Pool) (story : Story) (n slot : ℕ) (old new : MapChannelOf B) → StoryIsValid (seen filters plain) story → old.path.device ≡ plain
    → MapPlays kind kept filters plain (mixed_by (seen filters plain) story.desk.handed n) old new → Told kept (seen filters plain) pool story (Intr n) slot old new
stands_played kind kept plain filters pool story n slot old new v own plays = λ was is stood.
    let device : DeviceSeen = seen filters plain in
    let q : ℕ = mixed_by device story.desk.handed n in
    let before : MapBook = map_at device story.desk slot in
    let now : MapBook = map_at device (told device pool story (Intr n)).desk slot in
    let passed : now ≡ map_mixing device q before = map_at-passing device story.desk n slot in
    let bytes : List ℕ = map_bytes_counted device story slot in
    let runs : List Run = map_playing device story.desk.mixed q before (story.areas slot) (story.map_runs slot) in
    let more : List ℕ = area_taken device q before (story.areas slot) in
    let taken : area_taken (seen filters old.path.device) q old.book (area_of old) ≡ more =
    ap (λ (d : Device). area_taken (seen filters d) q old.book (area_of old)) own
    ∙ ap (λ (b : MapBook). area_taken device q b (area_of old)) (sym was)
    ∙ ap (area_taken device q before) stood.area in
    stands_from kept device pool story (Intr n) slot new more is
    (subst (λ (all : List ℕ). MapStands kept filters new new.book (take (taken_of new.book) (bytes ++ all))) taken
    (plays.moves.stands bytes (subst (λ (b : MapBook). MapStands kept filters old b bytes) was stood.stands)))
    (ap (λ (all : List Run). take (taken_of now) (newest_bytes all)) (map_marking-same story.desk.mixed before now runs (ap (λ (b : MapBook). is_running b.state) passed ∙ map_mixing-runs device q before))
    ∙ ap (λ (b : MapBook). take (taken_of b) (newest_bytes runs)) passed
    ∙ taken-played device story.desk.mixed q before (story.areas slot) (story.map_runs slot) (v.maps slot)
    ∙ ap (λ (b : MapBook). take (taken_of b) (bytes ++ more)) (sym passed))
    (plays.area ∙ stood.area
    ∙ sym (ap (λ (b : MapBook). area_after pool story.desk (Intr n) slot before b (story.areas slot)) passed
    ∙ ap (λ (b : Bool). cond b (silent_area (map_mixing device q before).opening) (story.areas slot)) (mixing_area device q before)))

-- each event
pub map-told : {B : Type 0} (kind : B → Kind) (kept : B → Kept) (plain : Device) (filters : Filters) (pool : Pool) (story : Story) (event : Event) (before now : List (MapChannelOf B)) (slot : ℕ) (other : MapChannelOf B)
    → Fits (seen filters plain) pool event → StoryIsValid (seen filters plain) story → (get_or before slot other).path.device ≡ plain → slot < length before
    → MapsMove kind kept filters plain (bytes_brought pool event) story.desk event before now → Told kept (seen filters plain) pool story event slot (get_or before slot other) (get_or now slot other)
map-told kind kept plain filters pool story (Intr n) before now slot other fits v own there moves =
    stands_played kind kept plain filters pool story n slot (get_or before slot other) (get_or now slot other) v own (moves slot other there)
map-told kind kept plain filters pool story event before now slot other fits v own there moves =
    stands_kept kind kept (seen filters plain) pool story event slot (get_or before slot other) (get_or now slot other) fits refl v refl (moves slot other there)

-- ---- what a call leaves of mapped channels

-- one of an opening that is asked something
pub keeps-asked : {B : Type 0} (kind : B → Kind) (kept : B → Kept) (filters : Filters) (slot : ℕ) (old new : MapChannelOf B) → is_unheld old.book.state ≡ false → RecutsArea old new → MapMoves kind kept filters [] 0 old new
    → MapKeeps kind kept filters (untouched slot) old new
keeps-asked kind kept filters slot old new held recuts moves = record {
  moves = moves;
  area = recuts ∙ sym (ap (λ (b : Bool). cond (b && not (is_unheld new.book.state) || is_recut old.book.opening new.book.opening) (silent_area new.book.opening) (area_of old)) held);
}

-- one that is closed
closed_area : (book : MapBook) → silences book (map_closed book) ≡ false
closed_area book =
    let same = (or_parts (is_unheld book.state && not (is_unheld book.state)) (is_recut book.opening book.opening) (area-kept book)).1 in
    ap (λ (b : Bool). is_unheld book.state && false || b) same ∙ never (is_unheld book.state)
  where
    never : (b : Bool) → b && false || false ≡ false
    never true = refl
    never false = refl

pub keeps-closed : {B : Type 0} (kind : B → Kind) (kept : B → Kept) (filters : Filters) (slot : ℕ) (old new : MapChannelOf B) → new.book ≡ map_closed old.book → area_of new ≡ area_of old → MapMoves kind kept filters [] 0 old new
    → MapKeeps kind kept filters (untouched slot) old new
keeps-closed kind kept filters slot old new closed same moves = record {
  moves = moves;
  area = same
      ∙ sym (ap (λ (b : MapBook). cond (silences old.book b) (silent_area b.opening) (area_of old)) closed
      ∙ ap (λ (b : Bool). cond b (silent_area (map_closed old.book).opening) (area_of old)) (closed_area old.book));
}

-- one into whose area something is written
keeps_poked : {B : Type 0} (kind : B → Kind) (kept : B → Kept) (filters : Filters) (writes : List ℕ → List ℕ) (old new : MapChannelOf B) → new.book ≡ old.book → area_of new ≡ writes (area_of old) → MapMoves kind kept filters [] 0 old new
    → MapKeeps kind kept filters writes old new
keeps_poked kind kept filters writes old new same written moves = record {
  moves = moves;
  area = written
      ∙ sym (ap (λ (b : MapBook). cond (silences old.book b) (silent_area b.opening) (writes (area_of old))) same
      ∙ ap (λ (b : Bool). cond b (silent_area old.book.opening) (writes (area_of old))) (area-kept old.book));
}

-- a poke writes so into the area of each slot
abbrev pub poked_in : Option Held → ℕ → List ℕ → ℕ → List ℕ → List ℕ
poked_in found offset bytes slot area = cond (holds_map found slot) (poked offset bytes area) area

-- where a descriptor holds a mapped channel, it is written into that one
pub each-poked : {B : Type 0} (kind : B → Kind) (kept : B → Kept) (filters : Filters) (found : Option Held) (offset : ℕ) (bytes : List ℕ) (maps : List (MapChannelOf B)) (at : ℕ) (old new : MapChannelOf B) → found ≡ Some (record { way = Map; slot = at })
    → at < length maps → old ≡ get_or maps at old → new.book ≡ old.book → area_of new ≡ poked offset bytes (area_of old) → MapMoves kind kept filters [] 0 old new
    → EachAt (λ slot. MapKeeps kind kept filters (poked_in found offset bytes slot)) maps (set maps at new)
each-poked {B} kind kept filters found offset bytes maps at old new held there is same written moves = λ slot other within.
    let How : Bool → MapChannelOf B → MapChannelOf B → Type 0 = λ b. MapKeeps kind kept filters (λ area. cond b (poked offset bytes area) area) in
    subst (λ (h : Option Held). MapKeeps kind kept filters (poked_in h offset bytes slot) (get_or maps slot other) (get_or (set maps at new) slot other)) (sym held)
    (elim (cases_eq slot at) [
      | inl here ↦ (let own : eqb at slot ≡ true = grind (arith, nat_tests) in
          subst (λ (b : Bool). How b (get_or maps slot other) (get_or (set maps at new) slot other)) (sym own)
          (subst (λ (k : ℕ). How true (get_or maps k other) (get_or (set maps at new) k other)) (sym here)
          (subst (How true (get_or maps at other)) (sym (get_or-set_same maps at new other there))
          (subst (λ (c : MapChannelOf B). How true c new) (is ∙ get_or_default maps at old other there) (keeps_poked kind kept filters (poked offset bytes) old new same written moves)))))
      | inr differ ↦ (let others : eqb at slot ≡ false = grind (arith, nat_tests) in
          subst (λ (b : Bool). How b (get_or maps slot other) (get_or (set maps at new) slot other)) (sym others)
          (subst (How false (get_or maps slot other)) (sym (get_or-set_other maps at slot new other differ)) (map-keeps-nothing kind kept filters (get_or maps slot other))))
    ])

-- and where it holds none, into none
pub each-unpoked : {B : Type 0} (kind : B → Kind) (kept : B → Kept) (filters : Filters) (found : Option Held) (offset : ℕ) (bytes : List ℕ) (maps : List (MapChannelOf B)) → ((slot : ℕ) → holds_map found slot ≡ false)
    → EachAt (λ slot. MapKeeps kind kept filters (poked_in found offset bytes slot)) maps maps
each-unpoked kind kept filters found offset bytes maps none = λ slot other within.
    subst (λ (b : Bool). MapKeeps kind kept filters (λ area. cond b (poked offset bytes area) area) (get_or maps slot other) (get_or maps slot other)) (sym (none slot)) (map-keeps-nothing kind kept filters (get_or maps slot other))

-- ---- channels that were ready are ready after an event

pub maps-ready : {B : Type 0} (kind : B → Kind) (kept : B → Kept) (plain : Device) (filters : Filters) (bytes : List ℕ) (desk : Desk) (event : Event) (before now : List (MapChannelOf B)) → length now ≡ length before
    → MapsMove kind kept filters plain bytes desk event before now → All (IsMapReady kind kept filters) before → All (IsMapReady kind kept filters) now
maps-ready {B = B} kind kept plain filters bytes desk event before now same moves ready = at event moves
  where
    still : (writes : ℕ → List ℕ → List ℕ) → EachAt (λ slot. MapKeeps kind kept filters (writes slot)) before now → All (IsMapReady kind kept filters) now
    still writes each = λ slot other within. map-ready-moved kind kept filters [] 0 (get_or before slot other) (get_or now slot other) (each slot other (omega arith)).moves (ready slot other (omega arith))

    at : (e : Event) → MapsMove kind kept filters plain bytes desk e before now → All (IsMapReady kind kept filters) now
    at (Poke fd offset place count) each = still (area_written bytes desk (Poke fd offset place count)) each
    at (Intr n) each = λ slot other within.
        map-ready-moved kind kept filters _ _ (get_or before slot other) (get_or now slot other) (each slot other (omega arith)).moves (ready slot other (omega arith))
    at event each = still untouched each
