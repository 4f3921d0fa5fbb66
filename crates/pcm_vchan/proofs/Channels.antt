-- The channels of a device, one of them changed or all refilled.
use Rattle.std.proofs.Common.{◌≡◌, ℕ, ◌*◌, ◌+◌, ◌<◌, ◌≤◌, Bool, true, false, cond, List, [], ◌++◌, length, map, set, get_or, take, All, refl, sym, ap, ◌∙◌, subst, inl, inr, arith, get_or-set_same, get_or-set_other}
use Rattle.std.specs.Prelude.{not, ◌&&◌, ◌||◌}
use Rattle.std.proofs.Props.{props}
use mathlib.Core.HLevel.{is_prop→PathP}
use Rattle.pcm_sequence.specs.declared.fixed.Fixed.{Fixed}
use Rattle.pcm_sequence.specs.Fixed.{fixed_items, fixed_len}
use Rattle.pcm_sequence.proofs.Items.{items-count}
use Rattle.pcm_format.specs.Formats.{code_of}
use Rattle.pcm_format.specs.Frames.{Frame, frame_bytes}
use Rattle.pcm_format.specs.Layouts.{channels_of}
use Rattle.pcm_format.specs.declared.settings.Settings.{Settings}
use Rattle.pcm_feeder.specs.declared.kind.Kind.{Kind}
use Rattle.pcm_desk.specs.declared.device.Device.{Device}
use Rattle.pcm_desk.specs.declared.here.Here.{Here}
use Rattle.pcm_desk.specs.declared.map_book.MapBook.{MapBook}
use Rattle.pcm_desk.specs.declared.opening.Opening.{Opening}
use Rattle.pcm_desk.specs.declared.play_book.PlayBook.{PlayBook}
use Rattle.pcm_desk.specs.declared.record_book.RecordBook.{RecordBook}
use Rattle.pcm_feeder.specs.Filters.{Filters}
use Rattle.pcm_feeder.specs.Kept.{Kept}
use Rattle.pcm_desk.specs.declared.limits.TheConstants.{RING_FRAMES}
use Rattle.pcm_oss.specs.declared.event.TheConstants.{SLOTS}
use Rattle.std.proofs.lemmas.List.{append-nil, get_or-map, map-set, length-map, length-set, get_or_default, same_lists, take-take}
use Rattle.std.proofs.lemmas.Bool.{cases_eq, eq-eqb}
use Rattle.pcm_desk.specs.Device.{DeviceSeen, HasRates, mixed_for, mixed_slots, passed_for, seen, unfiltered}
use Rattle.pcm_desk.specs.RunStates.{is_unheld}
use Rattle.pcm_desk.specs.MapBooks.{map_begun}
use Rattle.pcm_desk.specs.Channels.{capturing, map_passing, mixed_by, play_passing}
use Rattle.pcm_play.specs.declared.channel.PlayChannelOf.{PlayChannelOf}
use Rattle.pcm_bus.proofs.Channels.{some_channel}
use Rattle.pcm_vchan.specs.declared.parent.ParentOf.{ParentOf}
use Rattle.pcm_record.specs.declared.channel.RecordChannelOf.{RecordChannelOf}
use Rattle.pcm_record.specs.Channels.{IsRecordReady, RecordMoves}
use Rattle.pcm_map.specs.declared.channel.MapChannelOf.{MapChannelOf}
use Rattle.pcm_map.specs.Channels.{IsMapReady, MapBegins, MapMoves, area_of}
use Rattle.pcm_map.proofs.Moving.{moves-nothing}
use Rattle.pcm_sound.specs.Areas.{is_recut, silences, silent_area}
use Rattle.pcm_bus.specs.Slots.{AreLeft, Each, IsPlayDue, PlayMixes, map_books_of, play_books_of}
use Rattle.pcm_vchan.specs.Slots.{ChannelMoves, MapKeeps, Passes, record_books_of}
use Rattle.pcm_play.specs.Channels.{IsPlayReady, MayEndRun, PlayLeaves, PlayMoves, PlayStands, SettlesBook}

-- the books once one channel changed, whose book changed by `how`
books-set : {C Book : Type 0} (book : C → Book) (how : Book → Book) (channels : List C) (slot : ℕ) (old new : C) (other : Book) → slot < length channels → old ≡ get_or channels slot old → book new ≡ how (book old)
    → map book (set channels slot new) ≡ set (map book channels) slot (how (get_or (map book channels) slot other))
books-set book how channels slot old new other there is changed =
    map-set book channels slot new ∙ ap (set (map book channels) slot) (changed ∙ ap how (ap book is ∙ sym (get_or-map book channels slot old other there)))

pub play_books_of-set : {B : Type 0} (how : PlayBook → PlayBook) (channels : List (PlayChannelOf B)) (slot : ℕ) (old new : PlayChannelOf B) (other : PlayBook) → slot < length channels → old ≡ get_or channels slot old → new.book ≡ how old.book
    → play_books_of (set channels slot new) ≡ set (play_books_of channels) slot (how (get_or (play_books_of channels) slot other))
play_books_of-set {B = B} = books-set (λ (channel : PlayChannelOf B). channel.book)

-- what holds of each channel once one of them changed
pub each_set : {X : Type 0} (how : X → X → Type 0) (channels : List X) (at : ℕ) (old new : X) → at < length channels → old ≡ get_or channels at old → how old new
    → ((channel : X) → how channel channel) → Each how channels (set channels at new)
each_set {X = X} how channels at old new there is changed stays = λ slot other within.
    elim (cases_eq slot at) [
      | inl same ↦ subst (λ (k : ℕ). how (get_or channels k other) (get_or (set channels at new) k other)) (sym same)
          (subst (how (get_or channels at other)) (sym (get_or-set_same channels at new other there))
          (subst (λ (c : X). how c new) (is ∙ get_or_default channels at old other there) changed))
      | inr differ ↦ subst (how (get_or channels slot other)) (sym (get_or-set_other channels at slot new other differ)) (stays (get_or channels slot other))
    ]

-- each channel is of one device still, once one of them changed
pub own_set : {X : Type 0} (own : X → Device) (device : Device) (channels : List X) (at : ℕ) (old new : X) → at < length channels → old ≡ get_or channels at old → own new ≡ own old
    → All (λ (channel : X). own channel ≡ device) channels → All (λ (channel : X). own channel ≡ device) (set channels at new)
own_set {X = X} own device channels at old new there is same all = λ slot other within.
    let before : slot < length channels = omega (arith, length-set channels at new) in
    let How : X → X → Type 0 = λ a b. own a ≡ device → own b ≡ device in
    each_set How channels at old new there is (λ e. same ∙ e) (λ channel e. e) slot other before (all slot other before)

-- so channels that were ready are ready after an event
ready-moved : {B : Type 0} (kind : B → Kind) (kept : B → Kept) (filters : Filters) (more : List ℕ) (frames : ℕ) (old new : PlayChannelOf B) → PlayMoves kind kept filters more frames old new → IsPlayReady kind kept filters old → IsPlayReady kind kept filters new
ready-moved kind kept filters more frames old new m r = record {
  kinds = m.kinds r.kinds;
  planned = m.planned r.planned;
  far = m.far r.far;
}

pub ready-after : {B : Type 0} (kind : B → Kind) (kept : B → Kept) (filters : Filters) (more : List ℕ) (frames : ℕ) (old new : List (PlayChannelOf B)) → length new ≡ length old → Each (PlayMoves kind kept filters more frames) old new
    → All (IsPlayReady kind kept filters) old → All (IsPlayReady kind kept filters) new
ready-after kind kept filters more frames old new same each ready = λ slot other within.
    let there : slot < length old = omega arith in
    ready-moved kind kept filters more frames (get_or old slot other) (get_or new slot other) (each slot other there) (ready slot other there)

-- the books once each of them changed by `how`
books-changed : {C Book : Type 0} (book : C → Book) (how : Book → Book) (old new : List C) → length new ≡ length old → Each (λ before after. book after ≡ how (book before)) old new → map book new ≡ map how (map book old)
books-changed book how old new same each =
    same_lists (map book new) (map how (map book old))
    (length-map new book ∙ same ∙ sym (length-map (map book old) how ∙ length-map old book))
    (λ k d within.
    let there : k < length new = omega (arith, length-map new book) in
    let before : k < length old = omega arith in
    let listed : k < length (map book old) = omega (arith, length-map old book) in
    let other = some_channel old k before in
    get_or-map book new k other d there ∙ each k other before ∙ ap how (sym (get_or-map book old k other d before)) ∙ sym (get_or-map how (map book old) k d d listed))

-- so it is after an interrupt
pub play_books_of-passed : {B : Type 0} (device : DeviceSeen) (handed n : ℕ) (old new : List (PlayChannelOf B)) → length new ≡ length old → Each (Passes device handed n) old new
    → play_books_of new ≡ map (play_passing device handed n) (play_books_of old)
play_books_of-passed {B = B} device handed n = books-changed (λ (channel : PlayChannelOf B). channel.book) (play_passing device handed n)

-- ---- channels that record

-- the book of a channel that records
pub record_at-channel : {B : Type 0} (channels : List (RecordChannelOf B)) (slot : ℕ) (old : RecordChannelOf B) (other : RecordBook) → slot < length channels → old ≡ get_or channels slot old → old.book ≡ get_or (record_books_of channels) slot other
record_at-channel {B = B} channels slot old other there is = ap (λ (channel : RecordChannelOf B). channel.book) is ∙ sym (get_or-map (λ (channel : RecordChannelOf B). channel.book) channels slot old other there)

-- their books once one channel changed, whose book changed by `how`
pub record_books_of-set : {B : Type 0} (how : RecordBook → RecordBook) (channels : List (RecordChannelOf B)) (slot : ℕ) (old new : RecordChannelOf B) (other : RecordBook) → slot < length channels → old ≡ get_or channels slot old → new.book ≡ how old.book
    → record_books_of (set channels slot new) ≡ set (record_books_of channels) slot (how (get_or (record_books_of channels) slot other))
record_books_of-set {B = B} = books-set (λ (channel : RecordChannelOf B). channel.book)

-- a channel that moved is ready still
pub record-ready-moved : {B : Type 0} (kind : B → Kind) (kept : B → Kept) (filters : Filters) (input : List Frame) (keeps : ℕ) (old new : RecordChannelOf B) → RecordMoves kind kept filters input keeps old new → IsRecordReady kind kept filters old → IsRecordReady kind kept filters new
record-ready-moved kind kept filters input keeps old new m r = record {
  kinds = m.kinds r.kinds;
  planned = m.planned r.planned;
  far = m.far r.far;
}

-- their books after an interrupt
pub record_books_of-captured : {B : Type 0} (device : DeviceSeen) (n : ℕ) (old new : List (RecordChannelOf B)) → length new ≡ length old → Each (λ (o : RecordChannelOf B) (c : RecordChannelOf B). c.book ≡ capturing device n o.book) old new
    → record_books_of new ≡ map (capturing device n) (record_books_of old)
record_books_of-captured {B = B} device n = books-changed (λ (channel : RecordChannelOf B). channel.book) (capturing device n)

-- ---- mapped channels

-- their books once one channel changed, whose book changed by `how`
pub map_books_of-set : {B : Type 0} (how : MapBook → MapBook) (channels : List (MapChannelOf B)) (slot : ℕ) (old new : MapChannelOf B) (other : MapBook) → slot < length channels → old ≡ get_or channels slot old → new.book ≡ how old.book
    → map_books_of (set channels slot new) ≡ set (map_books_of channels) slot (how (get_or (map_books_of channels) slot other))
map_books_of-set {B = B} = books-set (λ (channel : MapChannelOf B). channel.book)

-- a channel that moved is ready still
pub map-ready-moved : {B : Type 0} (kind : B → Kind) (kept : B → Kept) (filters : Filters) (more : List ℕ) (frames : ℕ) (old new : MapChannelOf B) → MapMoves kind kept filters more frames old new → IsMapReady kind kept filters old → IsMapReady kind kept filters new
map-ready-moved kind kept filters more frames old new m r = record {
  kinds = m.kinds r.kinds;
  planned = m.planned r.planned;
  far = m.far r.far;
}

recut-none : (opening : Opening) → is_recut opening opening ≡ false
recut-none opening =
    let codes = eq-eqb (code_of opening.settings.format) (code_of opening.settings.format) refl in
    let channels = eq-eqb (channels_of opening.settings.layout) (channels_of opening.settings.layout) refl in
    let counts = eq-eqb opening.fragments.count opening.fragments.count refl in
    let logs = eq-eqb opening.fragments.log opening.fragments.log refl in
    rw (codes, channels, counts, logs) refl

begins-none : (free : Bool) → (free && not free) ≡ false
begins-none true = refl
begins-none false = refl

-- a call that leaves a channel as it is
pub map-keeps-nothing : {B : Type 0} (kind : B → Kind) (kept : B → Kept) (filters : Filters) (channel : MapChannelOf B) → MapKeeps kind kept filters (λ area. area) channel channel
map-keeps-nothing kind kept filters channel =
    let opening : Opening = channel.book.opening in
    let stays : silences channel.book channel.book ≡ false = ap (λ (b : Bool). b || is_recut opening opening) (begins-none (is_unheld channel.book.state)) ∙ recut-none opening in
    record {
      moves = moves-nothing kind kept filters [] 0 channel;
      area = ap (λ (b : Bool). cond b (silent_area opening) (area_of channel)) (sym stays);
    }

-- an opening begins in a channel that was free, so its area is silent
pub map-begins : {B : Type 0} (kind : B → Kind) (kept : B → Kept) (filters : Filters) (settings : Settings) (old new : MapChannelOf B)
    → is_unheld old.book.state ≡ true
    → ChannelMoves (λ channel. channel.path) (λ channel. channel.book) (map_begun settings) (MapBegins kind kept filters) old new
    → ChannelMoves (λ channel. channel.path) (λ channel. channel.book) (map_begun settings) (MapKeeps kind kept filters (λ area. area)) old new
map-begins kind kept filters settings old new free begins =
    let recut : Bool = is_recut old.book.opening new.book.opening in
    let opens : silences old.book new.book ≡ true =
    ap (λ (free : Bool). (free && not (is_unheld new.book.state)) || recut) free
    ∙ ap (λ (book : MapBook). not (is_unheld book.state) || recut) begins.book in
    record {
      device_same = begins.device_same;
      book = begins.book;
      moves = record {
        moves = begins.moves.moves;
        area = begins.moves.area ∙ ap (λ (b : Bool). cond b (silent_area new.book.opening) (area_of old)) (sym opens);
      };
    }

-- their books after an interrupt
pub map_books_of-passed : {B : Type 0} (device : DeviceSeen) (handed n : ℕ) (old new : List (MapChannelOf B)) → length new ≡ length old → Each (λ (o : MapChannelOf B) (c : MapChannelOf B). c.book ≡ map_passing device handed n o.book) old new
    → map_books_of new ≡ map (map_passing device handed n) (map_books_of old)
map_books_of-passed {B = B} device handed n = books-changed (λ (channel : MapChannelOf B). channel.book) (map_passing device handed n)

-- ---- a parent

-- a parent with other channels that are the old ones is the old one
pub parent_same : {B : Type 0} (new old : ParentOf B) (device : new.device ≡ old.device) (channels : new.channels ≡ old.channels) (recorders : new.recorders ≡ old.recorders) (maps : new.maps ≡ old.maps) (mixer : new.mixer ≡ old.mixer) (bus : new.bus ≡ old.bus) (ring : new.ring ≡ old.ring)
    (handed : new.handed ≡ old.handed) → new.mixed ≡ old.mixed → (passed : new.passed ≡ old.passed) → new ≡ old
parent_same {B = B} new old device channels recorders maps mixer bus ring handed mixed passed = λ i. record {
  device = device i;
  channels = channels i;
  recorders = recorders i;
  maps = maps i;
  mixer = mixer i;
  bus = bus i;
  ring = ring i;
  handed = handed i;
  mixed = mixed i;
  passed = passed i;
  passed_is = is_prop→PathP (λ j. passed j ≡ passed_for (unfiltered (device j)) (handed j)) (λ j. hlevel props) new.passed_is old.passed_is i;
  rates = is_prop→PathP (λ j. HasRates (device j)) (λ j. hlevel props) new.rates old.rates i;
  bus_of = is_prop→PathP (λ j. (bus j).device ≡ device j) (λ j. hlevel props) new.bus_of old.bus_of i;
  within = is_prop→PathP (λ j. (device j).ring_frames ≤ RING_FRAMES) (λ j. hlevel props) new.within old.within i;
  slots = is_prop→PathP (λ j. fixed_len (channels j) ≡ (device j).play_slots) (λ j. hlevel props) new.slots old.slots i;
  maps_count = is_prop→PathP (λ j. fixed_len (maps j) ≡ (device j).map_slots) (λ j. hlevel props) new.maps_count old.maps_count i;
  slots_within = is_prop→PathP (λ j. mixed_slots (unfiltered (device j)) ≤ SLOTS) (λ j. hlevel props) new.slots_within old.slots_within i;
  recorders_count = is_prop→PathP (λ j. fixed_len (recorders j) ≡ (device j).record_slots) (λ j. hlevel props) new.recorders_count old.recorders_count i;
  recorders_within = is_prop→PathP (λ j. (device j).record_slots ≤ SLOTS) (λ j. hlevel props) new.recorders_within old.recorders_within i;
  size = is_prop→PathP (λ j. (ring j).size ≡ (device j).ring_frames * frame_bytes (device j).settings) (λ j. hlevel props) new.size old.size i;
  full = is_prop→PathP (λ j. length (ring j).bytes ≡ (device j).ring_frames * frame_bytes (device j).settings) (λ j. hlevel props) new.full old.full i;
}

-- ---- an interrupt

-- what it moves of a channel, whose run may end then
moves-settled : {B : Type 0} (kind : B → Kind) (kept : B → Kept) (filters : Filters) (frames : ℕ) (old between new : PlayChannelOf B) → PlayMoves kind kept filters [] frames old between → PlayMoves kind kept filters [] 0 between new
    → PlayMoves kind kept filters [] frames old new
moves-settled {B = B} kind kept filters frames old between new first last =
    record {
      kinds = λ h. last.kinds (first.kinds h);
      planned = λ p. last.planned (first.planned p);
      far = λ f. last.far (first.far f);
      stands = λ bytes s. subst (PlayStands kept filters new new.book)
          (ap (take new.book.written) (append-nil (take between.book.written (bytes ++ []))) ∙ take-take new.book.written between.book.written (bytes ++ []) (omega arith))
          (last.stands (take between.book.written (bytes ++ [])) (first.stands bytes s));
      written = omega arith;
      counted = omega arith;
      grown = omega arith;
      given = omega arith;
    }

-- a channel of a device after an interrupt that mixes `frames` frames and gives `n` to the device
pub record IsPassed {B : Type 0} (kind : B → Kind) (kept : B → Kept) (filters : Filters) (device : Device) (handed n frames : ℕ) (old new : PlayChannelOf B) : Type 0 where
  pub own : new.path.device ≡ device
  pub moves : PlayMoves kind kept filters [] frames old new
  pub book : Passes (seen filters device) handed n old new

-- all of them are so, which were mixed, and whose runs may have ended then
pub all-passed : {B : Type 0} {kind : B → Kind} {kept : B → Kept} {filters : Filters} {device : Device}
    (handed n : ℕ) {frames mixed : ℕ} (here : Here) {old between : Fixed (PlayChannelOf B)} (new : Fixed (PlayChannelOf B))
    → frames ≡ mixed_by (seen filters device) handed n → mixed ≡ mixed_for (seen filters device) handed → here.passed ≡ passed_for (seen filters device) (handed + n) → All (IsPlayDue kind kept filters device frames) (fixed_items old)
    → AreLeft (PlayMixes kind kept filters device mixed frames) old between
    → Each (PlayLeaves kind kept (SettlesBook here)) (fixed_items between) (fixed_items new)
    → Each (IsPassed kind kept filters device handed n frames) (fixed_items old) (fixed_items new)
all-passed {kind = kind} {kept = kept} {filters = filters} handed n {frames = frames} here {old = old} {between = between} new count level
    passed due m settled = λ slot other within.
    let p = m.each slot other within in
    let s = settled slot other (omega (arith, items-count old, items-count between, m.len)) in
    let own = p.own in
    let book = p.book in
    let last = s.book filters (p.moves.planned (due slot other within).ready.planned) in
    record {
      own = s.device ∙ own;
      moves = moves-settled kind kept filters frames (get_or (fixed_items old) slot other) (get_or (fixed_items between) slot other)
          (get_or (fixed_items new) slot other) p.moves (s.moves filters);
      book = cc;
    }

-- each of them may end a run once it was mixed
pub may-settle : {B : Type 0} {kind : B → Kind} {kept : B → Kept} {filters : Filters} {device : Device} {frames mixed : ℕ}
    {old between : Fixed (PlayChannelOf B)}
    → All (IsPlayDue kind kept filters device frames) (fixed_items old)
    → AreLeft (PlayMixes kind kept filters device mixed frames) old between → All (MayEndRun kind) (fixed_items between)
may-settle {old = old} {between = between} due m = λ slot other within.
    let there : slot < length (fixed_items old) = omega (arith, items-count old, items-count between, m.len) in
    let d = due slot other there in
    let moves = (m.each slot other there).moves in
    record { kinds = moves.kinds d.ready.kinds; counted = omega arith }
