-- A block of the mix, slot by slot.
use Rattle.std.proofs.Common.{◌≡◌, ℕ, zero, suc, ◌+◌, ◌*◌, ◌<◌, ◌≤◌, length, List, [], ◌∷◌, ◌++◌, take, drop, map, get_or, fold, ℤ, pos, replicate, refl, sym, ap, ◌∙◌, arith, zero-add, zero-mul}
use Rattle.std.specs.List.{range_with_len}
use Rattle.std.proofs.lemmas.List.{get_or-map}
use Rattle.std.proofs.lemmas.List.Sums.{fold-append}
use Rattle.pcm_feeder.specs.declared.stage.Gain.{Gain}
use Rattle.pcm_desk.specs.declared.device.Device.{Device}
use Rattle.pcm_desk.specs.declared.map_book.MapBook.{MapBook}
use Rattle.pcm_desk.specs.declared.play_book.PlayBook.{PlayBook}
use Rattle.pcm_feeder.specs.Filters.{Filters}
use Rattle.pcm_feeder.specs.Kept.{Kept}
use Rattle.pcm_feeder.specs.Fades.{faded}
use Rattle.pcm_feeder.proofs.FadedFrames.{faded-nothing}
use Rattle.pcm_format.specs.Formats.{bits_of}
use Rattle.pcm_format.specs.Layouts.{channels_of}
use Rattle.pcm_format.proofs.Ranges.{range-add}
use Rattle.pcm_mix.specs.Mix.{mixed}
use Rattle.pcm_mixdev.specs.Mixers.{Levels, master_gain, slot_gain}
use Rattle.pcm_desk.specs.Device.{DeviceSeen, seen}
use Rattle.pcm_desk.specs.Desk.{map_unopened, play_unopened}
use Rattle.pcm_sound.specs.Gains.{map_gain}
use Rattle.pcm_sound.specs.Given.{given_samples}
use Rattle.pcm_sound.specs.MapRuns.{area_taken}
use Rattle.pcm_sound.specs.Added.{map_giving, map_turned, turned}
use Rattle.pcm_sound.proofs.Turns.{turned-nothing}
use Rattle.pcm_play.specs.declared.channel.PlayChannelOf.{PlayChannelOf}
use Rattle.pcm_play.specs.Channels.{AddsTo}
use Rattle.pcm_map.specs.declared.channel.MapChannelOf.{MapChannelOf}
use Rattle.pcm_map.specs.Channels.{MapAddsTo, area_of}
use Rattle.pcm_bus.specs.Blocks.{map_gains, mapped_onto, mixed_onto, silent_samples, whole_block, Added, AllStand, Sources}
use Rattle.pcm_bus.specs.Slots.{map_books_of, play_books_of}
use Rattle.pcm_bus.proofs.Channels.{some_channel}

-- a block to which channels add theirs, each by its book and what is known of its slot
added-up : {X Book : Type 0} (book : X → Book) (none : Book) (adds : Gain → List ℤ → List ℤ → X → Type 0) (gains : ℕ → Gain) (onto : ℕ
    → Book → List ℤ → List ℤ) (channels : List X) (slots : ℕ) (old new : List ℤ) → slots ≤ length channels
    → ((slot : ℕ) (other : X) (old new : List ℤ) → slot < length channels → adds (gains slot) old new (get_or channels slot other)
    → new ≡ onto slot (book (get_or channels slot other)) old)
    → Added adds gains channels slots old new
    → new ≡ fold (λ sum slot. onto slot (get_or (map book channels) slot none) sum) old (range_with_len 0 slots)
added-up book none adds gains onto channels zero old new within rule same = same
added-up {X = X} book none adds gains onto channels (suc slot) old new within rule added =
    let there : slot < length channels = omega arith in
    let other = some_channel channels slot there in
    let by : List ℤ → ℕ → List ℤ = λ sum at. onto at (get_or (map book channels) at none) sum in
    let next : suc slot ≡ slot + 1 = omega arith in
    rule slot other added.0 new there (added.1.1 other)
    ∙ ap (λ b. onto slot b added.0) (sym (get_or-map book channels slot other none there))
    ∙ ap (onto slot (get_or (map book channels) slot none))
    (added-up book none adds gains onto channels slot old added.0 (omega arith) rule added.1.0)
    ∙ sym (ap (λ k. fold by old (range_with_len 0 k)) next
    ∙ ap (fold by old) (range-add 0 slot 1 ∙ ap (λ a. range_with_len 0 slot ++ a ∷ []) (zero-add slot))
    ∙ fold-append by old (range_with_len 0 slot) (slot ∷ []))

-- channels that add nothing
nothing-added : {X : Type 0} (adds : Gain → List ℤ → List ℤ → X → Type 0) (gains : ℕ → Gain) (channels : List X) (slots : ℕ)
    → ((gain : Gain) (channel : X) → adds gain [] [] channel) → Added adds gains channels slots [] []
nothing-added adds gains channels zero none = refl
nothing-added adds gains channels (suc slot) none =
    ([], (nothing-added adds gains channels slot none, λ other. none (gains slot) (get_or channels slot other)))

onto-nothing : (bits k : ℕ) (add : List ℤ) → mixed bits (take k []) add ++ drop k [] ≡ []
onto-nothing bits zero add = refl
onto-nothing bits (suc k) add = refl

-- what channels that play and mapped ones add to silence makes a block, at the gain of all that is mixed
pub block-mixed : {B : Type 0} (kept : B → Kept) (filters : Filters) (device : Device) (n : ℕ) (mixer : Levels)
    (channels : List (PlayChannelOf B)) (maps : List (MapChannelOf B)) (slots count : ℕ) (start between sum : List ℤ) (sources : Sources)
    → slots ≡ length channels → count ≡ length maps → start ≡ silent_samples device.mix n → AllStand kept filters channels maps sources
    → Added (AddsTo kept filters device n) (map_gains mixer 0) channels slots start between
    → Added (MapAddsTo kept filters device n) (map_gains mixer slots) maps count between sum
    → faded device.mix.layout (master_gain mixer) sum ≡ whole_block (seen filters device) n mixer channels maps sources
block-mixed {B = B} kept filters device n mixer channels maps slots count start between sum sources played mapped silent stand playing
    mapping =
    let d : DeviceSeen = seen filters device in
    let play : ℕ → ℕ → PlayBook → List ℤ → List ℤ = λ at slot book sum. turned d n (slot_gain mixer at) book (sources.played slot) sum in
    let give : ℕ → List ℕ → ℕ → MapBook → List ℤ
    → List ℤ = λ first area slot book sum. map_turned d n (map_gains mixer first slot) book (sources.taken slot) area sum in
    let first : between ≡ mixed_onto d n (slot_gain mixer) (play_books_of channels) sources.played slots start =
    added-up (λ (channel : PlayChannelOf B). channel.book) (play_unopened d) (AddsTo kept filters device n) (map_gains mixer 0)
    (λ slot. play slot slot) channels slots start between (omega arith)
    (λ slot other old new there adds. adds (sources.played slot) (stand.playing slot other there)
    ∙ ap (λ at. play at slot (get_or channels slot other).book old) (zero-add slot)) playing in
    let second : sum ≡ mapped_onto d n (map_gains mixer (length channels)) (map_books_of maps) sources.taken sources.areas count between =
    added-up (λ (channel : MapChannelOf B). channel.book) (map_unopened d) (MapAddsTo kept filters device n) (map_gains mixer slots)
    (λ slot. give (length channels) (sources.areas slot) slot) maps count between sum (omega arith)
    (λ slot other old new there adds. let c = get_or maps slot other in let s = stand.mapped slot other there in
    adds (sources.taken slot) s.stands ∙ ap (λ first. give first (area_of c) slot c.book old) played
    ∙ ap (λ area. give (length channels) area slot c.book old) s.area) mapping in
    ap (faded device.mix.layout (master_gain mixer)) (cc)

-- an interrupt that mixes nothing makes an empty one
pub nothing-mixed : {B : Type 0} (kept : B → Kept) (filters : Filters) (device : Device) (n : ℕ) (mixer : Levels)
    (channels : List (PlayChannelOf B)) (maps : List (MapChannelOf B)) (sources : Sources) → n ≡ 0
    → AllStand kept filters channels maps sources → [] ≡ whole_block (seen filters device) n mixer channels maps sources
nothing-mixed {B = B} kept filters device n mixer channels maps sources none stand =
    let d : DeviceSeen = seen filters device in
    let layout = device.mix.layout in
    let map_adds : (gain : Gain) (channel : MapChannelOf B) (bytes : List ℕ)
    → [] ≡ map_turned d 0 gain channel.book bytes (area_of channel) [] = λ gain channel bytes.
    let count : ℕ = map_giving 0 channel.book in
    sym (onto-nothing (bits_of device.mix.format) (count * channels_of layout)
    (faded layout gain (given_samples d (map_gain channel.book) channel.book.opening.settings
    (bytes ++ area_taken d 0 channel.book (area_of channel)) channel.book.given count))) in
    sym (faded-nothing layout (master_gain mixer))
    ∙ block-mixed kept filters device n mixer channels maps (length channels) (length maps) [] [] [] sources refl refl
    (sym (ap (λ k. replicate (k * channels_of layout) (pos 0)) none ∙ ap (λ k. replicate k (pos 0)) (zero-mul (channels_of layout)))) stand
    (nothing-added (AddsTo kept filters device n) (map_gains mixer 0) channels (length channels)
    (λ gain channel bytes stands. sym (ap (λ k. turned d k gain channel.book bytes []) none ∙ turned-nothing d gain channel.book bytes)))
    (nothing-added (MapAddsTo kept filters device n) (map_gains mixer (length channels)) maps (length maps)
    (λ gain channel bytes stands. map_adds gain channel bytes
    ∙ ap (λ k. map_turned d k gain channel.book bytes (area_of channel) []) (sym none)))
