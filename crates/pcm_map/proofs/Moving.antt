-- What the calls on a channel move, from what they leave of its book, its path and its area.
use Rattle.std.proofs.Common.{◌≡◌, ℕ, ℤ, ◌+◌, ◌-◌, ◌*◌, ◌<◌, true, false, cond, List, [], ◌++◌, length, map, take, drop, refl, sym, ap, ◌∙◌, subst, inl, inr, arith}
use Rattle.std.specs.List.{range_with_len}
use Rattle.std.proofs.Math.Nat.{zero-div}
use Rattle.std.proofs.lemmas.List.{append-nil, drop_all, take_all, take_at}
use Rattle.pcm_format.specs.declared.layout.Layout.{Layout}
use Rattle.pcm_format.specs.declared.settings.Settings.{Settings}
use Rattle.pcm_format.specs.Formats.{bits_of}
use Rattle.pcm_format.specs.Frames.{Frame, frame_at, frame_bytes, frames}
use Rattle.pcm_format.specs.Layouts.{channels_of}
use Rattle.pcm_feeder.specs.declared.kind.Kind.{Kind}
use Rattle.pcm_feeder.specs.declared.stage.Gain.{Gain}
use Rattle.pcm_feeder.specs.Filters.{Filters}
use Rattle.pcm_feeder.specs.Kept.{Kept}
use Rattle.pcm_feeder.specs.Limits.{IsRate}
use Rattle.pcm_feeder.specs.Racks.{HaveKinds}
use Rattle.pcm_mix.specs.Mix.{mixed}
use Rattle.pcm_feeder.specs.Fades.{faded}
use Rattle.pcm_oss.specs.declared.event.Way.TheVariants.{Map}
use Rattle.pcm_oss.specs.declared.request.Request.{Request}
use Rattle.pcm_rate.specs.declared.rate.Rate.{Rate}
use Rattle.pcm_rate.specs.Rates.{need}
use Rattle.pcm_chain.specs.Chains.{boxes_in, plan_in, ChainStands}
use Rattle.pcm_path.specs.Paths.{IsEmpty}
use Rattle.pcm_path.proofs.Paths.{planned-as}
use Rattle.pcm_desk.specs.declared.map_book.MapBook.{MapBook}
use Rattle.pcm_desk.specs.declared.turn.Turn.{Turn}
use Rattle.pcm_desk.specs.Device.{DeviceSeen, mix_settings, play_rate_between, seen}
use Rattle.pcm_desk.specs.RunStates.{is_unheld, is_running}
use Rattle.pcm_desk.specs.MapBooks.{taken_of}
use Rattle.pcm_desk.specs.MapRequests.{map_ask}
use Rattle.pcm_desk.specs.MapSafe.{MapIsSafe}
use Rattle.pcm_desk.specs.Channels.{map_rate_at}
use Rattle.pcm_sound.specs.Added.{map_turned}
use Rattle.pcm_sound.specs.Areas.{area_bytes}
use Rattle.pcm_sound.specs.Gains.{map_gain}
use Rattle.pcm_sound.specs.Given.{given_samples}
use Rattle.pcm_sound.specs.MapRuns.{area_taken}
use Rattle.pcm_map.specs.declared.channel.MapChannelOf.{MapChannelOf}
use Rattle.pcm_map.specs.Channels.{area_of, IsMapServed, MapMoves, MapStands, MapTakes}
use Rattle.pcm_map.specs.Pieces.{taken_for, MapGives}
use Rattle.pcm_desk.proofs.MapAsking.{map-asked-kept, map-asked-rate}
use Rattle.pcm_desk.proofs.MapSafe.{map-safe-asked}
use Rattle.pcm_desk.proofs.MapLeaves.{Leaves, Stays, map-asked-leaves}
use Rattle.pcm_map.proofs.Books.{mixing-gives, safe-served}
use Rattle.pcm_map.proofs.Far.{map-far}
use Rattle.pcm_map.proofs.Held.{running-held}

-- ---- what a channel stands for

-- no bytes hold no frames
frames-none : (settings : Settings) → frames settings [] ≡ []
frames-none settings = ap (λ (k : ℕ). map (frame_at settings []) (range_with_len 0 k)) (zero-div (frame_bytes settings))

-- one that begins, or whose run is over, stands for no bytes
pub stands-empty : {B : Type 0} (kept : B → Kept) (filters : Filters) (channel : MapChannelOf B) → channel.book.eaten ≡ 0 → channel.book.given ≡ 0 → IsEmpty kept channel.path → MapStands kept filters channel channel.book []
stands-empty kept filters channel eaten given empty = record {
  book_is = refl;
  count = (let none : 0 ≡ 0 * frame_bytes channel.book.opening.settings = omega arith in none) ∙ ap (λ (k : ℕ). k * frame_bytes channel.book.opening.settings) (sym eaten);
  chain_is = λ used. subst (λ (list : List Frame). ChainStands kept filters channel.path.chain list 0 channel.book.given) (sym (frames-none channel.book.opening.settings))
      (subst (λ (k : ℕ). ChainStands kept filters channel.path.chain [] 0 k) (sym given) (empty.begins filters));
}

-- one whose counts and chain stay stands for the same bytes
pub stands-kept : {B : Type 0} (kept : B → Kept) (filters : Filters) (old new : MapChannelOf B) (bytes : List ℕ) → new.path.chain ≡ old.path.chain → new.book.opening.settings ≡ old.book.opening.settings → new.book.eaten ≡ old.book.eaten → new.book.given ≡ old.book.given
    → (is_unheld new.book.state ≡ false → is_unheld old.book.state ≡ false) → MapStands kept filters old old.book bytes → MapStands kept filters new new.book bytes
stands-kept kept filters old new bytes chain settings eaten given held s = record {
  book_is = refl;
  count = s.count ∙ ap (λ (k : ℕ). k * frame_bytes old.book.opening.settings) (sym eaten) ∙ ap (λ (r : Settings). new.book.eaten * frame_bytes r) (sym settings);
  chain_is = λ used. rw (chain, settings, given) (s.chain_is (held used));
}

-- ---- moves

-- a channel that stays stands for what it stood for
pub moves-nothing : {B : Type 0} (kind : B → Kind) (kept : B → Kept) (filters : Filters) (more : List ℕ) (frames : ℕ) (channel : MapChannelOf B) → MapMoves kind kept filters more frames channel channel
moves-nothing kind kept filters more frames channel = record {
  kinds = λ h. h;
  planned = λ p. p;
  far = λ h. h;
  stands = λ bytes s. subst (MapStands kept filters channel channel.book) (sym (take_at bytes more (taken_of channel.book) s.count)) s;
  given = omega arith;
}

-- so does one whose counts, chain and device stay
pub moves-kept : {B : Type 0} (kind : B → Kind) (kept : B → Kept) (filters : Filters) (more : List ℕ) (frames : ℕ) (old new : MapChannelOf B) → new.path.device ≡ old.path.device → new.path.chain ≡ old.path.chain → new.book.opening.settings ≡ old.book.opening.settings → new.book.eaten ≡ old.book.eaten → new.book.given ≡ old.book.given
    → (is_unheld new.book.state ≡ false → is_unheld old.book.state ≡ false) → MapMoves kind kept filters more frames old new
moves-kept kind kept filters more frames old new device chain settings eaten given held = record {
  kinds = λ h. rw chain h;
  planned = λ p used. planned-as Map filters _ _ old.path new.path device (ap plan_in chain) settings (p (held used));
  far = λ h used. rw (chain, eaten, given) (h (held used));
  stands = λ bytes s.
      let now = stands-kept kept filters old new bytes chain settings eaten given held s in
      subst (MapStands kept filters new new.book) (sym (take_at bytes more (taken_of new.book) now.count)) now;
  given = omega (arith, given);
}

-- a channel that begins, or whose run is over
pub moves-ended : {B : Type 0} (kind : B → Kind) (kept : B → Kept) (filters : Filters) (more : List ℕ) (frames : ℕ) (old new : MapChannelOf B) → HaveKinds kind (boxes_in new.path.chain) → (IsMapServed filters old → IsMapServed filters new) → new.book.eaten ≡ 0 → new.book.given ≡ 0 → IsEmpty kept new.path
    → MapMoves kind kept filters more frames old new
moves-ended kind kept filters more frames old new kinds planned eaten given empty = record {
  kinds = λ h. kinds;
  planned = planned;
  far = λ h. map-far kept filters new [] (stands-empty kept filters new eaten given empty);
  stands = λ bytes s. subst (MapStands kept filters new new.book) (sym (none bytes)) (stands-empty kept filters new eaten given empty);
  given = omega (arith, given);
}
  where
    none : (bytes : List ℕ) → take (taken_of new.book) (bytes ++ more) ≡ []
    none bytes =
        let nothing : taken_of new.book ≡ 0 = ap (λ (k : ℕ). k * frame_bytes new.book.opening.settings) eaten ∙ (let e : 0 * frame_bytes new.book.opening.settings ≡ 0 = omega arith in e) in
        ap (λ (k : ℕ). take k (bytes ++ more)) nothing

-- ---- requests

-- what a request leaves of a book
pub record Left (now : Rate) (old new : MapBook) : Type 0 where
  pub rate : IsRate new.opening.settings.rate
  pub safe : MapIsSafe now new
  -- where some frames were given, the counts are the old ones
  pub goes : (new.given ≡ 0 → ⊥) → Stays old new
  -- else nothing was taken
  pub ended : new.given ≡ 0 → new.eaten ≡ 0

-- a request, at the rate that the book has after it
pub book-asked : {B : Type 0} (filters : Filters) (request : Request) (old : MapChannelOf B) (turn : Turn MapBook) → IsMapServed filters old → turn ≡ map_ask request old.book
    → Left (map_rate_at (seen filters old.path.device) turn.book) old.book turn.book
book-asked filters request old turn planned asked =
    let device : DeviceSeen = seen filters old.path.device in
    let book : MapBook = old.book in
    let before : Rate = map_rate_at device book in
    let after : MapBook = (map_ask request book).book in
    let is : turn.book ≡ after = ap (λ (t : Turn MapBook). t.book) asked in
    let safe = safe-served filters old planned in
    let safe_after = map-safe-asked before (map_rate_at device after) request book (λ runs. ap (play_rate_between device) (map-asked-kept request book runs)) safe in
    let now : MapIsSafe (map_rate_at device turn.book) turn.book = subst (λ (b : MapBook). MapIsSafe (map_rate_at device b) b) (sym is) safe_after in
    record {
      rate = subst (λ (b : MapBook). IsRate b.opening.settings.rate) (sym is) (map-asked-rate request book old.rate);
      safe = now;
      goes = λ some. elim (subst (Leaves book) (sym is) (map-asked-leaves before request book safe)).counts [ inl stays ↦ stays | inr ends ↦ absurd (some ends.given) ];
      ended = λ none. now.taken ∙ ap (need (map_rate_at device turn.book)) none;
    }

-- ---- interrupts

-- what a piece or more takes is what the interrupt does
pub taken-mixing : {B : Type 0} (filters : Filters) (n : ℕ) (channel : MapChannelOf B) → 0 < n → is_running channel.book.state ≡ true → area_taken (seen filters channel.path.device) n channel.book (area_of channel) ≡ taken_for filters n channel
taken-mixing filters n channel some running =
    ap (λ (book : MapBook). area_bytes (area_of channel) (taken_of channel.book) (taken_of book - taken_of channel.book)) (mixing-gives (seen filters channel.path.device) n channel.book some running)

-- a channel that gave all frames of an interrupt
pub moves-given : {B : Type 0} (kind : B → Kind) (kept : B → Kept) (filters : Filters) (n : ℕ) (old new : MapChannelOf B) (samples : List ℤ) → 0 < n → is_running old.book.state ≡ true → MapGives kind kept filters n old new samples → MapTakes kind kept filters n old new
moves-given {B = B} kind kept filters n old new samples some running g =
    let taken = taken-mixing filters n old some running in
    let given : new.book.given ≡ old.book.given + n = ap (λ (b : MapBook). b.given) g.book in
    record {
      kinds = g.kinds;
      planned = λ p used. planned-as Map filters _ _ old.path new.path g.device g.plan (ap (λ (b : MapBook). b.opening.settings) g.book) (p (running-held old.book.state running));
      far = g.far;
      stands = λ bytes s.
          let now = g.stands bytes s in
          subst (MapStands kept filters new new.book)
          (sym (ap (λ (more : List ℕ). take (taken_of new.book) (bytes ++ more)) taken ∙ take_all (taken_of new.book) (bytes ++ taken_for filters n old) (omega (arith, now.count)))) now;
      given = omega (arith, given);
    }

-- it adds its frames to the block, at the gain of its slot
pub turned-given : {B : Type 0} (kind : B → Kind) (kept : B → Kept) (filters : Filters) (n : ℕ) (fader : Gain) (old new : MapChannelOf B) (samples sum acc : List ℤ) (bits : ℕ) → 0 < n → is_running old.book.state ≡ true → MapGives kind kept filters n old new samples
    → length samples ≡ n * channels_of old.path.device.mix.layout → length sum ≡ n * channels_of old.path.device.mix.layout → bits ≡ bits_of old.path.device.mix.format → acc ≡ mixed bits sum (faded old.path.device.mix.layout fader samples)
    → (bytes : List ℕ) → MapStands kept filters old old.book bytes → acc ≡ map_turned (seen filters old.path.device) n fader old.book bytes (area_of old) sum
turned-given kind kept filters n fader old new samples sum acc bits some running g samples_long sum_long bits_is acc_is bytes s =
    let d : DeviceSeen = seen filters old.path.device in
    let settings : Settings = old.book.opening.settings in
    let layout : Layout = old.path.device.mix.layout in
    let size : ℕ = channels_of layout in
    let deep : ℕ = bits_of old.path.device.mix.format in
    let given : List ℕ → ℕ → List ℤ = λ more k. faded layout fader (given_samples d (map_gain old.book) settings (bytes ++ more) old.book.given k) in
    let taken : List ℕ = taken_for filters n old in
    let samples_are : samples ≡ given_samples d (map_gain old.book) settings (bytes ++ taken) old.book.given n = sym (take_all (n * size) samples (omega (arith, samples_long))) ∙ g.samples_are bytes s in
    let front : take (n * size) sum ≡ sum = take_all (n * size) sum (omega (arith, sum_long)) in
    let back : drop (n * size) sum ≡ [] = drop_all (n * size) sum (omega (arith, sum_long)) in
    acc_is ∙ ap (λ (b : ℕ). mixed b sum (faded layout fader samples)) bits_is ∙ ap (λ (list : List ℤ). mixed deep sum (faded layout fader list)) samples_are
    ∙ ap (λ (list : List ℤ). mixed deep list (given taken n)) (sym front)
    ∙ sym (append-nil (mixed deep (take (n * size) sum) (given taken n)))
    ∙ ap (λ (rest : List ℤ). mixed deep (take (n * size) sum) (given taken n) ++ rest) (sym back)
    ∙ ap (λ (more : List ℕ). mixed deep (take (n * size) sum) (given more n) ++ drop (n * size) sum) (sym (taken-mixing filters n old some running))
    ∙ ap (λ (k : ℕ). mixed deep (take (k * size) sum) (given (area_taken d n old.book (area_of old)) k) ++ drop (k * size) sum)
    (ap (λ b. cond b n 0) (sym running))

-- a channel that isn't started adds nothing to a block
pub turned-none : (device : DeviceSeen) (n : ℕ) (fader : Gain) (book : MapBook) (bytes area : List ℕ) (sum : List ℤ) → is_running book.state ≡ false → sum ≡ map_turned device n fader book bytes area sum
turned-none device n fader book bytes area sum idle =
    let layout : Layout = (mix_settings device).layout in
    let size : ℕ = channels_of layout in
    let bits : ℕ = bits_of (mix_settings device).format in
    let none : 0 * size ≡ 0 = omega arith in
    let samples : ℕ → List ℤ = λ k. faded layout fader (given_samples device (map_gain book) book.opening.settings (bytes ++ area_taken device n book area) book.given k) in
    sym (ap (λ (k : ℕ). mixed bits (take (k * size) sum) (samples k) ++ drop (k * size) sum) (ap (λ b. cond b n 0) idle)
    ∙ ap (λ (m : ℕ). mixed bits (take m sum) (samples 0) ++ drop m sum) none)
