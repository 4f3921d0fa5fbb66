-- What a pull of a channel's chain gives of the bytes that were taken of its area, and what two pieces give together.
use Rattle.std.proofs.Common.{◌≡◌, ℕ, ◌+◌, ◌-◌, ◌*◌, ◌≤◌, true, false, List, [], ◌++◌, length, take, drop, ℤ, All, refl, sym, ap, ◌∙◌, subst, arith, length-append}
use Rattle.std.proofs.Math.Seq.{take-append-add}
use Rattle.std.proofs.lemmas.List.{append-nil, append_assoc, drop_all, drop_at, length-drop, length-take-le, take_all, take-append-drop}
use Rattle.std.proofs.lemmas.List.Elements.{All-nil, All-append}
use Rattle.std.proofs.lemmas.List.Concat.{flat_map-append}
use Rattle.pcm_sequence.specs.declared.fixed.Fixed.{Fixed}
use Rattle.pcm_sequence.specs.Fixed.{fixed_items}
use Rattle.pcm_num.specs.Limit.{FitsBits}
use Rattle.pcm_format.specs.declared.settings.Settings.{Settings}
use Rattle.pcm_format.specs.Formats.{bits_of}
use Rattle.pcm_format.specs.Frames.{Frame, frame_bytes, frames, whole_frames}
use Rattle.pcm_format.specs.Layouts.{channels_of}
use Rattle.pcm_format.proofs.Streams.{length-frames}
use Rattle.pcm_format.proofs.Whole.{whole_frames-mono}
use Rattle.pcm_rate.specs.declared.rate.Rate.{Rate}
use Rattle.pcm_rate.specs.Rates.{can, need}
use Rattle.pcm_oss.specs.declared.fragments.TheConstants.{RING_BYTES}
use Rattle.pcm_ring.specs.Ring.{Ring, empty_ring}
use Rattle.pcm_feeder.specs.declared.kind.Kind.{Kind}
use Rattle.pcm_feeder.specs.declared.stage.Gain.{Gain}
use Rattle.pcm_feeder.specs.Filters.{Filters}
use Rattle.pcm_feeder.specs.Kept.{Kept}
use Rattle.pcm_feeder.specs.Racks.{HaveKinds}
use Rattle.pcm_feeder.specs.Streams.{interleaved, written}
use Rattle.pcm_plan.specs.Fits.{IsPlan}
use Rattle.pcm_plan.specs.Plans.{PlanSeen, rate_in_plan}
use Rattle.pcm_plan.specs.Through.{outs}
use Rattle.pcm_plan.proofs.Through.{length-outs, outs-add, outs-append, outs-channels}
use Rattle.pcm_chain.specs.declared.chain.ChainOf.{ChainOf}
use Rattle.pcm_chain.specs.declared.chain.Pulled.{Pulled}
use Rattle.pcm_chain.specs.Chains.{boxes_in, plan_in, ChainStands}
use Rattle.pcm_chain.specs.Far.{ChainIsSoFar}
use Rattle.pcm_chain.specs.Pulls.{waiting_frames, PullsOn}
use Rattle.pcm_chain.specs.Rings.{without_bytes}
use Rattle.pcm_chain.proofs.Pulling.{no-silence-behind}
use Rattle.pcm_chain.proofs.Waiting.{frames-waiting}
use Rattle.pcm_desk.specs.declared.device.Device.{Device}
use Rattle.pcm_desk.specs.declared.map_book.MapBook.{MapBook}
use Rattle.pcm_desk.specs.Device.{DeviceSeen, device_filters, play_plan_between, seen}
use Rattle.pcm_desk.specs.RunStates.{is_running}
use Rattle.pcm_desk.specs.MapBooks.{map_gives, taken_of}
use Rattle.pcm_desk.specs.Channels.{map_rate_at}
use Rattle.pcm_desk.specs.Openings.{ring_bytes}
use Rattle.pcm_sound.specs.Areas.{area_bytes}
use Rattle.pcm_sound.specs.Gains.{map_gain}
use Rattle.pcm_sound.specs.Given.{given_samples}
use Rattle.pcm_map.specs.declared.channel.MapChannelOf.{MapChannelOf}
use Rattle.pcm_map.specs.Channels.{area_of, CountsFit, IsMapPlanned, IsMapReady, MapStands}
use Rattle.pcm_map.specs.Pieces.{book_giving, taken_for, MapGives}
use Rattle.pcm_oss.specs.declared.event.Way.TheVariants.{Map}
use Rattle.pcm_path.proofs.Paths.{planned-as, front-written}
use Rattle.pcm_map.proofs.Areas.{area-add, length-area_bytes}
use Rattle.pcm_map.proofs.Books.{counts-fewer, given-allowed, gives-add, gives-none, planned-fits, planned-near, planned-safe, taken-grows}
use Rattle.pcm_map.proofs.Far.{between-bytes, frames-eaten, PullsFar}
use Rattle.pcm_map.proofs.Held.{running-held}
use Rattle.pcm_sound.proofs.DeviceLists.{frames-channels}
use Rattle.pcm_sound.proofs.Sounding.{frames-append, frames-front}

-- ---- samples

-- more bytes after them leave the samples that those before allow
samples-append : (device : DeviceSeen) (gain : Gain) (settings : Settings) (bytes more : List ℕ) (from count : ℕ) → IsPlan (play_plan_between device settings)
    → from + count ≤ can (rate_in_plan (play_plan_between device settings)) (whole_frames settings (length bytes))
    → given_samples device gain settings (bytes ++ more) from count ≡ given_samples device gain settings bytes from count
samples-append device gain settings bytes more from count is allowed =
    let plan = play_plan_between device settings in
    let rate = rate_in_plan plan in
    ap (λ (list : List Frame). interleaved (outs plan (device_filters device) gain list from count)) (frames-append settings bytes more)
    ∙ ap interleaved (outs-append plan (device_filters device) gain (frames settings bytes) _ from count is
    (subst (λ (k : ℕ). from + count ≤ can rate k) (sym (length-frames settings bytes)) allowed))

-- samples given in two parts
samples-add : (device : DeviceSeen) (gain : Gain) (settings : Settings) (bytes : List ℕ) (from n m : ℕ)
    → given_samples device gain settings bytes from (n + m) ≡ given_samples device gain settings bytes from n ++ given_samples device gain settings bytes (from + n) m
samples-add device gain settings bytes from n m =
    let plan = play_plan_between device settings in
    let list = frames settings bytes in
    ap interleaved (outs-add plan (device_filters device) gain list from n m)
    ∙ flat_map-append (λ (frame : Frame). frame) (outs plan (device_filters device) gain list from n) (outs plan (device_filters device) gain list (from + n) m)

-- bytes taken in two parts
between-add : (area : List ℕ) (first middle last : ℕ) → first ≤ middle → middle ≤ last → area_bytes area first (last - first) ≡ area_bytes area first (middle - first) ++ area_bytes area middle (last - middle)
between-add area first middle last before behind =
    let sum : last - first ≡ (middle - first) + (last - middle) = omega arith in
    let place : first + (middle - first) ≡ middle = omega arith in
    ap (area_bytes area first) sum ∙ area-add area first (middle - first) (last - middle)
    ∙ ap (λ from. area_bytes area first (middle - first) ++ area_bytes area from (last - middle)) place

-- ---- a pull

-- what a pull says of a channel's frames, once the bytes that it had taken are known
pub record PullsPiece {B : Type 0} (kept : B → Kept) (filters : Filters) (gain : Gain) (n : ℕ) (old : MapChannelOf B) (bytes : List ℕ) (new : ChainOf B) (out_old out_new : List ℤ) : Type 0 where
  pub samples : out_new ≡ written (outs (play_plan_between (seen filters old.path.device) old.book.opening.settings) filters gain (frames old.book.opening.settings (bytes ++ taken_for filters n old)) old.book.given n) out_old
  pub chain_is : ChainStands kept filters new (frames old.book.opening.settings (bytes ++ taken_for filters n old)) 0 (old.book.given + n)

pulls-piece : {B : Type 0} (kept : B → Kept) (filters : Filters) (gain : Gain) (n : ℕ) (old : MapChannelOf B) (ring : Ring) (new : ChainOf B) (pulled : Pulled) (out_old out_new : List ℤ) → IsMapPlanned filters old → is_running old.book.state ≡ true
    → ring.bytes ≡ taken_for filters n old → PullsOn kept filters gain false n old.book.opening.settings.format ring old.path.chain new pulled out_old out_new → PullsFar kept filters n old ring new pulled out_new
    → (bytes : List ℕ) → MapStands kept filters old old.book bytes → PullsPiece kept filters gain n old bytes new out_old out_new
pulls-piece kept filters gain n old ring new pulled out_old out_new planned running taken pulls far bytes s =
    let book : MapBook = old.book in
    let settings : Settings = book.opening.settings in
    let plan : PlanSeen = play_plan_between (seen filters old.path.device) settings in
    let more : List ℕ = taken_for filters n old in
    let list : List Frame = frames settings (bytes ++ more) in
    let x : List Frame = frames settings bytes in
    let waiting : List Frame = waiting_frames (plan_in old.path.chain) settings.format ring.bytes in
    let long = frames-eaten kept filters old bytes s in
    let whole : whole_frames settings (length bytes) ≡ book.eaten = sym (length-frames settings bytes) ∙ long in
    let fewer = whole_frames-mono settings (length bytes) (length (bytes ++ more)) (omega (arith, length-append bytes more)) in
    let waiting_is : waiting ≡ drop book.eaten list =
    ap (λ (p : PlanSeen). waiting_frames p settings.format ring.bytes) planned.plan_is
    ∙ ap (waiting_frames plan settings.format) (taken ∙ sym (drop_at bytes more (taken_of book) s.count))
    ∙ frames-waiting settings (bytes ++ more) book.eaten (omega (arith, whole, fewer)) in
    let x_is : x ≡ take book.eaten list =
    sym (frames-front settings bytes more book.eaten (omega (arith, whole)) ∙ take_all book.eaten x (omega (arith, long))) in
    let joined : x ++ waiting ≡ list = ap (λ (front : List Frame). front ++ waiting) x_is ∙ ap (λ (rest : List Frame). take book.eaten list ++ rest) waiting_is ∙ take-append-drop book.eaten list in
    let taken_all : take pulled.eaten waiting ≡ waiting = take_all pulled.eaten waiting (omega (arith, far.eaten)) in
    let p = pulls x 0 book.given (s.chain_is (running-held book.state running)) (λ some. absurd (omega arith)) in
    record {
      samples = p.frames
          ∙ ap (λ (q : PlanSeen). written (outs q filters gain (x ++ waiting) book.given pulled.given) out_old) planned.plan_is
          ∙ ap (λ (fs : List Frame). written (outs plan filters gain fs book.given pulled.given) out_old) joined
          ∙ ap (λ (k : ℕ). written (outs plan filters gain list book.given k) out_old) far.given;
      chain_is = subst (λ (k : ℕ). ChainStands kept filters new list 0 (book.given + k)) far.given
          (subst (λ (fs : List Frame). ChainStands kept filters new fs 0 (book.given + pulled.given)) (ap (λ (rest : List Frame). x ++ rest) taken_all ∙ joined)
          (no-silence-behind kept filters waiting new x book.given pulled p.stands));
    }

-- the bytes of the frames that a piece needs
taken-counted : (area list : List ℕ) (from taken count a b z : ℕ) → list ≡ area → from ≡ taken → count ≡ (b - a) * z → area_bytes list from count ≡ area_bytes area taken (b * z - a * z)
taken-counted area list from taken count a b z same place counted =
    ap (λ (bytes : List ℕ). area_bytes bytes from count) same ∙ ap (λ (k : ℕ). area_bytes area k count) place
    ∙ ap (area_bytes area taken) (counted ∙ between-bytes a b z)

-- the ring before a pull: just these wait in it
pub ring-filled : {B : Type 0} (filters : Filters) (n : ℕ) (old : MapChannelOf B) (new : MapBook) (items : List ℕ) (size from z : ℕ) (ring : Ring) → new ≡ book_giving filters n old → size ≡ ring_bytes old.book.opening → items ≡ fixed_items old.area
    → from ≡ taken_of old.book → z ≡ frame_bytes old.book.opening.settings
    → ring ≡ record old.path.ring { bytes = old.path.ring.bytes ++ area_bytes (take size items) from ((new.eaten - old.book.eaten) * z) }
    → ring ≡ record (empty_ring RING_BYTES) { bytes = taken_for filters n old }
ring-filled filters n old new items size from z ring book size_is items_are from_is z_is put =
    let rate : Rate = map_rate_at (seen filters old.path.device) old.book in
    let count : ℕ = (new.eaten - old.book.eaten) * z in
    let settings : Settings = old.book.opening.settings in
    let list_is : take size items ≡ area_of old = ap (λ (k : ℕ). take k items) size_is ∙ ap (λ (list : List ℕ). take (ring_bytes old.book.opening) list) items_are in
    let counted : count ≡ (need rate (old.book.given + n) - old.book.eaten) * frame_bytes settings =
    ap (λ (b : MapBook). (b.eaten - old.book.eaten) * z) book ∙ ap (λ (k : ℕ). (need rate (old.book.given + n) - old.book.eaten) * k) z_is in
    put ∙ ap (λ (r : Ring). record r { bytes = r.bytes ++ area_bytes (take size items) from count }) old.ring
    ∙ ap (λ (bytes : List ℕ). record (empty_ring RING_BYTES) { bytes = bytes })
    (taken-counted (area_of old) (take size items) from (taken_of old.book) count old.book.eaten (need rate (old.book.given + n)) (frame_bytes settings) list_is from_is counted)

-- and after it none
pub ring-again : (middle last : Ring) (count : ℕ) (more : List ℕ) → middle ≡ record (empty_ring RING_BYTES) { bytes = more } → last ≡ without_bytes count middle → count ≡ length more → last ≡ empty_ring RING_BYTES
ring-again middle last count more filled taken all =
    taken ∙ ap (without_bytes count) filled ∙ ap (λ (bytes : List ℕ). record (empty_ring RING_BYTES) { bytes = bytes }) (drop_all count more (omega arith))

-- samples that are written after others, up to the end
pub put-behind : (a : ℕ) (list piece : List ℤ) → take a list ++ (piece ++ drop (length list - a) (drop a list)) ≡ take a list ++ piece
put-behind a list piece =
    ap (λ (rest : List ℤ). take a list ++ (piece ++ rest)) (drop_all (length list - a) (drop a list) (omega (arith, length-drop a list)))
    ∙ ap (λ (rest : List ℤ). take a list ++ rest) (append-nil piece)

-- the samples of a piece, at the front of a buffer
piece-front : {B : Type 0} (kept : B → Kept) (filters : Filters) (gain : Gain) (n : ℕ) (old : MapChannelOf B) (bytes : List ℕ) (new : ChainOf B) (out_old out_new : List ℤ) → IsMapPlanned filters old
    → PullsPiece kept filters gain n old bytes new out_old out_new
    → take (n * channels_of old.path.device.mix.layout) out_new ≡ interleaved (outs (play_plan_between (seen filters old.path.device) old.book.opening.settings) filters gain (frames old.book.opening.settings (bytes ++ taken_for filters n old)) old.book.given n)
piece-front kept filters gain n old bytes new out_old out_new planned p =
    let settings : Settings = old.book.opening.settings in
    let size : ℕ = channels_of old.path.device.mix.layout in
    let plan : PlanSeen = play_plan_between (seen filters old.path.device) settings in
    let list : List Frame = frames settings (bytes ++ taken_for filters n old) in
    let given : List Frame = outs plan filters gain list old.book.given n in
    let have = outs-channels plan filters gain list old.book.given n (planned-fits filters old planned) (frames-channels settings (bytes ++ taken_for filters n old)) in
    ap (take (n * size)) p.samples ∙ front-written size n given out_old have (length-outs plan filters gain list old.book.given n)

-- what a piece leaves of a channel
pub piece-gives : {B : Type 0} (kind : B → Kind) (kept : B → Kept) (filters : Filters) (n : ℕ) (old new : MapChannelOf B) (ring : Ring) (pulled : Pulled) (gain : Gain) (out_old out_new : List ℤ) → IsMapPlanned filters old → is_running old.book.state ≡ true
    → new.path.device ≡ old.path.device → new.area ≡ old.area → plan_in new.path.chain ≡ plan_in old.path.chain → (HaveKinds kind (boxes_in old.path.chain) → HaveKinds kind (boxes_in new.path.chain))
    → new.book ≡ book_giving filters n old → ring.bytes ≡ taken_for filters n old → gain ≡ map_gain old.book
    → PullsOn kept filters gain false n old.book.opening.settings.format ring old.path.chain new.path.chain pulled out_old out_new → PullsFar kept filters n old ring new.path.chain pulled out_new
    → MapGives kind kept filters n old new out_new
piece-gives kind kept filters n old new ring pulled gain out_old out_new planned running device area plan kinds book taken gain_is pulls far =
    let settings : Settings = old.book.opening.settings in
    let d : DeviceSeen = seen filters old.path.device in
    let rate : Rate = map_rate_at d old.book in
    let more : List ℕ = taken_for filters n old in
    let grows = taken-grows rate n old.book (planned-near filters old planned).ratio (planned-safe filters old planned).taken in
    record {
      book = book;
      device = device;
      area = area;
      plan = plan;
      kinds = kinds;
      far = λ h used. subst (λ (b : MapBook). ChainIsSoFar kept filters new.path.chain b.eaten 0 b.given) (sym book) far.chain_is;
      stands = λ bytes s.
          let p = pulls-piece kept filters gain n old ring new.path.chain pulled out_old out_new planned running taken pulls far bytes s in
          record {
            book_is = refl;
            count = length-append bytes more ∙ (let count = s.count in let long = length-area_bytes (area_of old) (taken_of old.book) (taken_of (book_giving filters n old) - taken_of old.book) in
                let e : length bytes + length more ≡ taken_of (book_giving filters n old) = omega (arith, count, long, grows) in e) ∙ ap taken_of (sym book);
            chain_is = λ used. subst (λ (b : MapBook). ChainStands kept filters new.path.chain (frames b.opening.settings (bytes ++ more)) 0 b.given) (sym book) p.chain_is;
          };
      fits = far.bits;
      samples_are = λ bytes s.
          let p = pulls-piece kept filters gain n old ring new.path.chain pulled out_old out_new planned running taken pulls far bytes s in
          piece-front kept filters gain n old bytes new.path.chain out_old out_new planned p
          ∙ ap (λ (g : Gain). given_samples d g settings (bytes ++ more) old.book.given n) gain_is;
    }

-- ---- several pieces

-- none
pub gives-nothing : {B : Type 0} (kind : B → Kind) (kept : B → Kept) (filters : Filters) (channel : MapChannelOf B) (samples : List ℤ) → IsMapPlanned filters channel → MapGives kind kept filters 0 channel channel samples
gives-nothing kind kept filters channel samples planned =
    let rate : Rate = map_rate_at (seen filters channel.path.device) channel.book in
    let same = gives-none rate channel.book (planned-safe filters channel planned).taken in
    let none : taken_of (book_giving filters 0 channel) - taken_of channel.book ≡ 0 = ap (λ (b : MapBook). taken_of b - taken_of channel.book) same ∙ (let e : taken_of channel.book - taken_of channel.book ≡ 0 = omega arith in e) in
    let nothing : taken_for filters 0 channel ≡ [] = ap (area_bytes (area_of channel) (taken_of channel.book)) none in
    let start : 0 * channels_of channel.path.device.mix.layout ≡ 0 = omega arith in
    record {
      book = sym same;
      device = refl;
      area = refl;
      plan = refl;
      kinds = λ h. h;
      far = λ h. h;
      stands = λ bytes s. subst (MapStands kept filters channel channel.book) (sym (ap (λ (more : List ℕ). bytes ++ more) nothing ∙ append-nil bytes)) s;
      fits = subst (λ (k : ℕ). All (FitsBits (bits_of channel.path.device.mix.format)) (take k samples)) (sym start) (All-nil (FitsBits (bits_of channel.path.device.mix.format)));
      samples_are = λ bytes s. ap (λ (k : ℕ). take k samples) start;
    }

-- a piece more
pub gives-more : {B : Type 0} (kind : B → Kind) (kept : B → Kept) (filters : Filters) (a b : ℕ) (old mid new : MapChannelOf B) (samples piece : List ℤ) → IsMapPlanned filters old
    → MapGives kind kept filters a old mid samples → MapGives kind kept filters b mid new piece → a * channels_of old.path.device.mix.layout ≤ length samples
    → MapGives kind kept filters (a + b) old new (take (a * channels_of old.path.device.mix.layout) samples ++ piece)
gives-more {B = B} kind kept filters a b old mid new samples piece planned g h room =
    let d : DeviceSeen = seen filters old.path.device in
    let settings : Settings = old.book.opening.settings in
    let rate : Rate = map_rate_at d old.book in
    let near = planned-near filters old planned in
    let gain : Gain = map_gain old.book in
    let size : ℕ = channels_of old.path.device.mix.layout in
    let first : MapBook = book_giving filters a old in
    let last : MapBook = book_giving filters (a + b) old in
    let area : List ℕ = area_of old in
    let same_rate : map_rate_at (seen filters mid.path.device) mid.book ≡ rate =
    ap (λ (device : Device). map_rate_at (seen filters device) mid.book) g.device ∙ ap (λ (book : MapBook). map_rate_at d book) g.book in
    let giving : book_giving filters b mid ≡ last =
    ap (λ (r : Rate). map_gives r b mid.book) same_rate ∙ ap (λ (book : MapBook). map_gives rate b book) g.book ∙ gives-add rate a b old.book in
    let same_area : area_of mid ≡ area =
    ap (λ (held : Fixed ℕ). take (ring_bytes mid.book.opening) (fixed_items held)) g.area ∙ ap (λ (book : MapBook). take (ring_bytes book.opening) (fixed_items old.area)) g.book in
    let taken_mid : taken_for filters b mid ≡ area_bytes area (taken_of first) (taken_of last - taken_of first) =
    ap (λ (bytes : List ℕ). area_bytes bytes (taken_of mid.book) (taken_of (book_giving filters b mid) - taken_of mid.book)) same_area
    ∙ ap (λ (book : MapBook). area_bytes area (taken_of mid.book) (taken_of book - taken_of mid.book)) giving
    ∙ ap (λ (book : MapBook). area_bytes area (taken_of book) (taken_of last - taken_of book)) g.book in
    let before = taken-grows rate a old.book near.ratio (planned-safe filters old planned).taken in
    let behind = subst (λ (book : MapBook). taken_of first ≤ taken_of book) (gives-add rate a b old.book) (taken-grows rate b first near.ratio refl) in
    let all : taken_for filters (a + b) old ≡ taken_for filters a old ++ taken_for filters b mid =
    between-add area (taken_of old.book) (taken_of first) (taken_of last) before behind ∙ ap (λ (more : List ℕ). taken_for filters a old ++ more) (sym taken_mid) in
    let parts : (a + b) * size ≡ a * size + b * size = omega arith in
    let long : length (take (a * size) samples) ≡ a * size = length-take-le (a * size) samples room in
    let split : (a + b) * size ≡ length (take (a * size) samples) + b * size = omega (arith, parts, long) in
    let front_and_back : take ((a + b) * size) (take (a * size) samples ++ piece) ≡ take (a * size) samples ++ take (b * size) piece =
    ap (λ (k : ℕ). take k (take (a * size) samples ++ piece)) split ∙ take-append-add (take (a * size) samples) piece (b * size) in
    record {
      book = h.book ∙ giving;
      device = h.device ∙ g.device;
      area = h.area ∙ g.area;
      plan = h.plan ∙ g.plan;
      kinds = λ have. h.kinds (g.kinds have);
      far = λ far. h.far (g.far far);
      stands = λ bytes s. subst (MapStands kept filters new new.book) (append_assoc bytes (taken_for filters a old) (taken_for filters b mid) ∙ ap (λ (more : List ℕ). bytes ++ more) (sym all))
          (h.stands (bytes ++ taken_for filters a old) (g.stands bytes s));
      fits =
          let Fits : List ℤ → Type 0 = All (FitsBits (bits_of old.path.device.mix.format)) in
          subst Fits (sym front_and_back)
          (All-append (FitsBits (bits_of old.path.device.mix.format)) (take (a * size) samples) (take (b * size) piece) g.fits
          (subst (λ (device : Device). All (FitsBits (bits_of device.mix.format)) (take (b * channels_of device.mix.layout) piece)) g.device h.fits));
      samples_are = λ bytes s.
          let t : List ℕ = bytes ++ taken_for filters a old in
          let stands = g.stands bytes s in
          let whole : t ++ taken_for filters b mid ≡ bytes ++ taken_for filters (a + b) old = append_assoc bytes (taken_for filters a old) (taken_for filters b mid) ∙ ap (λ (more : List ℕ). bytes ++ more) (sym all) in
          let count : length t ≡ need rate (old.book.given + a) * frame_bytes settings = stands.count ∙ ap taken_of g.book in
          let allowed = subst (λ (k : ℕ). old.book.given + a ≤ can rate (whole_frames settings k)) (sym count) (given-allowed rate settings (old.book.given + a) near.ratio) in
          let size_mid : b * size ≡ b * channels_of mid.path.device.mix.layout = ap (λ (device : Device). b * channels_of device.mix.layout) (sym g.device) in
          let back : take (b * size) piece ≡ given_samples d gain settings (bytes ++ taken_for filters (a + b) old) (old.book.given + a) b =
          ap (λ (k : ℕ). take k piece) size_mid ∙ h.samples_are t stands
          ∙ ap (λ (device : Device). given_samples (seen filters device) (map_gain mid.book) mid.book.opening.settings (t ++ taken_for filters b mid) mid.book.given b) g.device
          ∙ ap (λ (book : MapBook). given_samples d (map_gain book) book.opening.settings (t ++ taken_for filters b mid) book.given b) g.book
          ∙ ap (λ (more : List ℕ). given_samples d gain settings more (old.book.given + a) b) whole in
          let front : take (a * size) samples ≡ given_samples d gain settings (bytes ++ taken_for filters (a + b) old) old.book.given a =
          g.samples_are bytes s
          ∙ sym (samples-append d gain settings t (taken_for filters b mid) old.book.given a (planned-fits filters old planned) allowed)
          ∙ ap (λ (more : List ℕ). given_samples d gain settings more old.book.given a) whole in
          front_and_back
          ∙ ap (λ (list : List ℤ). list ++ take (b * size) piece) front
          ∙ ap (λ (list : List ℤ). given_samples d gain settings (bytes ++ taken_for filters (a + b) old) old.book.given a ++ list) back
          ∙ sym (samples-add d gain settings (bytes ++ taken_for filters (a + b) old) old.book.given a b);
    }

-- what was ready is ready still
pub ready-given : {B : Type 0} (kind : B → Kind) (kept : B → Kept) (filters : Filters) (n : ℕ) (old new : MapChannelOf B) (samples : List ℤ) → is_running old.book.state ≡ true → IsMapReady kind kept filters old → MapGives kind kept filters n old new samples → IsMapReady kind kept filters new
ready-given kind kept filters n old new samples running ready g = record {
  kinds = g.kinds ready.kinds;
  planned = λ used. planned-as Map filters _ _ old.path new.path g.device g.plan (ap (λ (book : MapBook). book.opening.settings) g.book) (ready.planned (running-held old.book.state running));
  far = g.far ready.far;
}

-- and its counts have room for the rest
pub counts-left : {B : Type 0} (kind : B → Kind) (kept : B → Kept) (filters : Filters) (done rest n : ℕ) (old mid : MapChannelOf B) (samples : List ℤ) → IsMapPlanned filters old → done + rest ≤ n
    → MapGives kind kept filters done old mid samples → CountsFit filters n old → CountsFit filters rest mid
counts-left kind kept filters done rest n old mid samples planned within g fits =
    let d : DeviceSeen = seen filters old.path.device in
    let rate : Rate = map_rate_at d old.book in
    let few = counts-fewer filters (done + rest) n old planned within fits in
    let same_rate : map_rate_at (seen filters mid.path.device) mid.book ≡ rate =
    ap (λ (device : Device). map_rate_at (seen filters device) mid.book) g.device ∙ ap (λ (book : MapBook). map_rate_at d book) g.book in
    let place : mid.book.given + rest ≡ old.book.given + (done + rest) = omega (arith, ap (λ (book : MapBook). book.given) g.book) in
    let same = ap (λ (r : Rate). need r (mid.book.given + rest) * frame_bytes mid.book.opening.settings) same_rate
    ∙ ap (λ (k : ℕ). need rate k * frame_bytes mid.book.opening.settings) place
    ∙ ap (λ (book : MapBook). need rate (old.book.given + (done + rest)) * frame_bytes book.opening.settings) g.book in
    record { given = omega (arith, few.given, place); taken = omega (arith, few.taken, same) }
