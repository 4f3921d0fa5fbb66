-- The device's frames, while the story goes on.
use Rattle.std.proofs.Common.{◌≡◌, ℕ, suc, zero, ◌+◌, ◌-◌, ◌*◌, ◌<◌, List, [], ◌∷◌, ◌++◌, length, get_or, map, take, replicate, Option, Some, None, ℤ, pos, refl, sym, ap, ◌∙◌, arith, All, length-append, append_assoc, zero-add, fold}
use Rattle.std.specs.Prelude.{◌≢◌, IfSome, find, option_map}
use Rattle.std.proofs.Math.Seq.{take-append-add}
use Rattle.std.specs.List.{range_with_len, flat_map}
use Rattle.std.proofs.lemmas.List.{take_all, length-map, length-replicate}
use Rattle.std.proofs.lemmas.List.Concat.{flat_map-append}
use Rattle.std.proofs.lemmas.List.Sums.{fold-append}
use Rattle.std.proofs.lemmas.List.FromFn.{length-range_with_len}
use Rattle.std.proofs.lemmas.List.Elements.{All-head, All-tail, All-append, All-replicate, All-map}
use Rattle.pcm_format.specs.declared.layout.Layout.{Layout}
use Rattle.pcm_format.specs.declared.settings.Settings.{Settings}
use Rattle.pcm_format.specs.declared.format.Format.{Format}
use Rattle.pcm_oss.specs.declared.event.Event.{Event}
use Rattle.pcm_oss.specs.declared.event.Event.TheVariants.{Intr}
use Rattle.pcm_wave.specs.declared.pool.Pool.{Pool}
use Rattle.pcm_format.specs.Formats.{bits_of, bytes_of}
use Rattle.pcm_format.specs.Layouts.{channels_of}
use Rattle.pcm_format.specs.Samples.{at_full, spelled}
use Rattle.pcm_format.specs.Frames.{Frame, frame_at, frames, whole_frames, spelled_frame, spelled_frames}
use Rattle.pcm_format.proofs.Ranges.{map-range-add, map-range-same, range-add}
use Rattle.pcm_format.proofs.Streams.{length-frame_at}
use Rattle.pcm_format.proofs.Spelling.{length-flat_map-spelled}
use Rattle.pcm_feeder.specs.declared.stage.Gain.{Gain}
use Rattle.pcm_feeder.specs.Filters.{Filters}
use Rattle.pcm_feeder.specs.Layouts.{at_gain, unity}
use Rattle.pcm_feeder.specs.Streams.{HaveChannels, interleaved}
use Rattle.pcm_rate.proofs.Counts.{can-greatest}
use Rattle.pcm_feeder.specs.Limits.{IsRate}
use Rattle.pcm_mix.proofs.Blocks.{length-mixed}
use Rattle.pcm_mixdev.specs.Mixers.{master_gain, slot_gain}
use Rattle.pcm_feeder.proofs.FadedFrames.{length-at_gain}
use Rattle.pcm_desk.specs.Device.{DeviceSeen, IsDevice, device_frame_bytes, device_settings, device_filters, full_frame, mix_settings, mixed_for, parent_plan, mixed_slots, parent_rate, play_plan_between, ring_frames}
use Rattle.pcm_desk.specs.Channels.{mixed_by}
use Rattle.pcm_desk.specs.Desk.{after}
use Rattle.pcm_plan.specs.Plans.{PlanSeen}
use Rattle.pcm_plan.specs.Through.{recs}
use Rattle.pcm_plan.proofs.Through.{length-out, length-outs, outs-add, outs-append, outs-channels}
use Rattle.pcm_desk.proofs.Ratios.{mixed-behind, parent-plan-fits, parent-ratio, plan-between-fits}
use Rattle.pcm_sound.specs.Given.{given_frame}
use Rattle.pcm_sound.specs.Gains.{Faders, last_gain, master_gain_at, slot_gain_at}
use Rattle.pcm_sound.specs.Runs.{Run, Piece, covers, run_frames, piece_frame, first_of, sounding}
use Rattle.pcm_sound.specs.Story.{Story, mixed_gains, mixed_runs, told}
use Rattle.pcm_sound.specs.Mix.{Table, adding, mix_of}
use Rattle.pcm_sound.specs.DeviceList.{table_of, silence_in, faded_table, sum_at, mix_at, mixed_frames, device_frames, device_list, device_bytes, device_body}
use Rattle.pcm_sound.specs.Valid.{HasRate, StoryIsValid}
use Rattle.pcm_sound.proofs.Numbers.{by-number}
use Rattle.pcm_sound.proofs.Sounding.{fader-later}
use Rattle.pcm_sound.proofs.Stories.{table_of-told}

pub fold-same : {A B : Type 0} (f g : B → A → B) (start : B) (xs : List A) → ((b : B) (x : A) → f b x ≡ g b x) → fold f start xs ≡ fold g start xs
fold-same f g start [] h = refl
fold-same f g start (x ∷ xs) h = rw (h start x) (fold-same f g (g start x) xs h)

-- tables that agree at a position have one mix there
pub mix_of-same : (bits : ℕ) (silent : Frame) (a b : Table) (slots position : ℕ) → ((slot : ℕ) → a slot position ≡ b slot position) → mix_of bits silent a slots position ≡ mix_of bits silent b slots position
mix_of-same bits silent a b slots position h =
    fold-same (λ sum slot. adding bits sum (a slot position)) (λ sum slot. adding bits sum (b slot position)) silent (range_with_len 0 slots) (λ sum slot. ap (adding bits sum) (h slot))

-- one slot more
pub mix_of-more : (bits : ℕ) (silent : Frame) (table : Table) (slots position : ℕ) → mix_of bits silent table (slots + 1) position ≡ adding bits (mix_of bits silent table slots position) (table slots position)
mix_of-more bits silent table slots position =
    ap (fold (λ (sum : Frame) (slot : ℕ). adding bits sum (table slot position)) silent) (range-add 0 slots 1 ∙ ap (λ a. range_with_len 0 slots ++ a ∷ []) (zero-add slots))
    ∙ fold-append (λ (sum : Frame) (slot : ℕ). adding bits sum (table slot position)) silent (range_with_len 0 slots) (slots ∷ [])

-- two mixes are alike before a position: each slot gives the same at its gain, and the gain of all that is mixed is the same
pub record MixAlike (device : DeviceSeen) (until : ℕ) (one : Faders) (a : Table) (other : Faders) (b : Table) : Type 0 where
  pub slots : (slot position : ℕ) → position < until → faded_table device one a slot position ≡ faded_table device other b slot position
  pub master : (position : ℕ) → position < until → master_gain_at one position ≡ master_gain_at other position

-- a slot gives the same at its gain where it gives the same, and its gain is the same where it gives a frame
pub faded_table-same : (device : DeviceSeen) (one other : Faders) (a b : Table) (slot position : ℕ) → a slot position ≡ b slot position → (a slot position ≢ None → slot_gain_at one slot position ≡ slot_gain_at other slot position)
    → faded_table device one a slot position ≡ faded_table device other b slot position
faded_table-same device one other a b slot position same gains =
    at (a slot position) gains ∙ ap (option_map (at_gain (mix_settings device).layout (slot_gain_at other slot position))) same
  where
    at : (given : Option Frame) → (given ≢ None → slot_gain_at one slot position ≡ slot_gain_at other slot position)
        → option_map (at_gain (mix_settings device).layout (slot_gain_at one slot position)) given ≡ option_map (at_gain (mix_settings device).layout (slot_gain_at other slot position)) given
    at None gains = refl
    at (Some frame) gains = ap (λ (gain : Gain). Some (at_gain (mix_settings device).layout gain frame)) (gains (λ e. cc))

-- tables that agree are alike at the same gains
pub tables-alike : (device : DeviceSeen) (until : ℕ) (faders : Faders) (a b : Table) → ((slot position : ℕ) → position < until → a slot position ≡ b slot position) → MixAlike device until faders a faders b
tables-alike device until faders a b same = record {
  slots = λ slot position l. faded_table-same device faders faders a b slot position (same slot position l) (λ some. refl);
  master = λ position l. refl;
}

-- what is alike is mixed alike
pub mix_at-same : (device : DeviceSeen) (until : ℕ) (one : Faders) (a : Table) (other : Faders) (b : Table) (position : ℕ) → MixAlike device until one a other b → position < until → mix_at device one a position ≡ mix_at device other b position
mix_at-same device until one a other b position alike l =
    let layout : Layout = (mix_settings device).layout in
    ap (λ (gain : Gain). at_gain layout gain (sum_at device (faded_table device one a) position)) (alike.master position l)
    ∙ ap (at_gain layout (master_gain_at other position))
    (mix_of-same (bits_of (mix_settings device).format) (silence_in (mix_settings device)) (faded_table device one a) (faded_table device other b) (mixed_slots device) position (λ slot. alike.slots slot position l))

pub mixed_frames-same : (device : DeviceSeen) (one : Faders) (a : Table) (other : Faders) (b : Table) (count : ℕ) → MixAlike device count one a other b
    → mixed_frames device (mix_at device one a) count ≡ mixed_frames device (mix_at device other b) count
mixed_frames-same device one a other b count alike =
    map-range-same (λ position. full_frame device (mix_at device one a position)) (λ position. full_frame device (mix_at device other b position)) count
    (λ position l. ap (full_frame device) (mix_at-same device count one a other b position alike l))

-- the frames that were mixed stay as they were, and so does what was made of them
pub device_list-same : (device : DeviceSeen) (one : Faders) (a : Table) (other : Faders) (b : Table) (handed : ℕ) → MixAlike device (mixed_for device handed) one a other b → device_list device one a handed ≡ device_list device other b handed
device_list-same device one a other b handed alike =
    ap (λ mixed. replicate (ring_frames device) (silence_in (device_settings device)) ++ recs (parent_plan device) (device_filters device) mixed 0 handed) (mixed_frames-same device one a other b (mixed_for device handed) alike)

-- more of the mix
pub mixed_frames-more : (device : DeviceSeen) (mix : ℕ → Frame) (count n : ℕ) → mixed_frames device mix (count + n) ≡ mixed_frames device mix count ++ map (λ position. full_frame device (mix position)) (range_with_len count n)
mixed_frames-more device mix count n =
    map-range-add (λ position. full_frame device (mix position)) 0 count n
    ∙ ap (λ from. mixed_frames device mix count ++ map (λ position. full_frame device (mix position)) (range_with_len from n)) (zero-add count)

pub length-mixed_frames : (device : DeviceSeen) (mix : ℕ → Frame) (count : ℕ) → length (mixed_frames device mix count) ≡ count
length-mixed_frames device mix count = length-map (range_with_len 0 count) (λ position. full_frame device (mix position)) ∙ length-range_with_len 0 count

-- what was made of the mix stays when more is mixed
device_frames-later : (device : DeviceSeen) (mix : ℕ → Frame) (handed n : ℕ) → IsDevice device → device_frames device mix (handed + n) 0 handed ≡ device_frames device mix handed 0 handed
device_frames-later device mix handed n d =
    let plan : PlanSeen = parent_plan device in
    let tables : Filters = device_filters device in
    let count : ℕ = mixed_for device handed in
    let q : ℕ = mixed_by device handed n in
    let front : List Frame = mixed_frames device mix count in
    let more : List Frame = map (λ position. full_frame device (mix position)) (range_with_len count q) in
    let ratio = parent-ratio device d in
    let allowed = (can-greatest (parent_rate device) ratio.src ratio.dst handed (length front)).0 (let is = length-mixed_frames device mix count in omega (arith, is)) in
    ap (λ k. recs plan tables (mixed_frames device mix k) 0 handed) (sym (mixed-behind device handed n d))
    ∙ ap (λ list. recs plan tables list 0 handed) (mixed_frames-more device mix count q)
    ∙ outs-append plan tables unity front more 0 handed (parent-plan-fits device d) (omega (arith, allowed))

-- the device is given more frames
pub device_list-more : (device : DeviceSeen) (faders : Faders) (table : Table) (handed n : ℕ) → IsDevice device
    → device_list device faders table (handed + n) ≡ device_list device faders table handed ++ device_frames device (mix_at device faders table) (handed + n) handed n
device_list-more device faders table handed n d =
    let silent : List Frame = replicate (ring_frames device) (silence_in (device_settings device)) in
    let mix : ℕ → Frame = mix_at device faders table in
    let behind : List Frame = device_frames device mix (handed + n) handed n in
    ap (λ list. silent ++ list)
    (outs-add (parent_plan device) (device_filters device) unity (mixed_frames device mix (mixed_for device (handed + n))) 0 handed n
    ∙ ap (λ from. device_frames device mix (handed + n) 0 handed ++ device_frames device mix (handed + n) from n) (zero-add handed)
    ∙ ap (λ list. list ++ behind) (device_frames-later device mix handed n d))
    ∙ sym (append_assoc silent (device_frames device mix handed 0 handed) behind)

length-silence : (settings : Settings) → length (silence_in settings) ≡ channels_of settings.layout
length-silence settings = length-replicate (channels_of settings.layout) (pos 0)

-- each whole frame of a client's bytes has the client's channels
pub frames-channels : (settings : Settings) (bytes : List ℕ) → HaveChannels (channels_of settings.layout) (frames settings bytes)
frames-channels settings bytes =
    let count : ℕ = whole_frames settings (length bytes) in
    All-map (λ (frame : Frame). length frame ≡ channels_of settings.layout) (frame_at settings bytes) (range_with_len 0 count)
    (λ k d l. length-frame_at settings bytes (get_or (range_with_len 0 count) k d))

-- a frame has the channels of the mix
abbrev pub IsMixedFrame : DeviceSeen → Frame → Type 0
IsMixedFrame device frame = length frame ≡ channels_of (mix_settings device).layout

-- what a client's frames give is a frame of the mix
pub length-given_frame : (device : DeviceSeen) (settings : Settings) (bytes : List ℕ) (k : ℕ) (gain : Gain) → IsDevice device → IsRate settings.rate → IsMixedFrame device (given_frame device settings (frames settings bytes) k gain)
length-given_frame device settings bytes k gain d s =
    length-out (play_plan_between device settings) (device_filters device) (frames settings bytes) k gain (plan-between-fits device settings d s) (frames-channels settings bytes)

piece_frame-frame : (device : DeviceSeen) (gain : Gain) (settings : Settings) (bytes : List ℕ) (position : ℕ) (found : Option Piece) → IsDevice device → IsRate settings.rate
    → IfSome (piece_frame device gain settings (frames settings bytes) position found) (IsMixedFrame device)
piece_frame-frame device gain settings bytes position None d s = tt
piece_frame-frame device gain settings bytes position (Some piece) d s = length-given_frame device settings bytes (piece.index + (position - piece.position)) gain d s

first_of-either : (P : Frame → Type 0) (a b : Option Frame) → IfSome a P → IfSome b P → IfSome (first_of a b) P
first_of-either P None b p q = q
first_of-either P (Some frame) b p q = p

-- what a slot gives is a frame of the mix
pub sounding-frame : (device : DeviceSeen) (gain : Gain) (runs : List Run) (position : ℕ) → IsDevice device → All HasRate runs → IfSome (sounding device gain runs position) (IsMixedFrame device)
sounding-frame device gain [] position d own = tt
sounding-frame device gain (run ∷ runs) position d own =
    first_of-either (IsMixedFrame device) (piece_frame device gain run.settings (run_frames run) position (find (covers position) run.pieces)) (sounding device gain runs position)
    (piece_frame-frame device gain run.settings run.bytes position (find (covers position) run.pieces) d (All-head HasRate run runs own))
    (sounding-frame device gain runs position d (All-tail HasRate run runs own))

adding-frame : (device : DeviceSeen) (bits : ℕ) (sum : Frame) (given : Option Frame) → IsMixedFrame device sum → IfSome given (IsMixedFrame device) → IsMixedFrame device (adding bits sum given)
adding-frame device bits sum None s g = s
adding-frame device bits sum (Some frame) s g = length-mixed bits sum frame (s ∙ sym g) ∙ s

fold-frame : (device : DeviceSeen) (bits : ℕ) (table : Table) (position : ℕ) (sum : Frame) (slots : List ℕ) → IsMixedFrame device sum → ((slot : ℕ) → IfSome (table slot position) (IsMixedFrame device))
    → IsMixedFrame device (fold (λ s slot. adding bits s (table slot position)) sum slots)
fold-frame device bits table position sum [] s g = s
fold-frame device bits table position sum (slot ∷ slots) s g = fold-frame device bits table position (adding bits sum (table slot position)) slots (adding-frame device bits sum (table slot position) s (g slot)) g

-- the mix of some slots is one
pub mix_of-frame : (device : DeviceSeen) (bits : ℕ) (table : Table) (slots position : ℕ) → ((slot : ℕ) → IfSome (table slot position) (IsMixedFrame device)) → IsMixedFrame device (mix_of bits (silence_in (mix_settings device)) table slots position)
mix_of-frame device bits table slots position g = fold-frame device bits table position (silence_in (mix_settings device)) (range_with_len 0 slots) (length-silence (mix_settings device)) g

-- a slot gives a frame of the mix at its gain too
pub faded-frame : (device : DeviceSeen) (gain : Gain) (given : Option Frame) → IfSome given (IsMixedFrame device) → IfSome (option_map (at_gain (mix_settings device).layout gain) given) (IsMixedFrame device)
faded-frame device gain None is = tt
faded-frame device gain (Some frame) is = length-at_gain (mix_settings device).layout gain frame is

-- and so is the mix of a table
pub mix_at-frame : (device : DeviceSeen) (faders : Faders) (table : Table) (position : ℕ) → ((slot : ℕ) → IfSome (table slot position) (IsMixedFrame device)) → IsMixedFrame device (mix_at device faders table position)
mix_at-frame device faders table position g =
    let all : Table = faded_table device faders table in
    length-at_gain (mix_settings device).layout (master_gain_at faders position) (sum_at device all position)
    (mix_of-frame device (bits_of (mix_settings device).format) all (mixed_slots device) position (λ slot. faded-frame device (slot_gain_at faders slot position) (table slot position) (g slot)))

-- a frame has the channels of the device
abbrev pub IsDeviceFrame : DeviceSeen → Frame → Type 0
IsDeviceFrame device frame = length frame ≡ channels_of (device_settings device).layout

-- the frames of a mix have its channels
pub mixed_frames-frames : (device : DeviceSeen) (faders : Faders) (table : Table) (count : ℕ) → ((slot position : ℕ) → IfSome (table slot position) (IsMixedFrame device)) → All (IsMixedFrame device) (mixed_frames device (mix_at device faders table) count)
mixed_frames-frames device faders table count g =
    All-map (IsMixedFrame device) (λ position. full_frame device (mix_at device faders table position)) (range_with_len 0 count)
    (λ k d l. (let position : ℕ = get_or (range_with_len 0 count) k d in
    length-map (mix_at device faders table position) (at_full (bits_of (mix_settings device).format))
    ∙ mix_at-frame device faders table position (λ slot. g slot position)))

-- and what is made of them those of the device
pub device_list-frames : (device : DeviceSeen) (faders : Faders) (table : Table) (handed : ℕ) → IsDevice device → ((slot position : ℕ) → IfSome (table slot position) (IsMixedFrame device)) → All (IsDeviceFrame device) (device_list device faders table handed)
device_list-frames device faders table handed d g =
    let mixed : List Frame = mixed_frames device (mix_at device faders table) (mixed_for device handed) in
    All-append (IsDeviceFrame device) (replicate (ring_frames device) (silence_in (device_settings device))) (device_frames device (mix_at device faders table) handed 0 handed)
    (All-replicate (IsDeviceFrame device) (ring_frames device) (silence_in (device_settings device)) (length-silence (device_settings device)))
    (outs-channels (parent_plan device) (device_filters device) unity mixed 0 handed (parent-plan-fits device d) (mixed_frames-frames device faders table (mixed_for device handed) g))

pub length-device_list : (device : DeviceSeen) (faders : Faders) (table : Table) (handed : ℕ) → length (device_list device faders table handed) ≡ ring_frames device + handed
length-device_list device faders table handed =
    let silent : List Frame = replicate (ring_frames device) (silence_in (device_settings device)) in
    let ring = length-replicate (ring_frames device) (silence_in (device_settings device)) in
    let made = length-outs (parent_plan device) (device_filters device) unity (mixed_frames device (mix_at device faders table) (mixed_for device handed)) 0 handed in
    length-append silent (device_frames device (mix_at device faders table) handed 0 handed) ∙ omega (arith, ring, made)

length-spelled_frame : (device : DeviceSeen) (frame : Frame) → IsDeviceFrame device frame → length (spelled_frame (device_settings device).format frame) ≡ device_frame_bytes device
length-spelled_frame device frame h =
    length-flat_map-spelled (device_settings device).format frame
    ∙ ap (λ n. n * bytes_of (device_settings device).format) h

-- the bytes of the device's frames
pub length-spelled_frames : (device : DeviceSeen) (list : List Frame) → All (IsDeviceFrame device) list → length (spelled_frames (device_settings device).format list) ≡ length list * device_frame_bytes device
length-spelled_frames device [] v = omega arith
length-spelled_frames device (frame ∷ list) v =
    let here = length-spelled_frame device frame (All-head (IsDeviceFrame device) frame list v) in
    let rest = length-spelled_frames device list (All-tail (IsDeviceFrame device) frame list v) in
    omega (arith, length-append (spelled_frame (device_settings device).format frame) (spelled_frames (device_settings device).format list))

-- the first frames are the first bytes
pub spelled_frames-take : (device : DeviceSeen) (n : ℕ) (list : List Frame) → All (IsDeviceFrame device) list → spelled_frames (device_settings device).format (take n list) ≡ take (n * device_frame_bytes device) (spelled_frames (device_settings device).format list)
spelled_frames-take device zero list v = let none : 0 * device_frame_bytes device ≡ 0 = omega arith in rw none refl
spelled_frames-take device (suc n) [] v = sym (take_all (suc n * device_frame_bytes device) [] (omega arith))
spelled_frames-take device (suc n) (frame ∷ list) v =
    let first : List ℕ = spelled_frame (device_settings device).format frame in
    let rest : List ℕ = spelled_frames (device_settings device).format list in
    let size = length-spelled_frame device frame (All-head (IsDeviceFrame device) frame list v) in
    let count : suc n * device_frame_bytes device ≡ length first + n * device_frame_bytes device = omega arith in
    ap (λ bytes. first ++ bytes) (spelled_frames-take device n list (All-tail (IsDeviceFrame device) frame list v))
    ∙ sym (take-append-add first rest (n * device_frame_bytes device))
    ∙ ap (λ bytes. take bytes (first ++ rest)) (sym count)

-- the bytes of frames are those of their samples
spelled_frames-joined : (format : Format) (list : List Frame) → spelled_frames format list ≡ flat_map (spelled format) (interleaved list)
spelled_frames-joined format [] = refl
spelled_frames-joined format (frame ∷ list) =
    ap (λ bytes. flat_map (spelled format) frame ++ bytes) (spelled_frames-joined format list)
    ∙ sym (flat_map-append (spelled format) frame (interleaved list))

pub table-frames : (device : DeviceSeen) (story : Story) → StoryIsValid device story → (slot position : ℕ) → IfSome (table_of device story slot position) (IsMixedFrame device)
table-frames device story v slot position =
    sounding-frame device (last_gain (mixed_gains device story slot) position) (mixed_runs device story slot) position v.limits
    (by-number (All HasRate) device story.runs story.map_runs slot (λ at. (v.slots at).own) (λ at. (v.maps at).own))

-- how long they are
pub length-device_bytes : (device : DeviceSeen) (story : Story) → StoryIsValid device story → length (device_bytes device story) ≡ ((ring_frames device) + story.desk.handed) * device_frame_bytes device
length-device_bytes device story v =
    length-spelled_frames device (device_list device story.faders (table_of device story) story.desk.handed) (device_list-frames device story.faders (table_of device story) story.desk.handed v.limits (table-frames device story v))
    ∙ ap (λ n. n * device_frame_bytes device) (length-device_list device story.faders (table_of device story) story.desk.handed)

-- what the device has been given is the front of them
pub device_body-bytes : (device : DeviceSeen) (story : Story) → StoryIsValid device story → device_body device story ≡ take (story.desk.handed * device_frame_bytes device) (device_bytes device story)
device_body-bytes device story v =
    spelled_frames-take device story.desk.handed (device_list device story.faders (table_of device story) story.desk.handed)
    (device_list-frames device story.faders (table_of device story) story.desk.handed v.limits (table-frames device story v))

-- the mix of a story, by position
abbrev pub mix_in : DeviceSeen → Story → ℕ → Frame
mix_in device story = mix_at device story.faders (table_of device story)

-- the new frames of an interrupt, joined
abbrev pub new_block : DeviceSeen → Pool → Story → ℕ → List ℤ
new_block device pool story n =
    interleaved (device_frames device (mix_in device (told device pool story (Intr n))) (story.desk.handed + n) story.desk.handed n)

-- a fader that is set by an event counts at no position of the past
pub slot_gain-told : (device : DeviceSeen) (pool : Pool) (story : Story) (event : Event) (slot position : ℕ) → position < story.desk.mixed
    → slot_gain_at (told device pool story event).faders slot position ≡ slot_gain_at story.faders slot position
slot_gain-told device pool story event slot position l =
    fader-later story.desk.mixed position (slot_gain story.desk.mixer slot) (slot_gain (after device story.desk event).desk.mixer slot) (story.faders.slots slot) l

pub master_gain-told : (device : DeviceSeen) (pool : Pool) (story : Story) (event : Event) (position : ℕ) → position < story.desk.mixed
    → master_gain_at (told device pool story event).faders position ≡ master_gain_at story.faders position
master_gain-told device pool story event position l =
    fader-later story.desk.mixed position (master_gain story.desk.mixer) (master_gain (after device story.desk event).desk.mixer) story.faders.master l

-- the mixes before and after an event are alike where it was mixed before
agree-before : (device : DeviceSeen) (pool : Pool) (story : Story) (event : Event) → StoryIsValid device story
    → let new : Story = told device pool story event in MixAlike device (mixed_for device story.desk.handed) new.faders (table_of device new) story.faders (table_of device story)
agree-before device pool story event v =
    let new : Story = told device pool story event in
    let level = v.mixed in
    record {
      slots = λ slot position l. faded_table-same device new.faders story.faders (table_of device new) (table_of device story) slot position
          (table_of-told device pool story event slot position v (omega (arith, level, l))) (λ some. slot_gain-told device pool story event slot position (omega (arith, level, l)));
      master = λ position l. master_gain-told device pool story event position (omega (arith, level, l));
    }

-- what is mixed stays as it was
pub mixed_frames-told : (device : DeviceSeen) (pool : Pool) (story : Story) (event : Event) → StoryIsValid device story
    → mixed_frames device (mix_in device (told device pool story event)) (mixed_for device story.desk.handed) ≡ mixed_frames device (mix_in device story) (mixed_for device story.desk.handed)
mixed_frames-told device pool story event v =
    let new : Story = told device pool story event in
    mixed_frames-same device new.faders (table_of device new) story.faders (table_of device story) (mixed_for device story.desk.handed) (agree-before device pool story event v)

-- an interrupt makes its frames after those that were made before
pub device_bytes-interrupt : (device : DeviceSeen) (pool : Pool) (story : Story) (n : ℕ) → StoryIsValid device story
    → device_bytes device (told device pool story (Intr n)) ≡ device_bytes device story ++ flat_map (spelled (device_settings device).format) (new_block device pool story n)
device_bytes-interrupt device pool story n v =
    let format : Format = (device_settings device).format in
    let new : Story = told device pool story (Intr n) in
    let handed : ℕ = story.desk.handed in
    let behind : List Frame = device_frames device (mix_in device new) (handed + n) handed n in
    ap (spelled_frames format)
    (device_list-more device new.faders (table_of device new) handed n v.limits
    ∙ ap (λ list. list ++ behind) (device_list-same device new.faders (table_of device new) story.faders (table_of device story) handed (agree-before device pool story (Intr n) v)))
    ∙ flat_map-append (spelled_frame format) (device_list device story.faders (table_of device story) handed) behind
    ∙ ap (λ bytes. device_bytes device story ++ bytes) (spelled_frames-joined format behind)

-- every other event leaves them
pub device_bytes-same : (device : DeviceSeen) (pool : Pool) (story : Story) (event : Event) → StoryIsValid device story → (told device pool story event).desk.handed ≡ story.desk.handed
    → device_bytes device (told device pool story event) ≡ device_bytes device story
device_bytes-same device pool story event v e =
    let new : Story = told device pool story event in
    ap (λ count. spelled_frames (device_settings device).format (device_list device new.faders (table_of device new) count)) e
    ∙ ap (spelled_frames (device_settings device).format)
    (device_list-same device new.faders (table_of device new) story.faders (table_of device story) story.desk.handed (agree-before device pool story event v))
