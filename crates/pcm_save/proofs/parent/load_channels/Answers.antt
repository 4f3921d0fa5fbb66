use Rattle.std.proofs.Common.{◌≡◌, ℕ, ◌+◌, ◌-◌, List, ◌++◌, length, take, drop, refl, sym, ap, ◌∙◌, arith, append_assoc}
use Rattle.std.specs.List.{flat_map}
use Rattle.std.proofs.lemmas.List.{drop-drop}
use Rattle.pcm_feeder.specs.Kept.{Kept}
use Rattle.pcm_vchan.specs.declared.parent.ParentOf.{ParentOf}
use Rattle.pcm_vchan.specs.Parents.{map_channels, play_channels, record_channels}
use Rattle.pcm_sequence.specs.Fixed.{fixed_items}
use Rattle.pcm_save.specs.Mapping.{map_state}
use Rattle.pcm_save.specs.Parents.{slots_state}
use Rattle.pcm_save.specs.Playing.{play_state}
use Rattle.pcm_save.specs.Recording.{record_state}
use Rattle.pcm_save.proofs.Joining.{behind, fronts, length-behind}
use Rattle.pcm_save.proofs.parent.load_channels.Goals as goal

pub returns-clause-loaded : goal.returns-clause-loaded
returns-clause-loaded g c =
    let kept = g.B.Feeder.kept in
    let bytes = c.args.bytes.now in
    let p = c.in_ok-playing.playing in
    let r = c.in_ok-recording.recording in
    let m = c.in_ok-mapped.mapped in
    let playing = c.in_ok-playing.ensures in
    let recording = c.in_ok-recording.ensures in
    let mapped = c.in_ok-mapped.ensures in
    let rest = take (length bytes - p) (drop p bytes) in
    let recorded = flat_map (record_state kept) (fixed_items c.load_slots-2.new.channels) in
    let maps = flat_map (map_state kept) (fixed_items c.load_slots-3.new.channels) in
    record {
      within = omega (arith, playing.loaded.within, recording.loaded.within, mapped.loaded.within, length-behind bytes p, length-behind rest r);
      told = fronts bytes p (r + m) (flat_map (play_state kept) (fixed_items c.load_slots.new.channels)) (recorded ++ maps) playing.loaded.told
          (fronts (drop p bytes) r m recorded maps (recording.loaded.told ∙ ap (take r) (behind bytes p)) (mapped.loaded.told ∙ ap (take m) (behind rest r ∙ ap (drop r) (behind bytes p))));
      all = record {
        playing = record { are_ready = playing.loaded.are_ready; devices = playing.loaded.devices; marks = playing.loaded.marks };
        recording = record { are_ready = recording.loaded.are_ready; devices = recording.loaded.devices; marks = recording.loaded.marks };
        mapped = record { are_ready = mapped.loaded.are_ready; devices = mapped.loaded.devices; marks = mapped.loaded.marks };
      };
      device_same = refl;
      mixer_same = refl;
      bus_same = refl;
      ring_same = refl;
      counts = record {
        playing = playing.count ∙ playing.len ∙ c.args.parent.now.slots;
        recording = recording.count ∙ recording.len ∙ c.args.parent.now.recorders_count;
        mapped = mapped.count ∙ mapped.len ∙ c.args.parent.now.maps_count;
      };
      handed_same = refl;
      mixed_same = refl;
    }

-- ---- what was saved is taken

-- the states of those that play come first, then of those that record, then of the mapped ones
slots-front : {B : Type 0} (kept : B → Kept) (saved : ParentOf B) (bytes rest : List ℕ) → bytes ≡ slots_state kept saved ++ rest
    → bytes ≡ flat_map (play_state kept) (play_channels saved) ++ (flat_map (record_state kept) (record_channels saved) ++ (flat_map (map_state kept) (map_channels saved) ++ rest))
slots-front kept saved bytes rest front =
    let plays = flat_map (play_state kept) (play_channels saved) in
    let records = flat_map (record_state kept) (record_channels saved) in
    let maps = flat_map (map_state kept) (map_channels saved) in
    front ∙ append_assoc plays (records ++ maps) rest ∙ ap (λ l. plays ++ l) (append_assoc records maps rest)

pub returns-in_err-playing-clause-taken : goal.returns-in_err-playing-clause-taken
returns-in_err-playing-clause-taken g c = λ saved rest can front.
    absurd (c.in_err-playing.ensures.taken (play_channels saved) _ can.playing (slots-front g.B.Feeder.kept saved c.args.bytes.now rest front))

pub returns-in_err-recording-clause-taken : goal.returns-in_err-recording-clause-taken
returns-in_err-recording-clause-taken g c = λ saved rest can front.
    let bytes = c.args.bytes.now in
    let played = c.in_ok-playing.ensures.taken (play_channels saved) _ can.playing (slots-front g.B.Feeder.kept saved bytes rest front) in
    absurd (c.in_err-recording.ensures.taken (record_channels saved) _ can.recording (behind bytes c.in_ok-playing.playing ∙ played))

pub returns-in_err-mapped-clause-taken : goal.returns-in_err-mapped-clause-taken
returns-in_err-mapped-clause-taken g c = λ saved rest can front.
    let bytes = c.args.bytes.now in
    let played = c.in_ok-playing.ensures.taken (play_channels saved) _ can.playing (slots-front g.B.Feeder.kept saved bytes rest front) in
    let left = take (length bytes - c.in_ok-playing.playing) (drop c.in_ok-playing.playing bytes) in
    let recorded = c.in_ok-recording.ensures.taken (record_channels saved) _ can.recording (behind bytes c.in_ok-playing.playing ∙ played) in
    absurd (c.in_err-mapped.ensures.taken (map_channels saved) rest can.mapped (behind left c.in_ok-recording.recording ∙ recorded))

pub returns-clause-taken : goal.returns-clause-taken
returns-clause-taken g c = λ saved rest can front.
    let bytes = c.args.bytes.now in
    let p = c.in_ok-playing.playing in
    let r = c.in_ok-recording.recording in
    let m = c.in_ok-mapped.mapped in
    let played = c.in_ok-playing.ensures.taken (play_channels saved) _ can.playing (slots-front g.B.Feeder.kept saved bytes rest front) in
    let left = take (length bytes - p) (drop p bytes) in
    let recorded = c.in_ok-recording.ensures.taken (record_channels saved) _ can.recording (behind bytes p ∙ played) in
    let mapped = c.in_ok-mapped.ensures.taken (map_channels saved) rest can.mapped (behind left r ∙ recorded) in
    sym (drop-drop (r + m) p bytes) ∙ sym (drop-drop m r (drop p bytes)) ∙ ap (λ l. drop m (drop r l)) (sym (behind bytes p)) ∙ ap (drop m) (sym (behind left r)) ∙ mapped
