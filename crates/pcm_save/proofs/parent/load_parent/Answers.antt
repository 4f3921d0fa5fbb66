use Rattle.std.proofs.Common.{ℕ, List, ◌++◌, take, drop, sym, ap, ◌∙◌, subst, arith, append_assoc}
use Rattle.std.proofs.lemmas.List.{drop-drop}
use Rattle.pcm_sequence.specs.declared.fixed.Fixed.{Fixed}
use Rattle.pcm_sequence.specs.Fixed.{fixed_items}
use Rattle.pcm_feeder.specs.declared.kind.Kind.{Kind}
use Rattle.pcm_feeder.specs.Filters.{Filters}
use Rattle.pcm_feeder.specs.Kept.{Kept}
use Rattle.pcm_chain.specs.Chains.{marks_in, IsOfKinds}
use Rattle.pcm_bus.specs.declared.bus.BusOf.{BusOf}
use Rattle.pcm_play.specs.declared.channel.PlayChannelOf.{PlayChannelOf}
use Rattle.pcm_record.specs.declared.channel.RecordChannelOf.{RecordChannelOf}
use Rattle.pcm_map.specs.declared.channel.MapChannelOf.{MapChannelOf}
use Rattle.pcm_play.specs.Channels.{IsPlayReady}
use Rattle.pcm_record.specs.Channels.{IsRecordReady}
use Rattle.pcm_map.specs.Channels.{IsMapReady}
use Rattle.pcm_vchan.specs.declared.parent.ParentOf.{ParentOf}
use Rattle.pcm_vchan.specs.Parents.{map_channels, play_channels, record_channels}
use Rattle.pcm_vchan.specs.Racks.{channel_marks}
use Rattle.pcm_state.specs.MapRows.{FitsMap}
use Rattle.pcm_state.specs.MixerRows.{FitsMixer}
use Rattle.pcm_state.specs.PlayRows.{FitsPlay}
use Rattle.pcm_state.specs.RecordRows.{FitsRecord}
use Rattle.pcm_save.specs.Outputs.{output_state, HasLoadedOutput}
use Rattle.pcm_save.specs.Parents.{slots_state, CanSlotsBeLoaded}
use Rattle.pcm_save.specs.States.{devices_of, CanAllBeLoaded}
use Rattle.pcm_save.proofs.Joining.{behind, bus-same, fronts, length-behind, output-same}
use Rattle.pcm_save.proofs.parent.load_parent.Goals as goal

pub returns-clause-loaded : goal.returns-clause-loaded
returns-clause-loaded g c =
    let kept = g.B.Feeder.kept in
    let mark = g.B.Feeder.mark in
    let bytes = c.args.bytes.now in
    let between = c.load_output.new.parent in
    let new = c.load_channels.new.parent in
    let output = c.in_ok-output.ensures.loaded in
    let slots = c.in_ok-slots.ensures.loaded in
    let all = slots.all in
    record {
      within = omega (arith, output.within, slots.within, length-behind bytes c.in_ok-output.output);
      told = fronts bytes c.in_ok-output.output c.in_ok-slots.slots (output_state kept new) (slots_state kept new)
          (output-same kept between new slots.mixer_same slots.ring_same slots.bus_same ∙ output.told)
          (slots.told ∙ ap (take c.in_ok-slots.slots) (behind bytes c.in_ok-output.output));
      all = record {
        playing = record {
          are_ready = all.playing.are_ready;
          devices = all.playing.devices ∙ ap (λ (list : Fixed (PlayChannelOf _)). devices_of (λ channel. channel.path) (fixed_items list)) output.playing_same;
          marks = all.playing.marks ∙ ap (λ (list : Fixed (PlayChannelOf _)). channel_marks (λ channel. channel.path) mark (fixed_items list)) output.playing_same;
        };
        recording = record {
          are_ready = all.recording.are_ready;
          devices = all.recording.devices ∙ ap (λ (list : Fixed (RecordChannelOf _)). devices_of (λ channel. channel.path) (fixed_items list)) output.recording_same;
          marks = all.recording.marks ∙ ap (λ (list : Fixed (RecordChannelOf _)). channel_marks (λ channel. channel.path) mark (fixed_items list)) output.recording_same;
        };
        mapped = record {
          are_ready = all.mapped.are_ready;
          devices = all.mapped.devices ∙ ap (λ (list : Fixed (MapChannelOf _)). devices_of (λ channel. channel.path) (fixed_items list)) output.mapped_same;
          marks = all.mapped.marks ∙ ap (λ (list : Fixed (MapChannelOf _)). channel_marks (λ channel. channel.path) mark (fixed_items list)) output.mapped_same;
        };
      };
      device_same = slots.device_same ∙ output.device_same;
      kinds = subst (λ (bus : BusOf _). IsOfKinds g.B.Feeder.kind bus.chain) (sym slots.bus_same) output.kinds;
      bus_marks = ap (λ (bus : BusOf _). marks_in mark bus.chain) slots.bus_same ∙ output.marks;
      has_bus = bus-same kept c.args.tables.now between new slots.device_same slots.bus_same slots.handed_same slots.mixed_same output.has_bus;
      whole = record { slots = slots.counts; mixer = subst FitsMixer (sym slots.mixer_same) output.mixer };
      handed_is = slots.handed_same ∙ output.handed_is;
    }

-- ---- what was saved is taken

-- the channels that can be loaded into a parent can be loaded into it still when what goes to the device was
slots-still : {B : Type 0} (kind : B → Kind) (kept : B → Kept) (mark : B → ℕ) (filters : Filters) (handed : ℕ) (bytes : List ℕ) (count : ℕ) (saved old new : ParentOf B) → HasLoadedOutput kind kept mark filters handed bytes count old new
    → CanSlotsBeLoaded kind kept filters saved old → CanSlotsBeLoaded kind kept filters saved new
slots-still {B} kind kept mark filters handed bytes count saved old new loaded can = record {
  playing = subst (λ (list : Fixed (PlayChannelOf B)). CanAllBeLoaded (λ channel. channel.path) (IsPlayReady kind kept) (λ channel. FitsPlay channel.book) filters (play_channels saved) (fixed_items list)) (sym loaded.playing_same) can.playing;
  recording = subst (λ (list : Fixed (RecordChannelOf B)). CanAllBeLoaded (λ channel. channel.path) (IsRecordReady kind kept) (λ channel. FitsRecord channel.book) filters (record_channels saved) (fixed_items list)) (sym loaded.recording_same) can.recording;
  mapped = subst (λ (list : Fixed (MapChannelOf B)). CanAllBeLoaded (λ channel. channel.path) (IsMapReady kind kept) (λ channel. FitsMap channel.book) filters (map_channels saved) (fixed_items list)) (sym loaded.mapped_same) can.mapped;
}

pub returns-in_err-output-clause-taken : goal.returns-in_err-output-clause-taken
returns-in_err-output-clause-taken g c = λ saved rest can front.
    absurd (c.in_err-output.ensures.taken saved (slots_state g.B.Feeder.kept saved ++ rest) can.output (front ∙ append_assoc (output_state g.B.Feeder.kept saved) (slots_state g.B.Feeder.kept saved) rest))

pub returns-in_err-slots-clause-taken : goal.returns-in_err-slots-clause-taken
returns-in_err-slots-clause-taken g c = λ saved rest can front.
    let kept = g.B.Feeder.kept in
    let bytes = c.args.bytes.now in
    let left = c.in_ok-output.ensures.taken saved (slots_state kept saved ++ rest) can.output (front ∙ append_assoc (output_state kept saved) (slots_state kept saved) rest) in
    absurd (c.in_err-slots.ensures.taken saved rest
    (slots-still g.B.Feeder.kind kept g.B.Feeder.mark c.args.tables.now c.args.handed bytes c.in_ok-output.output saved c.args.parent.now c.load_output.new.parent c.in_ok-output.ensures.loaded can.slots)
    (behind bytes c.in_ok-output.output ∙ left))

pub returns-clause-taken : goal.returns-clause-taken
returns-clause-taken g c = λ saved rest can front.
    let kept = g.B.Feeder.kept in
    let bytes = c.args.bytes.now in
    let at = c.in_ok-output.output in
    let left = c.in_ok-output.ensures.taken saved (slots_state kept saved ++ rest) can.output (front ∙ append_assoc (output_state kept saved) (slots_state kept saved) rest) in
    sym (drop-drop c.in_ok-slots.slots at bytes) ∙ ap (drop c.in_ok-slots.slots) (sym (behind bytes at))
    ∙ c.in_ok-slots.ensures.taken saved rest
    (slots-still g.B.Feeder.kind kept g.B.Feeder.mark c.args.tables.now c.args.handed bytes at saved c.args.parent.now c.load_output.new.parent c.in_ok-output.ensures.loaded can.slots)
    (behind bytes at ∙ left)
