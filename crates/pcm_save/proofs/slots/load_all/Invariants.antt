use Rattle.std.proofs.Common.{◌≡◌, ◌≤◌, ℕ, List, ◌++◌, length, take, drop, get_or, All}
use Rattle.std.specs.List.{flat_map}
use Rattle.pcm_save.specs.States.{devices_of, CanAllBeLoaded}
use Rattle.pcm_vchan.specs.Racks.{channel_marks}
use Rattle.pcm_chain.specs.declared.past.TheConstants.{PAST_SAMPLES}
use Rattle.pcm_save.proofs.slots.load_all.Given as goal

-- The channels below the index go on as the bytes before a place tell, and the others are as they were. Where the bytes are states that can be
-- loaded, those from the index on are behind the place.
abbrev pub invariant-loop-slot : goal.invariant-loop-slot
invariant-loop-slot g l = record {
  len : length l.channels ≡ length l.fn.channels;
  room : PAST_SAMPLES ≤ length l.past;
  within : l.at ≤ length l.bytes;
  told : flat_map g.C.Saved.state (take l.slot l.channels) ≡ take l.at l.bytes;
  ready : All (g.C.Saved.ready l.tables) (take l.slot l.channels);
  devices : devices_of g.C.Channel.path l.channels ≡ devices_of g.C.Channel.path l.fn.channels;
  marks : channel_marks g.C.Channel.path g.B.Feeder.mark l.channels ≡ channel_marks g.C.Channel.path g.B.Feeder.mark l.fn.channels;
  rest : (at : ℕ) (other : _) → l.slot ≤ at → get_or l.channels at other ≡ get_or l.fn.channels at other;
  left : (saved : List _) (after : List ℕ) → CanAllBeLoaded g.C.Channel.path g.C.Saved.ready g.C.Saved.fits l.tables saved l.fn.channels
      → l.bytes ≡ flat_map g.C.Saved.state saved ++ after → drop l.at l.bytes ≡ flat_map g.C.Saved.state (drop l.slot saved) ++ after;
}
