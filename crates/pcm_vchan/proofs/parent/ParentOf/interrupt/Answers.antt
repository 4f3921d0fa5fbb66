use Rattle.std.proofs.Common.{◌≡◌, ◌<◌, ◌≤◌, ◌+◌, ℕ, length, All, refl, sym, ap, ◌∙◌, subst, arith}
use Rattle.pcm_sequence.specs.declared.fixed.Fixed.{Fixed}
use Rattle.pcm_sequence.specs.Fixed.{fixed_items}
use Rattle.pcm_sequence.proofs.Items.{items-count}
use Rattle.pcm_feeder.specs.declared.kind.Kind.{Kind}
use Rattle.pcm_desk.specs.declared.device.Device.{Device}
use Rattle.pcm_desk.specs.declared.here.Here.{Here}
use Rattle.pcm_feeder.specs.Filters.{Filters}
use Rattle.pcm_feeder.specs.Kept.{Kept}
use Rattle.pcm_desk.specs.declared.limits.TheConstants.{MIX_FRAMES}
use Rattle.pcm_desk.specs.Device.{mix_frames, passed_for, seen, unfiltered}
use Rattle.pcm_desk.specs.Channels.{mixed_by}
use Rattle.pcm_desk.proofs.Ratios.{mixed-behind}
use Rattle.pcm_bus.specs.Buses.{BusStands, TurnsBus}
use Rattle.pcm_bus.specs.Slots.{AreLeft, Each, IsMapDue, IsPlayDue, MapMixes, PlayMixes}
use Rattle.pcm_vchan.specs.declared.parent.ParentOf.{ParentOf}
use Rattle.pcm_vchan.specs.Parents.{here_of, map_channels, mixed_in, play_channels, AreDue, HasRoomFor}
use Rattle.pcm_vchan.proofs.Channels.{IsPassed, all-passed, may-settle}
use Rattle.pcm_vchan.proofs.Counting.{AreCounted, counted}
use Rattle.pcm_vchan.proofs.parent.ParentOf.interrupt.Goals as goal

-- the counts have room
roomy : {B : Type 0} {kind : B → Kind} {kept : B → Kept} {filters : Filters} {n : ℕ} {old : ParentOf B} → 0 < n → n ≤ old.device.ring_frames
    → AreDue kind kept filters n old → HasRoomFor n old → AreCounted (seen filters old.device) old.mixed old.handed n
roomy {filters = filters} {n = n} {old = old} some within due room =
    let few = subst (λ (device : Device). mix_frames (unfiltered device) ≤ MIX_FRAMES) old.bus_of old.bus.mix_within in
    let ring = old.within in
    counted (seen filters old.device) old.mixed old.handed n due.bus.planned.limits some within (omega (arith, few)) (omega (arith, ring))
    due.bus.level room

-- as many are mixed as the parent's device needs
bus-mixes : {B : Type 0} (filters : Filters) (n result : ℕ) (old : ParentOf B)
    → result ≡ mixed_by (seen filters old.bus.device) old.handed n → result ≡ mixed_in filters n old
bus-mixes filters n result old is = is ∙ ap (λ (device : Device). mixed_by (seen filters device) old.handed n) old.bus_of

-- what the bus leaves of channels, by the names that the parent has for its device and counts
bus-leaves : {B X : Type 0} (leaves : Device → ℕ → ℕ → X → X → Type 0) (filters : Filters) (n result : ℕ) (here : Here) (old : ParentOf B)
    (before after : Fixed X) → here ≡ here_of old → result ≡ mixed_by (seen filters old.bus.device) old.handed n
    → AreLeft (leaves old.bus.device here.mixed result) before after
    → AreLeft (leaves old.device old.mixed (mixed_in filters n old)) before after
bus-leaves leaves filters n result here old before after at is left =
    subst (λ (device : Device). AreLeft (leaves device old.mixed (mixed_in filters n old)) before after) old.bus_of
    (subst (λ k. AreLeft (leaves old.bus.device k (mixed_in filters n old)) before after) (ap (λ (here : Here). here.mixed) at)
    (subst (λ k. AreLeft (leaves old.bus.device here.mixed k) before after) (bus-mixes filters n result old is) left))

pub turn-mixed-requires-clause-due : goal.turn-mixed-requires-clause-due
turn-mixed-requires-clause-due g c =
    let old = c.args.self.now in
    let count : Device → ℕ = λ device. mixed_by (seen c.args.tables.now device) old.handed c.args.n in
    let mixed = ap (λ (here : Here). here.mixed) c.here-before.ensures in
    record {
      count = omega (
        arith,
        mixed,
        bus-mixes c.args.tables.now c.args.n _ old refl,
        (roomy c.requires.some c.requires.within c.requires.due c.requires.counts).mixed_fit,
      );
      few = omega (arith, old.slots, old.maps_count, old.slots_within);
      playing = subst (λ (device : Device). All (IsPlayDue g.B.Feeder.kind g.B.Feeder.kept c.args.tables.now device (count device))
          (play_channels old)) (sym old.bus_of) c.requires.due.playing;
      mapped = subst (λ (device : Device). All (IsMapDue g.B.Feeder.kind g.B.Feeder.kept c.args.tables.now device (count device))
          (map_channels old)) (sym old.bus_of) c.requires.due.mapped;
    }

pub turn-mixed-requires-clause-stands : goal.turn-mixed-requires-clause-stands
turn-mixed-requires-clause-stands g c =
    let old = c.args.self.now in
    let bus = c.requires.due.bus in
    subst (λ (device : Device). BusStands g.B.Feeder.kept (seen c.args.tables.now device) old.bus.chain old.handed) (sym old.bus_of)
    (record { planned = bus.planned; made = bus.made })

pub turn-mixed-requires-clause-handed : goal.turn-mixed-requires-clause-handed
turn-mixed-requires-clause-handed g c = (roomy c.requires.some c.requires.within c.requires.due c.requires.counts).handed_fit

pub pass-requires-clause-handed : goal.pass-requires-clause-handed
pass-requires-clause-handed g c = (roomy c.requires.some c.requires.within c.requires.due c.requires.counts).handed_fit

pub pass-requires-clause-passed : goal.pass-requires-clause-passed
pass-requires-clause-passed g c = (roomy c.requires.some c.requires.within c.requires.due c.requires.counts).passed_near

pub pass-requires-clause-mixed : goal.pass-requires-clause-mixed
pass-requires-clause-mixed g c =
    omega (
      arith,
      bus-mixes c.args.tables.now c.args.n _ c.args.self.now c.turn-mixed.ensures.count,
      (roomy c.requires.some c.requires.within c.requires.due c.requires.counts).mixed_fit,
    )

pub pass-requires-clause-due : goal.pass-requires-clause-due
pass-requires-clause-due g c =
    may-settle c.requires.due.playing
    (bus-leaves (PlayMixes g.B.Feeder.kind g.B.Feeder.kept c.args.tables.now) c.args.tables.now c.args.n _ _ c.args.self.now _ _
    c.here-before.ensures c.turn-mixed.ensures.count c.turn-mixed.ensures.mixed)

passed : (g : _) (c : goal.After-pass g)
    → Each (IsPassed g.B.Feeder.kind g.B.Feeder.kept c.args.tables.now c.args.self.now.device c.args.self.now.handed c.args.n
    (mixed_in c.args.tables.now c.args.n c.args.self.now))
    (play_channels c.args.self.now) (play_channels c.pass.new.self)
passed g c =
    let old = c.args.self.now in
    let m = bus-leaves (PlayMixes g.B.Feeder.kind g.B.Feeder.kept c.args.tables.now) c.args.tables.now c.args.n _ _ old _ _
    c.here-before.ensures c.turn-mixed.ensures.count c.turn-mixed.ensures.mixed in
    let told : passed_for (unfiltered c.pass.new.self.device) c.pass.new.self.handed ≡ passed_for (unfiltered old.device)
    (old.handed + c.args.n) =
    ap (λ (device : Device). passed_for (unfiltered device) c.pass.new.self.handed) c.pass.ensures.others.device
    ∙ ap (passed_for (unfiltered old.device)) c.pass.ensures.handed in
    all-passed old.handed c.args.n (here_of c.pass.new.self) c.pass.new.self.channels refl c.requires.due.bus.level told
    c.requires.due.playing m
    c.pass.ensures.settled

pub returns-clause-channels : goal.returns-clause-channels
returns-clause-channels g c = λ slot other there. (passed g c slot other there).moves

pub returns-clause-books : goal.returns-clause-books
returns-clause-books g c = λ slot other there. (passed g c slot other there).book

pub returns-clause-recorders : goal.returns-clause-recorders
returns-clause-recorders g c = rw c.pass.ensures.others.recorders c.walk.ensures.each

pub returns-clause-recorders_own : goal.returns-clause-recorders_own
returns-clause-recorders_own g c =
    let old = c.args.self.now in
    let now = c.walk.new.channels in
    rw (c.pass.ensures.others.recorders, c.pass.ensures.others.device) (λ slot other within.
    let there : slot < length (fixed_items old.recorders) = omega (arith, items-count old.recorders, items-count now, c.walk.ensures.len) in
    (c.walk.ensures.each slot other there).device_same ∙ (c.requires.due.recording slot other there).own)

pub returns-clause-maps : goal.returns-clause-maps
returns-clause-maps g c =
    let t = bus-leaves (MapMixes g.B.Feeder.kind g.B.Feeder.kept c.args.tables.now) c.args.tables.now c.args.n _ _ c.args.self.now _ _
    c.here-before.ensures c.turn-mixed.ensures.count c.turn-mixed.ensures.taken in
    rw c.pass.ensures.others.maps (λ slot other there. (t.each slot other there).plays)

pub returns-clause-mixed : goal.returns-clause-mixed
returns-clause-mixed g c = c.pass.ensures.mixed
    ∙ ap (λ frames. c.args.self.now.mixed + frames) (bus-mixes c.args.tables.now c.args.n _ c.args.self.now c.turn-mixed.ensures.count)

pub returns-clause-turns : goal.returns-clause-turns
returns-clause-turns g c =
    let old = c.args.self.now in
    let new = c.turn-mixed.new in
    rw (c.pass.ensures.others.bus, c.pass.ensures.others.ring)
    (subst (λ (device : Device). TurnsBus g.B.Feeder.kept (seen c.args.tables.now device) old.handed c.args.n old.mixer
    (play_channels old) (map_channels old) old.bus.chain new.self.chain old.ring.bytes new.ring.bytes) old.bus_of
    c.turn-mixed.ensures.turns)

pub returns-clause-bus : goal.returns-clause-bus
returns-clause-bus g c =
    let old = c.args.self.now in
    let stands = subst (λ (device : Device). BusStands g.B.Feeder.kept (seen c.args.tables.now device) c.turn-mixed.new.self.chain
    (old.handed + c.args.n)) old.bus_of c.turn-mixed.ensures.stands in
    let level = c.requires.due.bus.level in
    let mixed = c.pass.ensures.mixed in
    let handed = c.pass.ensures.handed in
    let count = bus-mixes c.args.tables.now c.args.n _ old c.turn-mixed.ensures.count in
    record {
      planned = rw c.pass.ensures.others.bus stands.planned;
      made = rw (c.pass.ensures.others.bus, handed) stands.made;
      level = rw handed (omega
          (arith, mixed, count, mixed-behind (seen c.args.tables.now old.device) old.handed c.args.n stands.planned.limits, level));
    }

pub invariant_of-self-clause-rates : goal.invariant_of-self-clause-rates
invariant_of-self-clause-rates g c = c.args.self.now.rates
