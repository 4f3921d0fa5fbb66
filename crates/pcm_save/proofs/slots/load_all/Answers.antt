use Rattle.std.proofs.Common.{◌<◌, ◌+◌, ◌++◌, length, take, drop, get_or, sym, ap, ◌∙◌, arith}
use Rattle.std.specs.List.{flat_map}
use Rattle.std.proofs.lemmas.List.{drop-drop, drop_all, get_or-set_other, length-set}
use Rattle.std.proofs.Math.Seq.{map-set_same}
use Rattle.pcm_chain.specs.Chains.{marks_in}
use Rattle.pcm_save.proofs.Joining.{behind, length-behind}
use Rattle.pcm_save.proofs.Walks.{all-more, as-many, can-at, front-at, told-more}
use Rattle.pcm_save.proofs.slots.load_all.Goals as goal

pub loop-slot-preserved : goal.loop-slot-preserved
loop-slot-preserved g c =
    let was = c.loop-slot.invariant in
    let channels = c.loop-slot.channels in
    let slot = c.loop-slot.slot in
    let made = c.load.new.self in
    let loaded = c.in_ok-at.ensures.loaded in
    let bytes = c.args.bytes.now in
    let rest = behind bytes c.loop-slot.at in
    let below : slot < length channels = omega (arith, c.loop-slot-test.true, was.len) in
    let other = c.index-channels-slot.result in
    let within : slot < length c.args.channels.now = omega (arith, below, was.len) in
    let there = sym (was.rest slot other (omega arith)) in
    record {
      len = length-set channels slot made ∙ was.len;
      room = omega (arith, was.room);
      within = omega (arith, was.within, loaded.within, length-behind bytes c.loop-slot.at);
      told = told-more g.C.Saved.state channels slot made c.args.bytes.now c.loop-slot.at c.in_ok-at.field-0 below was.told (loaded.told ∙ ap (take c.in_ok-at.field-0) rest);
      ready = all-more (g.C.Saved.ready c.args.tables.now) channels slot made below was.ready loaded.is_ready;
      devices = map-set_same (λ channel. (g.C.Channel.path channel).device) channels slot made c.index-channels-slot.result loaded.device_same ∙ was.devices;
      marks = map-set_same (λ channel. marks_in g.B.Feeder.mark (g.C.Channel.path channel).chain) channels slot made c.index-channels-slot.result loaded.marks ∙ was.marks;
      rest = λ at other above. get_or-set_other channels slot at made other (omega (arith, above)) ∙ was.rest at other (omega (arith, above));
      left = λ saved after can front.
          let its = can-at g.C.Channel.path g.C.Saved.ready g.C.Saved.fits c.args.tables.now saved c.args.channels.now slot other _ within there can in
          sym (drop-drop c.in_ok-at.field-0 c.loop-slot.at bytes) ∙ ap (drop c.in_ok-at.field-0) (sym rest)
          ∙ c.in_ok-at.ensures.taken (get_or saved slot other) (flat_map g.C.Saved.state (drop (slot + 1) saved) ++ after) its
          (rest ∙ front-at g.C.Saved.state saved slot other (drop c.loop-slot.at bytes) after (omega (arith, within, as-many can)) (was.left saved after can front));
    }

pub returns-in_err-at-clause-taken : goal.returns-in_err-at-clause-taken
returns-in_err-at-clause-taken g c = λ saved after can front.
    let was = c.loop-slot.invariant in
    let bytes = c.args.bytes.now in
    let slot = c.loop-slot.slot in
    let other = c.index-channels-slot.result in
    let within : slot < length c.args.channels.now = omega (arith, c.loop-slot-test.true, was.len) in
    let there = sym (was.rest slot other (omega arith)) in
    absurd (c.in_err-at.ensures.taken (get_or saved slot other) (flat_map g.C.Saved.state (drop (slot + 1) saved) ++ after)
    (can-at g.C.Channel.path g.C.Saved.ready g.C.Saved.fits c.args.tables.now saved c.args.channels.now slot other _ within there can)
    (behind bytes c.loop-slot.at ∙ front-at g.C.Saved.state saved slot other (drop c.loop-slot.at bytes) after (omega (arith, within, as-many can)) (was.left saved after can front)))

pub returns-clause-taken : goal.returns-clause-taken
returns-clause-taken g c = λ saved after can front.
    let was = c.loop-slot.invariant in
    was.left saved after can front ∙ ap (λ left. flat_map g.C.Saved.state left ++ after) (drop_all c.loop-slot.slot saved (omega (arith, c.loop-slot-test.false, was.len, as-many can)))
