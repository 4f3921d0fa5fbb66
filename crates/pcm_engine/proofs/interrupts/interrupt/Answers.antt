use Rattle.std.proofs.Common.{refl}
use Rattle.pcm_desk.specs.Device.{DeviceSeen, seen}
use Rattle.pcm_vchan.specs.Parents.{map_channels, play_channels, record_channels}
use Rattle.pcm_vchan.proofs.Channels.{map_books_of-passed, play_books_of-passed, record_books_of-captured}
use Rattle.pcm_engine.proofs.interrupts.interrupt.Goals as goal

pub returns-clause-applied : goal.returns-clause-applied
returns-clause-applied g c = λ descriptors bytes.
    let old = c.args.parent.now in
    let new = c.interrupt.new.self in
    let made = c.interrupt.ensures in
    let device : DeviceSeen = seen c.args.tables.now old.device in
    let play = play_books_of-passed device old.handed c.args.frames (play_channels old) (play_channels new) made.slots made.books in
    let recording = record_books_of-captured device c.args.frames (record_channels old) (record_channels new) made.recorders_slots
    (λ slot other there. (made.recorders slot other there).book) in
    let mapped = map_books_of-passed device old.handed c.args.frames (map_channels old) (map_channels new) made.maps_slots
    (λ slot other there. (made.maps slot other there).book) in
    record {
      rules = record {
        desk = λ i. record {
          play = play i;
          recording = recording i;
          mapped = mapped i;
          descriptors = descriptors.held.value;
          groups = descriptors.groups;
          mixer = made.mixer i;
          handed = made.handed i;
          mixed = made.mixed i;
        };
        result = refl;
        refused = λ err. cc;
        answered = λ bytes stand. refl;
      };
      device = made.device;
      own = record { playing = made.own; recording = made.recorders_own; mapped = made.maps_own };
      slots = made.slots;
      recorders_slots = made.recorders_slots;
      maps_slots = made.maps_slots;
      channels = made.channels;
      recorders = rw c.channels.ensures at made.recorders;
      maps = made.maps;
      bus = made.bus;
      turns = made.turns;
    }
