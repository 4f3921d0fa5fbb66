use Rattle.std.proofs.Common.{ℕ, List, take, refl, ◌∙◌, ap}
use Rattle.pcm_engine.specs.Engines.{device_of}
use Rattle.pcm_soak_command.proofs.Running.{front, life-left}
use Rattle.pcm_replay.proofs.Plays.{handed-among, next-given, played}
use Rattle.pcm_replay.proofs.replay.ReplayOf.step_at.Goals as goal

-- the engine can step on the event: the bytes that it hands over have room, and the frames are left that it takes
pub step-bytes-requires-clause-can : goal.step-bytes-requires-clause-can
step-bytes-requires-clause-can g c = record {
  ready = c.requires.played.engine.ready;
  room = handed-among (device_of c.args.self.now.engine) c.args.events.now c.args.at _ _ _ c.requires.there refl
      (c.deref_mut.ensures.len ∙ c.requires.played.room);
  life = life-left g.B.Feeder.kind g.B.Feeder.kept c.args.self.now.engine _ c.args.pool.now c.args.events.now c.args.at _
      c.requires.played.engine c.requires.runs.fits c.requires.runs.count c.requires.there;
}

pub returns-clause-played : goal.returns-clause-played
returns-clause-played g c =
    let xs = c.args.events.now in
    let pool = c.args.pool.now in
    let events = take c.args.at xs in
    let stepped = c.step-bytes.ensures.stepped in
    let told = c.step-bytes.ensures.told in
    let piece = take c.step-bytes.result c.step-bytes.new.out in
    played g.B.Feeder.kind g.B.Feeder.kept c.args.self.now _ pool xs c.args.at _ piece c.step-bytes.new.reply c.requires.there
    (record {
      device = stepped.rules.device;
      ready = stepped.ready;
      stands = told.stands events;
      handed = stepped.rules.handed;
      bytes = told.bytes events;
      replied = told.reply events;
      room = refl;
      line_room = refl;
    })
    c.requires.played

-- what the event gave stands at the front of the rooms
pub returns-clause-next : goal.returns-clause-next
returns-clause-next g c =
    let replay = c.args.self.now in
    let xs = c.args.events.now in
    let pool = c.args.pool.now in
    let events = take c.args.at xs in
    let stepped = c.step-bytes.ensures.stepped in
    let told = c.step-bytes.ensures.told in
    let count = c.step-bytes.result in
    let size = c.write_line-line.result in
    let piece = take count c.step-bytes.new.out in
    next-given g.B.Feeder.kind g.B.Feeder.kept replay (record replay { engine = c.step-bytes.new.self }) pool xs c.args.at _ piece _ _
    c.step-bytes.new.reply c.requires.there
    (record {
      device = stepped.rules.device;
      ready = stepped.ready;
      stands = told.stands events;
      handed = stepped.rules.handed;
      bytes = told.bytes events;
      replied = told.reply events;
      room = refl;
      line_room = refl;
    })
    (ap (λ (bytes : List ℕ). take count bytes) (front _ c.step-bytes.new.out _ (c.step-bytes.auto.out ∙ c.deref_mut.ensures.len)))
    (ap (λ (bytes : List ℕ). take size bytes) (front _ c.write_line-line.new.out _ (c.write_line-line.auto.out ∙ c.deref_mut-2.ensures.len))
    ∙ c.write_line-line.ensures.line)
    c.requires.played

pub returns-clause-bytes : goal.returns-clause-bytes
returns-clause-bytes g c =
    handed-among (device_of c.args.self.now.engine) c.args.events.now c.args.at _ _ _ c.requires.there c.step-bytes.ensures.stepped.count
    c.requires.played.room
