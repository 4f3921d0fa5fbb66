use Rattle.std.proofs.Common.{rules, ◌≡◌, ◌+◌, ◌*◌, ◌^◌, ◌<◌, ap, sym, subst, ◌∙◌, length, refl, arith}
use Rattle.pcm_format.specs.Formats.{bits_of}
use Rattle.pcm_format.specs.Frames.{frame_bytes}
use Rattle.pcm_format.specs.Layouts.{channels_of}
use Rattle.pcm_path.proofs.Paths.{serves-as}
use Rattle.pcm_rate.specs.declared.rate.Rate.{Rate}
use Rattle.pcm_feeder.specs.Streams.{frames_of}
use Rattle.pcm_plan.specs.Fits.{HaveBits, HaveTables}
use Rattle.pcm_plan.specs.Plans.{PlanSeen, rate_in_plan}
use Rattle.pcm_chain.specs.Bits.{bits_left}
use Rattle.pcm_chain.proofs.Bits.{bits-recorded}
use Rattle.pcm_desk.specs.Device.{seen}
use Rattle.pcm_desk.specs.RecordBooks.{coming, keeping}
use Rattle.pcm_desk.specs.RecordSafe.{RecordIsSafe}
use Rattle.pcm_desk.proofs.Ratios.{record-tables-between}
use Rattle.pcm_record.proofs.Held.{running-held}
use Rattle.pcm_record.proofs.Moving.{device-is, moves-nothing, safe-at}
use Rattle.pcm_record.proofs.Capturing.{book-captured, captured-at, fill-captured, given-most, kept-most, moves-captured, push-captured, push-far, PushFar, pushed-count, pushed-is, rate-pushed}
use Rattle.pcm_record.proofs.channel.RecordChannelOf.capture.Goals as goal
use Rattle.pcm_record.proofs.channel.RecordChannelOf.capture.Goals.{After-rate-rate}

pub push-requires-clause-can : goal.push-requires-clause-can
push-requires-clause-can g c =
    let old = c.args.self.now in
    let planned = c.requires.planned (running-held c.args.self.now.book.state (sym c.if-not-is_running.ensures)) in
    record {
      eaten = old.book.captured;
      records = c.requires.far (running-held old.book.state (sym c.if-not-is_running.ensures));
      filters = subst (λ (p : PlanSeen). HaveTables p.stages c.args.tables.now) (sym planned.plan_is)
          (record-tables-between (seen c.args.tables.now old.path.device) old.book.opening.settings
          (device-is c.args.tables.now old planned) old.serves.rate);
      bits = subst (λ (p : PlanSeen). bits_left p.stages ≡ bits_of old.book.opening.settings.format) (sym planned.plan_is)
          (bits-recorded c.args.tables.now old.path.device.quality old.book.opening.settings old.path.device.settings);
    }

pub push-requires-clause-few : goal.push-requires-clause-few
push-requires-clause-few g c =
    omega (
      arith,
      pushed-count c.args.tables.now c.args.self.now c.args.frames c.args.input.now
          (c.requires.planned (running-held c.args.self.now.book.state (sym c.if-not-is_running.ensures))) c.requires.whole,
      c.requires.few,
    )

pub captured-self-requires : goal.captured-self-requires
captured-self-requires g c =
    let old = c.args.self.now in
    let tables = c.args.tables.now in
    let planned = c.requires.planned (running-held c.args.self.now.book.state (sym c.if-not-is_running.ensures)) in
    let rate = rate-pushed tables old c.push.new.self c.rate-rate.result c.plan.result.now planned c.rate-rate.ensures.value c.plan.ensures
    c.push.ensures.stays.plan in
    let more = given-most (seen tables old.path.device) c.args.frames old.book (device-is tables old planned) old.serves.rate
    (safe-at tables old planned) c.requires.count.given in
    let most = kept-most (seen tables old.path.device) c.args.frames old.book (sym c.if-not-is_running.ensures)
    (safe-at tables old planned) in
    record {
      keeps = record {
        ratio = c.rate-rate.ensures.ratio;
        captured = c.requires.count.captured;
        read = old.within;
        fill = old.safe.fill;
        fragments = old.safe.fragments;
      };
      given = subst (λ (r : Rate). old.book.given + coming r c.args.frames old.book < 2 ^ 64) (sym rate) more;
      kept = subst (λ (r : Rate). old.book.kept + keeping r c.args.frames old.book * frame_bytes old.book.opening.settings < 2 ^ 64)
          (sym rate) (omega (arith, most, c.requires.kept));
    }

-- how far the push went
is-pushed : (g : _) (c : After-rate-rate g) → PushFar g.B.Feeder.kept c.args.tables.now (seen c.args.tables.now c.args.self.now.path.device) c.args.frames c.args.self.now.book
    c.push.new.self c.push.result c.args.self.now.path.ring.bytes c.push.new.ring.bytes
is-pushed g c =
    let old = c.args.self.now in
    let held = running-held old.book.state (sym c.if-not-is_running.ensures) in
    push-far g.B.Feeder.kept c.args.tables.now old c.args.frames c.args.input.now c.push.new.self c.push.result c.push.new.ring (c.requires.planned held)
    c.requires.whole c.push.ensures.kept c.push.ensures.count (c.push.ensures.stays.far old.book.captured (c.requires.far held))

pub invariant_of-self : goal.invariant_of-self
invariant_of-self g c =
    let old = c.args.self.now in
    let tables = c.args.tables.now in
    let device = seen tables old.path.device in
    let planned = c.requires.planned (running-held c.args.self.now.book.state (sym c.if-not-is_running.ensures)) in
    let new = c.captured-self.result in
    let rate = rate-pushed tables old c.push.new.self c.rate-rate.result c.plan.result.now planned c.rate-rate.ensures.value c.plan.ensures
    c.push.ensures.stays.plan in
    let b = book-captured device c.args.frames old.book c.captured-self.result (sym c.if-not-is_running.ensures)
    (safe-at tables old planned)
    (captured-at (seen tables old.path.device) c.args.frames old.book c.captured-self.result c.rate-rate.result rate
    c.captured-self.ensures) in
    record {
      serves = serves-as old.book.opening new.opening old.path (record old.path { ring = c.push.new.ring; chain = c.push.new.self }) _ refl
          c.push.ensures.stays.plan c.push.ensures.ring b.settings b.fragments old.serves;
      fill = fill-captured g.B.Feeder.kept tables old new c.args.frames c.push.new.self c.push.result c.push.new.ring.bytes b
          (is-pushed g c.before.before);
      within = b.safe.read;
      safe = subst (λ (q : PlanSeen). RecordIsSafe (rate_in_plan q) new) (sym (c.push.ensures.stays.plan ∙ planned.plan_is)) b.safe;
    }

pub returns-then-not-is_running : goal.returns-then-not-is_running
returns-then-not-is_running g c =
    record {
      book = search rules;
      device = refl;
      moves = (moves-nothing g.B.Feeder.kind g.B.Feeder.kept c.args.tables.now _ _ c.args.self.now);
    }

pub returns : goal.returns
returns g c = record {
  book = (
      let old = c.args.self.now in
      let tables = c.args.tables.now in
      let planned = c.requires.planned (running-held c.args.self.now.book.state (sym c.if-not-is_running.ensures)) in
      let rate = rate-pushed tables old c.push.new.self c.rate-rate.result c.plan.result.now planned c.rate-rate.ensures.value
      c.plan.ensures c.push.ensures.stays.plan in
      captured-at (seen tables old.path.device) c.args.frames old.book c.captured-self.result c.rate-rate.result rate
      c.captured-self.ensures);
  device = refl;
  moves = (
      let old = c.args.self.now in
      let tables = c.args.tables.now in
      let device = seen tables old.path.device in
      let planned = c.requires.planned (running-held c.args.self.now.book.state (sym c.if-not-is_running.ensures)) in
      let input = frames_of (channels_of old.path.device.settings.layout) c.args.input.now in
      let rate = rate-pushed tables old c.push.new.self c.rate-rate.result c.plan.result.now planned c.rate-rate.ensures.value
      c.plan.ensures c.push.ensures.stays.plan in
      let all = pushed-is tables old c.args.input.now planned in
      moves-captured g.B.Feeder.kind g.B.Feeder.kept tables old _ c.args.frames input planned refl c.push.ensures.stays.plan
      c.push.ensures.stays.kinds
      (ap length (sym all) ∙ pushed-count tables old c.args.frames c.args.input.now planned c.requires.whole)
      (subst (HaveBits 32) all c.push.ensures.fits)
      (book-captured device c.args.frames old.book c.captured-self.result (sym c.if-not-is_running.ensures) (safe-at tables old planned)
      (captured-at (seen tables old.path.device) c.args.frames old.book c.captured-self.result c.rate-rate.result rate
      c.captured-self.ensures))
      (is-pushed g c.before.before.before).records
      (λ bytes frames s. push-captured g.B.Feeder.kept tables old c.args.frames c.args.input.now c.push.new.self c.push.result
      c.push.new.ring.bytes bytes frames planned (is-pushed g c.before.before.before).keeps
      (c.push.ensures.pushes frames (s.records (running-held old.book.state (sym c.if-not-is_running.ensures)))) s));
}
