use Rattle.std.proofs.Common.{rules, length, length-take, refl, sym, ap, ◌∙◌, subst, arith}
use Rattle.std.proofs.lemmas.Grind.{common_steps}
use Rattle.pcm_oss.proofs.Limits.{least-ring}
use Rattle.pcm_feeder.specs.Limits.{IsRate}
use Rattle.pcm_rate.specs.Rates.{IsRatio}
use Rattle.pcm_plan.specs.Fits.{HaveTables}
use Rattle.pcm_plan.specs.Plans.{PlanSeen, rate_in_plan}
use Rattle.pcm_chain.proofs.Far.{far-fitted}
use Rattle.pcm_desk.specs.declared.map_book.MapBook.{MapBook}
use Rattle.pcm_desk.specs.Device.{seen}
use Rattle.pcm_desk.specs.MapSafe.{MapIsSafe}
use Rattle.pcm_desk.proofs.Ratios.{tables-between}
use Rattle.pcm_map.proofs.Books.{book-given, eaten-few, eaten-grows, next-fits, planned-device, planned-rate, safe-given, taken-fits}
use Rattle.pcm_ring.specs.Ring.{Ring}
use Rattle.pcm_map.specs.Pieces.{taken_for}
use Rattle.pcm_map.proofs.Far.{pulls-far, ring-empty}
use Rattle.pcm_map.proofs.Held.{running-held}
use Rattle.pcm_map.proofs.Pieces.{piece-gives, ring-again, ring-filled}
use Rattle.pcm_map.proofs.channel.MapChannelOf.give_piece.Goals as goal

pub refilled-book-requires : goal.refilled-book-requires
refilled-book-requires g c =
    let old = c.args.self.now in
    let planned = c.requires.ready.planned (running-held c.args.self.now.book.state c.requires.running) in
    let fits = next-fits c.args.tables.now c.args.n old c.rate.result
    (c.rate.ensures.value ∙ ap (λ (p : PlanSeen). rate_in_plan p) c.plan.ensures ∙ planned-rate c.args.tables.now old planned)
    c.requires.count in
    record { ratio = search rules; given = search rules; eaten = omega (arith, fits) }

pub overflow_sub-count : goal.overflow_sub-count
overflow_sub-count g c =
    let old = c.args.self.now in
    let planned = c.requires.ready.planned (running-held c.args.self.now.book.state c.requires.running) in
    eaten-grows c.args.tables.now c.args.n old c.refilled-book.result planned
    (book-given c.args.tables.now c.args.n old c.refilled-book.result c.rate.result c.plan.result.now planned c.requires.running
    c.refilled-book.ensures c.rate.ensures.value c.plan.ensures)

pub overflow_mul-count : goal.overflow_mul-count
overflow_mul-count g c =
    let old = c.args.self.now in
    let planned = c.requires.ready.planned (running-held c.args.self.now.book.state c.requires.running) in
    let few = eaten-few c.args.tables.now c.args.n old c.refilled-book.result c.frame_bytes.result planned c.requires.few
    (book-given c.args.tables.now c.args.n old c.refilled-book.result c.rate.result c.plan.result.now planned c.requires.running
    c.refilled-book.ensures c.rate.ensures.value c.plan.ensures) c.frame_bytes.ensures in
    omega (arith, few)

pub taken-requires : goal.taken-requires
taken-requires g c =
    taken-fits c.args.tables.now c.args.n c.args.self.now
    (c.requires.ready.planned (running-held c.args.self.now.book.state c.requires.running)) c.requires.count

pub put_round-requires-clause-some : goal.put_round-requires-clause-some
put_round-requires-clause-some g c =
    let old = c.args.self.now in
    let least = least-ring old.book.opening.fragments old.safe.fragments in
    omega (arith, least, c.size.ensures, length-take c.size.result c.deref.result.now, c.deref.ensures.len, old.size)

pub put_round-requires-clause-room : goal.put_round-requires-clause-room
put_round-requires-clause-room g c =
    let old = c.args.self.now in
    let planned = c.requires.ready.planned (running-held c.args.self.now.book.state c.requires.running) in
    let few = eaten-few c.args.tables.now c.args.n old c.refilled-book.result c.frame_bytes.result planned c.requires.few
    (book-given c.args.tables.now c.args.n old c.refilled-book.result c.rate.result c.plan.result.now planned c.requires.running
    c.refilled-book.ensures c.rate.ensures.value c.plan.ensures) c.frame_bytes.ensures in
    let empty = old.ring in
    omega (arith, few, ap (λ (ring : Ring). ring.size) empty, ap (λ (ring : Ring). length ring.bytes) empty)

pub pull-requires : goal.pull-requires
pull-requires g c =
    let old = c.args.self.now in
    let planned = c.requires.ready.planned (running-held c.args.self.now.book.state c.requires.running) in
    record {
      fitted = far-fitted g.B.Feeder.kept c.args.tables.now old.path.chain old.book.eaten 0 old.book.given
          (c.requires.ready.far (running-held old.book.state c.requires.running));
      limits = search rules;
      filters = subst (λ (p : PlanSeen). HaveTables p.stages c.args.tables.now) (sym planned.plan_is)
          (tables-between (seen c.args.tables.now old.path.device) old.book.opening.settings (planned-device c.args.tables.now old planned)
          old.rate);
      room = grind (arith, common_steps);
    }

pub invariant_of-self : goal.invariant_of-self
invariant_of-self g c =
    let old = c.args.self.now in
    let filters = c.args.tables.now in
    let planned = c.requires.ready.planned (running-held c.args.self.now.book.state c.requires.running) in
    let is = book-given filters c.args.n old c.refilled-book.result c.rate.result c.plan.result.now planned c.requires.running
    c.refilled-book.ensures c.rate.ensures.value c.plan.ensures in
    let filled = ring-filled filters c.args.n old c.refilled-book.result c.deref.result.now c.size.result c.taken.result
    c.frame_bytes.result c.put_round.new.ring is c.size.ensures c.deref.ensures.value c.taken.ensures c.frame_bytes.ensures
    c.put_round.ensures in
    let far = pulls-far g.B.Feeder.kept filters c.args.n old c.put_round.new.ring c.pull.new.self c.pull.result c.pull.new.out planned
    c.requires.running (ap (λ (ring : Ring). ring.bytes) filled) c.pull.ensures.far c.requires.ready.far in
    record {
      rates = old.rates;
      rate = subst (λ (b : MapBook). IsRate b.opening.settings.rate) (sym is) old.rate;
      ratio = subst (λ (q : PlanSeen). IsRatio (rate_in_plan q)) (sym c.pull.ensures.leaves.stays.plan) old.ratio;
      ring = ring-again c.put_round.new.ring c.pull.new.ring _ (taken_for filters c.args.n old) filled c.pull.ensures.leaves.ring
          (ring-empty g.B.Feeder.kept filters c.args.n old c.put_round.new.ring c.pull.new.self c.pull.result c.pull.new.out planned far);
      safe = subst (λ (q : PlanSeen). MapIsSafe (rate_in_plan q) c.refilled-book.result) (sym c.pull.ensures.leaves.stays.plan)
          (safe-given filters c.args.n old c.refilled-book.result planned c.requires.running is);
      size = old.size;
    }

pub returns : goal.returns
returns g c =
    let old = c.args.self.now in
    let filters = c.args.tables.now in
    let planned = c.requires.ready.planned (running-held c.args.self.now.book.state c.requires.running) in
    let is = book-given filters c.args.n old c.refilled-book.result c.rate.result c.plan.result.now planned c.requires.running
    c.refilled-book.ensures c.rate.ensures.value c.plan.ensures in
    let filled = ring-filled filters c.args.n old c.refilled-book.result c.deref.result.now c.size.result c.taken.result
    c.frame_bytes.result c.put_round.new.ring is c.size.ensures c.deref.ensures.value c.taken.ensures c.frame_bytes.ensures
    c.put_round.ensures in
    let far = pulls-far g.B.Feeder.kept filters c.args.n old c.put_round.new.ring c.pull.new.self c.pull.result c.pull.new.out planned
    c.requires.running (ap (λ (ring : Ring). ring.bytes) filled) c.pull.ensures.far c.requires.ready.far in
    record {
      gives = piece-gives g.B.Feeder.kind g.B.Feeder.kept filters c.args.n old _ c.put_round.new.ring c.pull.result c.gain_of-gain.result
          c.args.frames.now c.pull.new.out planned c.requires.running refl refl c.pull.ensures.leaves.stays.plan
          c.pull.ensures.leaves.stays.kinds is
          (ap (λ (ring : Ring). ring.bytes) filled) c.gain_of-gain.ensures.value c.pull.ensures.pulls far;
    }
