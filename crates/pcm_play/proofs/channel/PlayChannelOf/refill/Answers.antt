use Rattle.std.proofs.Common.{rules, refl, ℕ, ◌*◌, ◌%◌, ◌≤◌, ◌∙◌, All, [], take, drop, length, sym, ap, subst, arith, length-drop, length-take}
use Rattle.std.proofs.Math.Nat.{mul-le-mul_right}
use Rattle.std.proofs.lemmas.Grind.{common_steps}
use Rattle.std.proofs.lemmas.List.Elements.{All-append, All-drop, All-take}
use Rattle.pcm_num.specs.Limit.{FitsBits}
use Rattle.pcm_format.specs.Formats.{bits_of, bytes_of}
use Rattle.pcm_format.specs.Layouts.{channels_of}
use Rattle.pcm_mix.specs.Mix.{mixed}
use Rattle.pcm_feeder.proofs.Driven.{whole-front}
use Rattle.pcm_ring.specs.Ring.{Ring}
use Rattle.pcm_path.proofs.Paths.{serves-as}
use Rattle.pcm_plan.specs.Plans.{PlanSeen, rate_in_plan}
use Rattle.pcm_plan.specs.Fits.{HaveTables}
use Rattle.pcm_chain.specs.Chains.{plan_in}
use Rattle.pcm_chain.proofs.Far.{far-fitted}
use Rattle.pcm_desk.specs.Device.{play_plan_between, seen}
use Rattle.pcm_desk.specs.PlaySafe.{PlayIsSafe}
use Rattle.pcm_desk.proofs.Ratios.{tables-between}
use Rattle.pcm_play.proofs.Held.{started-held}
use Rattle.pcm_play.proofs.Moving.{device-is, moves-nothing, safe-at}
use Rattle.pcm_play.proofs.Refilling.{given-fits, pulls-by-count, pulls-run, book-mixed, book-refilled, turned-none, ring-refilled, turned-pulled, moves-pulled}
use Rattle.pcm_play.proofs.channel.PlayChannelOf.refill.Goals as goal

pub returns-then-not-is_started-clause-moves : goal.returns-then-not-is_started-clause-moves
returns-then-not-is_started-clause-moves g c = moves-nothing g.B.Feeder.kind g.B.Feeder.kept c.args.tables.now [] c.args.n c.args.self.now

pub returns-then-not-is_started-clause-sum : goal.returns-then-not-is_started-clause-sum
returns-then-not-is_started-clause-sum g c = λ bytes s. turned-none (seen c.args.tables.now c.args.self.now.path.device) c.args.n
    c.args.slot_gain c.args.self.now.book bytes c.args.sum.now (sym c.if-not-is_started.ensures)

pub pull-pulled-requires : goal.pull-pulled-requires
pull-pulled-requires g c =
    let old = c.args.self.now in
    let far = c.requires.ready.far in
    let planned = c.requires.ready.planned (started-held c.args.self.now.book.state (sym c.if-not-is_started.ensures)) in
    record {
      fitted = far-fitted g.B.Feeder.kept c.args.tables.now old.path.chain old.book.eaten far.zeros old.book.given
          (far.chain_is (started-held old.book.state (sym c.if-not-is_started.ensures)));
      limits = search rules;
      filters = subst (λ (p : PlanSeen). HaveTables p.stages c.args.tables.now) (sym planned.plan_is)
          (tables-between (seen c.args.tables.now old.path.device) old.book.opening.settings (device-is c.args.tables.now old planned)
          old.serves.rate);
      room = grind (arith, common_steps);
    }

pub slice_bounds-mix_into-end-2 : goal.slice_bounds-mix_into-end-2
slice_bounds-mix_into-end-2 g c =
    let more = mul-le-mul_right c.channels.result c.pull-pulled.ensures.leaves.most in
    let wide = ap (λ (k : ℕ). c.args.n * k) c.channels.ensures in
    omega (arith, more, wide, c.requires.adds.block.sum_whole, length-take (c.pull-pulled.result.given * c.channels.result) c.args.sum.now)

pub slice_bounds-given-end-2 : goal.slice_bounds-given-end-2
slice_bounds-given-end-2 g c =
    let more = mul-le-mul_right c.channels.result c.pull-pulled.ensures.leaves.most in
    let wide = ap (λ (k : ℕ). c.args.n * k) c.channels.ensures in
    omega (
      arith,
      more,
      wide,
      c.requires.adds.block.frames_whole,
      c.pull-pulled.auto.out,
      length-take
          (c.pull-pulled.result.given * c.channels.result) c.pull-pulled.new.out,
    )

pub apply_gain-requires-clause-whole : goal.apply_gain-requires-clause-whole
apply_gain-requires-clause-whole g c =
    let layout = c.args.self.now.path.device.mix.layout in
    let given = c.pull-pulled.result.given in
    let room : c.args.n * channels_of layout ≤ length
    c.pull-pulled.new.out = omega (arith, c.requires.adds.block.frames_whole, c.pull-pulled.auto.out) in
    ap (λ k. length (take (given * k) c.pull-pulled.new.out) % channels_of layout) c.channels.ensures
    ∙ whole-front given c.args.n (channels_of layout) c.pull-pulled.new.out c.pull-pulled.ensures.leaves.most room

pub mix_into-requires-clause-held : goal.mix_into-requires-clause-held
mix_into-requires-clause-held g c =
    rw c.bits.ensures (All-take (FitsBits (bits_of c.args.self.now.path.device.mix.format)) (c.pull-pulled.result.given * c.channels.result)
    c.args.sum.now c.requires.adds.block.fits)

pub mix_into-requires-clause-added : goal.mix_into-requires-clause-added
mix_into-requires-clause-added g c =
    let old = c.args.self.now in
    let planned = c.requires.ready.planned (started-held c.args.self.now.book.state (sym c.if-not-is_started.ensures)) in
    let p = pulls-by-count g.B.Feeder.kept c.args.tables.now old c.pull-pulled.new.self c.is_draining-ended.result c.args.n
    c.pull-pulled.result c.pull-pulled.new.out
    (sym c.if-not-is_started.ensures) planned c.is_draining-ended.ensures c.pull-pulled.ensures.far c.requires.ready.far in
    rw c.apply_gain.ensures (given-fits (seen c.args.tables.now old.path.device) c.args.slot_gain c.pull-pulled.result.given
    c.pull-pulled.new.out c.channels.result c.bits.result c.requires.adds.limits p.bits c.channels.ensures c.bits.ensures)

pub invariant_of-self : goal.invariant_of-self
invariant_of-self g c =
    let old = c.args.self.now in
    let planned = c.requires.ready.planned (started-held c.args.self.now.book.state (sym c.if-not-is_started.ensures)) in
    let device = seen c.args.tables.now old.path.device in
    let is = book-mixed device c.args.here.mixed c.args.n old.book c.refilled-self.result c.rate.result c.plan.result.now
    c.requires.adds.some c.refilled-self.ensures c.rate.ensures.value
    (c.plan.ensures ∙ c.pull-pulled.ensures.leaves.stays.plan ∙ planned.plan_is) in
    let k = book-refilled device c.args.here.mixed c.args.n old.book c.refilled-self.result c.requires.adds.some
    (device-is c.args.tables.now old planned) old.serves.rate (safe-at c.args.tables.now old planned) (sym c.if-not-is_started.ensures)
    is in
    let go = k.goes in
    let p = pulls-by-count g.B.Feeder.kept c.args.tables.now old c.pull-pulled.new.self c.is_draining-ended.result c.args.n
    c.pull-pulled.result c.pull-pulled.new.out
    (sym c.if-not-is_started.ensures) planned c.is_draining-ended.ensures c.pull-pulled.ensures.far c.requires.ready.far in
    let r = ring-refilled device c.args.n old.book c.refilled-self.result c.pull-pulled.result k.safe go p.counted in
    let size = ap (λ (q : PlanSeen). c.pull-pulled.result.eaten * (channels_of q.source * bytes_of old.book.opening.settings.format))
    planned.plan_is in
    record {
      serves = serves-as old.book.opening c.refilled-self.result.opening old.path
          (record old.path { ring = c.pull-pulled.new.ring; chain = c.pull-pulled.new.self }) _ refl c.pull-pulled.ensures.leaves.stays.plan
          c.pull-pulled.ensures.leaves.ring go.settings go.fragments old.serves;
      fill = ap (λ (ring : Ring). length ring.bytes) c.pull-pulled.ensures.leaves.ring
          ∙ (let long = length-drop (c.pull-pulled.result.eaten *
          (channels_of (plan_in old.path.chain).source * bytes_of old.book.opening.settings.format)) old.path.ring.bytes in
          let fill = old.fill in let left = r.fill in omega arith);
      within = r.within;
      safe = subst (λ (p : PlanSeen). PlayIsSafe (rate_in_plan p) c.refilled-self.result)
          (sym (c.pull-pulled.ensures.leaves.stays.plan ∙ planned.plan_is ∙ ap (play_plan_between device) (sym go.settings))) k.safe;
    }

pub returns-clause-book : goal.returns-clause-book
returns-clause-book g c =
    let old = c.args.self.now in
    let planned = c.requires.ready.planned (started-held c.args.self.now.book.state (sym c.if-not-is_started.ensures)) in
    book-mixed (seen c.args.tables.now old.path.device) c.args.here.mixed c.args.n old.book c.refilled-self.result c.rate.result
    c.plan.result.now c.requires.adds.some c.refilled-self.ensures c.rate.ensures.value
    (c.plan.ensures ∙ c.pull-pulled.ensures.leaves.stays.plan ∙ planned.plan_is)

pub returns-clause-moves : goal.returns-clause-moves
returns-clause-moves g c =
    let old = c.args.self.now in
    let planned = c.requires.ready.planned (started-held c.args.self.now.book.state (sym c.if-not-is_started.ensures)) in
    let device = seen c.args.tables.now old.path.device in
    let is = book-mixed device c.args.here.mixed c.args.n old.book c.refilled-self.result c.rate.result c.plan.result.now
    c.requires.adds.some c.refilled-self.ensures c.rate.ensures.value
    (c.plan.ensures ∙ c.pull-pulled.ensures.leaves.stays.plan ∙ planned.plan_is) in
    let k = book-refilled device c.args.here.mixed c.args.n old.book c.refilled-self.result c.requires.adds.some
    (device-is c.args.tables.now old planned) old.serves.rate (safe-at c.args.tables.now old planned) (sym c.if-not-is_started.ensures)
    is in
    moves-pulled g.B.Feeder.kind g.B.Feeder.kept c.args.tables.now old _ c.args.n c.pull-pulled.result _ c.args.frames.now
    c.pull-pulled.new.out planned refl c.pull-pulled.ensures.leaves.stays.plan k.goes c.pull-pulled.ensures.leaves.stays.kinds
    (ap (λ (ring : Ring). ring.bytes) c.pull-pulled.ensures.leaves.ring
    ∙ ap (λ (q : PlanSeen). drop (c.pull-pulled.result.eaten * (channels_of q.source * bytes_of old.book.opening.settings.format))
    old.path.ring.bytes) planned.plan_is)
    (pulls-by-count g.B.Feeder.kept c.args.tables.now old c.pull-pulled.new.self c.is_draining-ended.result c.args.n c.pull-pulled.result
    c.pull-pulled.new.out (sym c.if-not-is_started.ensures) planned c.is_draining-ended.ensures c.pull-pulled.ensures.far)
    (λ bytes s. pulls-run g.B.Feeder.kept c.args.tables.now old c.pull-pulled.new.self _ c.is_draining-ended.result c.args.n
    c.pull-pulled.result c.args.frames.now c.pull-pulled.new.out bytes
    (sym c.if-not-is_started.ensures) planned c.is_draining-ended.ensures c.pull-pulled.ensures.pulls s)

pub returns-clause-sum : goal.returns-clause-sum
returns-clause-sum g c = λ bytes s.
    let old = c.args.self.now in
    let planned = c.requires.ready.planned (started-held c.args.self.now.book.state (sym c.if-not-is_started.ensures)) in
    let p = pulls-by-count g.B.Feeder.kept c.args.tables.now old c.pull-pulled.new.self c.is_draining-ended.result c.args.n
    c.pull-pulled.result c.pull-pulled.new.out
    (sym c.if-not-is_started.ensures) planned c.is_draining-ended.ensures c.pull-pulled.ensures.far c.requires.ready.far in
    let run = pulls-run g.B.Feeder.kept c.args.tables.now old c.pull-pulled.new.self _ c.is_draining-ended.result c.args.n
    c.pull-pulled.result c.args.frames.now c.pull-pulled.new.out bytes
    (sym c.if-not-is_started.ensures) planned c.is_draining-ended.ensures c.pull-pulled.ensures.pulls s in
    turned-pulled g.B.Feeder.kept (seen c.args.tables.now old.path.device) c.gain_of-gain.result c.args.slot_gain c.args.n old.book bytes
    c.pull-pulled.new.self c.pull-pulled.result c.args.frames.now c.pull-pulled.new.out c.args.sum.now c.mix_into.new.acc
    c.channels.result c.bits.result (device-is c.args.tables.now old planned) old.serves.rate c.gain_of-gain.ensures.value p.counted run
    c.channels.ensures c.bits.ensures
    (c.mix_into.ensures.value ∙ ap (mixed c.bits.result (take (c.pull-pulled.result.given * c.channels.result) c.args.sum.now))
    c.apply_gain.ensures)

pub returns-clause-fits : goal.returns-clause-fits
returns-clause-fits g c =
    All-append (FitsBits (bits_of c.args.self.now.path.device.mix.format)) c.mix_into.new.acc
    (drop (c.pull-pulled.result.given * c.channels.result) c.args.sum.now)
    (subst (λ b. All (FitsBits b) c.mix_into.new.acc) c.bits.ensures c.mix_into.ensures.fits)
    (All-drop (FitsBits (bits_of c.args.self.now.path.device.mix.format)) (c.pull-pulled.result.given * c.channels.result) c.args.sum.now
    c.requires.adds.block.fits)
