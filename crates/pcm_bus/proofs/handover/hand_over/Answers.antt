use Rattle.std.proofs.Common.{◌≡◌, ◌≤◌, ◌*◌, ℕ, List, ℤ, length, take, All, sym, ap, ◌∙◌, subst}
use Rattle.pcm_num.specs.Limit.{FitsBits}
use Rattle.std.proofs.lemmas.List.{length-take-le}
use Rattle.pcm_format.specs.Layouts.{channels_of}
use Rattle.pcm_plan.specs.Fits.{HaveTables}
use Rattle.pcm_plan.specs.Plans.{PlanSeen}
use Rattle.pcm_chain.specs.Chains.{plan_in}
use Rattle.pcm_chain.specs.Gives.{CanGive, GivesOn, GivesOnFar, filling_frames}
use Rattle.pcm_desk.specs.Device.{seen}
use Rattle.pcm_desk.proofs.Ratios.{parent-tables}
use Rattle.pcm_desk.proofs.Straight.{straight-bits}
use Rattle.pcm_bus.proofs.Handovers.{can-give, chain-makes, chain-makes-far, straight-far, straight-length, straight-makes, MakesFar}
use Rattle.pcm_bus.specs.Handovers.{AreMixedFor, HasMadeFar}
use Rattle.pcm_bus.proofs.handover.hand_over.Goals as goal
use Rattle.pcm_bus.proofs.handover.hand_over.Goals.{After-give}

-- ---- a straight device

pub returns-then-is_straight-clause-count : goal.returns-then-is_straight-clause-count
returns-then-is_straight-clause-count g c =
    straight-length g.B.Feeder.kept (seen c.args.tables.now c.args.device) c.args.chain.now c.args.mixed.now c.args.n
    (sym c.is_straight.ensures ∙ c.if-is_straight.true) c.requires.can

pub returns-then-is_straight-clause-makes : goal.returns-then-is_straight-clause-makes
returns-then-is_straight-clause-makes g c =
    straight-makes g.B.Feeder.kept (seen c.args.tables.now c.args.device) c.args.chain.now c.args.mixed.now c.args.n
    c.requires.planned (sym c.is_straight.ensures ∙ c.if-is_straight.true) c.requires.fits

pub returns-then-is_straight-clause-far : goal.returns-then-is_straight-clause-far
returns-then-is_straight-clause-far g c =
    straight-far g.B.Feeder.kept (seen c.args.tables.now c.args.device) c.args.chain.now c.args.mixed.now c.args.n
    c.requires.planned (sym c.is_straight.ensures ∙ c.if-is_straight.true)

pub returns-then-is_straight-clause-fits : goal.returns-then-is_straight-clause-fits
returns-then-is_straight-clause-fits g c =
    subst (λ bits. All (FitsBits bits) c.args.mixed.now)
    (straight-bits (seen c.args.tables.now c.args.device) (sym c.is_straight.ensures ∙ c.if-is_straight.true)) c.requires.fits

-- ---- another one

-- the front of a buffer is n frames
taken : (n channels own : ℕ) (frames : List ℤ) → channels ≡ own → n * own ≤ length frames
    → length (take (n * channels) frames) ≡ n * own
taken n channels own frames same room =
    ap (λ c. length (take (n * c) frames)) same ∙ length-take-le (n * own) frames room

pub give-requires-clause-tables : goal.give-requires-clause-tables
give-requires-clause-tables g c =
    let tables = c.args.tables.now in
    subst (λ (plan : PlanSeen). HaveTables plan.stages tables) (sym c.requires.planned.plan_is)
    (parent-tables (seen tables c.args.device) c.requires.planned.limits)

pub give-requires-clause-can : goal.give-requires-clause-can
give-requires-clause-can g c =
    let tables = c.args.tables.now in
    let kept = g.B.Feeder.kept in
    let chain = c.args.chain.now in
    let n = c.args.n in
    let frames = c.args.frames.now in
    let channels = c.channels.result in
    let out = take (n * channels) frames in
    let long = taken n channels (channels_of c.args.device.settings.layout) frames c.channels.ensures c.requires.room in
    subst (λ (input : List ℤ). CanGive kept tables chain input (filling_frames (plan_in chain) out))
    (sym c.bring_to_full.ensures)
    (can-give kept (seen tables c.args.device) chain c.args.mixed.now out n c.requires.planned long c.requires.can)

pub returns-clause-planned : goal.returns-clause-planned
returns-clause-planned g c = record {
  limits = c.requires.planned.limits;
  plan_is = c.give.ensures.stays.plan ∙ c.requires.planned.plan_is;
}

pub returns-clause-makes : goal.returns-clause-makes
returns-clause-makes g c =
    let tables = c.args.tables.now in
    let kept = g.B.Feeder.kept in
    let old = c.args.chain.now in
    let new = c.give.new.self in
    let given = c.give.new.out in
    let n = c.args.n in
    let frames = c.args.frames.now in
    let channels = c.channels.result in
    let out = take (n * channels) frames in
    let long = taken n channels (channels_of c.args.device.settings.layout) frames c.channels.ensures c.requires.room in
    chain-makes kept (seen tables c.args.device) old new c.args.mixed.now out given n c.requires.planned c.requires.fits long
    (subst (λ (input : List ℤ). GivesOn kept tables input (filling_frames (plan_in old) out) old new given)
    c.bring_to_full.ensures c.give.ensures.gives)

-- the chain goes as far as the counts say
far-made : (g : _) (c : After-give g) (handed : ℕ) → HasMadeFar g.B.Feeder.kept (seen c.args.tables.now c.args.device) c.args.chain.now handed
    → AreMixedFor (seen c.args.tables.now c.args.device) c.args.mixed.now handed c.args.n
    → MakesFar g.B.Feeder.kept (seen c.args.tables.now c.args.device) c.give.new.self c.args.n handed c.give.new.out
far-made g c handed made mixed =
    let tables = c.args.tables.now in
    let kept = g.B.Feeder.kept in
    let old = c.args.chain.now in
    let n = c.args.n in
    let frames = c.args.frames.now in
    let out = take (n * c.channels.result) frames in
    let long = taken n c.channels.result (channels_of c.args.device.settings.layout) frames c.channels.ensures c.requires.room in
    chain-makes-far kept (seen tables c.args.device) old c.give.new.self c.args.mixed.now out c.give.new.out n handed c.requires.planned long
    (subst (λ (input : List ℤ). GivesOnFar kept tables input (filling_frames (plan_in old) out) old c.give.new.self c.give.new.out)
    c.bring_to_full.ensures c.give.ensures.far) made mixed

pub returns-clause-far : goal.returns-clause-far
returns-clause-far g c = λ handed made mixed. (far-made g c.before handed made mixed).made

pub returns-clause-fits : goal.returns-clause-fits
returns-clause-fits g c = let can = c.requires.can in (far-made g c.before can.handed can.made can.enough).bits
