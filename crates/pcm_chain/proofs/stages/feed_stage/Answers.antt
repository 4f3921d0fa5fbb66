use Rattle.std.proofs.Common.{◌≡◌, ◌*◌, ◌≤◌, length, take, All, rules, ap, subst}
use Rattle.pcm_num.specs.Limit.{FitsBits}
use Rattle.pcm_feeder.specs.Stages.{channels_in, channels_out}
use Rattle.pcm_feeder.specs.Streams.{written}
use Rattle.pcm_chain.specs.Boxes.{kept_in}
use Rattle.pcm_chain.specs.Feeds.{asked, fed_in}
use Rattle.pcm_chain.proofs.Bits.{fed-bits}
use Rattle.pcm_chain.proofs.Feeding.{can-feed}
use Rattle.pcm_chain.proofs.stages.feed_stage.Goals as goal

pub feed-moved-requires-in-Hold : goal.feed-moved-requires-in-Hold
feed-moved-requires-in-Hold g c =
    let kept = g.B.Feeder.kept in
    can-feed c.args.spec (kept c.args.boxes.now.hold) (kept_in kept c.args.boxes.now c.args.spec) c.args.tables.now c.args.gain
    c.args.frames c.args.want c.channels_in.result c.args.input.now c.args.output.now
    (ap (kept_in kept c.args.boxes.now) c.in-Hold.is) c.channels_in.ensures c.requires.fitted c.requires.gain_limits c.requires.filter
    c.requires.source (subst (λ s. asked s c.args.want c.args.frames * channels_out c.args.spec ≤ length c.args.output.now) c.in-Hold.is
    c.requires.room)

pub feed-moved-requires-in-Linear : goal.feed-moved-requires-in-Linear
feed-moved-requires-in-Linear g c =
    let kept = g.B.Feeder.kept in
    can-feed c.args.spec (kept c.args.boxes.now.linear) (kept_in kept c.args.boxes.now c.args.spec) c.args.tables.now c.args.gain
    c.args.frames c.args.want c.channels_in.result c.args.input.now c.args.output.now
    (ap (kept_in kept c.args.boxes.now) c.in-Linear.is) c.channels_in.ensures c.requires.fitted c.requires.gain_limits c.requires.filter
    c.requires.source (subst (λ s. asked s c.args.want c.args.frames * channels_out c.args.spec ≤ length c.args.output.now)
    c.in-Linear.is c.requires.room)

pub feed-moved-requires-in-Poly : goal.feed-moved-requires-in-Poly
feed-moved-requires-in-Poly g c =
    let kept = g.B.Feeder.kept in
    can-feed c.args.spec (kept c.args.boxes.now.poly) (kept_in kept c.args.boxes.now c.args.spec) c.args.tables.now c.args.gain
    c.args.frames c.args.want c.channels_in.result c.args.input.now c.args.output.now
    (ap (kept_in kept c.args.boxes.now) c.in-Poly.is) c.channels_in.ensures c.requires.fitted c.requires.gain_limits c.requires.filter
    c.requires.source (subst (λ s. asked s c.args.want c.args.frames * channels_out c.args.spec ≤ length c.args.output.now) c.in-Poly.is
    c.requires.room)

pub feed-moved-requires-in-Depth : goal.feed-moved-requires-in-Depth
feed-moved-requires-in-Depth g c =
    let kept = g.B.Feeder.kept in
    can-feed c.args.spec (kept c.args.boxes.now.depth) (kept_in kept c.args.boxes.now c.args.spec) c.args.tables.now c.args.gain
    c.args.frames c.args.frames c.channels_in.result c.args.input.now c.args.output.now
    (ap (kept_in kept c.args.boxes.now) c.in-Depth.is) c.channels_in.ensures c.requires.fitted c.requires.gain_limits c.requires.filter
    c.requires.source (subst (λ s. asked s c.args.want c.args.frames * channels_out c.args.spec ≤ length c.args.output.now)
    c.in-Depth.is c.requires.room)

pub feed-moved-requires-in-Eq : goal.feed-moved-requires-in-Eq
feed-moved-requires-in-Eq g c =
    let kept = g.B.Feeder.kept in
    can-feed c.args.spec (kept c.args.boxes.now.eq) (kept_in kept c.args.boxes.now c.args.spec) c.args.tables.now c.args.gain c.args.frames
    c.args.frames c.channels_in.result c.args.input.now c.args.output.now
    (ap (kept_in kept c.args.boxes.now) c.in-Eq.is) c.channels_in.ensures c.requires.fitted c.requires.gain_limits c.requires.filter
    c.requires.source (subst (λ s. asked s c.args.want c.args.frames * channels_out c.args.spec ≤ length c.args.output.now) c.in-Eq.is
    c.requires.room)

pub returns-clause-bits : goal.returns-clause-bits
returns-clause-bits g c =
    let kept = kept_in g.B.Feeder.kept c.args.boxes.now c.args.spec in
    let put : c.match-spec.output ≡ written (fed_in g.B.Feeder.kept c.args.boxes.now c.args.spec c.args.tables.now c.args.gain c.args.frames
    c.args.want c.args.input.now).frames c.args.output.now = search rules in
    let fits = subst (λ n. All (FitsBits 32) (take (c.args.frames * n) c.args.input.now)) c.channels_in.ensures c.tell_bits.ensures in
    fed-bits c.args.spec kept c.args.tables.now c.args.gain (take (c.args.frames * channels_in c.args.spec) c.args.input.now)
    (asked c.args.spec c.args.want c.args.frames) c.args.output.now c.match-spec.output c.requires.limits c.requires.fitted
    fits c.tell_bits-2.ensures put
