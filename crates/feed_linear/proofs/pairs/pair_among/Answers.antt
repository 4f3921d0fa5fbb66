use Rattle.std.proofs.Common.{◌≡◌, ◌+◌, ◌∙◌, arith}
use Rattle.feed_linear.proofs.Sides.{first-kept, second-kept, first-come, pair-first, pair-next}
use Rattle.feed_linear.proofs.pairs.pair_among.Goals as goal

pub returns-then-place-ge2-clause-frame : goal.returns-then-place-ge2-clause-frame
returns-then-place-ge2-clause-frame c =
    c.split_at.ensures.front ∙ pair-first c.args.channels c.args.place c.args.kept.now c.args.input.now c.requires.some c.requires.two
    c.if-place-ge2.true c.requires.there

pub returns-then-place-ge2-clause-next : goal.returns-then-place-ge2-clause-next
returns-then-place-ge2-clause-next c =
    c.split_at.ensures.back ∙ pair-next c.args.channels c.args.place c.args.kept.now c.args.input.now c.requires.some c.requires.two
    c.if-place-ge2.true c.requires.there

pub returns-then-place-eq0-clause-frame : goal.returns-then-place-eq0-clause-frame
returns-then-place-eq0-clause-frame c =
    c.split_at-2.ensures.front ∙ first-kept c.args.channels c.args.place c.args.kept.now c.args.input.now c.requires.some c.requires.two
    c.if-place-eq0.true

pub returns-then-place-eq0-clause-next : goal.returns-then-place-eq0-clause-next
returns-then-place-eq0-clause-next c =
    c.split_at-2.ensures.back ∙ second-kept c.args.channels (c.args.place + 1) c.args.kept.now c.args.input.now c.requires.some
    c.requires.two (omega (arith, c.if-place-eq0.true))

pub returns-else-place-eq0-clause-frame : goal.returns-else-place-eq0-clause-frame
returns-else-place-eq0-clause-frame c =
    c.split_at-2.ensures.back ∙ second-kept c.args.channels c.args.place c.args.kept.now c.args.input.now c.requires.some c.requires.two
    (omega (arith, c.if-place-eq0.false, c.if-place-ge2.false))

pub returns-else-place-eq0-clause-next : goal.returns-else-place-eq0-clause-next
returns-else-place-eq0-clause-next c =
    let one : c.args.place ≡ 1 = omega (arith, c.if-place-eq0.false, c.if-place-ge2.false) in
    first-come c.args.channels (c.args.place + 1) c.args.kept.now c.args.input.now c.requires.some c.requires.two (omega (arith, one))
    (let there = rw one at c.requires.there in omega (arith, there))
