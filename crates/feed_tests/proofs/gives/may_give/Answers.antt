use Rattle.std.proofs.Common.{◌≡◌, ◌+◌, ◌/◌, ◌++◌, ℕ, length, ap, ◌∙◌, subst, arith}
use Rattle.pcm_format.specs.Layouts.{channels_of}
use Rattle.pcm_feeder.proofs.Frames.{length-frames_of}
use Rattle.pcm_chain.specs.Chains.{plan_in}
use Rattle.pcm_chain.specs.Gives.{filling_frames, AreJustEnough, GivesExactly}
use Rattle.pcm_chain.specs.Pushes.{pushed_frames}
use Rattle.pcm_chain.proofs.Far.{chain-far}
use Rattle.feed_tests.proofs.gives.may_give.Goals as goal

-- each sample of one channel is a frame
by-one : (n channels : ℕ) → channels ≡ 1 → n / channels ≡ n
by-one n channels one = ap (λ k. n / k) one ∙ omega arith

pub give-requires-clause-can : goal.give-requires-clause-can
give-requires-clause-can g c =
    let plan = plan_in c.args.chain.now in
    let gives = c.requires.gives in
    let frames = length-frames_of (channels_of plan.source) c.args.input.now
    ∙ by-one (length c.args.input.now) (channels_of plan.source) (ap channels_of c.requires.source) in
    let count : filling_frames plan c.args.out.now ≡ length c.args.out.now = by-one (length c.args.out.now) (channels_of plan.target)
    (ap channels_of c.requires.target) in
    let before = rw c.plan.ensures at c.need-before.ensures in
    let after = rw c.plan-2.ensures at c.need-after.ensures in
    record {
      eaten = length gives.0;
      given = c.args.given;
      gives = record {
        far = chain-far g.B.Feeder.kept c.args.tables.now c.args.chain.now gives.0 0 c.args.given gives.1.stands;
        exact = gives.1.exact;
      };
      enough = rw count (omega (arith, frames, c.saturating_sub.ensures, before, after, c.if-enough.true));
    }

pub returns-then-enough-clause-gives : goal.returns-then-enough-clause-gives
returns-then-enough-clause-gives g c enough =
    let plan = plan_in c.args.chain.now in
    let gives = c.requires.gives in
    let input = pushed_frames plan c.args.input.now in
    let frames = length-frames_of (channels_of plan.source) c.args.input.now
    ∙ by-one (length c.args.input.now) (channels_of plan.source) (ap channels_of c.requires.source) in
    let count : filling_frames plan c.args.out.now ≡ length c.args.out.now = by-one (length c.args.out.now) (channels_of plan.target)
    (ap channels_of c.requires.target) in
    let before = rw c.plan.ensures at c.need-before.ensures in
    let after = rw c.plan-2.ensures at c.need-after.ensures in
    let just : AreJustEnough plan c.args.input.now c.args.given (filling_frames plan c.args.out.now) = rw count
    (omega (arith, frames, c.saturating_sub.ensures, before, after, c.if-enough.true)) in
    let next = c.give.ensures.gives gives.0 c.args.given gives.1 just in (
      gives.0 ++ input,
      subst (λ n. GivesExactly g.B.Feeder.kept c.args.tables.now c.give.new.self (gives.0 ++ input) (c.args.given + n)) count next.exactly,
    )
