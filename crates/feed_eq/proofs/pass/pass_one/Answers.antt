-- A channel is turned, frame by frame.
use Rattle.std.proofs.Common.{◌≡◌, ◌<◌, ◌+◌, ◌*◌, ◌/◌, ℤ, List, length, get_or, set, pos, w32, FitsSigned, inl, inr, refl, ◌∙◌, subst, rules, arith}
use Rattle.std.proofs.lemmas.Int.{to_z-of_z}
use Rattle.feed_eq.specs.Lanes.{HoldsChannels, IsLaneAt, IsPassed, PutsFrames}
use Rattle.feed_eq.proofs.Passing.{GoesOn, goes-on, next-input, put-frame, set-here, set-other}
use Rattle.feed_eq.proofs.pass.pass_one.Goals as goal

-- the next output, and what the channel keeps then
next : (c : goal.After-after-lane) (x y : List ℤ)
    → IsPassed c.args.section c.args.channels (length c.args.samples.now / c.args.channels) x y
    → IsLaneAt c.args.section c.args.channels x y 0 c.args.channel c.args.lane
    → HoldsChannels c.args.channels c.args.channel (c.args.channel + 1) x c.args.samples.now
    → GoesOn c.args.section c.args.channels x y c.loop-k.k c.args.channel c.next-made.result c.after-lane.result
next c x y passed begin holds =
    let n = c.args.channels in
    let channel = c.args.channel in
    let k = c.loop-k.k in
    let sample = get_or c.loop-k.samples (k * n + channel) (pos 0) in
    let fits : FitsSigned w32 sample = search rules in
    let made_fits : FitsSigned w32 c.next-made.result = search rules in
    goes-on c.args.section n (length c.args.samples.now / n) k channel x y c.loop-k.lane c.after-lane.result sample c.next-made.result
    passed c.loop-k-test.true (omega (arith, c.requires.there))
    (c.loop-k.invariant.lane x y passed begin holds)
    (next-input n channel (channel + 1) k channel x y c.args.samples.now c.loop-k.samples (omega (arith, c.requires.there)) holds
    (c.loop-k.invariant.puts x y passed begin holds) c.loop-k-test.true (omega arith) (omega arith))
    (rw (to_z-of_z w32 sample fits) at c.next-made.ensures)
    (rw (to_z-of_z w32 sample fits, to_z-of_z w32 c.next-made.result made_fits) at c.after-lane.ensures.next)
    (rw (to_z-of_z w32 sample fits, to_z-of_z w32 c.next-made.result made_fits) at c.after-lane.ensures.later)

pub loop-k-preserved : goal.loop-k-preserved
loop-k-preserved c =
    let n = c.args.channels in
    let channel = c.args.channel in
    let k = c.loop-k.k in
    let old = c.args.samples.now in
    let samples = c.loop-k.samples in
    let made = c.next-made.result in
    let fits : FitsSigned w32 made = search rules in
    let there : k < length samples / n = rw c.loop-k.auto.samples c.loop-k-test.true in
    rw (to_z-of_z w32 made fits) (record {
      lane = λ x y passed begin holds. (next c x y passed begin holds).lane_is;
      puts = λ x y passed begin holds.
          put-frame n channel (channel + 1) k y old samples (set samples (k * n + channel) made) (omega (arith, c.requires.there))
          (c.loop-k.invariant.puts x y passed begin holds)
          (λ j least most.
          let same : j ≡ channel = omega (arith, least, most) in
          rw same (set-here n k channel (k * n + channel) samples made refl there (omega (arith, c.requires.there))
          ∙ (next c x y passed begin holds).made))
          (λ i j within away. set-other n i j k channel (k * n + channel) samples made refl within (omega (arith, c.requires.there))
          (elim away [
            | inl row ↦ inl row
            | inr column ↦ inr (λ same. elim column [
              | inl before ↦ absurd (omega (arith, before, same))
              | inr behind ↦ absurd (omega (arith, behind, same))
            ])
          ]));
    })

pub returns-clause-puts : goal.returns-clause-puts
returns-clause-puts c = λ x y passed begin holds.
    let all : c.loop-k.k ≡ length c.args.samples.now / c.args.channels = omega (arith, c.loop-k-test.false, c.loop-k.auto.k-end) in
    subst (λ n. PutsFrames c.args.channels c.args.channel (c.args.channel + 1) n y c.args.samples.now c.loop-k.samples) all
    (c.loop-k.invariant.puts x y passed begin holds)
