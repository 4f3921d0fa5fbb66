-- Two channels are turned, frame by frame.
use Rattle.std.proofs.Common.{◌≡◌, ◌<◌, ◌+◌, ◌*◌, ◌/◌, ℤ, List, length, get_or, set, pos, w32, FitsSigned, inl, inr, refl, ap, ◌∙◌, subst, rules, arith}
use Rattle.std.proofs.lemmas.Bool.{cases_lt}
use Rattle.std.proofs.lemmas.Int.{to_z-of_z}
use Rattle.std.proofs.lemmas.List.{length-set}
use Rattle.feed_eq.specs.Lanes.{HoldsChannels, IsLaneAt, IsPassed, PutsFrames}
use Rattle.feed_eq.proofs.Passing.{GoesOn, goes-on, next-input, put-frame, set-here, set-other}
use Rattle.feed_eq.proofs.pass.pass_two.Goals as goal

-- the next output of the one channel, and what it keeps then
left : (c : goal.After-after-right) (x y : List ℤ)
    → IsPassed c.args.section c.args.channels (length c.args.samples.now / c.args.channels) x y
    → IsLaneAt c.args.section c.args.channels x y 0 c.args.channel c.args.left
    → IsLaneAt c.args.section c.args.channels x y 0 (c.args.channel + 1) c.args.right
    → HoldsChannels c.args.channels c.args.channel (c.args.channel + 2) x c.args.samples.now
    → GoesOn c.args.section c.args.channels x y c.loop-k.k c.args.channel c.next-one.result c.after-left.result
left c x y passed first second holds =
    let n = c.args.channels in
    let channel = c.args.channel in
    let k = c.loop-k.k in
    let sample = get_or c.loop-k.samples (k * n + channel) (pos 0) in
    let fits : FitsSigned w32 sample = search rules in
    let made_fits : FitsSigned w32 c.next-one.result = search rules in
    goes-on c.args.section n (length c.args.samples.now / n) k channel x y c.loop-k.left c.after-left.result sample c.next-one.result passed
    c.loop-k-test.true (omega (arith, c.requires.there))
    (c.loop-k.invariant.left x y passed first second holds)
    (next-input n channel (channel + 2) k channel x y c.args.samples.now c.loop-k.samples c.requires.there holds
    (c.loop-k.invariant.puts x y passed first second holds) c.loop-k-test.true (omega arith) (omega arith))
    (rw (to_z-of_z w32 sample fits) at c.next-one.ensures)
    (rw (to_z-of_z w32 sample fits, to_z-of_z w32 c.next-one.result made_fits) at c.after-left.ensures.next)
    (rw (to_z-of_z w32 sample fits, to_z-of_z w32 c.next-one.result made_fits) at c.after-left.ensures.later)

-- and of the other
right : (c : goal.After-after-right) (x y : List ℤ)
    → IsPassed c.args.section c.args.channels (length c.args.samples.now / c.args.channels) x y
    → IsLaneAt c.args.section c.args.channels x y 0 c.args.channel c.args.left
    → IsLaneAt c.args.section c.args.channels x y 0 (c.args.channel + 1) c.args.right
    → HoldsChannels c.args.channels c.args.channel (c.args.channel + 2) x c.args.samples.now
    → GoesOn c.args.section c.args.channels x y c.loop-k.k (c.args.channel + 1) c.next-two.result c.after-right.result
right c x y passed first second holds =
    let n = c.args.channels in
    let channel = c.args.channel in
    let k = c.loop-k.k in
    let place : k * n + channel + 1 ≡ k * n + (channel + 1) = omega arith in
    let sample = get_or c.loop-k.samples (k * n + channel + 1) (pos 0) in
    let fits : FitsSigned w32 sample = search rules in
    let made_fits : FitsSigned w32 c.next-two.result = search rules in
    goes-on c.args.section n (length c.args.samples.now / n) k (channel + 1) x y c.loop-k.right c.after-right.result sample
    c.next-two.result passed c.loop-k-test.true (omega (arith, c.requires.there))
    (c.loop-k.invariant.right x y passed first second holds)
    (ap (λ p. get_or c.loop-k.samples p (pos 0)) place
    ∙ next-input n channel (channel + 2) k (channel + 1) x y c.args.samples.now c.loop-k.samples c.requires.there holds
    (c.loop-k.invariant.puts x y passed first second holds) c.loop-k-test.true (omega arith) (omega arith))
    (rw (to_z-of_z w32 sample fits) at c.next-two.ensures)
    (rw (to_z-of_z w32 sample fits, to_z-of_z w32 c.next-two.result made_fits) at c.after-right.ensures.next)
    (rw (to_z-of_z w32 sample fits, to_z-of_z w32 c.next-two.result made_fits) at c.after-right.ensures.later)

pub loop-k-preserved : goal.loop-k-preserved
loop-k-preserved c =
    let n = c.args.channels in
    let channel = c.args.channel in
    let k = c.loop-k.k in
    let old = c.args.samples.now in
    let samples = c.loop-k.samples in
    let one = c.next-one.result in
    let two = c.next-two.result in
    let one_fits : FitsSigned w32 one = search rules in
    let two_fits : FitsSigned w32 two = search rules in
    let here = k * n + channel in
    let next : here + 1 ≡ k * n + (channel + 1) = omega arith in
    let first = set samples here one in
    let there : k < length samples / n = rw c.loop-k.auto.samples c.loop-k-test.true in
    let still : k < length first / n = rw (length-set samples here one) there in
    let low : channel < n = omega (arith, c.requires.there) in
    let high : channel + 1 < n = omega (arith, c.requires.there) in
    rw (to_z-of_z w32 one one_fits, to_z-of_z w32 two two_fits) (record {
      left = λ x y passed begin other holds. (left c x y passed begin other holds).lane_is;
      right = λ x y passed begin other holds. (right c x y passed begin other holds).lane_is;
      puts = λ x y passed begin other holds.
          put-frame n channel (channel + 2) k y old samples (set first (here + 1) two) c.requires.there
          (c.loop-k.invariant.puts x y passed begin other holds)
          (λ j least most. elim (cases_lt channel j) [
            | inl above ↦
                let same : j ≡ channel + 1 = omega (arith, above, most) in
                rw same (set-here n k (channel + 1) (here + 1) first two next still high ∙ (right c x y passed begin other holds).made)
            | inr below ↦
                let same : j ≡ channel = omega (arith, least, below) in
                rw same (set-other n k channel k (channel + 1) (here + 1) first two next low high
                (inr (λ equal. absurd (omega (arith, equal))))
                ∙ set-here n k channel here samples one refl there low ∙ (left c x y passed begin other holds).made)
          ])
          (λ i j within away.
          set-other n i j k (channel + 1) (here + 1) first two next within high (elim away [
            | inl row ↦ inl row
            | inr column ↦ inr (λ same. elim column [
              | inl before ↦ absurd (omega (arith, before, same))
              | inr behind ↦ absurd (omega (arith, behind, same))
            ])
          ])
          ∙ set-other n i j k channel here samples one refl within low (elim away [
            | inl row ↦ inl row
            | inr column ↦ inr (λ same. elim column [
              | inl before ↦ absurd (omega (arith, before, same))
              | inr behind ↦ absurd (omega (arith, behind, same))
            ])
          ]));
    })

pub returns-clause-puts : goal.returns-clause-puts
returns-clause-puts c = λ x y passed first second holds.
    let all : c.loop-k.k ≡ length c.args.samples.now / c.args.channels = omega (arith, c.loop-k-test.false, c.loop-k.auto.k-end) in
    subst (λ n. PutsFrames c.args.channels c.args.channel (c.args.channel + 2) n y c.args.samples.now c.loop-k.samples) all
    (c.loop-k.invariant.puts x y passed first second holds)
