-- Of silence and one frame, and then of the next.
use Rattle.std.proofs.Common.{◌≡◌, ◌+◌, ◌*◌, ◌+ℤ◌, pos, get_or, w32, w64, FitsSigned, ap, ◌∙◌, rules, arith}
use Rattle.std.proofs.lemmas.Int.{to_z-of_z}
use Rattle.feed_eq.specs.Added.{added}
use Rattle.feed_eq.specs.Lanes.{added_by}
use Rattle.feed_eq.proofs.Weights.{coef-fits, sum-fits}
use Rattle.feed_eq.proofs.lane.Lane.of.Goals as goal

pub returns : goal.returns
returns c =
    let s = c.args.section in
    let n = c.args.channels in
    let channel = c.args.channel in
    let input = c.args.input.now in
    let output = c.args.output.now in
    let x = get_or input channel (pos 0) in
    let y = get_or output channel (pos 0) in
    let x1 = get_or input (n + channel) (pos 0) in
    let y1 = get_or output (n + channel) (pos 0) in
    let x_fits : FitsSigned w32 x = search rules in
    let y_fits : FitsSigned w32 y = search rules in
    let x1_fits : FitsSigned w32 x1 = search rules in
    let y1_fits : FitsSigned w32 y1 = search rules in
    let here : channel ≡ 0 * n + channel = omega arith in
    let there : n + channel ≡ (0 + 1) * n + channel = omega arith in
    let shared : c.added-later.result ≡ added s.b2 s.a2 x y =
    rw (
      to_z-of_z w32 s.b2 (coef-fits s.b2 c.requires.section.b2),
      to_z-of_z w32 s.a2 (coef-fits s.a2 c.requires.section.a2),
      to_z-of_z w32
          x x_fits,
      to_z-of_z w32 y y_fits,
    ) at c.added-later.ensures.value in
    record {
      next = (rw (
        to_z-of_z w64 c.added-later.result (sum-fits 2 c.added-later.result (omega arith) c.added-later.ensures.bound),
        to_z-of_z
            w32 x1 x1_fits,
        to_z-of_z w32 y1 y1_fits,
      ) at c.after.ensures.next)
          ∙ ap (λ z. z +ℤ added s.b1 s.a1 x1 y1) (shared
          ∙ ap (λ p. added s.b2 s.a2 (get_or input p (pos 0)) (get_or output p (pos 0))) here)
          ∙ ap (λ p. added_by n input output 0 channel s.b2 s.a2 +ℤ added s.b1 s.a1 (get_or input p (pos 0)) (get_or output p (pos 0)))
          there;
      later = (rw (to_z-of_z w32 x1 x1_fits, to_z-of_z w32 y1 y1_fits) at c.after.ensures.later)
          ∙ ap (λ p. added s.b2 s.a2 (get_or input p (pos 0)) (get_or output p (pos 0))) there;
    }
