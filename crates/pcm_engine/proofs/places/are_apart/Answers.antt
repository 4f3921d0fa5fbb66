use Rattle.std.proofs.Common.{sym, ◌∙◌, arith, true≢false}
use Rattle.std.proofs.lemmas.Grind.{common_steps}
use Rattle.pcm_engine.proofs.Tested.{stands-twice}
use Rattle.pcm_engine.proofs.places.are_apart.Goals as goal

pub returns-then-is_among : goal.returns-then-is_among
returns-then-is_among c = (
  λ wrong. absurd (true≢false (sym wrong)),
  λ once. absurd (stands-twice c.args.numbers.now c.loop-fd.fd (sym c.is_among.ensures ∙ c.if-is_among.true) (omega (arith, c.if-numbers-fd-ne0.true)) once),
)

pub loop-fd-preserved : goal.loop-fd-preserved
loop-fd-preserved c = grind (arith, common_steps)
