use Rattle.std.proofs.Common.{◌*◌, ◌/◌, ◌^◌, ap, ◌∙◌}
use Rattle.pcm_num.proofs.Reciprocals.{quotient-is}
use Rattle.pcm_num.proofs.reciprocal.Reciprocal.quotient.Goals as goal

pub returns : goal.returns
returns c =
    let divides = c.args.self in
    ap (λ n. n * c.from-2.result / 2 ^ 69) c.from.ensures
    ∙ ap (λ factor. c.args.n * factor / 2 ^ 69) (c.from-2.ensures ∙ divides.factor_is)
    ∙ quotient-is divides.divisor c.args.n divides.least divides.most c.requires
