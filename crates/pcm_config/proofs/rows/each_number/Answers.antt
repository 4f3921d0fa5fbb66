use Rattle.std.proofs.Common.{sym, ◌∙◌, refl, arith}
use Rattle.toml.specs.Data.{as_integer}
use Rattle.toml.specs.View.{view}
use Rattle.pcm_config.proofs.Arrays.{all-read, value-other}
use Rattle.pcm_config.proofs.rows.each_number.Goals as goal

pub returns-in_default : goal.returns-in_default
returns-in_default c =
    let other = value-other (λ value. as_integer (view value)) c.args.values.now c.loop-value.value-index c.loop-value.numbers.items
    c.value-item.result
    (omega arith) c.value-item.is (sym c.as_integer.ensures ∙ c.in_default.is) c.loop-value.invariant in
    rw (c.refused.ensures, other) refl

pub returns : goal.returns
returns c =
    let all = all-read (λ value. as_integer (view value)) c.args.values.now c.loop-value.value-index c.loop-value.numbers.items
    (omega arith) c.loop-value.invariant in
    rw (c.new.ensures, all) refl
