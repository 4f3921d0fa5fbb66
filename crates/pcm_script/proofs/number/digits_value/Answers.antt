use Rattle.std.proofs.Common.{arith}
use Rattle.pcm_script.proofs.Numerals.{digit-fits}
use Rattle.pcm_script.proofs.number.digits_value.Goals as goal

pub overflow_mul-value : goal.overflow_mul-value
overflow_mul-value c =
    omega (
      arith,
      digit-fits c.loop-digit.value c.args.base 0 c.loop-digit.digit-index c.loop-digit.invariant.room (omega arith)
          c.requires.base (omega arith),
    )

pub overflow_add-value : goal.overflow_add-value
overflow_add-value c =
    omega (
      arith,
      digit-fits c.loop-digit.value c.args.base c.digit_of.result c.loop-digit.digit-index c.loop-digit.invariant.room
          (omega arith) c.requires.base c.digit_of.ensures.most,
    )
