use Rattle.pcm_num.proofs.Limits.{FitsBits-mul_pow, FitsBits-floor_div}
use Rattle.pcm_format.specs.Formats.{bits_of}
use Rattle.pcm_format.specs.Samples.{sample_value}
use Rattle.pcm_format.proofs.Spelling.{at_depth-loaded, stored-loaded, sample_value-fits, bits_of-above, bits_of-within}
use Rattle.pcm_format.proofs.laws.load_loses_nothing.Goals as goal

pub returns-clause-depth : goal.returns-clause-depth
returns-clause-depth c = at_depth-loaded

pub returns-clause-again : goal.returns-clause-again
returns-clause-again c = λ f bytes sample. stored-loaded f bytes sample.whole sample.each

pub returns-clause-range : goal.returns-clause-range
returns-clause-range c = λ f bytes sample.
    FitsBits-mul_pow (bits_of f) (sample_value f bytes) (bits_of-above f) (bits_of-within f)
    (sample_value-fits f bytes sample.whole sample.each)

pub returns-clause-fits : goal.returns-clause-fits
returns-clause-fits c = λ f x. FitsBits-floor_div (bits_of f) x (bits_of-above f) (bits_of-within f)
