use Rattle.pcm_format.proofs.Spelling.{sample_value-spelled, spelled-sample_value, sample_value-fits, length-spelled, spelled-below}
use Rattle.pcm_format.proofs.laws.spelling_is_unique.Goals as goal

pub returns-clause-value : goal.returns-clause-value
returns-clause-value c = sample_value-spelled

pub returns-clause-bytes : goal.returns-clause-bytes
returns-clause-bytes c = λ f bytes sample. spelled-sample_value f bytes sample.whole sample.each

pub returns-clause-range : goal.returns-clause-range
returns-clause-range c = λ f bytes sample. sample_value-fits f bytes sample.whole sample.each

pub returns-clause-sample : goal.returns-clause-sample
returns-clause-sample c = λ f value. record { whole = length-spelled f value; each = spelled-below f value }
