use Rattle.std.proofs.Common.{◌%◌, ap, ◌∙◌}
use Rattle.pcm_script.proofs.Digits.{worth-digit}
use Rattle.pcm_script.proofs.number.digit_of.Goals as goal

pub returns-clause-value : goal.returns-clause-value
returns-clause-value c = c.from.ensures ∙ ap (λ worth. worth % 16) c.worth_of.ensures ∙ worth-digit c.args.digit
