use Rattle.std.proofs.Common.{◌≡◌, take}
use Rattle.pcm_script.specs.declared.words.TheConstants.{KEPT}
use Rattle.pcm_script.specs.Words.{lent, words_of}
use Rattle.pcm_script.proofs.FirstWords.{parts_of, with_parts}
use Rattle.pcm_script.proofs.Reading.{left_of}
use Rattle.pcm_script.proofs.words.first_words.Given as goal

abbrev pub decreases-loop-rest : goal.decreases-loop-rest
decreases-loop-rest l = left_of l.rest

abbrev pub invariant-loop-rest : goal.invariant-loop-rest
invariant-loop-rest l =
    (take KEPT (lent l.words.items) ≡ lent l.words.items) ×
    (with_parts (lent l.words.items) (parts_of l.rest) ≡ take KEPT (words_of l.line))
