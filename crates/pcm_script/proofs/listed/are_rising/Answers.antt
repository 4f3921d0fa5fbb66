use Rattle.std.proofs.Common.{◌≡◌, Bool, true, false, sym, rules, List}
use Rattle.std.specs.List.{IsAllAdjacentAnswer}
use Rattle.std.proofs.lemmas.Bool.{false≢true}
use Rattle.std.proofs.lemmas.List.Sorted.{answers_always}
use Rattle.pcm_wave.specs.DataFiles.{DataFileSeen}
use Rattle.pcm_script.specs.Listed.{AreRising, is_before}
use Rattle.pcm_script.proofs.listed.are_rising.Goals as goal

rising : (files : List DataFileSeen) (b : Bool) → IsAllAdjacentAnswer (λ one next r. r ≡ is_before one next) files b → b ≡ true
    → AreRising files
rising files true each is = λ k d below. sym (each k d below)
rising files false each is = absurd (false≢true is)

pub returns : goal.returns
returns c = rising c.args.files.now c.is_sorted_by.result
    (c.is_sorted_by.ensures.cases is_before (answers_always _ _ _ (λ f a r g called. search rules)))
