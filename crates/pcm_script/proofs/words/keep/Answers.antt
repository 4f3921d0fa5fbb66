use Rattle.std.proofs.Common.{◌≡◌, ◌≤◌, false, length, rules}
use Rattle.std.proofs.lemmas.Bool.Decides.{nat_tests}
use Rattle.std.proofs.lemmas.List.{length-map}
use Rattle.pcm_script.specs.declared.words.TheConstants.{KEPT}
use Rattle.pcm_script.specs.Words.{is_word, lent}
use Rattle.pcm_script.proofs.Cuts.{is_word-length}
use Rattle.pcm_script.proofs.FirstWords.{kept-full, kept-empty}
use Rattle.pcm_script.proofs.words.keep.Goals.{
  else-not-is_full-via-else-not-is_full as full,
  else-not-is_full-via-then-not-is_full+else-not-is_empty as empty,
}
use Rattle.pcm_script.proofs.words.keep.Goals as goal

pub returns-else-not-is_full : goal.returns-else-not-is_full
returns-else-not-is_full c =
    elim c.else-not-is_full.branch [
      | full w ↦
          let whole : length (lent c.args.words.now.items) ≡ KEPT = rw length-map (search (rules, nat_tests)) in
          kept-full (lent c.args.words.now.items) c.args.part.now whole
      | empty w ↦
          let none : is_word c.args.part.now ≡ false = search (rules, is_word-length) in
          let short : length (lent c.args.words.now.items) ≤ KEPT = rw length-map (search rules) in
          kept-empty (lent c.args.words.now.items) c.args.part.now none short
    ]
