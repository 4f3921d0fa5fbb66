use Rattle.std.proofs.Common.{rules, ◌≡◌, ◌++◌, length, refl, ap, ◌∙◌}
use Rattle.std.specs.Prelude.{replicate}
use Rattle.pcm_state.proofs.Rows.{halves-put}
use Rattle.pcm_state.proofs.groups.groups_row.Goals as goal

pub returns-clause-row : goal.returns-clause-row
returns-clause-row c =
    let groups = c.args.groups.now in
    let play = c.put_words.new.out in
    let recording = c.put_words-2.new.out in
    let long : length play ≡ 16 = search rules in
    halves-put 16 play (replicate 16 0) recording long refl
    ∙ ap (λ l. l ++ recording) c.put_words.ensures.put ∙ ap (λ l. groups.play ++ l) c.put_words-2.ensures.put
