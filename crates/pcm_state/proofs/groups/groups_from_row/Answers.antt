use Rattle.std.proofs.Common.{rules, ◌≡◌, ℕ, ◌+◌, Some, List, ◌++◌, All, length, take, drop, sym, subst, ap, ◌∙◌}
use Rattle.std.proofs.lemmas.Option.{none-some}
use Rattle.pcm_group.specs.declared.sync_groups.Groups.{Groups}
use Rattle.pcm_state.specs.OpeningRows.{IsWord}
use Rattle.pcm_state.proofs.Rows.{first-half, halves-joined, second-half}
use Rattle.pcm_state.proofs.groups.groups_from_row.Goals as goal

abbrev groups_with : List ℕ → List ℕ → Groups
groups_with play recording = record { play = play; recording = recording }

pub returns-in_err-words-clause-some : goal.returns-in_err-words-clause-some
returns-in_err-words-clause-some c = λ groups fits same.
    let play : take 16 c.args.row.now ≡ groups.play = first-half 16 groups.play groups.recording c.args.row.now fits.play.count same in
    absurd (none-some _ (c.in_err-words.ensures.some (subst (All IsWord) (sym play) fits.play.each)))

pub returns-in_err-words-2-clause-some : goal.returns-in_err-words-2-clause-some
returns-in_err-words-2-clause-some c = λ groups fits same.
    let recording : take 16 (drop 16 c.args.row.now) ≡ groups.recording = second-half 16 groups.play groups.recording c.args.row.now fits.play.count fits.recording.count same in
    absurd (none-some _ (c.in_err-words-2.ensures.some (subst (All IsWord) (sym recording) fits.recording.each)))

pub returns-clause-row : goal.returns-clause-row
returns-clause-row c =
    let row = c.args.row.now in
    let long : length row ≡ 16 + 16 = search rules in
    ap (λ l. l ++ c.in_ok-words-2.field-0) c.in_ok-words.ensures.same ∙ ap (λ l. take 16 row ++ l) c.in_ok-words-2.ensures.same ∙ halves-joined 16 row long

pub returns-clause-some : goal.returns-clause-some
returns-clause-some c = λ groups fits same.
    let row = c.args.row.now in
    let play = c.in_ok-words.ensures.same ∙ first-half 16 groups.play groups.recording row fits.play.count same in
    let recording = c.in_ok-words-2.ensures.same ∙ second-half 16 groups.play groups.recording row fits.play.count fits.recording.count same in
    ap (λ l. Some (groups_with l c.in_ok-words-2.field-0)) play ∙ ap (λ l. Some (groups_with groups.play l)) recording
