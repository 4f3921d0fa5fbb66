use Rattle.std.proofs.Common.{rules, ◌≡◌, ℕ, List, [], ◌∷◌, ◌++◌, length, get_or, ap, ◌∙◌}
use Rattle.pcm_desk.specs.declared.opening.Opening.{Opening}
use Rattle.pcm_state.specs.OpeningRows.{opening_row}
use Rattle.pcm_state.proofs.Rows.{read_from, rest-read}
use Rattle.pcm_state.proofs.play.play_from_row.Goals as goal

-- what was read is the row again
joined : (opening : Opening) (volume state underruns : ℕ) (row : List ℕ) → 15 ≡ length row → opening_row opening ≡ read_from row 0 7 → volume ≡ get_or row 7 0 → state ≡ get_or row 8 0
    → underruns ≡ get_or row 13 0 → opening_row opening ++ volume ∷ state ∷ read_from row 9 4 ++ underruns ∷ get_or row 14 0 ∷ [] ≡ row
joined opening volume state underruns row long front its at short =
    ap (λ l. l ++ volume ∷ state ∷ read_from row 9 4 ++ underruns ∷ read_from row 14 1) front
    ∙ ap (λ n. read_from row 0 7 ++ n ∷ state ∷ read_from row 9 4 ++ underruns ∷ read_from row 14 1) its
    ∙ ap (λ n. read_from row 0 8 ++ n ∷ read_from row 9 4 ++ underruns ∷ read_from row 14 1) at
    ∙ ap (λ n. read_from row 0 13 ++ n ∷ read_from row 14 1) short
    ∙ rest-read row 0 15 long

pub returns-clause-row : goal.returns-clause-row
returns-clause-row c =
    let row = c.args.row.now in
    let long : 15 ≡ length row = search rules in
    joined c.in_ok-opening_from_row.field-0 c.in_ok-word.field-0 _ c.in_ok-word-2.field-0 row long c.in_ok-opening_from_row.ensures.row c.in_ok-word.ensures.same c.in_ok-play_state.ensures.same c.in_ok-word-2.ensures.same
