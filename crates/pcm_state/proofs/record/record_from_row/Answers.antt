use Rattle.std.proofs.Common.{rules, ◌≡◌, ℕ, List, [], ◌∷◌, ◌++◌, length, get_or, ap, ◌∙◌}
use Rattle.pcm_desk.specs.declared.opening.Opening.{Opening}
use Rattle.pcm_state.specs.OpeningRows.{opening_row}
use Rattle.pcm_state.proofs.Rows.{read_from, rest-read}
use Rattle.pcm_state.proofs.record.record_from_row.Goals as goal

-- what was read is the row again
joined : (opening : Opening) (state overruns : ℕ) (row : List ℕ) → 13 ≡ length row → opening_row opening ≡ read_from row 0 7 → state ≡ get_or row 7 0 → overruns ≡ get_or row 12 0
    → opening_row opening ++ state ∷ read_from row 8 4 ++ overruns ∷ [] ≡ row
joined opening state overruns row long front at last =
    ap (λ l. l ++ state ∷ read_from row 8 4 ++ overruns ∷ []) front
    ∙ ap (λ n. read_from row 0 7 ++ n ∷ read_from row 8 4 ++ overruns ∷ []) at
    ∙ ap (λ n. read_from row 0 12 ++ n ∷ []) last
    ∙ rest-read row 0 13 long

pub returns-clause-row : goal.returns-clause-row
returns-clause-row c =
    let row = c.args.row.now in
    let long : 13 ≡ length row = search rules in
    joined c.in_ok-opening_from_row.field-0 _ c.in_ok-word.field-0 row long c.in_ok-opening_from_row.ensures.row c.in_ok-run_state.ensures.same c.in_ok-word.ensures.same
