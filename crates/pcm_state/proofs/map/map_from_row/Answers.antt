use Rattle.std.proofs.Common.{rules, ◌≡◌, ℕ, List, [], ◌∷◌, ◌++◌, length, get_or, ap, ◌∙◌}
use Rattle.pcm_desk.specs.declared.opening.Opening.{Opening}
use Rattle.pcm_state.specs.OpeningRows.{opening_row}
use Rattle.pcm_state.proofs.Rows.{read_from, rest-read}
use Rattle.pcm_state.proofs.map.map_from_row.Goals as goal

-- what was read is the row again
joined : (opening : Opening) (volume state : ℕ) (row : List ℕ) → 11 ≡ length row → opening_row opening ≡ read_from row 0 7 → volume ≡ get_or row 7 0 → state ≡ get_or row 8 0
    → opening_row opening ++ volume ∷ state ∷ get_or row 9 0 ∷ get_or row 10 0 ∷ [] ≡ row
joined opening volume state row long front its at =
    ap (λ l. l ++ volume ∷ state ∷ read_from row 9 2) front
    ∙ ap (λ n. read_from row 0 7 ++ n ∷ state ∷ read_from row 9 2) its
    ∙ ap (λ n. read_from row 0 8 ++ n ∷ read_from row 9 2) at
    ∙ rest-read row 0 11 long

pub returns-clause-row : goal.returns-clause-row
returns-clause-row c =
    let row = c.args.row.now in
    let long : 11 ≡ length row = search rules in
    joined c.in_ok-opening_from_row.field-0 c.in_ok-word.field-0 _ row long c.in_ok-opening_from_row.ensures.row c.in_ok-word.ensures.same c.in_ok-run_state.ensures.same
