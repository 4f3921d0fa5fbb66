-- The last of its pieces lacks all four frames, and byte 24 differs.
use Rattle.std.proofs.Common.{◌≡◌, ◌<◌, ℕ, List, slice_index_or, ap, arith}
use Rattle.pcm_rows.proofs.Computing.{row}
use Rattle.pcm_rows.specs.Calls.{piece}
use Rattle.pcm_rows.specs.Requests.{posted_run}
use Rattle.pcm_rows.proofs.plain.short_run_is_heard_otherwise.Goals as goal

pub returns-clause-short : goal.returns-clause-short
returns-clause-short c = λ whole.
    let one : 0 < 1 = omega arith in
    let three : 0 < 3 = omega arith in
    let missing : 4 ≡ 0 = whole 0 0 posted_run one 0 (piece 8 4 0 4) three in
    omega (arith, missing)

pub returns-clause-differs : goal.returns-clause-differs
unfolding row
returns-clause-differs c = λ same.
    let byte : 0 ≡ 5 = ap (λ (bytes : List ℕ). slice_index_or bytes 24 0) same in
    omega (arith, byte)
