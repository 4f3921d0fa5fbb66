-- The starts of the spans differ.
use Rattle.std.proofs.Common.{◌≡◌, List, [], slice_index_or, ap, arith}
use Rattle.pcm_sound.specs.Plain.{Span}
use Rattle.pcm_rows.specs.PlainRows.{span, usual_plan}
use Rattle.pcm_rows.proofs.plain.other_starts_sound_otherwise.Goals as goal

pub returns-clause-otherwise : goal.returns-clause-otherwise
returns-clause-otherwise c = λ alike.
    let starts : 0 ≡ 1 = ap (λ (spans : List Span). (slice_index_or spans 0 (span usual_plan [] 0 0)).start) (alike.spans 0) in
    omega (arith, starts)
