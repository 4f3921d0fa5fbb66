use Rattle.std.proofs.Common.{◌≡◌, ◌∙◌, Err, Ok, arith, subst}
use Rattle.pcm_verdict.specs.Verdict.{conversion_from, conversion_of}
use Rattle.pcm_wave.specs.Waves.{wave_of}
use Rattle.pcm_inputs.specs.Parts.{conversion_part, file_part, SourceJudged}
use Rattle.pcm_inputs.proofs.Judgements.{conversion-begins, conversion-comes, conversion-long, conversion-short}
use Rattle.pcm_inputs.proofs.Parts.{ends-as}
use Rattle.pcm_inputs.proofs.Refusing.{err-as, tells-behind, wave-refused}
use Rattle.pcm_inputs.proofs.source.read_source.Goals as goal

-- the file could not be read
pub returns-in_err-bytes-clause-err : goal.returns-in_err-bytes-clause-err
returns-in_err-bytes-clause-err g c = err-as _ c.in_err-bytes.field-0.0 c.from_residual.result c.from_residual.ensures.1
    (ends-as (conversion_part c.args.name.now c.args.target) (file_part c.args.name.now) _ _ _
    (conversion-begins c.args.name.now c.args.target _) c.in_err-bytes.ensures.err)

-- it is too long
pub returns-then-len-gt-DATA_BYTES-clause-err : goal.returns-then-len-gt-DATA_BYTES-clause-err
returns-then-len-gt-DATA_BYTES-clause-err g c =
    let bytes = c.in_ok-bytes.bytes.items in
    let only = c.in_ok-bytes.ensures.only in
    wave-refused (conversion_part c.args.name.now c.args.target) _ _ _ _ _
    (conversion-comes c.args.name.now c.args.target bytes _ _ c.in_ok-bytes.ensures.ok
    (conversion-long c.args.name.now c.args.target bytes (omega (arith, c.len.ensures))))
    only.files (tells-behind _ _ _ _ _ only c.refuse.ensures)

-- it was judged
pub returns-in-Ok-source_of-clause-ok : goal.returns-in-Ok-source_of-clause-ok
returns-in-Ok-source_of-clause-ok g c =
    let bytes = c.in_ok-bytes.bytes.items in
    let name = c.args.name.now in
    let short : conversion_of name c.args.target bytes ≡ conversion_from name c.args.target bytes (wave_of bytes) = conversion-short name
    c.args.target bytes (omega (arith, c.len.ensures)) in
    let judged = subst (λ own. SourceJudged own c.args.target bytes (Ok c.in-Ok-source_of.source)) c.in-Ok.ensures.ok
    c.in-Ok-source_of.ensures.judged in
    record {
      came = conversion-comes name c.args.target bytes _ _ c.in_ok-bytes.ensures.ok (short ∙ judged);
      only = c.in_ok-bytes.ensures.only;
    }

pub returns-in-Err-clause-err : goal.returns-in-Err-clause-err
returns-in-Err-clause-err g c =
    let bytes = c.in_ok-bytes.bytes.items in
    let name = c.args.name.now in
    let only = c.in_ok-bytes.ensures.only in
    let short : conversion_of name c.args.target bytes ≡ conversion_from name c.args.target bytes (wave_of bytes) = conversion-short name
    c.args.target bytes (omega (arith, c.len.ensures)) in
    let judged = subst (λ own. SourceJudged own c.args.target bytes (Err c.in-Err.kind)) c.in-Ok.ensures.ok c.in-Err.ensures.judged in
    wave-refused (conversion_part name c.args.target) _ _ _ _ _
    (conversion-comes name c.args.target bytes _ _ c.in_ok-bytes.ensures.ok (short ∙ judged))
    only.files (tells-behind _ _ _ _ _ only c.refuse-in-Err.ensures)
