use Rattle.std.proofs.Common.{◌∙◌, ap, arith, length}
use Rattle.pcm_verdict.specs.Faults.{Long}
use Rattle.pcm_inputs.specs.Faults.{file_kind_seen}
use Rattle.pcm_inputs.specs.Parts.{data_part, file_part}
use Rattle.pcm_inputs.proofs.Judgements.{file-begins, file-comes, file-judged, file-long, file-refused}
use Rattle.pcm_inputs.proofs.Parts.{ends-as}
use Rattle.pcm_inputs.proofs.Refusing.{err-as, on-ok, tells-behind, tells-named, wave-refused}
use Rattle.pcm_inputs.proofs.data_files.read_next.Goals as goal

-- the file could not be read
pub returns-in_err-bytes-clause-err : goal.returns-in_err-bytes-clause-err
returns-in_err-bytes-clause-err g c =
    let whole = data_part c.args.config.now c.args.loaded.now.files.items c.args.file.now in
    err-as _ c.in_err-bytes.field-0.0 c.from_residual.result c.from_residual.ensures.1
    (ends-as whole (file_part c.as_str-path.result.now) _ _ _
    (file-begins c.args.config.now c.args.loaded.now.files.items c.args.file.now c.as_str-path.result.now _ c.as_str-path.ensures)
    c.in_err-bytes.ensures.err)

-- with the others it is too long
pub returns-then-size-left-clause-err : goal.returns-then-size-left-clause-err
returns-then-size-left-clause-err g c =
    let config = c.args.config.now in
    let before = c.args.loaded.now.files.items in
    let file = c.args.file.now in
    let path = c.as_str-path.result.now in
    let bytes = c.in_ok-bytes.bytes.items in
    let only = c.in_ok-bytes.ensures.only in
    wave-refused (data_part config before file) file.path Long _ _ _
    (file-comes config before file path c.left.result bytes _ _ c.as_str-path.ensures c.left.ensures.value c.in_ok-bytes.ensures.ok
    (file-long config before file bytes (omega (arith, c.len-size.ensures, c.left-2.ensures.value))))
    only.files (tells-behind _ _ _ _ _ only (tells-named path file.path Long _ _ _ c.as_str-path.ensures c.refuse.ensures))

pub keep-requires-clause-size : goal.keep-requires-clause-size
keep-requires-clause-size g c = omega (arith, c.len-size.ensures, ap length c.in-Ok-file_of.ensures.bytes)

-- it was judged, and is kept
pub returns-in-Ok-file_of-clause-ok : goal.returns-in-Ok-file_of-clause-ok
returns-in-Ok-file_of-clause-ok g c =
    let config = c.args.config.now in
    let before = c.args.loaded.now.files.items in
    let file = c.args.file.now in
    let bytes = c.in_ok-bytes.bytes.items in
    on-ok c.keep.result c.keep.ensures.ok (λ kept. record {
      next = c.in-Ok-file_of.next;
      gives = record {
        came = file-comes config before file c.as_str-path.result.now c.left.result bytes _ _ c.as_str-path.ensures c.left.ensures.value
            c.in_ok-bytes.ensures.ok
            (file-judged config before file _ bytes c.in-Ok-file_of.next (c.in-Ok.ensures.ok ∙ c.as_str.ensures)
            (omega (arith, c.len-size.ensures, c.left-2.ensures.value)) c.in-Ok-file_of.ensures.judged);
        only = c.in_ok-bytes.ensures.only;
      };
      files = kept;
      shaped = c.in-Ok-file_of.ensures.shaped;
    })

-- it is refused
pub returns-in-Err-clause-err : goal.returns-in-Err-clause-err
returns-in-Err-clause-err g c =
    let config = c.args.config.now in
    let before = c.args.loaded.now.files.items in
    let file = c.args.file.now in
    let path = c.as_str-path.result.now in
    let bytes = c.in_ok-bytes.bytes.items in
    let kind = file_kind_seen c.in-Err.kind in
    let only = c.in_ok-bytes.ensures.only in
    wave-refused (data_part config before file) file.path kind _ _ _
    (file-comes config before file path c.left.result bytes _ _ c.as_str-path.ensures c.left.ensures.value c.in_ok-bytes.ensures.ok
    (file-refused config before file _ bytes c.in-Err.kind (c.in-Ok.ensures.ok ∙ c.as_str.ensures)
    (omega (arith, c.len-size.ensures, c.left-2.ensures.value)) c.in-Err.ensures.judged))
    only.files (tells-behind _ _ _ _ _ only (tells-named path file.path kind _ _ _ c.as_str-path.ensures c.refuse-in-Err.ensures))
