use Rattle.std.proofs.Common.{rules}
use Rattle.pcm_inputs.proofs.Refusing.{unread}
use Rattle.pcm_inputs.proofs.reading.read_file.Goals as goal

-- the file could not be read
pub returns-in-Err-Failed-clause-err : goal.returns-in-Err-Failed-clause-err
returns-in-Err-Failed-clause-err g c = unread c.args.name.now c.refuse.result _ _ (c.in-Err-Failed.ensures.failed (search rules))
    c.in-Err-Failed.ensures.only c.refuse.ensures
