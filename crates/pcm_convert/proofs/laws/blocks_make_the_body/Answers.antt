use Rattle.pcm_convert.proofs.Bytes.{length-body, block-frames, block-joined, blocks-whole}
use Rattle.pcm_convert.proofs.laws.blocks_make_the_body.Goals as goal

pub returns-clause-length : goal.returns-clause-length
returns-clause-length c = length-body

pub returns-clause-frames : goal.returns-clause-frames
returns-clause-frames c = block-frames

pub returns-clause-joined : goal.returns-clause-joined
returns-clause-joined c = block-joined

pub returns-clause-whole : goal.returns-clause-whole
returns-clause-whole c = blocks-whole
