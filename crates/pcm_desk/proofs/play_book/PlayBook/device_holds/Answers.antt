use Rattle.std.proofs.Common.{arith}
use Rattle.pcm_format.proofs.Streams.{frame_bytes-most}
use Rattle.pcm_desk.proofs.Delays.{lasting-frames, lasting-bytes}
use Rattle.pcm_desk.proofs.play_book.PlayBook.device_holds.Goals as goal

pub overflow_cast-result : goal.overflow_cast-result
overflow_cast-result c =
    let within = lasting-frames c.still_to_pass-frames.result c.from.result c.from-2.result c.still_to_pass-frames.ensures.within
    (omega (arith, c.requires.client.most, c.from.ensures)) (omega (arith, c.requires.mix.least, c.from-2.ensures)) in
    omega arith

pub overflow_mul-result : goal.overflow_mul-result
overflow_mul-result c =
    let within = lasting-bytes c.still_to_pass-frames.result c.from.result c.from-2.result c.frame_bytes.result
    c.still_to_pass-frames.ensures.within (omega (arith, c.requires.client.most, c.from.ensures))
    (omega (arith, c.requires.mix.least, c.from-2.ensures))
    (omega (arith, frame_bytes-most c.args.self.now.opening.settings, c.frame_bytes.ensures)) in
    omega arith

pub returns-clause-within : goal.returns-clause-within
returns-clause-within c =
    lasting-bytes c.still_to_pass-frames.result c.from.result c.from-2.result c.frame_bytes.result c.still_to_pass-frames.ensures.within
    (omega (arith, c.requires.client.most, c.from.ensures)) (omega (arith, c.requires.mix.least, c.from-2.ensures))
    (omega (arith, frame_bytes-most c.args.self.now.opening.settings, c.frame_bytes.ensures))
