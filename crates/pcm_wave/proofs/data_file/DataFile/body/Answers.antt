use Rattle.std.proofs.Common.{rules, arith, ◌≡◌, ◌≤◌, ◌+◌, ◌-◌, length}
use Rattle.pcm_wave.proofs.Bodies.{body-within}
use Rattle.pcm_wave.proofs.data_file.DataFile.body.Goals as goal

pub overflow_add-result : goal.overflow_add-result
overflow_add-result c =
    let file = c.self.inside in
    let within : file.wave.at + file.wave.len ≤ length file.bytes.items = body-within file.bytes.items file.wave c.self.invariant in
    search rules

pub slice_bounds-result-end : goal.slice_bounds-result-end
slice_bounds-result-end c =
    let file = c.self.inside in
    let within : file.wave.at + file.wave.len ≤ length file.bytes.items = body-within file.bytes.items file.wave c.self.invariant in
    search rules

pub returns : goal.returns
returns c =
    let file = c.self.inside in
    let size : file.wave.at + file.wave.len - file.wave.at ≡ file.wave.len = omega arith in
    search rules
