use Rattle.std.proofs.Common.{List, ℕ, ◌++◌, codes, ◌∙◌, ap}
use Rattle.pcm_inputs.proofs.Texts.{regrouped, spelled}
use Rattle.pcm_inputs.proofs.fault.bad_wave_line.Goals as goal

pub returns : goal.returns
returns c =
    let begin = codes "dsp_replay: bad wave: " in
    let name = c.args.name.now in
    let kind = c.word-kind.result.now in
    spelled c.format.result (begin ++ (name ++ (codes ": " ++ (kind ++ codes "\n")))) _
    (ap (λ (rest : List ℕ). begin ++ rest) (regrouped name (codes ": ") kind (codes "\n"))
    ∙ ap (λ (kind : List ℕ). begin ++ (name ++ codes ": " ++ kind ++ codes "\n")) c.word-kind.ensures) c.format.ensures.ok
