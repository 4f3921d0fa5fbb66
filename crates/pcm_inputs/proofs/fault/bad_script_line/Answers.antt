use Rattle.std.proofs.Common.{List, ℕ, ◌++◌, codes, ◌∙◌, ap}
use Rattle.std.specs.Fmt.{decimal}
use Rattle.pcm_inputs.proofs.Texts.{regrouped, spelled}
use Rattle.pcm_inputs.proofs.fault.bad_script_line.Goals as goal

pub returns : goal.returns
returns c =
    let begin = codes "dsp_replay: bad script: line " in
    let number = decimal c.args.refusal.line in
    let kind = c.word-kind.result.now in
    spelled c.format.result (begin ++ (number ++ (codes ": " ++ (kind ++ codes "\n")))) _
    (ap (λ (rest : List ℕ). begin ++ rest) (regrouped number (codes ": ") kind (codes "\n"))
    ∙ ap (λ (kind : List ℕ). begin ++ (number ++ codes ": " ++ kind ++ codes "\n")) c.word-kind.ensures) c.format.ensures.ok
