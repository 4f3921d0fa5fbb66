use Rattle.std.proofs.Common.{ℕ, ◌<◌, ◌*◌, All, FitsSigned, w32, subst, sym, ap, ◌∙◌, rules}
use Rattle.std.proofs.lemmas.Int.{to_z-of_z}
use Rattle.std.proofs.lemmas.List.Elements.{All-from_get_or}
use Rattle.pcm_format.specs.Formats.{bits_of, is_signed}
use Rattle.pcm_format.specs.Samples.{at_full, half_of, value_of}
use Rattle.pcm_format.proofs.Spelling.{number-below}
use Rattle.pcm_format.proofs.sample.load.Goals as goal

pub value_of-requires : goal.value_of-requires
value_of-requires c =
    let bytes = c.args.bytes.now in
    let P : ℕ → Type 0 = λ number. number < 2 * half_of c.args.f in
    let below : All (λ byte. byte < 256) bytes = All-from_get_or (λ byte. byte < 256) bytes 0 (λ i _. (c.type_inv.bytes i).fits) in
    subst P (sym c.number_of.ensures) (number-below c.args.f bytes c.requires below)

pub returns : goal.returns
returns c =
    let f = c.args.f in
    let value : FitsSigned w32 c.value_of.result = search rules in
    let full : FitsSigned w32 c.at_full.result = search rules in
    simp to_z-of_z (c.at_full.ensures ∙ simp to_z-of_z
    (ap (at_full (bits_of f)) (c.value_of.ensures.value ∙ ap (value_of (is_signed f) (half_of f)) c.number_of.ensures)))
