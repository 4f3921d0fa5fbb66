use Rattle.std.proofs.Common.{rules, ℕ, ℤ, ap, ◌∙◌, FitsSigned, w32}
use Rattle.std.proofs.lemmas.Int.{to_z-of_z}
use Rattle.pcm_digest.specs.Digests.{digested, signed_number}
use Rattle.pcm_digest.proofs.digest.mix_section.Goals as goal

pub returns : goal.returns
returns c =
    let section = c.args.section in
    let with : ℤ → ℕ → ℕ = λ coef digest. digested digest (signed_number coef) in
    let fits0 : FitsSigned w32 section.b0 = search rules in
    let fits1 : FitsSigned w32 section.b1 = search rules in
    let fits2 : FitsSigned w32 section.b2 = search rules in
    let fits3 : FitsSigned w32 section.a1 = search rules in
    let fits4 : FitsSigned w32 section.a2 = search rules in
    let b0 = (rw (to_z-of_z w32 section.b0 fits0) at c.mix_coef-b0.ensures) ∙ ap (with section.b0) (c.digested-shift.ensures ∙ ap (digested c.args.digest) c.from.ensures) in
    let b1 = (rw (to_z-of_z w32 section.b1 fits1) at c.mix_coef-b1.ensures) ∙ ap (with section.b1) b0 in
    let b2 = (rw (to_z-of_z w32 section.b2 fits2) at c.mix_coef-b2.ensures) ∙ ap (with section.b2) b1 in
    let a1 = (rw (to_z-of_z w32 section.a1 fits3) at c.mix_coef-a1.ensures) ∙ ap (with section.a1) b2 in
    (rw (to_z-of_z w32 section.a2 fits4) at c.mix_coef.ensures) ∙ ap (with section.a2) a1
