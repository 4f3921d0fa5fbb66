use Rattle.std.proofs.lemmas.Grind.{common_steps}
use Rattle.std.proofs.Common.{arith, ◌≡◌, ℕ, List, ◌∷◌, [], length, sym, ap, ◌∙◌}
use Rattle.std.specs.List.{flat_map}
use Rattle.pcm_digest.specs.Digests.{mixed_all, section_numbers, table_numbers}
use Rattle.pcm_digest.proofs.Mixing.{mixed-append}
use Rattle.pcm_digest.proofs.digest.mix_filters.Goals as goal

pub returns : goal.returns
returns c =
    let filters = c.args.tables.now in
    let counts : List ℕ = length filters.list ∷ length filters.sections ∷ [] in
    let start : ℕ = mixed_all c.args.digest counts in
    let rest : List ℕ = flat_map section_numbers filters.sections in
    let counted : c.mixed_all-digest.result ≡ start = grind (arith, common_steps) in
    let tables : c.mix_tables-digest.result ≡ mixed_all start (flat_map table_numbers filters.list) = grind (arith, common_steps) in
    let all : c.mix_sections.result ≡ mixed_all c.mix_tables-digest.result rest = grind (arith, common_steps) in
    all ∙ ap (λ (d : ℕ). mixed_all d rest) tables ∙ sym (mixed-append start (flat_map table_numbers filters.list) rest)
