use Rattle.std.proofs.Common.{◌≡◌, ℕ, ◌+◌, List, ◌∷◌, drop, sym, ap, ◌∙◌}
use Rattle.std.specs.List.{flat_map}
use Rattle.std.proofs.lemmas.List.{drop_more}
use Rattle.pcm_feeder.specs.declared.table.Table.{Table}
use Rattle.pcm_digest.specs.Digests.{mixed_all, table_numbers}
use Rattle.pcm_digest.proofs.Mixing.{mixed-append}
use Rattle.pcm_digest.proofs.digest.mix_tables.Goals as goal

pub loop-at-preserved : goal.loop-at-preserved
loop-at-preserved c =
    let list = c.args.list.now in
    let i : ℕ = c.loop-at.at in
    let table = c.index-list-at.result in
    let rest : List ℕ = flat_map table_numbers (drop (i + 1) list) in
    let split : drop i list ≡ table ∷ drop (i + 1) list = drop_more list i table c.loop-at-test.true ∙ ap (λ (t : Table). t ∷ drop (i + 1) list) (sym c.index-list-at.is) in
    ap (λ (d : ℕ). mixed_all d rest) c.mix_table-mixed.ensures ∙ sym (mixed-append c.loop-at.mixed (table_numbers table) rest)
    ∙ ap (λ (tables : List Table). mixed_all c.loop-at.mixed (flat_map table_numbers tables)) (sym split) ∙ c.loop-at.invariant
